-- A line's passes with entries of at most n bytes, and with a larger bound m: the same, unless the first meet 33.
use Prim.Native.Nat.{ℕ, zero, suc, ◌+◌, ◌-◌, ◌≤◌}
use mathlib.Core.Path.{◌≡◌, refl, sym, ap, ◌∙◌, subst}
use mathlib.Core.Bool.{Bool, true, false}
use mathlib.Core.Logic.{◌⊎◌, inl, inr}
use mathlib.Core.List.{List, [], ◌∷◌}
use mathlib.Core.Option.{Option, none, some}
use native.Mathlib.Omega.{arith}
use borrow.Author.Tests.{leb-true, le-leb}
use lib.Dec.{leb, ltb}
use lib.ListN.{length}
use Rattle.macros.specs.Bounds.{most_line_bytes, most_entries, most_counter}
use Rattle.macros.specs.Refusals.{WorkRefusal}
use Rattle.macros.specs.Refusals.WorkRefusal.{budget_used_up, new_line_too_long, tag_too_long, pointer_too_high, counter_too_high, trace_too_long}
use Rattle.macros.specs.Macro.{Piece, Mark, Sign, Move, Call, Action, Macro, Table}
use Rattle.macros.specs.Macro.Mark.{stack, counter}
use Rattle.macros.specs.Macro.Sign.{plus, minus}
use Rattle.macros.specs.Macro.Move.{still, before, after}
use Rattle.macros.specs.Macro.Call.{insert, store_tag, set_to, store_text, set_increment, divide}
use Rattle.macros.specs.Macro.Action.{text, tag, call}
use Rattle.lines.specs.State.{Stack, State, AllOf, fresh_stack, stack_of, counter_of, contents}
use Rattle.lines.specs.Matching.{Division, end_of, stops, tag_text}
use Rattle.lines.specs.Dividing.{divided_text}
use Rattle.lines.specs.Replacing.{Work, Done, bad, good, start_in, ◌>>=◌, unless, puts, put, with_stack, with_counter, with_pointer, with_value, with_increment, with_entry, fallen, moves, early, late, stores, call_acts, acts, replaces, commands_act, before_acts, occur}
use Rattle.lines.specs.Pass.{Occurrence, Walk, ended, occurs, match, go_on, matched, at_end, onward, at_byte, walk, pass, occurred, outcome}
use Rattle.lines.specs.Line.{Sent, Numbered, Pass, Ending, Line, passed, refused, done, control, is_in, newest_first, closed_by, prepares, pass_behind, pass_of, is_control, due, follow, after_pass, text_of, passes, line_of}
use Rattle.lines.specs.Line.{Line.ended as line_ended}
use Rattle.lines.specs.Trace.{lines_if, lines_of, cut_at, cut_if}
use Rattle.lines.proofs.KeepBytes.{all_get, all_set, all_replicate}
use Rattle.lines.proofs.ContentLaws.{contents_same, match_same}
use Rattle.m_widths.specs.Widths.{bounded}

-- no entry of the state has more than n bytes
abbrev pub FitsIn : ℕ → State → Type 0
FitsIn n st = AllOf (λ (k : Stack). AllOf (λ (e : List ℕ). length e ≤ n) k.entries) st.stacks

-- a step is refused with 33
abbrev pub Met : Done → Type 0
Met d = (w : Work) × (d ≡ bad tag_too_long w)

module _ (n m : ℕ) (le : n ≤ m) (Q : Type 0) where
  -- WITH THE LARGER BOUND

  abbrev work_wide : Work → Work
  work_wide w = record { out = w.out; size = w.size; state = bounded m w.state }

  abbrev done_wide : Done → Done
  done_wide (bad r w) = bad r (work_wide w)
  done_wide (good w) = good (work_wide w)

  abbrev occurrence_wide : Occurrence → Occurrence
  occurrence_wide o = record { place = o.place; division = o.division; before = work_wide o.before; after = work_wide o.after }

  abbrev walk_wide : Walk → Walk
  walk_wide (ended d) = ended (done_wide d)
  walk_wide (occurs o k) = occurs (occurrence_wide o) (walk_wide k)

  abbrev pub pass_wide : Pass → Pass
  pass_wide x = record { which = x.which; text = x.text; state = bounded m x.state; tried = bounded m x.tried; events = walk_wide x.events }

  abbrev pub ending_wide : Ending → Ending
  ending_wide (refused r) = refused r
  ending_wide (done t st) = done t (bounded m st)
  ending_wide (control t st) = control t (bounded m st)

  -- THE SMALLER BOUND IS KEPT

  -- a state with the smaller bound that, if Q, has no longer entry
  abbrev pub Sound : State → Type 0
  Sound st = (st.entry_bytes ≡ n) × (Q → FitsIn n st)

  abbrev Kept : Done → Type 0
  Kept (bad r w) = Unit {0}
  Kept (good w) = Sound w.state

  abbrev pub KeptEnd : Ending → Type 0
  KeptEnd (refused r) = Unit {0}
  KeptEnd (done t st) = Sound st
  KeptEnd (control t st) = Sound st

  -- TWO RUNS: the first meets 33, or the second is the first with the larger bound

  abbrev Steps : Done → Done → Type 0
  Steps a b = Met a ⊎ ((b ≡ done_wide a) × Kept a)

  abbrev Walks : Walk → Walk → Type 0
  Walks j k = Met (outcome j) ⊎ ((k ≡ walk_wide j) × Kept (outcome j))

  abbrev Passes : Pass → Pass → Type 0
  Passes x y = Met (outcome x.events) ⊎ ((y ≡ pass_wide x) × Kept (outcome x.events))

  -- of lines: 36 may come before the 33, so they go together pass by pass
  abbrev pub Lines : Line → Line → Type 0
  Lines (line_ended e) k = (k ≡ line_ended (ending_wide e)) × KeptEnd e
  Lines (passed x l) k =
      (Met (outcome x.events) × (l ≡ line_ended (refused tag_too_long))) ⊎ ((r : Line) × (k ≡ passed (pass_wide x) r) × Lines l r)

  -- WHAT IS STORED

  stack_fits : (st : State) (i : ℕ) → FitsIn n st → AllOf (λ (e : List ℕ). length e ≤ n) (stack_of st i).entries
  unfolding stack_of fresh_stack
  stack_fits st i h =
      all_get (λ (k : Stack). AllOf (λ (e : List ℕ). length e ≤ n) k.entries) st.stacks (i - 97) fresh_stack h
      (all_replicate (λ (e : List ℕ). length e ≤ n) most_entries [] (omega arith))

  pointer_sound : (i k : ℕ) (w : Work) → Sound w.state → Sound (with_pointer i k w).state
  unfolding with_pointer with_stack
  pointer_sound i k w h =
      (h.0, λ q. all_set (λ (k : Stack). AllOf (λ (e : List ℕ). length e ≤ n) k.entries) w.state.stacks (i - 97) _ (h.1 q) (stack_fits w.state i (h.1 q)))

  entry_sound : (i : ℕ) (t : List ℕ) (w : Work) → length t ≤ n → Sound w.state → Sound (with_entry i t w).state
  unfolding with_entry with_stack
  entry_sound i t w l h = (
    h.0,
    λ q. all_set (λ (k : Stack). AllOf (λ (e : List ℕ). length e ≤ n) k.entries) w.state.stacks (i - 97) _ (h.1 q)
        (all_set (λ (e : List ℕ). length e ≤ n) (stack_of w.state i).entries ((stack_of w.state i).pointer - 1) t (stack_fits w.state i (h.1 q)) l),
  )

  -- STEPS

  unless_steps : (c : Bool) (r : WorkRefusal) (w v : Work) → Sound v.state → Steps (unless c r w v) (unless c r (work_wide w) (work_wide v))
  unfolding unless
  unless_steps true r w v h = inr (refl, h)
  unless_steps false r w v h = inr (refl, tt)

  put_steps : (b : ℕ) (w : Work) → Sound w.state → Steps (put b w) (put b (work_wide w))
  unfolding put
  put_steps b w h = unless_steps (ltb w.size most_line_bytes) new_line_too_long w _ h

  puts_steps : (t : List ℕ) (w : Work) → Sound w.state → Steps (puts t w) (puts t (work_wide w))
  unfolding puts
  puts_steps t w h = unless_steps (leb (w.size + length t) most_line_bytes) new_line_too_long w _ h

  moves_steps : (k : Mark) (s : Sign) (i : ℕ) (w : Work) → Sound w.state → Steps (moves k s i w) (moves k s i (work_wide w))
  unfolding moves with_pointer with_value with_stack with_counter stack_of counter_of
  moves_steps stack plus i w h =
      unless_steps (leb ((stack_of w.state i).pointer + 1) most_entries) pointer_too_high w _ (pointer_sound i ((stack_of w.state i).pointer + 1) w h)
  moves_steps stack minus i w h = inr (refl, pointer_sound i (fallen (stack_of w.state i).pointer 1) w h)
  moves_steps counter plus i w h =
      unless_steps (leb ((counter_of w.state i).value + (counter_of w.state i).increment) most_counter) counter_too_high w _ h
  moves_steps counter minus i w h = inr (refl, h)

  early_steps : (k : Mark) (v : Move) (i : ℕ) (w : Work) → Sound w.state → Steps (early k v i w) (early k v i (work_wide w))
  unfolding early
  early_steps k still i w h = inr (refl, h)
  early_steps k (before s) i w h = moves_steps k s i w h
  early_steps k (after s) i w h = inr (refl, h)

  late_steps : (k : Mark) (v : Move) (i : ℕ) (w : Work) → Sound w.state → Steps (late k v i w) (late k v i (work_wide w))
  unfolding late
  late_steps k still i w h = inr (refl, h)
  late_steps k (before s) i w h = inr (refl, h)
  late_steps k (after s) i w h = moves_steps k s i w h

  -- the one step that looks at the bound
  stores_steps : (i : ℕ) (t : List ℕ) (w : Work) → Sound w.state → Steps (stores i t w) (stores i t (work_wide w))
  unfolding stores with_entry with_stack stack_of unless
  stores_steps i t w h = by (leb (length t) w.state.entry_bytes) refl
    where
      by : (c : Bool) → leb (length t) w.state.entry_bytes ≡ c
          → Steps (unless c tag_too_long w (with_entry i t w)) (unless (leb (length t) m) tag_too_long (work_wide w) (with_entry i t (work_wide w)))
      by true e =
          let f : length t ≤ n = omega (arith, leb-true (length t) w.state.entry_bytes e, h.0) in
          inr (rw (le-leb (length t) m (omega (arith, f))) refl, entry_sound i t w f h)
      by false e = inl (w, refl)

  -- one step behind another
  then_steps : (a b : Done) (j k : Work → Done) → Steps a b → ((w : Work) → Sound w.state → Steps (j w) (k (work_wide w)))
      → Steps (a >>= j) (b >>= k)
  then_steps a b j k (inl g) f = inl (g.0, ap (λ (x : Done). x >>= j) g.1)
  then_steps (bad r w) b j k (inr g) f = inr (ap (λ (x : Done). x >>= k) g.0, tt)
  then_steps (good w) b j k (inr g) f = subst (λ (x : Done). Steps (j w) (x >>= k)) (sym g.0) (f w g.1)

  call_steps_lem : (t : List ℕ) (es : List Piece) (qs : List ℕ) (c : Call) (w : Work) → Sound w.state
      → Steps (call_acts t es qs c w) (call_acts t es qs c (work_wide w))
  unfolding call_acts with_pointer with_value with_increment with_stack with_counter stack_of counter_of
  call_steps_lem t es qs (insert k i v) w h =
      then_steps (early k v i w >>= (λ x. puts (contents x.state k i) x)) (early k v i (work_wide w) >>= (λ x. puts (contents x.state k i) x)) (late k v i) (late k v i)
      (then_steps (early k v i w) (early k v i (work_wide w)) (λ x. puts (contents x.state k i) x) (λ x. puts (contents x.state k i) x) (early_steps k v i w h)
      (λ x g. subst (λ (s : List ℕ). Steps (puts (contents x.state k i) x) (puts s (work_wide x))) (contents_same x.state (bounded m x.state) refl refl k i)
      (puts_steps (contents x.state k i) x g)))
      (late_steps k v i)
  call_steps_lem t es qs (store_tag k i v) w h =
      then_steps (early stack v i w >>= stores i (tag_text t (k - 1) es qs)) (early stack v i (work_wide w) >>= stores i (tag_text t (k - 1) es qs)) (late stack v i) (late stack v i)
      (then_steps (early stack v i w) (early stack v i (work_wide w)) (stores i (tag_text t (k - 1) es qs)) (stores i (tag_text t (k - 1) es qs)) (early_steps stack v i w h) (stores_steps i (tag_text t (k - 1) es qs)))
      (late_steps stack v i)
  call_steps_lem t es qs (set_to stack i k) w h = inr (refl, pointer_sound i k w h)
  call_steps_lem t es qs (set_to counter i k) w h = inr (refl, h)
  call_steps_lem t es qs (store_text i v x) w h =
      then_steps (early stack v i w >>= stores i x) (early stack v i (work_wide w) >>= stores i x) (late stack v i) (late stack v i)
      (then_steps (early stack v i w) (early stack v i (work_wide w)) (stores i x) (stores i x) (early_steps stack v i w h) (stores_steps i x))
      (late_steps stack v i)
  call_steps_lem t es qs (set_increment i k) w h = inr (refl, h)
  call_steps_lem t es qs (divide i k) w h = puts_steps (divided_text (counter_of w.state i).value k) w h

  acts_steps : (t : List ℕ) (es : List Piece) (qs : List ℕ) (a : Action) (w : Work) → Sound w.state
      → Steps (acts t es qs a w) (acts t es qs a (work_wide w))
  unfolding acts
  acts_steps t es qs (text b) w h = put_steps b w h
  acts_steps t es qs (tag k) w h = puts_steps (tag_text t (k - 1) es qs) w h
  acts_steps t es qs (call c) w h = call_steps_lem t es qs c w h

  replaces_steps : (t : List ℕ) (es : List Piece) (qs : List ℕ) (as₁ : List Action) (w : Work) → Sound w.state
      → Steps (replaces t es qs as₁ w) (replaces t es qs as₁ (work_wide w))
  unfolding replaces
  replaces_steps t es qs [] w h = inr (refl, h)
  replaces_steps t es qs (a ∷ as₁) w h =
      then_steps (acts t es qs a w) (acts t es qs a (work_wide w)) (replaces t es qs as₁) (replaces t es qs as₁) (acts_steps t es qs a w h) (λ x g. replaces_steps t es qs as₁ x g)

  commands_steps : (t : List ℕ) (es : List Piece) (qs : List ℕ) (cs : List Call) (w : Work) → Sound w.state
      → Steps (commands_act t es qs cs w) (commands_act t es qs cs (work_wide w))
  unfolding commands_act
  commands_steps t es qs [] w h = inr (refl, h)
  commands_steps t es qs (c ∷ cs) w h =
      then_steps (call_acts t es qs c w) (call_acts t es qs c (work_wide w)) (commands_act t es qs cs) (commands_act t es qs cs) (call_steps_lem t es qs c w h) (λ x g. commands_steps t es qs cs x g)

  occur_steps : (k : Macro) (t : List ℕ) (d : Division) (w : Work) → Sound w.state → Steps (occur k t d w) (occur k t d (work_wide w))
  unfolding occur
  occur_steps k t d w h =
      then_steps (replaces t k.pattern (stops d) k.replacement w) (replaces t k.pattern (stops d) k.replacement (work_wide w))
      (commands_act t k.pattern (stops d) k.commands) (commands_act t k.pattern (stops d) k.commands)
      (replaces_steps t k.pattern (stops d) k.replacement w h) (commands_steps t k.pattern (stops d) k.commands)

  -- A PASS

  go_walks : (a b : Done) (f g : Work → Walk) → Steps a b → ((w : Work) → Sound w.state → Walks (f w) (g (work_wide w))) → Walks (go_on a f) (go_on b g)
  unfolding go_on outcome
  go_walks a b f g (inl x) y = inl (x.0, ap (λ (d : Done). outcome (go_on d f)) x.1)
  go_walks (bad r w) b f g (inr x) y = inr (ap (λ (d : Done). go_on d g) x.0, tt)
  go_walks (good w) b f g (inr x) y = subst (λ (d : Done). Walks (f w) (go_on d g)) (sym x.0) (y w x.1)

  occurs_walks : (o : Occurrence) (j k : Walk) → Walks j k → Walks (occurs o j) (occurs (occurrence_wide o) k)
  unfolding outcome
  occurs_walks o j k (inl x) = inl x
  occurs_walks o j k (inr x) = inr (ap (occurs (occurrence_wide o)) x.0, x.1)

  matched_walks : (k : Macro) (t : List ℕ) (p : ℕ) (d : Division) (w : Work) (f g : Work → Walk) → Sound w.state
      → ((v : Work) → Sound v.state → Walks (f v) (g (work_wide v))) → Walks (matched k t p d w f) (matched k t p d (work_wide w) g)
  unfolding matched
  matched_walks k t p d w f g h y =
      go_walks (occur k t d w) (occur k t d (work_wide w)) (λ v. occurs (record { place = p; division = d; before = w; after = v }) (f v))
      (λ v. occurs (record { place = p; division = d; before = work_wide w; after = v }) (g v)) (occur_steps k t d w h)
      (λ v x. occurs_walks (record { place = p; division = d; before = w; after = v }) (f v) (g (work_wide v)) (y v x))

  good_walks : (v : Work) → Sound v.state → Walks (ended (good v)) (ended (good (work_wide v)))
  unfolding outcome
  good_walks v h = inr (refl, h)

  end_walks : (k : Macro) (t : List ℕ) (p : ℕ) (w : Work) (a : Option Division) → Sound w.state → Walks (at_end k t p w a) (at_end k t p (work_wide w) a)
  unfolding at_end
  end_walks k t p w none h = good_walks w h
  end_walks k t p w (some d) h = matched_walks k t p d w (λ v. ended (good v)) (λ v. ended (good v)) h good_walks

  -- what is still to be walked, with both bounds
  abbrev Ahead : (ℕ → Option ℕ → Work → Walk) → (ℕ → Option ℕ → Work → Walk) → Type 0
  Ahead f g = (s : ℕ) (l : Option ℕ) (v : Work) → Sound v.state → Walks (f s l v) (g s l (work_wide v))

  onward_walks : (q b k : ℕ) (f g : ℕ → Option ℕ → Work → Walk) → Ahead f g → (w : Work) → Sound w.state
      → Walks (onward q b k f w) (onward q b k g (work_wide w))
  unfolding onward
  onward_walks q b zero f g y w h = go_walks (put b w) (put b (work_wide w)) (λ x. f zero (some q) x) (λ x. g zero (some q) x) (put_steps b w h) (λ x e. y zero (some q) x e)
  onward_walks q b (suc k) f g y w h = y k (some q) w h

  byte_walks : (k : Macro) (t : List ℕ) (p b : ℕ) (last : Option ℕ) (w : Work) (f g : ℕ → Option ℕ → Work → Walk) → Ahead f g → (a : Option Division)
      → Sound w.state → Walks (at_byte k t p b last w f a) (at_byte k t p b last (work_wide w) g a)
  unfolding at_byte
  byte_walks k t p b last w f g y none h = go_walks (put b w) (put b (work_wide w)) (λ v. f zero last v) (λ v. g zero last v) (put_steps b w h) (λ v e. y zero last v e)
  byte_walks k t p b last w f g y (some d) h =
      matched_walks k t p d w (onward (end_of p d) b (end_of p d - p) f) (onward (end_of p d) b (end_of p d - p) g) h (onward_walks (end_of p d) b (end_of p d - p) f g y)

  walk_walks : (k : Macro) (t s : List ℕ) (skip : ℕ) (last : Option ℕ) (p : ℕ) (w : Work) → Sound w.state
      → Walks (walk k t skip last p w s) (walk k t skip last p (work_wide w) s)
  unfolding walk
  walk_walks k t [] skip last p w h =
      subst (λ (a : Option Division). Walks (at_end k t p w (match w.state k.pattern last p [])) (at_end k t p (work_wide w) a))
      (match_same w.state (bounded m w.state) refl refl k.pattern last p []) (end_walks k t p w (match w.state k.pattern last p []) h)
  walk_walks k t (b ∷ bs) (suc skip) last p w h = walk_walks k t bs skip last (suc p) w h
  walk_walks k t (b ∷ bs) zero last p w h =
      subst (λ (a : Option Division). Walks (at_byte k t p b last w (λ s l v. walk k t s l (suc p) v bs) (match w.state k.pattern last p (b ∷ bs)))
      (at_byte k t p b last (work_wide w) (λ s l v. walk k t s l (suc p) v bs) a))
      (match_same w.state (bounded m w.state) refl refl k.pattern last p (b ∷ bs))
      (byte_walks k t p b last w (λ s l v. walk k t s l (suc p) v bs) (λ s l v. walk k t s l (suc p) v bs) (λ s l v e. walk_walks k t bs s l (suc p) v e)
      (match w.state k.pattern last p (b ∷ bs)) h)

  pass_walks : (k : Macro) (t : List ℕ) (st : State) → Sound st → Walks (pass k t st) (pass k t (bounded m st))
  unfolding pass
  pass_walks k t st h = walk_walks k t t 0 none 0 (start_in st) h

  -- with the calls before its pattern
  prepares_steps : (again : Bool) (k : Macro) (st : State) → Sound st → Steps (prepares again k st) (prepares again k (bounded m st))
  unfolding prepares before_acts
  prepares_steps true k st h = inr (refl, h)
  prepares_steps false k st h = commands_steps [] [] [] k.before (start_in st) h

  behind_passes : (e : Numbered) (t : List ℕ) (st : State) (a b : Done) → Steps a b → Passes (pass_behind e t st a) (pass_behind e t (bounded m st) b)
  unfolding pass_behind outcome
  behind_passes e t st a b (inl x) = inl (x.0, ap (λ (d : Done). outcome (pass_behind e t st d).events) x.1)
  behind_passes e t st (bad r w) b (inr x) = inr (ap (pass_behind e t (bounded m st)) x.0, tt)
  behind_passes e t st (good w) b (inr x) = by (pass_walks e.macro t w.state x.1)
    where
      by : Walks (pass e.macro t w.state) (pass e.macro t (bounded m w.state))
          → Passes (pass_behind e t st (good w)) (pass_behind e t (bounded m st) b)
      by (inl y) = inl y
      by (inr y) =
          inr (
            ap (pass_behind e t (bounded m st)) x.0
                ∙ ap (λ (k : Walk). record { which = e; text = t; state = bounded m st; tried = bounded m w.state; events = k }) y.0,
            y.1,
          )

  of_passes : (begun : List ℕ) (e : Numbered) (t : List ℕ) (st : State) → Sound st → Passes (pass_of begun e t st) (pass_of begun e t (bounded m st))
  unfolding pass_of
  of_passes begun e t st h =
      behind_passes e t st (prepares (is_in e.number begun) e.macro st) (prepares (is_in e.number begun) e.macro (bounded m st))
      (prepares_steps (is_in e.number begun) e.macro st h)

  pub occurred_wide : (k : Walk) → occurred (walk_wide k) ≡ occurred k
  unfolding occurred
  occurred_wide (ended d) = refl
  occurred_wide (occurs o k) = refl

  outcome_wide : (k : Walk) → outcome (walk_wide k) ≡ done_wide (outcome k)
  unfolding outcome
  outcome_wide (ended d) = refl
  outcome_wide (occurs o k) = outcome_wide k

  -- A LINE

  due_lines : (b : Bool) (t : List ℕ) (st : State) (todo : List Numbered) (f g : Numbered → List Numbered → Line) → Sound st
      → ((e : Numbered) (es : List Numbered) → Lines (f e es) (g e es)) → Lines (due b t st todo f) (due b t (bounded m st) todo g)
  unfolding due
  due_lines true t st todo f g h y = (refl, h)
  due_lines false t st [] f g h y = (refl, h)
  due_lines false t st (e ∷ es) f g h y = y e es

  abbrev Next : (Work → Line) → (Work → Line) → Type 0
  Next f g = (w : Work) → Sound w.state → Lines (f w) (g (work_wide w))

  follow_lines : (a : Done) (o : Bool) (f g j k : Work → Line) → Next f j → Next g k → Kept a → Lines (follow a o f g) (follow (done_wide a) o j k)
  unfolding follow
  follow_lines (bad r w) o f g j k x y h = (refl, tt)
  follow_lines (good w) false f g j k x y h = x w h
  follow_lines (good w) true f g j k x y h = y w h

  after_lines : (p q : Pass) (f g j k : Work → Line) → Passes p q → Next f j → Next g k → Lines (after_pass p f g) (after_pass q j k)
  unfolding after_pass follow
  after_lines p q f g j k (inl e) x y = inl (e, ap (λ (d : Done). follow d (occurred p.events) f g) e.1)
  after_lines p q f g j k (inr e) x y =
      inr (
        follow (outcome (walk_wide p.events)) (occurred (walk_wide p.events)) j k,
        ap (λ (z : Pass). after_pass z j k) e.0,
        subst (λ (o : Bool). Lines (follow (outcome p.events) (occurred p.events) f g) (follow (outcome (walk_wide p.events)) o j k)) (sym (occurred_wide p.events))
            (subst (λ (d : Done). Lines (follow (outcome p.events) (occurred p.events) f g) (follow d (occurred p.events) j k)) (sym (outcome_wide p.events))
            (follow_lines (outcome p.events) (occurred p.events) f g j k x y e.1)),
      )

  passes_lines : (ms : Table) (b : ℕ) (closed begun : List ℕ) (todo : List Numbered) (st : State) (t : List ℕ) → Sound st
      → Lines (passes ms b closed begun todo st t) (passes ms b closed begun todo (bounded m st) t)
  unfolding passes text_of
  passes_lines ms zero closed begun todo st t h =
      due_lines (is_control t) t st todo (λ e es. line_ended (refused budget_used_up)) (λ e es. line_ended (refused budget_used_up)) h (λ e es. (refl, tt))
  passes_lines ms (suc b) closed begun todo st t h =
      due_lines (is_control t) t st todo _ _ h
      (λ e es.
      after_lines (pass_of begun e t st) (pass_of begun e t (bounded m st)) _ _ _ _ (of_passes begun e t st h)
      (λ w g. passes_lines ms b closed (e.number ∷ begun) es w.state t g)
      (λ w g. passes_lines ms b (closed_by e closed) (e.number ∷ begun) (newest_first (closed_by e closed) ms) w.state (text_of w) g))

  line_lines : (ms : Table) (st : State) (sent : Sent) → Sound st → Lines (line_of ms st sent) (line_of ms (bounded m st) sent)
  unfolding line_of
  line_lines ms st sent h = passes_lines ms sent.budget [] [] (newest_first [] ms) st sent.line h

  -- THE CUT OF 36

  if_wide : (o : Bool) (x : Pass) (d : Done) → lines_if o (pass_wide x) (done_wide d) ≡ lines_if o x d
  unfolding lines_if text_of
  if_wide true x (good w) = refl
  if_wide true x (bad r w) = refl
  if_wide false x (good w) = refl
  if_wide false x (bad r w) = refl

  pub lines_wide : (x : Pass) → lines_of (pass_wide x) ≡ lines_of x
  unfolding lines_of
  lines_wide x =
      ap (λ (o : Bool). lines_if o (pass_wide x) (outcome (walk_wide x.events))) (occurred_wide x.events)
      ∙ ap (lines_if (occurred x.events) (pass_wide x)) (outcome_wide x.events) ∙ if_wide (occurred x.events) x (outcome x.events)

  -- a pass that is refused has no lines
  bad_lines : (x : Pass) → Met (outcome x.events) → lines_of x ≡ []
  unfolding lines_of lines_if
  bad_lines x e = ap (lines_if (occurred x.events) x) e.1 ∙ by (occurred x.events)
    where
      by : (o : Bool) → lines_if o x (bad tag_too_long e.0) ≡ []
      by true = refl
      by false = refl

  cut_lines : (room : ℕ) (l k : Line) → Lines l k → Lines (cut_at room l) (cut_at room k)
  unfolding cut_at
  cut_lines room (line_ended e) k h = (ap (cut_at room) h.0, h.1)
  cut_lines room (passed x l) k (inl h) =
      inl (h.0, rw (bad_lines x h.0, le-leb 0 room (omega arith), h.1) refl)
  cut_lines room (passed x l) k (inr h) =
      inr (
        behind (lines_of x),
        ap (cut_at room) h.1 ∙ ap (λ (t : List ℕ). passed (pass_wide x) (behind t)) (lines_wide x),
        by (leb (length (lines_of x)) room) (cut_lines (room - length (lines_of x)) l h.0 h.2),
      )
    where
      behind : List ℕ → Line
      behind t = elim (leb (length t) room) [ true ↦ cut_at (room - length t) h.0 | false ↦ line_ended (refused trace_too_long) ]

      by : (c : Bool) → Lines (cut_at (room - length (lines_of x)) l) (cut_at (room - length (lines_of x)) h.0)
          → Lines (elim c [ true ↦ cut_at (room - length (lines_of x)) l | false ↦ line_ended (refused trace_too_long) ])
          (elim c [ true ↦ cut_at (room - length (lines_of x)) h.0 | false ↦ line_ended (refused trace_too_long) ])
      by true g = g
      by false g = (refl, tt)

  -- the history with both bounds
  pub history_lines : (c : Bool) (room : ℕ) (ms : Table) (st : State) (sent : Sent) → Sound st
      → Lines (cut_if c room (line_of ms st sent)) (cut_if c room (line_of ms (bounded m st) sent))
  unfolding cut_if
  history_lines true room ms st sent h = cut_lines room (line_of ms st sent) (line_of ms (bounded m st) sent) (line_lines ms st sent h)
  history_lines false room ms st sent h = line_lines ms st sent h
