-- What a line does depends on no flag but NFLAG: with another TRACE every state in its history has that TRACE, and all else is the same.
use Prim.Native.Nat.{ℕ, zero, suc, ◌+◌, ◌-◌}
use mathlib.Core.Path.{◌≡◌, refl, sym, ap, ◌∙◌, subst}
use mathlib.Core.Bool.{Bool, true, false}
use mathlib.Core.List.{List, [], ◌∷◌}
use mathlib.Core.Option.{Option, none, some}
use lib.Dec.{leb, ltb, eqb}
use lib.ListN.{length, drop}
use Rattle.macros.specs.Bounds.{most_line_bytes, most_budget, most_trace_bytes, most_entries, most_counter}
use Rattle.macros.specs.Refusals.{WorkRefusal}
use Rattle.macros.specs.Refusals.Refusal.{of_host, of_line, of_work}
use Rattle.macros.specs.Refusals.HostRefusal.{budget_too_large}
use Rattle.macros.specs.Refusals.LineRefusal.{line_too_long, bad_byte}
use Rattle.macros.specs.Refusals.WorkRefusal.{trace_too_long, budget_used_up, new_line_too_long, tag_too_long, pointer_too_high, counter_too_high}
use Rattle.macros.specs.Macro.{Piece, Mark, Sign, Move, Call, Action, Macro, Table, pick}
use Rattle.macros.specs.Macro.Mark.{stack, counter}
use Rattle.macros.specs.Macro.Sign.{plus, minus}
use Rattle.macros.specs.Macro.Move.{still, before, after}
use Rattle.macros.specs.Macro.Call.{insert, store_tag, set_to, store_text, set_increment, divide}
use Rattle.macros.specs.Macro.Action.{text, tag, call}
use Rattle.macros.specs.Read.{Read, read_onto_by}
use Rattle.macros.specs.ReadFile.Read.{refused_at, table}
use Rattle.lines.specs.State.{State, stack_of, counter_of, contents}
use Rattle.lines.specs.Matching.{Division, begins, end_of, stops, tag_text}
use Rattle.lines.specs.Dividing.{divided_text}
use Rattle.lines.specs.Replacing.{Work, Done, bad, good, start_in, ◌>>=◌, unless, puts, put, with_stack, with_counter, with_pointer, with_value, with_increment, with_entry, fallen, moves, early, late, stores, call_acts, acts, replaces, commands_act, before_acts, occur}
use Rattle.lines.specs.Pass.{Occurrence, Walk, ended, occurs, match, go_on, matched, at_end, onward, at_byte, walk, pass, occurred, outcome}
use Rattle.lines.specs.Line.{Sent, Numbered, Pass, Ending, Line, passed, refused, done, control, is_in, newest_first, closed_by, prepares, pass_behind, pass_of, is_control, due, follow, after_pass, text_of, passes, line_of, passes_of, had_occurrence, ending}
use Rattle.lines.specs.Line.{Line.ended as line_ended}
use Rattle.lines.specs.Trace.{history_of, cut_if, is_on}
use Rattle.lines.specs.Feeding.{Order, wrong, orders, Kind, Answer, bytes, same, with_trace, with_nflag, flag_order, macro_order, order_of, kind_of_done, refusal, of_order, answered, answer, has_bad_byte, feed}
use Rattle.lines.specs.Feeding.Kind.{refused_with}
use Rattle.lines.specs.Demand.{end_of_line}
use Rattle.lines.proofs.LineLaws.{end_of_line_lem}
use Rattle.lines.proofs.ContentLaws.{contents_same, match_same}
use Rattle.m_traces.specs.Traced.{Alike, FlagAlike}
use Rattle.m_traces.proofs.CutLaws.{uncut}

module _ (n : ℕ) where
  -- WITH ANOTHER FLAG

  abbrev flagged : State → State
  flagged st = record { stacks = st.stacks; counters = st.counters; trace = n; nflag = st.nflag; entry_bytes = st.entry_bytes }

  abbrev work_with : Work → Work
  work_with w = record { out = w.out; size = w.size; state = flagged w.state }

  abbrev done_with : Done → Done
  done_with (bad r w) = bad r (work_with w)
  done_with (good w) = good (work_with w)

  abbrev occurrence_with : Occurrence → Occurrence
  occurrence_with o = record { place = o.place; division = o.division; before = work_with o.before; after = work_with o.after }

  abbrev walk_with : Walk → Walk
  walk_with (ended d) = ended (done_with d)
  walk_with (occurs o k) = occurs (occurrence_with o) (walk_with k)

  abbrev pass_with : Pass → Pass
  pass_with x = record { which = x.which; text = x.text; state = flagged x.state; tried = flagged x.tried; events = walk_with x.events }

  abbrev ending_with : Ending → Ending
  ending_with (refused r) = refused r
  ending_with (done t st) = done t (flagged st)
  ending_with (control t st) = control t (flagged st)

  abbrev line_with : Line → Line
  line_with (line_ended e) = line_ended (ending_with e)
  line_with (passed x l) = passed (pass_with x) (line_with l)

  -- REPLACING

  unless_with : (c : Bool) (r : WorkRefusal) (w v : Work) → unless c r (work_with w) (work_with v) ≡ done_with (unless c r w v)
  unfolding unless
  unless_with true r w v = refl
  unless_with false r w v = refl

  put_with : (b : ℕ) (w : Work) → put b (work_with w) ≡ done_with (put b w)
  unfolding put
  put_with b w = unless_with (ltb w.size most_line_bytes) new_line_too_long w _

  puts_with : (t : List ℕ) (w : Work) → puts t (work_with w) ≡ done_with (puts t w)
  unfolding puts
  puts_with t w = unless_with (leb (w.size + length t) most_line_bytes) new_line_too_long w _

  moves_with : (m : Mark) (s : Sign) (i : ℕ) (w : Work) → moves m s i (work_with w) ≡ done_with (moves m s i w)
  unfolding moves with_pointer with_value with_stack with_counter stack_of counter_of
  moves_with stack plus i w = unless_with (leb ((stack_of w.state i).pointer + 1) most_entries) pointer_too_high w _
  moves_with stack minus i w = refl
  moves_with counter plus i w = unless_with (leb ((counter_of w.state i).value + (counter_of w.state i).increment) most_counter) counter_too_high w _
  moves_with counter minus i w = refl

  early_with : (m : Mark) (v : Move) (i : ℕ) (w : Work) → early m v i (work_with w) ≡ done_with (early m v i w)
  unfolding early
  early_with m still i w = refl
  early_with m (before s) i w = moves_with m s i w
  early_with m (after s) i w = refl

  late_with : (m : Mark) (v : Move) (i : ℕ) (w : Work) → late m v i (work_with w) ≡ done_with (late m v i w)
  unfolding late
  late_with m still i w = refl
  late_with m (before s) i w = refl
  late_with m (after s) i w = moves_with m s i w

  stores_with : (i : ℕ) (t : List ℕ) (w : Work) → stores i t (work_with w) ≡ done_with (stores i t w)
  unfolding stores with_entry with_stack stack_of
  stores_with i t w = unless_with (leb (length t) w.state.entry_bytes) tag_too_long w _

  bind_with : (a : Done) (k : Work → Done) → ((w : Work) → k (work_with w) ≡ done_with (k w)) → (done_with a >>= k) ≡ done_with (a >>= k)
  bind_with (bad r w) k h = refl
  bind_with (good w) k h = h w

  -- one step behind another, each as before
  then_with : (a b : Done) (k : Work → Done) → b ≡ done_with a → ((w : Work) → k (work_with w) ≡ done_with (k w)) → (b >>= k) ≡ done_with (a >>= k)
  then_with a b k e h = ap (λ (x : Done). x >>= k) e ∙ bind_with a k h

  call_with : (t : List ℕ) (es : List Piece) (qs : List ℕ) (c : Call) (w : Work) → call_acts t es qs c (work_with w) ≡ done_with (call_acts t es qs c w)
  unfolding call_acts with_pointer with_value with_increment with_stack with_counter stack_of counter_of
  call_with t es qs (insert m i v) w =
      then_with (early m v i w >>= (λ x. puts (contents x.state m i) x)) (early m v i (work_with w) >>= (λ x. puts (contents x.state m i) x)) (late m v i)
      (then_with (early m v i w) (early m v i (work_with w)) (λ x. puts (contents x.state m i) x) (early_with m v i w)
      (λ x. ap (λ (s : List ℕ). puts s (work_with x)) (contents_same (flagged x.state) x.state refl refl m i) ∙ puts_with (contents x.state m i) x))
      (late_with m v i)
  call_with t es qs (store_tag k i v) w =
      then_with (early stack v i w >>= stores i (tag_text t (k - 1) es qs)) (early stack v i (work_with w) >>= stores i (tag_text t (k - 1) es qs)) (late stack v i)
      (then_with (early stack v i w) (early stack v i (work_with w)) (stores i (tag_text t (k - 1) es qs)) (early_with stack v i w) (stores_with i (tag_text t (k - 1) es qs)))
      (late_with stack v i)
  call_with t es qs (set_to stack i k) w = refl
  call_with t es qs (set_to counter i k) w = refl
  call_with t es qs (store_text i v x) w =
      then_with (early stack v i w >>= stores i x) (early stack v i (work_with w) >>= stores i x) (late stack v i)
      (then_with (early stack v i w) (early stack v i (work_with w)) (stores i x) (early_with stack v i w) (stores_with i x))
      (late_with stack v i)
  call_with t es qs (set_increment i k) w = refl
  call_with t es qs (divide i k) w = puts_with (divided_text (counter_of w.state i).value k) w

  acts_with : (t : List ℕ) (es : List Piece) (qs : List ℕ) (a : Action) (w : Work) → acts t es qs a (work_with w) ≡ done_with (acts t es qs a w)
  unfolding acts
  acts_with t es qs (text b) w = put_with b w
  acts_with t es qs (tag k) w = puts_with (tag_text t (k - 1) es qs) w
  acts_with t es qs (call c) w = call_with t es qs c w

  replaces_with : (t : List ℕ) (es : List Piece) (qs : List ℕ) (as₁ : List Action) (w : Work) → replaces t es qs as₁ (work_with w) ≡ done_with (replaces t es qs as₁ w)
  unfolding replaces
  replaces_with t es qs [] w = refl
  replaces_with t es qs (a ∷ as₁) w = then_with (acts t es qs a w) (acts t es qs a (work_with w)) (replaces t es qs as₁) (acts_with t es qs a w) (replaces_with t es qs as₁)

  commands_with : (t : List ℕ) (es : List Piece) (qs : List ℕ) (cs : List Call) (w : Work) → commands_act t es qs cs (work_with w) ≡ done_with (commands_act t es qs cs w)
  unfolding commands_act
  commands_with t es qs [] w = refl
  commands_with t es qs (c ∷ cs) w = then_with (call_acts t es qs c w) (call_acts t es qs c (work_with w)) (commands_act t es qs cs) (call_with t es qs c w) (commands_with t es qs cs)

  occur_with : (m : Macro) (t : List ℕ) (d : Division) (w : Work) → occur m t d (work_with w) ≡ done_with (occur m t d w)
  unfolding occur
  occur_with m t d w =
      then_with (replaces t m.pattern (stops d) m.replacement w) _ (commands_act t m.pattern (stops d) m.commands)
      (replaces_with t m.pattern (stops d) m.replacement w) (commands_with t m.pattern (stops d) m.commands)

  -- A PASS

  go_with : (a b : Done) (j k : Work → Walk) → b ≡ done_with a → ((w : Work) → j (work_with w) ≡ walk_with (k w)) → go_on b j ≡ walk_with (go_on a k)
  unfolding go_on
  go_with (bad r w) b j k e h = ap (λ (x : Done). go_on x j) e
  go_with (good w) b j k e h = ap (λ (x : Done). go_on x j) e ∙ h w

  matched_with : (m : Macro) (t : List ℕ) (p : ℕ) (d : Division) (w : Work) (j k : Work → Walk) → ((v : Work) → j (work_with v) ≡ walk_with (k v))
      → matched m t p d (work_with w) j ≡ walk_with (matched m t p d w k)
  unfolding matched
  matched_with m t p d w j k h =
      go_with (occur m t d w) (occur m t d (work_with w)) _ (λ v. occurs (record { place = p; division = d; before = w; after = v }) (k v)) (occur_with m t d w)
      (λ v. ap (occurs (record { place = p; division = d; before = work_with w; after = work_with v })) (h v))

  end_with : (m : Macro) (t : List ℕ) (p : ℕ) (w : Work) (a : Option Division) → at_end m t p (work_with w) a ≡ walk_with (at_end m t p w a)
  unfolding at_end
  end_with m t p w none = refl
  end_with m t p w (some d) = matched_with m t p d w (λ v. ended (good v)) (λ v. ended (good v)) (λ v. refl)

  onward_with : (q b k : ℕ) (f g : ℕ → Option ℕ → Work → Walk) → ((s : ℕ) (l : Option ℕ) (v : Work) → f s l (work_with v) ≡ walk_with (g s l v)) → (w : Work)
      → onward q b k f (work_with w) ≡ walk_with (onward q b k g w)
  unfolding onward
  onward_with q b zero f g h w = go_with (put b w) (put b (work_with w)) (λ x. f zero (some q) x) (λ x. g zero (some q) x) (put_with b w) (λ x. h zero (some q) x)
  onward_with q b (suc k) f g h w = h k (some q) w

  byte_with : (m : Macro) (t : List ℕ) (p b : ℕ) (last : Option ℕ) (w : Work) (f g : ℕ → Option ℕ → Work → Walk) → ((s : ℕ) (l : Option ℕ) (v : Work) → f s l (work_with v) ≡ walk_with (g s l v))
      → (a : Option Division) → at_byte m t p b last (work_with w) f a ≡ walk_with (at_byte m t p b last w g a)
  unfolding at_byte
  byte_with m t p b last w f g h none = go_with (put b w) (put b (work_with w)) (λ v. f zero last v) (λ v. g zero last v) (put_with b w) (λ v. h zero last v)
  byte_with m t p b last w f g h (some d) =
      matched_with m t p d w (onward (end_of p d) b (end_of p d - p) f) (onward (end_of p d) b (end_of p d - p) g) (onward_with (end_of p d) b (end_of p d - p) f g h)

  walk_with_lem : (m : Macro) (t s : List ℕ) (skip : ℕ) (last : Option ℕ) (p : ℕ) (w : Work) → walk m t skip last p (work_with w) s ≡ walk_with (walk m t skip last p w s)
  unfolding walk
  walk_with_lem m t [] skip last p w = ap (at_end m t p (work_with w)) (match_same (flagged w.state) w.state refl refl m.pattern last p []) ∙ end_with m t p w (match w.state m.pattern last p [])
  walk_with_lem m t (b ∷ bs) (suc skip) last p w = walk_with_lem m t bs skip last (suc p) w
  walk_with_lem m t (b ∷ bs) zero last p w =
      ap (at_byte m t p b last (work_with w) (λ k l v. walk m t k l (suc p) v bs)) (match_same (flagged w.state) w.state refl refl m.pattern last p (b ∷ bs))
      ∙ byte_with m t p b last w _ (λ k l v. walk m t k l (suc p) v bs) (λ k l v. walk_with_lem m t bs k l (suc p) v) (match w.state m.pattern last p (b ∷ bs))

  pass_with_lem : (m : Macro) (t : List ℕ) (st : State) → pass m t (flagged st) ≡ walk_with (pass m t st)
  unfolding pass
  pass_with_lem m t st = walk_with_lem m t t 0 none 0 (start_in st)

  -- with the calls before its pattern
  prepares_with : (again : Bool) (m : Macro) (st : State) → prepares again m (flagged st) ≡ done_with (prepares again m st)
  unfolding prepares before_acts
  prepares_with true m st = refl
  prepares_with false m st = commands_with [] [] [] m.before (start_in st)

  behind_with : (e : Numbered) (t : List ℕ) (st : State) (d : Done) → pass_behind e t (flagged st) (done_with d) ≡ pass_with (pass_behind e t st d)
  unfolding pass_behind
  behind_with e t st (bad r w) = refl
  behind_with e t st (good w) =
      ap (λ (k : Walk). record { which = e; text = t; state = flagged st; tried = flagged w.state; events = k }) (pass_with_lem e.macro t w.state)

  made_with : (begun : List ℕ) (e : Numbered) (t : List ℕ) (st : State) → pass_of begun e t (flagged st) ≡ pass_with (pass_of begun e t st)
  unfolding pass_of
  made_with begun e t st =
      ap (pass_behind e t (flagged st)) (prepares_with (is_in e.number begun) e.macro st)
      ∙ behind_with e t st (prepares (is_in e.number begun) e.macro st)

  occurred_with : (k : Walk) → occurred (walk_with k) ≡ occurred k
  unfolding occurred
  occurred_with (ended d) = refl
  occurred_with (occurs o k) = refl

  outcome_with : (k : Walk) → outcome (walk_with k) ≡ done_with (outcome k)
  unfolding outcome
  outcome_with (ended d) = refl
  outcome_with (occurs o k) = outcome_with k

  -- A LINE

  due_with : (b : Bool) (t : List ℕ) (st : State) (todo : List Numbered) (f g : Numbered → List Numbered → Line) → ((e : Numbered) (es : List Numbered) → f e es ≡ line_with (g e es))
      → due b t (flagged st) todo f ≡ line_with (due b t st todo g)
  unfolding due
  due_with true t st todo f g h = refl
  due_with false t st [] f g h = refl
  due_with false t st (e ∷ es) f g h = h e es

  follow_with : (a : Done) (o : Bool) (f g j k : Work → Line) → ((w : Work) → f (work_with w) ≡ line_with (j w)) → ((w : Work) → g (work_with w) ≡ line_with (k w))
      → follow (done_with a) o f g ≡ line_with (follow a o j k)
  unfolding follow
  follow_with (bad r w) o f g j k x y = refl
  follow_with (good w) false f g j k x y = x w
  follow_with (good w) true f g j k x y = y w

  after_with : (x : Pass) (f g j k : Work → Line) → ((w : Work) → f (work_with w) ≡ line_with (j w)) → ((w : Work) → g (work_with w) ≡ line_with (k w))
      → after_pass (pass_with x) f g ≡ line_with (after_pass x j k)
  unfolding after_pass
  after_with x f g j k a b =
      ap (passed (pass_with x))
      (ap (λ (d : Done). follow d (occurred (walk_with x.events)) f g) (outcome_with x.events)
      ∙ ap (λ (o : Bool). follow (done_with (outcome x.events)) o f g) (occurred_with x.events)
      ∙ follow_with (outcome x.events) (occurred x.events) f g j k a b)

  passes_with : (ms : Table) (b : ℕ) (closed begun : List ℕ) (todo : List Numbered) (st : State) (t : List ℕ)
      → passes ms b closed begun todo (flagged st) t ≡ line_with (passes ms b closed begun todo st t)
  unfolding passes text_of
  passes_with ms zero closed begun todo st t = due_with (is_control t) t st todo _ (λ e es. line_ended (refused budget_used_up)) (λ e es. refl)
  passes_with ms (suc b) closed begun todo st t =
      due_with (is_control t) t st todo _ _
      (λ e es.
      ap (λ (x : Pass). after_pass x (λ w. passes ms b closed (e.number ∷ begun) es w.state t)
      (λ w. passes ms b (closed_by e closed) (e.number ∷ begun) (newest_first (closed_by e closed) ms) w.state (text_of w)))
      (made_with begun e t st)
      ∙ after_with (pass_of begun e t st) _ _ _ _ (λ w. passes_with ms b closed (e.number ∷ begun) es w.state t)
      (λ w. passes_with ms b (closed_by e closed) (e.number ∷ begun) (newest_first (closed_by e closed) ms) w.state (text_of w)))

  line_with_lem : (ms : Table) (st : State) (sent : Sent) → line_of ms (flagged st) sent ≡ line_with (line_of ms st sent)
  unfolding line_of
  line_with_lem ms st sent = passes_with ms sent.budget [] [] (newest_first [] ms) st sent.line

  -- WHAT IT COMES TO

  count_with : (l : Line) → length (passes_of (line_with l)) ≡ length (passes_of l)
  unfolding passes_of
  count_with (line_ended e) = refl
  count_with (passed x l) = ap suc (count_with l)

  occurrence_with_lem : (l : Line) → had_occurrence (passes_of (line_with l)) ≡ had_occurrence (passes_of l)
  unfolding passes_of had_occurrence
  occurrence_with_lem (line_ended e) = refl
  occurrence_with_lem (passed x l) = rw (occurred_with x.events, occurrence_with_lem l) refl

  ending_with_lem : (l : Line) → ending (line_with l) ≡ ending_with (ending l)
  unfolding ending
  ending_with_lem (line_ended e) = refl
  ending_with_lem (passed x l) = ending_with_lem l

-- CONTROL LINES

-- what two orders have in common
abbrev AlikeOrders : Order → Order → Type 0
AlikeOrders (wrong r) (wrong q) = r ≡ q
AlikeOrders (wrong r) (orders ks y) = ⊥
AlikeOrders (orders ks x) (wrong q) = ⊥
AlikeOrders (orders ks x) (orders js y) = (ks ≡ js) × (with_trace 0 x ≡ with_trace 0 y)

module _ (ms : Table) (n k : ℕ) (st : State) where
  pick_alike : (b : Bool) (x y u v : Order) → AlikeOrders x y → AlikeOrders u v → AlikeOrders (pick b x u) (pick b y v)
  unfolding pick
  pick_alike true x y u v h g = h
  pick_alike false x y u v h g = g

  flag_alike : (t : List ℕ) → AlikeOrders (flag_order ms (flagged n st) t) (flag_order ms (flagged k st) t)
  unfolding flag_order with_trace with_nflag
  flag_alike t =
      pick_alike (same t (bytes "$TRACE 0")) _ _ _ _ (refl, refl)
      (pick_alike (same t (bytes "$TRACE 1")) _ _ _ _ (refl, refl)
      (pick_alike (same t (bytes "$NFLAG 0")) _ _ _ _ (refl, refl)
      (pick_alike (same t (bytes "$NFLAG 1")) _ _ _ _ (refl, refl) refl)))

  macro_alike : (r : Read) → AlikeOrders (macro_order ms (flagged n st) r) (macro_order ms (flagged k st) r)
  unfolding macro_order with_trace
  macro_alike (refused_at r p) = refl
  macro_alike (table ks) = pick_alike (eqb (length ks) (suc (length ms))) _ _ _ _ (refl, refl) refl

  order_alike : (t : List ℕ) → AlikeOrders (order_of ms (flagged n st) t) (order_of ms (flagged k st) t)
  unfolding order_of
  order_alike t = by (begins (bytes "$MACRO") t)
    where
      by : (b : Bool) → AlikeOrders (elim b [ true ↦ macro_order ms (flagged n st) (read_onto_by st.entry_bytes ms (drop 6 t)) | false ↦ flag_order ms (flagged n st) t ])
          (elim b [ true ↦ macro_order ms (flagged k st) (read_onto_by st.entry_bytes ms (drop 6 t)) | false ↦ flag_order ms (flagged k st) t ])
      by true = macro_alike (read_onto_by st.entry_bytes ms (drop 6 t))
      by false = flag_alike t

-- ANSWERS

module _ (ms : Table) (old new : State) (agree : with_trace 0 old ≡ with_trace 0 new) where
  of_orders : (xs ys : List Pass) → length xs ≡ length ys → (o q : Order) → AlikeOrders o q → Alike (of_order ms old xs o) (of_order ms new ys q)
  unfolding of_order refusal
  of_orders xs ys e (wrong r) (wrong q) h = record { kind = ap refused_with h; passes = e; table = refl; state = agree }
  of_orders xs ys e (wrong r) (orders ks y) h = absurd h
  of_orders xs ys e (orders ks x) (wrong q) h = absurd h
  of_orders xs ys e (orders ks x) (orders js y) h = record { kind = refl; passes = e; table = h.0; state = h.1 }

  of_endings : (n k : ℕ) (xs ys : List Pass) → length xs ≡ length ys → had_occurrence xs ≡ had_occurrence ys → (e : Ending)
      → Alike (answered ms old xs (ending_with n e)) (answered ms new ys (ending_with k e))
  unfolding answered refusal with_trace
  of_endings n k xs ys l o (refused r) = record { kind = refl; passes = l; table = refl; state = agree }
  of_endings n k xs ys l o (done t st) = record { kind = ap (λ (b : Bool). kind_of_done st.nflag b t) o; passes = l; table = refl; state = refl }
  of_endings n k xs ys l o (control t st) = of_orders xs ys l (order_of ms (flagged n st) t) (order_of ms (flagged k st) t) (order_alike ms n k st t)

lines_alike : (ms : Table) (st : State) (sent : Sent) → Alike (answer ms (with_trace 1 st) (line_of ms (with_trace 1 st) sent)) (answer ms (with_trace 0 st) (line_of ms (with_trace 0 st) sent))
unfolding answer with_trace
lines_alike ms st sent =
    let l : Line = line_of ms st sent in
    let a = line_with_lem 1 ms st sent in
    let b = line_with_lem 0 ms st sent in
    subst (λ (x : Line). Alike (answered ms (flagged 1 st) (passes_of x) (ending x)) (answered ms (flagged 0 st) (passes_of (line_of ms (flagged 0 st) sent)) (ending (line_of ms (flagged 0 st) sent)))) (sym a)
    (subst (λ (x : Line). Alike (answered ms (flagged 1 st) (passes_of (line_with 1 l)) (ending (line_with 1 l))) (answered ms (flagged 0 st) (passes_of x) (ending x))) (sym b)
    (subst (λ (e : Ending). Alike (answered ms (flagged 1 st) (passes_of (line_with 1 l)) e) (answered ms (flagged 0 st) (passes_of (line_with 0 l)) (ending (line_with 0 l)))) (sym (ending_with_lem 1 l))
    (subst (λ (e : Ending). Alike (answered ms (flagged 1 st) (passes_of (line_with 1 l)) (ending_with 1 (ending l))) (answered ms (flagged 0 st) (passes_of (line_with 0 l)) e)) (sym (ending_with_lem 0 l))
    (of_endings ms (flagged 1 st) (flagged 0 st) refl 1 0 (passes_of (line_with 1 l)) (passes_of (line_with 0 l)) (count_with 1 l ∙ sym (count_with 0 l)) (occurrence_with_lem 1 l ∙ sym (occurrence_with_lem 0 l)) (ending l)))))

-- a history that ends with 36 is answered with 36
ends_36 : (ms : Table) (st : State) (l : Line) → end_of_line l ≡ refused trace_too_long → (answer ms st l).kind ≡ refused_with (of_work trace_too_long)
unfolding answer answered refusal
ends_36 ms st l e = ap (λ (x : Ending). (answered ms st (passes_of l) x).kind) (end_of_line_lem l ∙ e)

module _ (ms : Table) (st : State) (sent : Sent) where
  -- the answer of the history with the flag n
  abbrev plain : ℕ → Answer
  plain n = answer ms (with_trace n st) (history_of ms (with_trace n st) sent)

  histories : ((plain 1).kind ≡ refused_with (of_work trace_too_long) → ⊥) → Alike (plain 1) (plain 0)
  unfolding history_of with_trace is_on cut_if
  histories g =
      subst (λ (l : Line). Alike (answer ms (with_trace 1 st) l) (plain 0))
      (sym (uncut true most_trace_bytes (line_of ms (with_trace 1 st) sent) (λ e. g (ends_36 ms (with_trace 1 st) (cut_if true most_trace_bytes (line_of ms (with_trace 1 st) sent)) e))))
      (lines_alike ms st sent)

  -- 4, 21 and 22 before it
  abbrev chain : ℕ → Bool → Bool → Bool → Answer
  chain n a b c =
      elim a [
        | false ↦ refusal ms (with_trace n st) 0 (of_host budget_too_large)
        | true ↦ elim b [ false ↦ refusal ms (with_trace n st) 0 (of_line line_too_long) | true ↦ elim c [ true ↦ refusal ms (with_trace n st) 0 (of_line bad_byte) | false ↦ plain n ] ]
      ]

  chains : (a b c : Bool) → ((chain 1 a b c).kind ≡ refused_with (of_work trace_too_long) → ⊥) → Alike (chain 1 a b c) (chain 0 a b c)
  unfolding refusal with_trace
  chains false b c h = record { kind = refl; passes = refl; table = refl; state = refl }
  chains true false c h = record { kind = refl; passes = refl; table = refl; state = refl }
  chains true true true h = record { kind = refl; passes = refl; table = refl; state = refl }
  chains true true false h = histories h

-- THE LAW
pub flag_alike_law : FlagAlike
unfolding feed
flag_alike_law ms st sent h = chains ms st sent (leb sent.budget most_budget) (leb (length sent.line) most_line_bytes) (has_bad_byte sent.line) h
