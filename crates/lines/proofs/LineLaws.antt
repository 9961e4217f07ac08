-- The passes of a line do what demand 3 says of them, and leave no open macro with a division at its end.
use mathlib.Core.Path.{◌≡◌, refl, sym, ap, ◌∙◌, subst}
use mathlib.Core.Bool.{Bool, true, false, ◌||◌, false≢true}
use mathlib.Core.Logic.{◌⊎◌, inl, inr, ◌↔◌}
use mathlib.Core.List.{List, [], ◌∷◌}
use mathlib.Core.Option.{Option, none, some}
use Prim.Native.Nat.{ℕ, zero, suc, ◌≤◌}
use native.Mathlib.Omega.{arith}
use borrow.Author.Tests.{eqb-true, eq-eqb}
use lib.ListN.{length, get_elem?}
use lib.Seq.{slice, take-length}
use Rattle.macros.specs.Refusals.{WorkRefusal}
use Rattle.macros.specs.Refusals.WorkRefusal.{budget_used_up, trace_too_long}
use Rattle.macros.specs.Macro.{Symbol, Macro, Table, pick}
use Rattle.macros.specs.Macro.Symbol.{equal, less}
use Rattle.lines.specs.State.{State}
use Rattle.lines.specs.Matching.{Divides}
use Rattle.lines.specs.Replacing.{Work, Done, start_in, before_acts}
use Rattle.lines.specs.Replacing.Done.{bad, good}
use Rattle.lines.specs.Pass.{Walk, ended, occurs, pass, occurred, outcome}
use Rattle.lines.specs.Line.{Sent, Numbered, Pass, Line, passed, refused, done, control, is_in, newest_first, closing, closed_by, prepares, pass_behind, pass_of}
use Rattle.lines.specs.Line.{is_control, due, follow, after_pass, text_of, passes, line_of, passes_of, had_occurrence, ending}
use Rattle.lines.specs.Line.{Line.ended as line_ended}
use Rattle.lines.specs.Feeding.{withheld, out, kind_of_done}
use Rattle.lines.specs.Steps.{new_line, Copied, steps_of, steps_before, ComesTo}
use Rattle.lines.specs.Demand.{Ahead, onward_from, ahead_after, Nowhere, Walks, NotIn, Due, Dollar, EndsIn, FailsIn, PassBegins, first, stopped, again}
use Rattle.lines.specs.Demand.{PassHolds, closed_if, closed_after, since_after, Passes, closed_in, NoPass, LastTried, pass_count, end_of_line, NoOccurrence, Withholds}
use Rattle.lines.proofs.CopiedLaws.{text_of_lem}
use Rattle.lines.proofs.PassLaws.{ends_in, fails_in, pass_walks}
use Rattle.lines.proofs.OccurLaws.{calls_steps, OfStep, NoBudget, of_room, breaks_step}
use Rattle.lines.proofs.OpenLaws.{in_cons, not_in, Todo, todo_next, todo_all}

-- WHAT A PASS COMES TO

none_some : (p : ℕ) → ◌≡◌ {A = Option ℕ} none (some p) → ⊥
none_some p e = let z : ◌≡◌ {A = ℕ} 0 1 = cc in omega arith

bad_ends : (r : WorkRefusal) (w v : Work) → EndsIn (ended (bad r w)) v → ⊥
bad_ends r w v e = let z : ◌≡◌ {A = ℕ} 0 1 = cc in omega arith

-- where it tries places, place 0 in the state st
module _ (m : Macro) (t : List ℕ) (st : State) where
  walk_over : (k : Walk) → Walks m t (onward_from 0 none) (start_in st) k → (v : Work) → EndsIn k v → (occurred k ≡ false) ↔ Nowhere st m t
  unfolding occurred
  walk_over (ended (bad r w)) h v e = absurd (bad_ends r w v e)
  walk_over (ended (good x)) h v e = (
    λ f p l d g. h.1 p (omega arith) (omega arith) d (subst (λ (s : State). Divides s t m.pattern p d) (sym h.0.state) g) (λ z. absurd (none_some p z)),
    λ f. refl,
  )
  walk_over (occurs o k) h v e = (
    λ f. absurd (false≢true (sym f)),
    λ f. absurd (f o.place h.1.stands.inside o.division (subst (λ (s : State). Divides s t m.pattern o.place o.division) h.0.state h.1.stands.divides)),
  )

  -- without an occurrence the whole text is copied
  walk_copies : (k : Walk) → Walks m t (onward_from 0 none) (start_in st) k → (v : Work) → EndsIn k v → occurred k ≡ false → new_line v ≡ t
  unfolding occurred
  walk_copies (ended (bad r w)) h v e f = absurd (bad_ends r w v e)
  walk_copies (ended (good x)) h v e f =
      let c = subst (λ (y : Work). Copied (slice 0 (length t) t) (start_in st) y) (let z : x ≡ v = cc in z) h.0 in
      c.line ∙ take-length t
  walk_copies (occurs o k) h v e f = absurd (false≢true (sym f))

-- however it begins
module _ (begun t : List ℕ) (st : State) (x : Pass) where
  passed_over_lem : PassBegins begun t st x → (v : Work) → EndsIn x.events v → (occurred x.events ≡ false) ↔ Nowhere x.tried x.which.macro t
  passed_over_lem (first n w a e h) v f = walk_over x.which.macro t x.tried x.events h v f
  passed_over_lem (stopped n r w b e k) v f = absurd (bad_ends r w v (subst (λ (y : Walk). EndsIn y v) k f))
  passed_over_lem (again n e h) v f = walk_over x.which.macro t x.tried x.events h v f

  -- a pass without an occurrence leaves the text as it was
  nothing_changed : PassBegins begun t st x → (v : Work) → EndsIn x.events v → occurred x.events ≡ false → new_line v ≡ t
  nothing_changed (first n w a e h) v f = walk_copies x.which.macro t x.tried x.events h v f
  nothing_changed (stopped n r w b e k) v f = absurd (bad_ends r w v (subst (λ (y : Walk). EndsIn y v) k f))
  nothing_changed (again n e h) v f = walk_copies x.which.macro t x.tried x.events h v f

-- THE LAW: a pass begins as the demand says, and the calls before its pattern run in its macro's first pass on the line alone
begins_hold : (begun : List ℕ) (e : Numbered) (t : List ℕ) (st : State) → PassBegins begun t st (pass_of begun e t st)
unfolding pass_of prepares pass_behind
begins_hold begun e t st = go (is_in e.number begun) refl
  where
    behind : NotIn e.number begun → (d : Done) → before_acts e.macro (start_in st) ≡ d → PassBegins begun t st (pass_behind e t st d)
    behind n (good v) g = first n v (subst (ComesTo (steps_before e.macro) (start_in st)) g (calls_steps e.macro (start_in st))) refl (pass_walks e.macro t v.state)
    behind n (bad r v) g = stopped n r v (subst (ComesTo (steps_before e.macro) (start_in st)) g (calls_steps e.macro (start_in st))) refl refl

    go : (b : Bool) → is_in e.number begun ≡ b → PassBegins begun t st (pass_behind e t st (prepares b e.macro st))
    go true f = again (λ n. false≢true (sym ((not_in e.number begun).1 n) ∙ f)) refl (pass_walks e.macro t st)
    go false f = behind ((not_in e.number begun).0 f) (before_acts e.macro (start_in st)) refl

-- NO PASS IS REFUSED WITH 31 OR 36

walk_no : (m : Macro) (t : List ℕ) (now : Ahead) (w : Work) (k : Walk) → Walks m t now w k → NoBudget (outcome k)
unfolding outcome
walk_no m t now w (occurs o k) h = walk_no m t (ahead_after o) o.after k h.2
walk_no m t now w (ended (good v)) h = tt
walk_no m t now w (ended (bad r v)) (inl f) = breaks_step (steps_of m t f.division) f.before r v f.breaks
walk_no m t now w (ended (bad r v)) (inr f) = subst OfStep (sym f.number) of_room

begins_no : (begun t : List ℕ) (st : State) (x : Pass) → PassBegins begun t st x → NoBudget (outcome x.events)
unfolding outcome
begins_no begun t st x (first n v a e h) = walk_no x.which.macro t (onward_from 0 none) (start_in x.tried) x.events h
begins_no begun t st x (stopped n r v b e k) = subst (λ (y : Walk). NoBudget (outcome y)) (sym k) (breaks_step (steps_before x.which.macro) (start_in st) r v b)
begins_no begun t st x (again n e h) = walk_no x.which.macro t (onward_from 0 none) (start_in x.tried) x.events h

pub made_no : (begun : List ℕ) (e : Numbered) (t : List ℕ) (st : State) → NoBudget (outcome (pass_of begun e t st).events)
made_no begun e t st = begins_no begun t st (pass_of begun e t st) (begins_hold begun e t st)

-- THE PASSES

-- control lines, joined to the demand's own notion
dollar : (t : List ℕ) → (is_control t ≡ true) ↔ Dollar t
unfolding is_control
dollar [] = (λ e. false≢true e, λ h. absurd h)
dollar (b ∷ bs) = (λ e. eqb-true b 36 e, λ e. eq-eqb b 36 e)

no_dollar : (t : List ℕ) → is_control t ≡ false → Dollar t → ⊥
no_dollar t e h = false≢true (sym e ∙ (dollar t).1 h)

-- what a pass with an occurrence closes
closed_by_lem : (e : Numbered) (closed : List ℕ) → closed_by e closed ≡ closed_if true e.macro.symbol e.number closed
unfolding closed_by closing
closed_by_lem e closed = by e.macro.symbol
  where
    by : (y : Symbol) → closing y e.number closed ≡ closed_if true y e.number closed
    by less = refl
    by equal = refl

module _ (ms : Table) (closed since begun : List ℕ) (st : State) (t : List ℕ) where
  due_holds : (b : Bool) → is_control t ≡ b → (todo : List Numbered) (next : Numbered → List Numbered → Line) → Todo (Due ms closed since) todo
      → ((e : Numbered) (es : List Numbered) → is_control t ≡ false → Todo (Due ms closed since) (e ∷ es) → Passes ms closed since begun t st (next e es))
      → Passes ms closed since begun t st (due b t st todo next)
  unfolding due
  due_holds true c todo next a h = (refl, refl, (dollar t).0 c)
  due_holds false c [] next a h = (refl, refl, no_dollar t c, a)
  due_holds false c (e ∷ es) next a h = h e es c a

  -- what follows a pass of the macro e
  module _ (e : Numbered) (on next : Work → Line) (plain : is_control t ≡ false) (d : Due ms closed since e.number e.macro)
      (newest : (i : ℕ) (m : Macro) → Due ms closed since i m → i ≤ e.number)
      (ons : (w : Work) → Passes ms closed (e.number ∷ since) (e.number ∷ begun) t w.state (on w))
      (nexts : (w : Work) → Passes ms (closed_by e closed) [] (e.number ∷ begun) (text_of w) w.state (next w)) where
    -- it tries place 0 in the state y, and its events are k
    module _ (y : State) (k : Walk) (begins : PassBegins begun t st (record { which = e; text = t; state = st; tried = y; events = k })) where
      follow_holds : (a : Done) (o : Bool) → outcome k ≡ a → occurred k ≡ o
          → ((v : Work) × EndsIn k v
          × Passes ms (closed_if o e.macro.symbol e.number closed) (pick o [] (e.number ∷ since)) (e.number ∷ begun) (new_line v) v.state (follow a o on next))
          ⊎ ((r : WorkRefusal) × (v : Work) × FailsIn k r v × (follow a o on next ≡ line_ended (refused r)))
          ⊎ ((v : Work) × EndsIn k v × (follow a o on next ≡ line_ended (refused trace_too_long)))
      unfolding follow pick
      follow_holds (bad r w) o ea eo = inr (inl (r, w, fails_in k r w ea, refl))
      follow_holds (good w) false ea eo =
          let c : new_line w ≡ t = nothing_changed begun t st _ begins w ((ends_in k w).0 ea) eo in
          inl (w, (ends_in k w).0 ea, subst (λ (s : List ℕ). Passes ms closed (e.number ∷ since) (e.number ∷ begun) s w.state (on w)) (sym c) (ons w))
      follow_holds (good w) true ea eo = inl (
        w,
        (ends_in k w).0 ea,
        subst (λ (c : List ℕ). Passes ms c [] (e.number ∷ begun) (new_line w) w.state (next w)) (closed_by_lem e closed)
            (subst (λ (s : List ℕ). Passes ms (closed_by e closed) [] (e.number ∷ begun) s w.state (next w)) (text_of_lem w) (nexts w)),
      )

      after_holds : Passes ms closed since begun t st (after_pass (record { which = e; text = t; state = st; tried = y; events = k }) on next)
      unfolding after_pass
      after_holds = (
        record { text = refl; state = refl; plain = no_dollar t plain; due = d; newest = newest; passed_over = passed_over_lem begun t st _ begins; begins = begins },
        follow_holds (outcome k) (occurred k) refl refl,
      )

    -- behind the calls before its pattern
    behind_holds : (a : Done) → PassBegins begun t st (pass_behind e t st a) → Passes ms closed since begun t st (after_pass (pass_behind e t st a) on next)
    unfolding pass_behind
    behind_holds (bad r w) b = after_holds w.state (ended (bad r w)) b
    behind_holds (good w) b = after_holds w.state (pass e.macro t w.state) b

    made_holds : Passes ms closed since begun t st (after_pass (pass_of begun e t st) on next)
    unfolding pass_of
    made_holds = behind_holds (prepares (is_in e.number begun) e.macro st) (begins_hold begun e t st)

passes_hold : (ms : Table) (budget : ℕ) (closed since begun : List ℕ) (todo : List Numbered) (st : State) (t : List ℕ) → Todo (Due ms closed since) todo
    → Passes ms closed since begun t st (passes ms budget closed begun todo st t)
unfolding passes
passes_hold ms zero closed since begun todo st t a =
    due_holds ms closed since begun st t (is_control t) refl todo (λ e es. line_ended (refused budget_used_up)) a (λ e es c b. (refl, no_dollar t c, (e.number, e.macro, b.0)))
passes_hold ms (suc budget) closed since begun todo st t a =
    due_holds ms closed since begun st t (is_control t) refl todo _ a
    (λ e es c b.
    made_holds ms closed since begun st t e _ _ c b.0 b.1
    (λ w. passes_hold ms budget closed (e.number ∷ since) (e.number ∷ begun) es w.state t (todo_next ms closed since e es b))
    (λ w. passes_hold ms budget (closed_by e closed) [] (e.number ∷ begun) (newest_first (closed_by e closed) ms) w.state (text_of w) (todo_all ms (closed_by e closed))))

-- THE LAW
pub line_holds : (ms : Table) (st : State) (sent : Sent) → Passes ms [] [] [] sent.line st (line_of ms st sent)
unfolding line_of
line_holds ms st sent = passes_hold ms _ [] [] [] (newest_first [] ms) st sent.line (todo_all ms [])

-- WHAT IS LEFT AT THE END

pub either : {A B C : Type 0} → A ⊎ B → (A → C) → (B → C) → C
either (inl a) f g = f a
either (inr b) f g = g b

refused_not_done : (l : Line) (r : WorkRefusal) (s : List ℕ) (z : State) → l ≡ line_ended (refused r) → ending l ≡ done s z → ⊥
unfolding ending
refused_not_done l r s z e f = let y : ending l ≡ refused r = ap ending e in let n : ◌≡◌ {A = ℕ} 0 1 = cc in omega arith

-- the macro m with the number i, at the end of a line whose final text is s
module _ (ms : Table) (s : List ℕ) (z : State) (i : ℕ) (m : Macro) (at : get_elem? ms i ≡ some m) where
  -- its last try came to nothing anywhere
  abbrev Tried : Line → Type 0
  Tried l = (y : State) × LastTried i y l × Nowhere y m s

  -- so from here on; or it has no pass more, and passed since the last occurrence
  abbrev Left : List ℕ → List ℕ → Line → Type 0
  Left since t l = Tried l ⊎ (NoPass i l × (is_in i since ≡ true) × (s ≡ t))

  -- one pass earlier
  left_before : (closed since begun t : List ℕ) (st : State) (x : Pass) (l : Line) → PassHolds ms closed since begun t st x → (v : Work) → EndsIn x.events v
      → (o : Bool) → occurred x.events ≡ o → Left (pick o [] (x.which.number ∷ since)) (new_line v) l → Left since t (passed x l)
  unfolding pick is_in
  left_before closed since begun t st x l h v e o q (inl a) = inl (a.0, inr a.1, a.2)
  left_before closed since begun t st x l h v e true q (inr a) = absurd (false≢true a.1)
  left_before closed since begun t st x l h v e false q (inr a) = go (in_cons i x.which.number since true a.1)
    where
      here : s ≡ t
      here = a.2 ∙ nothing_changed begun t st x h.begins v e q

      go : ((i ≡ x.which.number) × (◌≡◌ {A = Bool} true true)) ⊎ ((i ≡ x.which.number → ⊥) × (is_in i since ≡ true)) → Left since t (passed x l)
      go (inl y) =
          let b : get_elem? ms i ≡ some x.which.macro = subst (λ (j : ℕ). get_elem? ms j ≡ some x.which.macro) (sym y.0) h.due.0 in
          let c : x.which.macro ≡ m = cc in
          let n = subst (λ (k : Macro). Nowhere x.tried k t) c ((h.passed_over v e).0 q) in
          inl (x.tried, inl (sym y.0, refl, a.0), subst (λ (r : List ℕ). Nowhere x.tried m r) (sym here) n)
      go (inr y) = inr ((λ r. y.0 (sym r), a.0), y.1, here)

  left : (closed since begun t : List ℕ) (st : State) (l : Line) → Passes ms closed since begun t st l → ending l ≡ done s z → NotIn i (closed_in closed l)
      → Left since t l
  unfolding ending
  left closed since begun t st (line_ended (refused r)) h e f = absurd (let n : ◌≡◌ {A = ℕ} 0 1 = cc in omega arith)
  left closed since begun t st (line_ended (control r y)) h e f = absurd (let n : ◌≡◌ {A = ℕ} 0 1 = cc in omega arith)
  left closed since begun t st (line_ended (done r y)) h e f = go (is_in i since) refl
    where
      go : (o : Bool) → is_in i since ≡ o → Left since t (line_ended (done r y))
      go true o = inr (tt, o, (let a : s ≡ t = cc in a))
      go false o = absurd (h.3 i m (at, f, (not_in i since).0 o))
  left closed since begun t st (passed x l) h e f =
      either h.1
      (λ u.
      left_before closed since begun t st x l h.0 u.0 u.1 (occurred x.events) refl
      (left (closed_after x closed) (since_after x since) (x.which.number ∷ begun) (new_line u.0) u.0.state l u.2 e f))
      (λ y. either y (λ u. absurd (refused_not_done l u.0 s z u.3 e)) (λ u. absurd (refused_not_done l trace_too_long s z u.2 e)))

  -- THE LAW
  pub left_nothing : (closed begun t : List ℕ) (st : State) (l : Line) → Passes ms closed [] begun t st l → ending l ≡ done s z → NotIn i (closed_in closed l)
      → Tried l
  unfolding is_in
  left_nothing closed begun t st l h e f = either (left closed [] begun t st l h e f) (λ a. a) (λ a. absurd (false≢true a.1))

-- WHAT A LINE COMES TO, joined to the demand's own notions

pub pass_count_lem : (l : Line) → length (passes_of l) ≡ pass_count l
unfolding passes_of
pass_count_lem (line_ended e) = refl
pass_count_lem (passed x l) = ap suc (pass_count_lem l)

pub end_of_line_lem : (l : Line) → ending l ≡ end_of_line l
unfolding ending
end_of_line_lem (line_ended e) = refl
end_of_line_lem (passed x l) = end_of_line_lem l

or_false : (a b : Bool) → (a || b ≡ false) ↔ ((a ≡ false) × (b ≡ false))
or_false true b = (λ e. absurd (false≢true (sym e)), λ h. absurd (false≢true (sym h.0)))
or_false false b = (λ e. (refl, e), λ h. h.1)

no_occurrence : (l : Line) → (had_occurrence (passes_of l) ≡ false) ↔ NoOccurrence l
unfolding passes_of had_occurrence
no_occurrence (line_ended e) = (λ e. tt, λ h. refl)
no_occurrence (passed x l) =
    let y = or_false (occurred x.events) (had_occurrence (passes_of l)) in
    (λ e. ((y.0 e).0, (no_occurrence l).0 (y.0 e).1), λ h. y.1 (h.0, (no_occurrence l).1 h.1))

pub kind_of_done_lem : (l : Line) (s : List ℕ) (st : State) (f : ℕ) (o : Bool) → st.nflag ≡ f → had_occurrence (passes_of l) ≡ o
    → (Withholds st l × (kind_of_done f o s ≡ withheld)) ⊎ ((Withholds st l → ⊥) × (kind_of_done f o s ≡ out s))
unfolding kind_of_done
kind_of_done_lem l s st zero o e g = inr (λ h. h.0 e, refl)
kind_of_done_lem l s st (suc f) true e g = inr (λ h. false≢true (sym ((no_occurrence l).1 h.1) ∙ g), refl)
kind_of_done_lem l s st (suc f) false e g = inl ((λ z. absurd (omega (arith, e, z)), (no_occurrence l).0 g), refl)
