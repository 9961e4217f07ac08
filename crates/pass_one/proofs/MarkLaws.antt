-- All marks are true as long as each new one is.
-- Assumes nothing.
use Prim.Native.Nat.{ℕ, ◌*◌, ◌%◌, ◌≤◌, ◌<◌}
use mathlib.Core.Path.{◌≡◌, refl, sym, ap, ◌∙◌, fun_ext}
use mathlib.Core.Bool.{Bool, true, false}
use mathlib.Core.Logic.{◌⊎◌, inl, inr}
use mathlib.Core.List.{List, [], ◌∷◌, ◌++◌}
use mathlib.Core.Option.{Option, none}
use native.Mathlib.Omega.{arith}
use lib.Dec.{eqb}
use lib.ListN.{length, get_or, drop}
use Rattle.macros.specs.Macro.{Closure, Mark, PatternUnit, Piece}
use Rattle.macros.specs.Macro.PatternUnit.{literal, kind, class, call_of}
use Rattle.macros.specs.Macro.Piece.{element, start, end, left, right}
use Rattle.lines.specs.State.{State, contents}
use Rattle.lines.specs.Matching.{Division, begins, fits, width}
use Rattle.lines.specs.Choosing.{Rest, more, repeated, chosen, then, is_end}
use Rattle.form_state.specs.Access.{Holds, IsState}
use Rattle.pass_unit.specs.Pattern.{IsPattern, IsRest}
use Rattle.pass_marks.specs.Marks.{mark, byte_of, marked}
use Rattle.pass_marks.proofs.MarkLaws.{SameMark, mark_only, mark_zero}
use Rattle.pass_one.specs.Marks.{copies_from, Sound, Agree}
use Rattle.pass_unit.proofs.ItemLaws.{rest_even, rest_inside}

-- TRUE MARKS

-- there is no division of more copies from q on
abbrev pub NoCopies : (items b t : List ℕ) (at q : ℕ) → Type 0
NoCopies items b t at q = (u : PatternUnit) (c : Closure) (es : List Piece) → IsRest items at (element u c ∷ es) → (st : State) → Holds b st → copies_from st u es t q ≡ none

pub sound_at : (items b t marks : List ℕ) (at q : ℕ) → q ≤ 1055 → Sound items b t marks → mark marks at q ≡ 1 → NoCopies items b t at q
unfolding Sound
sound_at items b t marks at q l s e = s at q l e

pub sound_set : (items b t marks marks' : List ℕ) (at q : ℕ) → q ≤ 1055 → at % 2 ≡ 0 → Sound items b t marks → marks' ≡ marked marks at q → NoCopies items b t at q → Sound items b t marks'
unfolding Sound
sound_set items b t marks marks' at q l even s n fails i j k e u c es r st h = go (mark_only marks at q i j (ap (λ (x : List ℕ). mark x i j) (sym n) ∙ e))
  where
    go : (mark marks i j ≡ 1) ⊎ SameMark i j at q → copies_from st u es t j ≡ none
    go (inl m) = s i j k m u c es r st h
    go (inr m) =
        let v = rest_even items i (element u c ∷ es) r in
        let x = m.0 in
        let y = m.1 in
        let ij : i ≡ at = omega arith in
        let jq : j ≡ q = omega arith in
        rw jq (fails u c es (rw ij at r) st h)

pub sound_zero : (items b t marks : List ℕ) → ((i : ℕ) → i < 66 * length items → get_or marks i 0 ≡ 0) → Sound items b t marks
unfolding Sound
sound_zero items b t marks z at q l e u c es r st h = absurd (let i = rest_inside items at (element u c) es r in mark_zero marks at q (z (byte_of at q) (omega arith)) e)

-- STATES THAT AGREE

abbrev Alike : State → State → PatternUnit → Type 0
Alike st st' u = (fits st u ≡ fits st' u) × (width st u ≡ width st' u)

call_alike : (st st' : State) (m : Mark) (i : ℕ) → contents st m i ≡ contents st' m i → Alike st st' (call_of m i)
unfolding fits width
call_alike st st' m i e = (fun_ext (λ (s : List ℕ). ap (λ (x : List ℕ). begins x s) e), ap length e)

-- the first piece, if it is an element, and the others
agree_unit : (st st' : State) (u : PatternUnit) (c : Closure) (es : List Piece) → Agree st st' (element u c ∷ es) → Alike st st' u × Agree st st' es
unfolding fits width
agree_unit st st' (literal b) c es a = ((refl, refl), a)
agree_unit st st' (kind n) c es a = ((refl, refl), a)
agree_unit st st' (class neg ms) c es a = ((refl, refl), a)
agree_unit st st' (call_of m i) c es a = (call_alike st st' m i a.0, a.1)

agree_rest : (st st' : State) (as₁ es : List Piece) → Agree st st' (as₁ ++ es) → Agree st st' es
agree_rest st st' [] es a = a
agree_rest st st' (element u c ∷ as₁) es a = agree_rest st st' as₁ es (agree_unit st st' u c (as₁ ++ es) a).1
agree_rest st st' (start ∷ as₁) es a = agree_rest st st' as₁ es a
agree_rest st st' (end ∷ as₁) es a = agree_rest st st' as₁ es a
agree_rest st st' (left ∷ as₁) es a = agree_rest st st' as₁ es a
agree_rest st st' (right ∷ as₁) es a = agree_rest st st' as₁ es a

-- the division depends on no more than that
chosen_agree : (st st' : State) (es : List Piece) → Agree st st' es → (p : ℕ) (s : List ℕ) → chosen st es p s ≡ chosen st' es p s
unfolding chosen
chosen_agree st st' [] a p s = refl
chosen_agree st st' (element u c ∷ es) a p s =
    let h = agree_unit st st' u c es a in
    let k : chosen st es ≡ chosen st' es = fun_ext (λ (i : ℕ). fun_ext (λ (l : List ℕ). chosen_agree st st' es h.1 i l)) in
    ap (λ (x : List ℕ → Bool). repeated c x (width st u) (chosen st es) p s) h.0.0
    ∙ ap (λ (w : ℕ). repeated c (fits st' u) w (chosen st es) p s) h.0.1
    ∙ ap (λ (x : Rest). repeated c (fits st' u) (width st' u) x p s) k
chosen_agree st st' (start ∷ es) a p s = ap (λ (o : Option Division). elim (eqb p 0) [ true ↦ then 1 p o | false ↦ none ]) (chosen_agree st st' es a p s)
chosen_agree st st' (end ∷ es) a p s = ap (λ (o : Option Division). elim (is_end s) [ true ↦ then 1 p o | false ↦ none ]) (chosen_agree st st' es a p s)
chosen_agree st st' (left ∷ es) a p s = ap (then 1 p) (chosen_agree st st' es a p s)
chosen_agree st st' (right ∷ es) a p s = ap (then 1 p) (chosen_agree st st' es a p s)

copies_agree : (st st' : State) (u : PatternUnit) (c : Closure) (es : List Piece) → Agree st st' (element u c ∷ es) → (t : List ℕ) (q : ℕ) → copies_from st u es t q ≡ copies_from st' u es t q
copies_agree st st' u c es a t q =
    let h = agree_unit st st' u c es a in
    let k : chosen st es ≡ chosen st' es = fun_ext (λ (i : ℕ). fun_ext (λ (l : List ℕ). chosen_agree st st' es h.1 i l)) in
    ap (λ (x : List ℕ → Bool). more x (width st u) (chosen st es) (drop q t) 0 q (drop q t)) h.0.0
    ∙ ap (λ (w : ℕ). more (fits st' u) w (chosen st es) (drop q t) 0 q (drop q t)) h.0.1
    ∙ ap (λ (x : Rest). more (fits st' u) (width st' u) x (drop q t) 0 q (drop q t)) k

pub sound_agree : (items b b' t marks : List ℕ) → ((es : List Piece) → IsPattern items es → (st st' : State) → Holds b st → Holds b' st' → Agree st st' es) → IsState b
    → (es : List Piece) → IsPattern items es → Sound items b t marks → Sound items b' t marks
unfolding Sound
sound_agree items b b' t marks f s es₀ i₀ o at q l e u c es r st' h =
    let a = agree_rest s.0 st' r.prior (element u c ∷ es) (f (r.prior ++ (element u c ∷ es)) r.whole s.0 st' s.1 h) in
    sym (copies_agree s.0 st' u c es a t q) ∙ o at q l e u c es r s.0 s.1
