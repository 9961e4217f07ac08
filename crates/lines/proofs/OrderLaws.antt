-- The law of specs/Controls: the order of a control line is what its text says.
use mathlib.Core.Path.{◌≡◌, refl, sym, ap, ◌∙◌, subst}
use mathlib.Core.Bool.{Bool, true, false, false≢true}
use mathlib.Core.Logic.{◌⊎◌, inl, inr}
use mathlib.Core.List.{List, [], ◌∷◌, ◌++◌}
use Prim.Native.Nat.{ℕ, suc}
use borrow.Author.Tests.{eqb-true, eqb-false, eq-eqb}
use lib.Dec.{eqb}
use lib.ListN.{length, drop}
use Rattle.macros.specs.Refusals.Refusal.{of_line}
use Rattle.macros.specs.Refusals.LineRefusal.{bad_control}
use Rattle.macros.specs.Macro.{Table, pick}
use Rattle.macros.specs.Read.{Read, read_onto_by}
use Rattle.macros.specs.ReadFile.Read.{refused_at, table}
use Rattle.lines.specs.State.{State}
use Rattle.lines.specs.Matching.{begins}
use Rattle.lines.specs.Feeding.{bytes, same, with_trace, with_nflag, Order, wrong, orders, flag_order, macro_order, order_of}
use Rattle.lines.specs.Controls.{Says, OrderSays}
use Rattle.lines.proofs.OntoLaws.{Onto, reads_onto, one_more, one_length}

if_true : (x y : Bool) → (elim x [ true ↦ y | false ↦ false ]) ≡ true → (x ≡ true) × (y ≡ true)
if_true true y e = (refl, e)
if_true false y e = absurd (false≢true e)

-- the text stands at the head: what is behind it
pub begins_with_lem : (c s : List ℕ) → begins c s ≡ true → s ≡ c ++ drop (length c) s
unfolding begins
begins_with_lem [] s e = refl
begins_with_lem (a ∷ c) [] e = absurd (false≢true e)
begins_with_lem (a ∷ c) (b ∷ s) e =
    let h = if_true (eqb a b) (begins c s) e in
    let f : a ≡ b = eqb-true a b h.0 in
    let g : s ≡ c ++ drop (length c) s = begins_with_lem c s h.1 in
    ap (λ (x : ℕ). x ∷ s) (sym f) ∙ ap (λ (l : List ℕ). a ∷ l) g

begins_own : (c r : List ℕ) → begins c (c ++ r) ≡ true
unfolding begins
begins_own [] r = refl
begins_own (a ∷ c) r = rw (eq-eqb a a refl, begins) (begins_own c r)

pub same_true : (l k : List ℕ) → same l k ≡ true → l ≡ k
unfolding same
same_true [] [] e = refl
same_true [] (b ∷ k) e = absurd (false≢true e)
same_true (a ∷ l) [] e = absurd (false≢true e)
same_true (a ∷ l) (b ∷ k) e =
    let h = if_true (eqb a b) (same l k) e in
    let f : a ≡ b = eqb-true a b h.0 in
    let g : l ≡ k = same_true l k h.1 in
    cc

same_own : (l : List ℕ) → same l l ≡ true
unfolding same
same_own [] = refl
same_own (a ∷ l) = rw (eq-eqb a a refl, same) (same_own l)

not_same : (l k : List ℕ) → same l k ≡ false → l ≡ k → ⊥
not_same l k e f = false≢true (sym e ∙ subst (λ (x : List ℕ). same l x ≡ true) f (same_own l))

not_begins : (c s : List ℕ) → begins c s ≡ false → (r : List ℕ) → s ≡ c ++ r → ⊥
not_begins c s e r f = false≢true (sym e ∙ subst (λ (x : List ℕ). begins c x ≡ true) (sym f) (begins_own c r))

module _ (ms : Table) (x : State) (s : List ℕ) where
  by_pick : (b : Bool) (o p : Order) → (b ≡ true → Says ms x s o) → (b ≡ false → Says ms x s p) → Says ms x s (pick b o p)
  unfolding pick
  by_pick true o p h g = h refl
  by_pick false o p h g = g refl

  macro_says : (rest : List ℕ) → s ≡ bytes "$MACRO" ++ rest → (a : Read) → read_onto_by x.entry_bytes ms rest ≡ a → Says ms x s (macro_order ms x a)
  unfolding macro_order
  macro_says rest w (refused_at r p) e = record { rest = rest; word = w; reads = e }
  macro_says rest w (table ks) e =
      let o : Onto ms (table ks) = subst (Onto ms) e (reads_onto x.entry_bytes ms rest) in
      by_pick (eqb (length ks) (suc (length ms))) (orders ks x) (wrong (of_line bad_control))
      (λ f.
      let a = one_more ms ks o.0 o.1 (eqb-true (length ks) (suc (length ms)) f) in
      inl (record { rest = rest; newest = a.0; word = w; reads = e; added = a.1; state = refl }))
      (λ f. inl (record { rest = rest; read = ks; word = w; reads = e; not_one = λ m g. eqb-false (length ks) (suc (length ms)) f (one_length ms ks m g) }))

  flag_says : ((rest : List ℕ) → s ≡ bytes "$MACRO" ++ rest → ⊥) → Says ms x s (flag_order ms x s)
  unfolding flag_order with_trace with_nflag
  flag_says n =
      by_pick (same s (bytes "$TRACE 0")) _ _
      (λ e. inr (inl (record { exactly = same_true s _ e; table = refl; trace_is = refl; nflag_is = refl; stacks = refl; counters = refl; entry_bytes = refl })))
      (λ a. by_pick (same s (bytes "$TRACE 1")) _ _
      (λ e. inr (inr (inl (record { exactly = same_true s _ e; table = refl; trace_is = refl; nflag_is = refl; stacks = refl; counters = refl; entry_bytes = refl }))))
      (λ b. by_pick (same s (bytes "$NFLAG 0")) _ _
      (λ e. inr (inr (inr (inl (record { exactly = same_true s _ e; table = refl; trace_is = refl; nflag_is = refl; stacks = refl; counters = refl; entry_bytes = refl })))))
      (λ c. by_pick (same s (bytes "$NFLAG 1")) _ _
      (λ e. inr (inr (inr (inr (record { exactly = same_true s _ e; table = refl; trace_is = refl; nflag_is = refl; stacks = refl; counters = refl; entry_bytes = refl })))))
      (λ d. inr (record { no_macro = n; no_trace0 = not_same s _ a; no_trace1 = not_same s _ b; no_nflag0 = not_same s _ c; no_nflag1 = not_same s _ d })))))

-- THE LAW
pub order_says : OrderSays
unfolding order_of
order_says ms x s = go (begins (bytes "$MACRO") s) refl
  where
    go : (b : Bool) → begins (bytes "$MACRO") s ≡ b → Says ms x s (elim b [ true ↦ macro_order ms x (read_onto_by x.entry_bytes ms (drop 6 s)) | false ↦ flag_order ms x s ])
    go true e = macro_says ms x s (drop 6 s) (begins_with_lem (bytes "$MACRO") s e) (read_onto_by x.entry_bytes ms (drop 6 s)) refl
    go false e = flag_says ms x s (not_begins (bytes "$MACRO") s e)
