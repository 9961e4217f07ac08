-- Control lines: their words, their values, and what they order.
-- Assumes nothing.
use Prim.Native.Nat.{ℕ, suc, ◌+◌, ◌-◌, ◌*◌, ◌≤◌, ◌<◌}
use mathlib.Core.Path.{◌≡◌, refl, ap, sym, ◌∙◌, subst}
use mathlib.Core.Bool.{Bool, true, false, false≢true, ◌&&◌}
use mathlib.Core.List.{List, [], ◌∷◌, ◌++◌, append_assoc}
use native.Mathlib.Omega.{arith}
use borrow.Author.Tests.{eq-eqb, ne_eqb, eqb-true}
use lib.Dec.{eqb}
use lib.ListN.{length, take, drop, replicate, length-replicate}
use lib.Seq.{take_at, take_all}
use Rattle.macros.specs.Bounds.{most_macros, most_entry_bytes}
use Rattle.macros.specs.Refusals.Refusal.{of_line}
use Rattle.macros.specs.Refusals.LineRefusal.{bad_control}
use Rattle.macros.specs.Macro.{Table, pick}
use Rattle.macros.specs.Formed.{Bytes}
use Rattle.macros.specs.Read.{read_onto}
use Rattle.macros.specs.Accepted.{Accepted}
use Rattle.macros.proofs.Laws.{each_spellable, read_keeps}
use Rattle.form_table.specs.Form.{slot_bytes, slot, slots, form}
use Rattle.form_table.proofs.Tables.{slots_size}
use Rattle.lines.specs.State.{State}
use Rattle.lines.specs.Matching.{begins}
use Rattle.lines.specs.Feeding.{Order, bytes, same, with_trace, with_nflag, flag_order, macro_order, order_of}
use Rattle.lines.specs.Feeding.Order.{wrong, orders}
use Rattle.lines.proofs.KeepBytes.{bytes_octets}
use Rattle.read_file.specs.File.{Onto}
use Rattle.form_items.specs.Items.{Wrote}
use Rattle.form_state.specs.Access.{Holds}
use Rattle.line_control.specs.Contract.{refusal_of, Obeys, Orders}
use Rattle.line_control.specs.Ordering.{value_of, Valued, Sets, OneMore, AddsOne}
use Rattle.std.specs.Prelude.{Result, Ok, Err}
use Rattle.std.specs.Cmp.Lexicographic.{pointwise}
use Rattle.read_scan.specs.declared.ReadError.{ReadError}
use Rattle.line_control.specs.declared.ControlError.{ControlError}
use Rattle.line_control.specs.declared.ControlError.TheVariants.{BadControl, InMacro}

-- WORDS

module _ (c b : ℕ) (w s : List ℕ) where
  begins_cons : (x : Bool) → eqb c b ≡ x → begins (c ∷ w) (b ∷ s) ≡ elim x [ true ↦ begins w s | false ↦ false ]
  unfolding begins
  begins_cons x e = rw (e, begins)

  same_cons : (x : Bool) → eqb c b ≡ x → same (c ∷ w) (b ∷ s) ≡ elim x [ true ↦ same w s | false ↦ false ]
  unfolding same
  same_cons x e = rw (e, same)

if_same : (x y : Bool) → (y && x) ≡ (elim y [ true ↦ x | false ↦ false ])
if_same x true = refl
if_same x false = refl

eqb_comm : (a b : ℕ) → eqb a b ≡ eqb b a
eqb_comm a b = by (eqb a b) refl
  where
    by : (x : Bool) → eqb a b ≡ x → x ≡ eqb b a
    by true e = sym (eq-eqb b a (sym (eqb-true a b e)))
    by false e = sym (ne_eqb b a (λ f. false≢true (sym e ∙ eq-eqb a b (sym f))))

-- whether a word stands at the head, as the library tests it
pub prefix_is : (w s : List ℕ) → pointwise eqb (take (length w) s) w ≡ begins w s
unfolding begins
prefix_is [] s = refl
prefix_is (c ∷ w) [] = refl
prefix_is (c ∷ w) (b ∷ s) =
    ap (λ (x : Bool). eqb b c && x) (prefix_is w s) ∙ (if_same (begins w s) (eqb b c) ∙ ap (λ (x : Bool). elim x [ true ↦ begins w s | false ↦ false ]) (eqb_comm b c))

-- a line that begins with a word is the word and the rest
pub begins_split : (w s : List ℕ) → begins w s ≡ true → s ≡ w ++ drop (length w) s
unfolding begins
begins_split [] s e = refl
begins_split (c ∷ w) [] e = absurd (false≢true e)
begins_split (c ∷ w) (b ∷ s) e = by (eqb c b) refl (begins_split w s)
  where
    by : (x : Bool) → eqb c b ≡ x → (begins w s ≡ true → s ≡ w ++ drop (length w) s) → b ∷ s ≡ c ∷ (w ++ drop (length w) s)
    by true f ih =
        let p : c ≡ b = eqb-true c b f in
        let q : s ≡ w ++ drop (length w) s = ih (sym (begins_cons c b w s true f) ∙ e) in
        (λ i. sym p i ∷ q i)
    by false f ih = absurd (false≢true (sym (begins_cons c b w s false f) ∙ e))

same_append : (w x y : List ℕ) → same (w ++ x) (w ++ y) ≡ same x y
same_append [] x y = refl
same_append (c ∷ w) x y = same_cons c c (w ++ x) (w ++ y) true (eq-eqb c c refl) ∙ same_append w x y

pub not_begins : (w s y : List ℕ) → begins w s ≡ false → same s (w ++ y) ≡ false
unfolding begins same
not_begins [] s y e = absurd (false≢true (sym e))
not_begins (c ∷ w) [] y e = refl
not_begins (c ∷ w) (b ∷ s) y e = by (eqb b c) refl (not_begins w s y)
  where
    by : (x : Bool) → eqb b c ≡ x → (begins w s ≡ false → same s (w ++ y) ≡ false) → same (b ∷ s) (c ∷ (w ++ y)) ≡ false
    by true f ih = same_cons b c s (w ++ y) true f ∙ ih (sym (begins_cons c b w s true (eq-eqb c b (sym (eqb-true b c f)))) ∙ e)
    by false f ih = same_cons b c s (w ++ y) false f

-- VALUES

-- whether two texts are the same, as the library tests it
pub same_is : (s w : List ℕ) → pointwise eqb s w ≡ same s w
unfolding same
same_is [] [] = refl
same_is [] (b ∷ w) = refl
same_is (a ∷ s) [] = refl
same_is (a ∷ s) (b ∷ w) = ap (λ (x : Bool). eqb a b && x) (same_is s w) ∙ if_same (same s w) (eqb a b)

module _ (s : List ℕ) where
  pub value_zero : same s (bytes " 0") ≡ true → Valued s (Ok 0)
  unfolding value_of pick
  value_zero e = (rw e refl, omega arith)

  pub value_one : same s (bytes " 0") ≡ false → same s (bytes " 1") ≡ true → Valued s (Ok 1)
  unfolding value_of pick
  value_one e f = (rw (e, f) refl, omega arith)

  pub value_else : same s (bytes " 0") ≡ false → same s (bytes " 1") ≡ false → Valued s (Err BadControl)
  unfolding value_of pick
  value_else e f = (rw (e, f) (omega arith), refl)

-- FLAGS

module _ {A : Type 0} (f : ℕ → A) (z : A) where
  flag_set : (a b : Bool) (v : ℕ) → v ≡ pick a 0 (pick b 1 2) → v ≤ 1 → pick a (f 0) (pick b (f 1) z) ≡ f v
  unfolding pick
  flag_set true b v e h = ap f (sym e)
  flag_set false true v e h = ap f (sym e)
  flag_set false false v e h = absurd (omega arith)

  flag_wrong : (a b : Bool) (v : ℕ) → v ≡ pick a 0 (pick b 1 2) → 1 < v → pick a (f 0) (pick b (f 1) z) ≡ z
  unfolding pick
  flag_wrong true b v e h = absurd (omega arith)
  flag_wrong false true v e h = absurd (omega arith)
  flag_wrong false false v e h = refl

module _ (ms : Table) (st : State) (t : List ℕ) where
  no_macro_lem : begins (bytes "$MACRO") t ≡ false → order_of ms st t ≡ flag_order ms st t
  unfolding order_of
  no_macro_lem m = rw (m, order_of) refl

  is_macro : st.entry_bytes ≡ most_entry_bytes → begins (bytes "$MACRO") t ≡ true → order_of ms st t ≡ macro_order ms st (read_onto ms (drop 6 t))
  unfolding order_of
  is_macro h e = rw (e, order_of, h) refl

  abbrev set_trace : ℕ → Order
  set_trace v = orders ms (with_trace v st)

  abbrev set_nflag : ℕ → Order
  set_nflag v = orders ms (with_nflag v st)

  module _ (b : begins (bytes "$TRACE") t ≡ true) where
    traced : flag_order ms st t ≡ pick (same (drop 6 t) (bytes " 0")) (set_trace 0) (pick (same (drop 6 t) (bytes " 1")) (set_trace 1) (wrong (of_line bad_control)))
    unfolding flag_order same pick
    traced =
        let x : List ℕ = drop 6 t in
        ap (flag_order ms st) (begins_split (bytes "$TRACE") t b)
        ∙ rw (same_append (bytes "$TRACE") x (bytes " 0"), same_append (bytes "$TRACE") x (bytes " 1")) refl

    trace_set : (v : ℕ) → v ≡ value_of (drop 6 t) → v ≤ 1 → flag_order ms st t ≡ orders ms (with_trace v st)
    unfolding value_of
    trace_set v e h = traced ∙ flag_set set_trace (wrong (of_line bad_control)) (same (drop 6 t) (bytes " 0")) (same (drop 6 t) (bytes " 1")) v e h

    trace_wrong : (v : ℕ) → v ≡ value_of (drop 6 t) → 1 < v → flag_order ms st t ≡ wrong (of_line bad_control)
    unfolding value_of
    trace_wrong v e h = traced ∙ flag_wrong set_trace (wrong (of_line bad_control)) (same (drop 6 t) (bytes " 0")) (same (drop 6 t) (bytes " 1")) v e h

  module _ (b : begins (bytes "$NFLAG") t ≡ true) where
    flagged : flag_order ms st t ≡ pick (same (drop 6 t) (bytes " 0")) (set_nflag 0) (pick (same (drop 6 t) (bytes " 1")) (set_nflag 1) (wrong (of_line bad_control)))
    unfolding flag_order same pick
    flagged =
        let x : List ℕ = drop 6 t in
        ap (flag_order ms st) (begins_split (bytes "$NFLAG") t b)
        ∙ rw (same_append (bytes "$NFLAG") x (bytes " 0"), same_append (bytes "$NFLAG") x (bytes " 1")) refl

    nflag_set : (v : ℕ) → v ≡ value_of (drop 6 t) → v ≤ 1 → flag_order ms st t ≡ orders ms (with_nflag v st)
    unfolding value_of
    nflag_set v e h = flagged ∙ flag_set set_nflag (wrong (of_line bad_control)) (same (drop 6 t) (bytes " 0")) (same (drop 6 t) (bytes " 1")) v e h

    nflag_wrong : (v : ℕ) → v ≡ value_of (drop 6 t) → 1 < v → flag_order ms st t ≡ wrong (of_line bad_control)
    unfolding value_of
    nflag_wrong v e h = flagged ∙ flag_wrong set_nflag (wrong (of_line bad_control)) (same (drop 6 t) (bytes " 0")) (same (drop 6 t) (bytes " 1")) v e h

  no_word : begins (bytes "$TRACE") t ≡ false → begins (bytes "$NFLAG") t ≡ false → flag_order ms st t ≡ wrong (of_line bad_control)
  unfolding flag_order pick
  no_word f g =
      rw (
        not_begins (bytes "$TRACE") t (bytes " 0") f,
        not_begins (bytes "$TRACE") t (bytes " 1") f,
        not_begins (bytes "$NFLAG") t (bytes " 0") g,
        not_begins (bytes "$NFLAG") t (bytes " 1") g,
      ) refl

module _ {b t : List ℕ} where
  module _ (w : begins (bytes "$TRACE") t ≡ true) where
    pub sets_trace : {v : ℕ} → Valued (drop 6 t) (Ok v) → {b' : List ℕ} → ((st : State) → Holds b st → Holds b' (with_trace v st)) → Sets b b' t (Ok tt)
    sets_trace {v} p f = record { sets = λ ms st h. (with_trace v st, trace_set ms st t w v p.0 p.1, f st h) }

    pub trace_refused : {e : ControlError} → Valued (drop 6 t) (Err e) → Sets b b t (Err e)
    trace_refused p = record { sets = λ ms st h. (trace_wrong ms st t w (value_of (drop 6 t)) refl p.0 ∙ ap (λ (y : ControlError). wrong (refusal_of y)) (sym p.1), refl) }

  module _ (w : begins (bytes "$NFLAG") t ≡ true) where
    pub sets_nflag : {v : ℕ} → Valued (drop 6 t) (Ok v) → {b' : List ℕ} → ((st : State) → Holds b st → Holds b' (with_nflag v st)) → Sets b b' t (Ok tt)
    sets_nflag {v} p f = record { sets = λ ms st h. (with_nflag v st, nflag_set ms st t w v p.0 p.1, f st h) }

    pub nflag_refused : {e : ControlError} → Valued (drop 6 t) (Err e) → Sets b b t (Err e)
    nflag_refused p = record { sets = λ ms st h. (nflag_wrong ms st t w (value_of (drop 6 t)) refl p.0 ∙ ap (λ (y : ControlError). wrong (refusal_of y)) (sym p.1), refl) }

  pub sets_none : begins (bytes "$TRACE") t ≡ false → begins (bytes "$NFLAG") t ≡ false → Sets b b t (Err BadControl)
  sets_none f g = record { sets = λ ms st h. (no_word ms st t f g, refl) }

-- MACROS

slots_append : (xs ys : Table) → slots (xs ++ ys) ≡ slots xs ++ slots ys
unfolding slots
slots_append [] ys = refl
slots_append (x ∷ xs) ys = rw (slots_append xs ys) (sym (append_assoc (slot x) (slots xs) (slots ys)))

-- zeros to the table's end
pub cleared : (old out : List ℕ) (p : ℕ) → p ≤ 98304 → length out ≡ 98304 → Wrote old out p (replicate (98304 - p) 0) → out ≡ take p old ++ replicate (98304 - p) 0
cleared old out p h l w = sym (take_all (p + length (replicate {A = ℕ} (98304 - p) 0)) out (omega (arith, length-replicate {A = ℕ} (98304 - p) 0))) ∙ w.written

-- the added slots cleared
put_back : (ms new : Table) (count : ℕ) (b out fin : List ℕ) → Accepted ms → length ms ≡ count → form ms ≡ b → form (ms ++ new) ≡ out
    → fin ≡ take (1024 * count) out ++ replicate (98304 - 1024 * count) 0 → fin ≡ b
unfolding form
put_back ms new count b out fin a c e f g =
    let w : length (slots ms) ≡ 1024 * count = slots_size ms (each_spellable a) ∙ omega arith in
    let n : 98304 - 1024 * count ≡ slot_bytes * (most_macros - length ms) = omega arith in
    let x : List ℕ = replicate (slot_bytes * (most_macros - length (ms ++ new))) 0 in
    let t : take (1024 * count) out ≡ slots ms =
    ap (take (1024 * count)) (sym f ∙ (ap (λ (y : List ℕ). y ++ x) (slots_append ms new) ∙ append_assoc (slots ms) (slots new) x)) ∙ take_at (slots ms) (slots new ++ x) (1024 * count) w in
    g ∙ (rw (t, n) refl ∙ e)

module _ (b out : List ℕ) (count : ℕ) (s : List ℕ) where
  pub add_wrong : (e : ReadError) → Onto s count b out (Err e) → AddsOne b out count s (Err (InMacro e))
  unfolding macro_order
  add_wrong e o = record { obeys = λ ms h l st b' k. let x = o ms h.accepted h.form l in (ap (macro_order ms st) x.0, x.1, refl) }

  pub add_more : {n : ℕ} → Onto s count b out (Ok n) → Bytes s → {fin : List ℕ} (w : Result (Unit {0}) ControlError) → OneMore out fin count n w → AddsOne b fin count s w
  unfolding macro_order pick
  add_more read y (Ok u) g =
      record {
        obeys = λ ms h l st b' k.
            let x = read ms h.accepted h.form l in
            let i : length x.0 ≡ suc (length ms) = omega (arith, x.2, g.0) in (
              x.0,
              st,
              ap (macro_order ms st) x.1 ∙ rw (eq-eqb _ _ i) refl,
              record { accepted = (read_keeps ms s x.0 h.accepted (bytes_octets s y) x.1).accepted; form = x.3 ∙ sym g.1 },
              k,
            );
      }
  add_more read y {fin} (Err v) g =
      record {
        obeys = λ ms h l st b' k.
            let x = read ms h.accepted h.form l in
            let p = read_keeps ms s x.0 h.accepted (bytes_octets s y) x.1 in
            let i : length x.0 ≡ suc (length ms) → ⊥ = λ j. g.0 (omega (arith, x.2, j)) in (
              ap (macro_order ms st) x.1 ∙ (rw (ne_eqb _ _ i) refl ∙ ap (λ (z : ControlError). wrong (refusal_of z)) (sym g.1)),
              put_back ms p.behind.0 count b out fin h.accepted l h.form (subst (λ (z : Table). form z ≡ out) p.behind.1 x.3) g.2,
              refl,
            );
      }

-- CONTROL LINES

module _ {tb b t : List ℕ} {count : ℕ} where
  pub orders_macro : {tb' : List ℕ} {r : Result (Unit {0}) ControlError} → begins (bytes "$MACRO") t ≡ true → AddsOne tb tb' count (drop 6 t) r → Orders tb tb' b b count t r
  orders_macro {tb'} {r} e x = record { obeys = λ ms h l st hs. subst (λ (o : Order). Obeys o tb tb' b b r) (sym (is_macro ms st t hs.in_range.entry_bytes e)) (x.obeys ms h l st b hs) }

  pub orders_flag : begins (bytes "$MACRO") t ≡ false → {b' : List ℕ} (r : Result (Unit {0}) ControlError) → Sets b b' t r → Orders tb tb b b' count t r
  orders_flag m (Ok u) x = record { obeys = λ ms h l st hs. let y = x.sets ms st hs in (ms, y.0, no_macro_lem ms st t m ∙ y.1, h, y.2) }
  orders_flag m (Err w) x = record { obeys = λ ms h l st hs. let y = x.sets ms st hs in (no_macro_lem ms st t m ∙ y.0, refl, y.1) }
