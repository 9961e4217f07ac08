-- One turn of each loop: one entry more; and the whole state.
use Prim.Native.Nat.{ℕ, zero, suc, ◌+◌, ◌-◌, ◌*◌, ◌≤◌, ◌<◌}
use mathlib.Core.Path.{◌≡◌, refl, sym, ap, ◌∙◌}
use mathlib.Core.List.{List, [], ◌∷◌, ◌++◌, append_assoc, append-nil}
use native.Mathlib.Nat.{zero-add, suc-add, le_of_suc-le-suc}
use native.Mathlib.Numerals.{add-one}
use native.Mathlib.Omega.{arith}
use lib.Dec.{eqb}
use lib.ListN.{length, get_or, take, drop, replicate, length-append, length-drop}
use lib.Seq.{drop-drop, length-take-le}
use Rattle.macros.specs.Bounds.{most_entry_bytes, old_entry_bytes}
use Rattle.form_items.specs.Items.{Wrote}
use Rattle.form_items.proofs.Writing.{wrote_is}
use Rattle.form_state.specs.Form.{state_bytes, entries_from, entry_count}
use Rattle.form_state.specs.Access.{replaced}
use Rattle.form_state.proofs.Replaced.{replaced_behind, replaced_whole}
use Rattle.form_old.specs.Old.{old_state_bytes, widened_entries, widened_bytes, narrowed_entries, narrowed_bytes, short_check}
use Rattle.form_old.proofs.Entries.{gap}

-- the 50 bytes of an entry
pub slice_50 : (l : List ℕ) (a : ℕ) → a + 50 ≤ length l → length (take (a + 50 - a) (drop a l)) ≡ old_entry_bytes
slice_50 l a h = let whole : a + 50 - a ≡ 50 = omega arith in rw whole (length-take-le 50 (drop a l) (omega (arith, length-drop a l)))

-- AN ENTRY AND ZEROS BEHIND IT

pub wide_laid : (b s e t : List ℕ) (a : ℕ) → length t ≡ old_entry_bytes → a + most_entry_bytes ≤ length b → s ≡ replaced b a t → Wrote s e (a + 50) (replicate (100 - 50) 0)
    → e ≡ replaced b a (t ++ gap)
unfolding replaced
wide_laid b s e t a l fit p w =
    wrote_is w ∙ ap (λ (x : List ℕ). replaced x (a + 50) gap) p ∙ replaced_behind b a (a + 50) t gap (omega arith) (omega arith)

-- WIDENING

widened_more : (i : ℕ) (b : List ℕ) → widened_entries (suc i) b ≡ widened_entries i b ++ (take old_entry_bytes (drop (50 * i) b) ++ gap)
unfolding widened_entries
widened_more zero b = append-nil (take old_entry_bytes b ++ gap)
widened_more (suc i) b =
    let c : List ℕ = take old_entry_bytes b ++ gap in
    let r : List ℕ = drop old_entry_bytes b in
    let on : 50 + 50 * i ≡ 50 * suc i = omega arith in
    ap (λ (t : List ℕ). c ++ t) (widened_more i r)
    ∙ sym (append_assoc c (widened_entries i r) (take old_entry_bytes (drop (50 * i) r) ++ gap))
    ∙ ap (λ (t : List ℕ). (c ++ widened_entries i r) ++ (take old_entry_bytes t ++ gap)) (drop-drop (50 * i) 50 b ∙ ap (λ (k : ℕ). drop k b) on)

widened_long : (i : ℕ) (b : List ℕ) → 50 * i ≤ length b → length (widened_entries i b) ≡ 100 * i
unfolding widened_entries
widened_long zero b l = refl
widened_long (suc i) b l =
    let r : List ℕ = drop old_entry_bytes b in
    let left : length r ≡ length b - 50 = length-drop old_entry_bytes b in
    let k : length (widened_entries i r) ≡ 100 * i = widened_long i r (omega arith) in
    let f : length (take old_entry_bytes b) ≡ 50 = length-take-le old_entry_bytes b (omega arith) in
    length-append (take old_entry_bytes b ++ gap) (widened_entries i r) ∙ omega (arith, length-append (take old_entry_bytes b) gap)

module _ (b old : List ℕ) (lo : length old ≡ old_state_bytes) (lb : length b ≡ state_bytes) where
  abbrev entries : List ℕ
  entries = drop entries_from old

  entries_long : length entries ≡ 26000
  entries_long = length-drop entries_from old ∙ omega arith

  pub widen_more : (s e : List ℕ) (i : ℕ) → i < 520 → s ≡ replaced b entries_from (widened_entries i entries)
      → e ≡ replaced s (236 + 100 * i) (take (236 + 50 * i + 50 - (236 + 50 * i)) (drop (236 + 50 * i) old) ++ gap)
      → e ≡ replaced b entries_from (widened_entries (i + 1) entries)
  widen_more s e i less p q =
      let u : List ℕ = take old_entry_bytes (drop (50 * i) entries) ++ gap in
      let whole : 236 + 50 * i + 50 - (236 + 50 * i) ≡ 50 = omega arith in
      let long : length (widened_entries i entries) ≡ 100 * i = widened_long i entries (omega (arith, entries_long)) in
      q
      ∙ ap (λ (k : ℕ). replaced s (236 + 100 * i) (take k (drop (236 + 50 * i) old) ++ gap)) whole
      ∙ ap (λ (t : List ℕ). replaced s (236 + 100 * i) (take 50 t ++ gap)) (sym (drop-drop (50 * i) 236 old))
      ∙ ap (λ (t : List ℕ). replaced t (236 + 100 * i) u) p
      ∙ replaced_behind b 236 (236 + 100 * i) (widened_entries i entries) u (omega arith) (omega arith)
      ∙ ap (replaced b 236) (sym (widened_more i entries) ∙ ap (λ (k : ℕ). widened_entries k entries) (sym (add-one i)))

  pub widen_whole : (s e : List ℕ) → s ≡ replaced b 0 (take 236 old) → e ≡ replaced s entries_from (widened_entries entry_count entries) → e ≡ widened_bytes old
  unfolding widened_bytes
  widen_whole s e p q =
      let v : List ℕ = widened_entries entry_count entries in
      let front : length (take 236 old) ≡ 236 = length-take-le 236 old (omega arith) in
      let long : length v ≡ 52000 = widened_long 520 entries (omega (arith, entries_long)) in
      q
      ∙ ap (λ (t : List ℕ). replaced t 236 v) p
      ∙ replaced_behind b 0 236 (take 236 old) v (omega arith) (omega arith)
      ∙ replaced_whole b (take 236 old ++ v) (omega (arith, length-append (take 236 old) v))

-- NARROWING

narrowed_more : (i : ℕ) (b : List ℕ) → narrowed_entries (suc i) b ≡ narrowed_entries i b ++ take old_entry_bytes (drop (100 * i) b)
unfolding narrowed_entries
narrowed_more zero b = append-nil (take old_entry_bytes b)
narrowed_more (suc i) b =
    let c : List ℕ = take old_entry_bytes b in
    let r : List ℕ = drop most_entry_bytes b in
    let on : 100 + 100 * i ≡ 100 * suc i = omega arith in
    ap (λ (t : List ℕ). c ++ t) (narrowed_more i r)
    ∙ sym (append_assoc c (narrowed_entries i r) (take old_entry_bytes (drop (100 * i) r)))
    ∙ ap (λ (t : List ℕ). (c ++ narrowed_entries i r) ++ take old_entry_bytes t) (drop-drop (100 * i) 100 b ∙ ap (λ (k : ℕ). drop k b) on)

narrowed_long : (i : ℕ) (b : List ℕ) → 100 * i ≤ length b → length (narrowed_entries i b) ≡ 50 * i
unfolding narrowed_entries
narrowed_long zero b l = refl
narrowed_long (suc i) b l =
    let r : List ℕ = drop most_entry_bytes b in
    let left : length r ≡ length b - 100 = length-drop most_entry_bytes b in
    let k : length (narrowed_entries i r) ≡ 50 * i = narrowed_long i r (omega arith) in
    let f : length (take old_entry_bytes b) ≡ 50 = length-take-le old_entry_bytes b (omega arith) in
    length-append (take old_entry_bytes b) (narrowed_entries i r) ∙ omega arith

module _ (b state : List ℕ) (ls : length state ≡ state_bytes) (lb : length b ≡ old_state_bytes) where
  abbrev wide : List ℕ
  wide = drop entries_from state

  wide_long : length wide ≡ 52000
  wide_long = length-drop entries_from state ∙ omega arith

  pub narrow_more : (s e : List ℕ) (i : ℕ) → i < 520 → s ≡ replaced b entries_from (narrowed_entries i wide)
      → e ≡ replaced s (236 + 50 * i) (take (236 + 100 * i + 50 - (236 + 100 * i)) (drop (236 + 100 * i) state))
      → e ≡ replaced b entries_from (narrowed_entries (i + 1) wide)
  narrow_more s e i less p q =
      let u : List ℕ = take old_entry_bytes (drop (100 * i) wide) in
      let whole : 236 + 100 * i + 50 - (236 + 100 * i) ≡ 50 = omega arith in
      let long : length (narrowed_entries i wide) ≡ 50 * i = narrowed_long i wide (omega (arith, wide_long)) in
      q
      ∙ ap (λ (k : ℕ). replaced s (236 + 50 * i) (take k (drop (236 + 100 * i) state))) whole
      ∙ ap (λ (t : List ℕ). replaced s (236 + 50 * i) (take 50 t)) (sym (drop-drop (100 * i) 236 state))
      ∙ ap (λ (t : List ℕ). replaced t (236 + 50 * i) u) p
      ∙ replaced_behind b 236 (236 + 50 * i) (narrowed_entries i wide) u (omega arith) (omega arith)
      ∙ ap (replaced b 236) (sym (narrowed_more i wide) ∙ ap (λ (k : ℕ). narrowed_entries k wide) (sym (add-one i)))

  pub narrow_whole : (s e : List ℕ) → s ≡ replaced b 0 (take 236 state) → e ≡ replaced s entries_from (narrowed_entries entry_count wide) → e ≡ narrowed_bytes state
  unfolding narrowed_bytes
  narrow_whole s e p q =
      let v : List ℕ = narrowed_entries entry_count wide in
      let front : length (take 236 state) ≡ 236 = length-take-le 236 state (omega arith) in
      let long : length v ≡ 26000 = narrowed_long 520 wide (omega (arith, wide_long)) in
      q
      ∙ ap (λ (t : List ℕ). replaced t 236 v) p
      ∙ replaced_behind b 0 236 (take 236 state) v (omega arith) (omega arith)
      ∙ replaced_whole b (take 236 state ++ v) (omega (arith, length-append (take 236 state) v))

-- 42

at_drop : (p k : ℕ) (l : List ℕ) → get_or (drop p l) k 0 ≡ get_or l (p + k) 0
at_drop zero k l = ap (λ (j : ℕ). get_or l j 0) (sym (zero-add k))
at_drop (suc p) k [] = refl
at_drop (suc p) k (x ∷ l) = at_drop p k l ∙ ap (λ (j : ℕ). get_or (x ∷ l) j 0) (sym (suc-add p k))

at_take : (n k : ℕ) (l : List ℕ) → k < n → get_or (take n l) k 0 ≡ get_or l k 0
at_take zero k l h = absurd (omega arith)
at_take (suc n) k [] h = refl
at_take (suc n) zero (x ∷ l) h = refl
at_take (suc n) (suc k) (x ∷ l) h = at_take n k l (le_of_suc-le-suc h)

-- the byte that is looked at
pub short_byte : (s : List ℕ) (i : ℕ) → eqb (get_or s (236 + 50 + 100 * i) 0) 0 ≡ short_check (take most_entry_bytes (drop (most_entry_bytes * i) (drop entries_from s)))
unfolding short_check
short_byte s i =
    let on : 236 + (100 * i + 50) ≡ 236 + 50 + 100 * i = omega arith in
    ap (λ (x : ℕ). eqb x 0)
    (sym
    (at_take 100 50 (drop (100 * i) (drop 236 s)) (omega arith)
    ∙ at_drop (100 * i) 50 (drop 236 s)
    ∙ at_drop 236 (100 * i + 50) s
    ∙ ap (λ (k : ℕ). get_or s k 0) on))
