-- Different accepted tables have different forms.
use mathlib.Core.Path.{◌≡◌, refl, sym, ap, ◌∙◌}
use mathlib.Core.List.{List, [], ◌∷◌}
use Prim.Native.Nat.{ℕ, zero, suc, ◌-◌, ◌*◌, ◌≤◌}
use native.Mathlib.Omega.{arith}
use lib.Dec.{eqb}
use lib.ListN.{length, get_or, take, drop}
use Rattle.macros.specs.Bounds.{most_macros}
use Rattle.macros.specs.Macro.{Symbol, Macro, Table}
use Rattle.macros.specs.Macro.Symbol.{equal, less}
use Rattle.macros.specs.Accepted.{Spellable, Each}
use Rattle.macros.proofs.Laws.{each_spellable}
use Rattle.form_table.specs.Form.{slot_bytes, pattern_items, replacement_items, calls_items, symbol_code, slot, slots, form}
use Rattle.form_table.specs.FormLaws.{OneForm}
use Rattle.form_table.specs.Check.{two_at}
use Rattle.form_table.proofs.Basics.{clash}
use Rattle.form_table.proofs.Slots.{before_part, pattern_part, replacement_part, commands_part}
use Rattle.form_table.proofs.Slots.{before_at, pattern_at_lem, replacement_at, commands_at, symbol_at}
use Rattle.form_table.proofs.Tables.{filled, zero_first, first_slot, more_slots, first_used}
use Rattle.form_table.proofs.Decoded.{one_pattern, one_replacement, one_commands}

one_symbol : (x y : Symbol) → symbol_code x ≡ symbol_code y → x ≡ y
unfolding symbol_code
one_symbol equal equal e = refl
one_symbol equal less e = absurd (omega arith)
one_symbol less equal e = absurd (omega arith)
one_symbol less less e = refl

module _ (m k : Macro) (e : slot m ≡ slot k) where
  same_before : calls_items m.before ≡ calls_items k.before
  same_before =
      let l : length (calls_items m.before) ≡ length (calls_items k.before) = sym (before_at m) ∙ (ap (λ (s : List ℕ). two_at s 2) e ∙ before_at k) in
      sym (before_part m) ∙ rw (l, e) (before_part k)

  same_pattern : pattern_items m.pattern ≡ pattern_items k.pattern
  same_pattern =
      let b : length (calls_items m.before) ≡ length (calls_items k.before) = ap (λ (s : List ℕ). length s) same_before in
      let l : length (pattern_items m.pattern) ≡ length (pattern_items k.pattern) = sym (pattern_at_lem m) ∙ (ap (λ (s : List ℕ). two_at s 4) e ∙ pattern_at_lem k) in
      sym (pattern_part m) ∙ rw (b, l, e) (pattern_part k)

  same_replacement : replacement_items m.replacement ≡ replacement_items k.replacement
  same_replacement =
      let b : length (calls_items m.before) ≡ length (calls_items k.before) = ap (λ (s : List ℕ). length s) same_before in
      let p : length (pattern_items m.pattern) ≡ length (pattern_items k.pattern) = ap (λ (s : List ℕ). length s) same_pattern in
      let l : length (replacement_items m.replacement) ≡ length (replacement_items k.replacement) =
      sym (replacement_at m) ∙ (ap (λ (s : List ℕ). two_at s 6) e ∙ replacement_at k) in
      sym (replacement_part m) ∙ rw (b, p, l, e) (replacement_part k)

  same_commands : calls_items m.commands ≡ calls_items k.commands
  same_commands =
      let b : length (calls_items m.before) ≡ length (calls_items k.before) = ap (λ (s : List ℕ). length s) same_before in
      let p : length (pattern_items m.pattern) ≡ length (pattern_items k.pattern) = ap (λ (s : List ℕ). length s) same_pattern in
      let r : length (replacement_items m.replacement) ≡ length (replacement_items k.replacement) = ap (λ (s : List ℕ). length s) same_replacement in
      let l : length (calls_items m.commands) ≡ length (calls_items k.commands) = sym (commands_at m) ∙ (ap (λ (s : List ℕ). two_at s 8) e ∙ commands_at k) in
      sym (commands_part m) ∙ rw (b, p, r, l, e) (commands_part k)

  one_macro : Spellable m → Spellable k → m ≡ k
  one_macro f g =
      let b : m.before ≡ k.before = one_commands m.before k.before same_before in
      let p : m.pattern ≡ k.pattern = one_pattern m.pattern k.pattern f.0.pattern.pieces g.0.pattern.pieces same_pattern in
      let y : m.symbol ≡ k.symbol =
      one_symbol m.symbol k.symbol (sym (symbol_at m) ∙ (ap (λ (s : List ℕ). get_or s 0 0) e ∙ symbol_at k)) in
      let r : m.replacement ≡ k.replacement = one_replacement m.replacement k.replacement same_replacement in
      let c : m.commands ≡ k.commands = one_commands m.commands k.commands same_commands in
      λ i. record { before = b i; pattern = p i; symbol = y i; replacement = r i; commands = c i }

one_table : (n : ℕ) (ms ks : Table) → length ms ≤ n → length ks ≤ n → Each Spellable ms → Each Spellable ks → filled n ms ≡ filled n ks → ms ≡ ks
unfolding slots
one_table n [] [] h l f g e = refl
one_table zero [] (k ∷ ks) h l f g e = absurd (omega arith)
one_table zero (m ∷ ms) ks h l f g e = absurd (omega arith)
one_table (suc n) [] (k ∷ ks) h l f g e =
    clash (ap (λ (s : List ℕ). eqb (get_or s 0 0) 0) (sym e) ∙ zero_first (slot_bytes * (suc n - 0))) (first_used n k ks g.0)
one_table (suc n) (m ∷ ms) [] h l f g e =
    clash (ap (λ (s : List ℕ). eqb (get_or s 0 0) 0) e ∙ zero_first (slot_bytes * (suc n - 0))) (first_used n m ms f.0)
one_table (suc n) (m ∷ ms) (k ∷ ks) h l f g e =
    let p : slot m ≡ slot k = sym (first_slot n m ms f.0) ∙ (ap (λ (s : List ℕ). take slot_bytes s) e ∙ first_slot n k ks g.0) in
    let q : filled n ms ≡ filled n ks = sym (more_slots n m ms f.0) ∙ (ap (λ (s : List ℕ). drop slot_bytes s) e ∙ more_slots n k ks g.0) in
    let x : m ≡ k = one_macro m k p f.0 g.0 in
    let t : ms ≡ ks = one_table n ms ks (omega arith) (omega arith) f.1 g.1 q in
    cc

pub one_form : OneForm
unfolding form
one_form ms ks f g e = one_table most_macros ms ks f.count g.count (each_spellable f) (each_spellable g) e
