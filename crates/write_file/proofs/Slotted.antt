-- A slot holds the parts of its macro.
-- Assumes nothing.
use Prim.Native.Nat.{ℕ, ◌+◌, ◌-◌, ◌%◌, ◌≤◌}
use mathlib.Core.Path.{◌≡◌, refl, sym, ap, ◌∙◌}
use mathlib.Core.List.{List, [], ◌∷◌, ◌++◌, append_assoc, map}
use native.Mathlib.Omega.{arith}
use lib.ListN.{length, get_or, take, drop, length-append, length-drop}
use lib.Seq.{length-take-le}
use Rattle.macros.specs.Macro.{Member, Piece, Call, Symbol, Macro, pick}
use Rattle.macros.specs.Macro.Member.{single, range}
use Rattle.macros.specs.Macro.PatternUnit.{literal, kind, class, call_of}
use Rattle.macros.specs.Macro.Piece.{element, start, end, left, right}
use Rattle.macros.specs.Macro.Action.{call}
use Rattle.macros.specs.Macro.Symbol.{equal, less}
use Rattle.macros.specs.Formed.{Formed}
use Rattle.macros.specs.Write.{write_pattern, write_text, commands_bytes, symbol_sign, written}
use Rattle.form_table.specs.Check.{two_at, items_at}
use Rattle.form_table.specs.Form.{member_items, members_items, unit_rest, piece_items, pattern_items, calls_items, replacement_items, symbol_code, body}
use Rattle.form_table.specs.Form.{header_bytes, body_bytes, slot, slot_bytes}
use Rattle.write_actions.specs.Items.{actions_text, Whole}
use Rattle.write_file.specs.Slots.{before_end, pattern_end, replacement_end, commands_end, symbol_byte, part}
use Rattle.write_file.specs.Slots.{before_text, left_text, right_text, slot_text, Parts}
use Rattle.form_table.proofs.Sizes.{body_length}
use Rattle.form_table.proofs.Actions.{slot_length, calls_items_lem}
use Rattle.form_table.proofs.Slots.{before_part, pattern_part, replacement_part, commands_part}
use Rattle.form_table.proofs.Slots.{before_at, pattern_at_lem, replacement_at, commands_at, symbol_at}
use Rattle.write_file.proofs.Decoded.{pattern_kinds, pattern_text_lem, actions_text_lem, actions_whole, calls_text}

-- the items of a pattern are two bytes each
members_even : (ms : List Member) → length (members_items ms) % 2 ≡ 0
unfolding members_items member_items
members_even [] = refl
members_even (single c ∷ ms) = let x = members_even ms in omega arith
members_even (range a z ∷ ms) = let x = members_even ms in omega arith

piece_even : (p : Piece) → length (piece_items p) % 2 ≡ 0
unfolding piece_items unit_rest
piece_even (element (literal b) c) = refl
piece_even (element (kind n) c) = refl
piece_even (element (class neg ms) c) = let x = members_even ms in omega arith
piece_even (element (call_of m i) c) = refl
piece_even start = refl
piece_even end = refl
piece_even left = refl
piece_even right = refl

pattern_even : (ps : List Piece) → length (pattern_items ps) % 2 ≡ 0
unfolding pattern_items
pattern_even [] = refl
pattern_even (p ∷ ps) = let a = length-append (piece_items p) (pattern_items ps) in let x = piece_even p in let y = pattern_even ps in omega arith

-- a part that begins and ends where items do
part_items : (s : List ℕ) (a e n k : ℕ) → a ≡ header_bytes + n → e ≡ a + k → part a e s ≡ items_at s n k
unfolding part items_at
part_items s a e n k p q = let l : e - a ≡ k = omega arith in rw (l, p)

sign : (s : Symbol) → symbol_byte (symbol_code s) ≡ symbol_sign s
unfolding symbol_byte symbol_code symbol_sign pick
sign equal = refl
sign less = refl

-- calls are written as the actions that they are
calls_written : (cs : List Call) → actions_text 0 (calls_items cs) ≡ commands_bytes write_text cs
calls_written cs = rw (calls_items_lem cs) (actions_text_lem (map call cs) ∙ sym (calls_text cs))

calls_whole : (cs : List Call) → Whole (calls_items cs)
calls_whole cs = rw (calls_items_lem cs) (actions_whole (map call cs))

module _ (m : Macro) where
  abbrev B : List ℕ
  B = calls_items m.before

  abbrev P : List ℕ
  P = pattern_items m.pattern

  abbrev R : List ℕ
  R = replacement_items m.replacement

  abbrev C : List ℕ
  C = calls_items m.commands

  slot_before : part header_bytes (before_end (slot m)) (slot m) ≡ B
  unfolding before_end
  slot_before =
      part_items (slot m) header_bytes (header_bytes + two_at (slot m) 2) 0 (length B) refl (omega (arith, before_at m)) ∙ before_part m

  slot_pattern : part (before_end (slot m)) (pattern_end (slot m)) (slot m) ≡ P
  unfolding before_end pattern_end
  slot_pattern =
      part_items (slot m) (before_end (slot m)) (pattern_end (slot m)) (length B) (length P) (omega (arith, before_at m)) (omega (arith, pattern_at_lem m))
      ∙ pattern_part m

  slot_replacement : part (pattern_end (slot m)) (replacement_end (slot m)) (slot m) ≡ R
  unfolding before_end pattern_end replacement_end
  slot_replacement =
      part_items (slot m) (pattern_end (slot m)) (replacement_end (slot m)) (length B + length P) (length R) (omega (arith, before_at m, pattern_at_lem m))
      (omega (arith, replacement_at m))
      ∙ replacement_part m

  slot_commands : part (replacement_end (slot m)) (commands_end (slot m)) (slot m) ≡ C
  unfolding before_end pattern_end replacement_end commands_end
  slot_commands =
      part_items (slot m) (replacement_end (slot m)) (commands_end (slot m)) (length B + length P + length R) (length C)
      (omega (arith, before_at m, pattern_at_lem m, replacement_at m)) (omega (arith, commands_at m))
      ∙ commands_part m

  ends_within : length (body m) ≤ body_bytes → commands_end (slot m) ≤ slot_bytes
  unfolding before_end pattern_end replacement_end commands_end
  ends_within h = omega (arith, body_length m, before_at m, pattern_at_lem m, replacement_at m, commands_at m)

  symbol_text : symbol_byte (get_or (slot m) 0 0) ≡ symbol_sign m.symbol
  symbol_text = rw (symbol_at m) (sign m.symbol)

  pub slot_text_lem : Formed m → slot_text (slot m) ≡ written m
  unfolding slot_text before_text left_text right_text written
  slot_text_lem f =
      rw (
        slot_before,
        slot_pattern,
        slot_replacement,
        slot_commands,
        symbol_text,
        calls_written m.before,
        calls_written m.commands,
        pattern_text_lem m.pattern (pattern_kinds m.pattern f.pattern.pieces) 0,
        actions_text_lem,
      )
      (ap (λ (l : List ℕ). commands_bytes write_text m.before ++ l) (append_assoc (39 ∷ write_pattern m.pattern) (39 ∷ symbol_sign m.symbol ∷ []) _))

  pub slot_parts : length (body m) ≤ body_bytes → Parts (slot m)
  slot_parts h =
      record {
        size = slot_length m h;
        fits = ends_within h;
        even = rw (pattern_at_lem m) (pattern_even m.pattern);
        before = rw slot_before (calls_whole m.before);
        replacement = rw slot_replacement (actions_whole m.replacement);
        commands = rw slot_commands (calls_whole m.commands);
      }

-- the parts end one behind the other, within the slot
pub record Ordered (s : List ℕ) : Type 0 where
  pub before : header_bytes ≤ before_end s
  pub pattern : pattern_end s ≡ before_end s + two_at s 4
  pub replacement : replacement_end s ≡ pattern_end s + two_at s 6
  pub commands : commands_end s ≡ replacement_end s + two_at s 8
  pub last : commands_end s ≤ length s
  pub size : length s ≡ slot_bytes

pub ordered : (s : List ℕ) → Parts s → Ordered s
unfolding before_end pattern_end replacement_end commands_end
ordered s h =
    record { before = omega arith; pattern = refl; replacement = refl; commands = refl; last = omega (arith, h.fits, h.size); size = h.size }

-- what the code takes for the parts of a slot
module _ (s : List ℕ) where
  pub part_here : {a e i j : ℕ} → a ≡ i → e ≡ j → take (e - a) (drop a s) ≡ part i j s
  unfolding part
  part_here p q = rw (p, q)

  module _ {a y : ℕ} (p : a ≡ pattern_end s) (q : y ≡ two_at s 6) where
    pub replacement_here : take (a + y - a) (drop a s) ≡ part (pattern_end s) (replacement_end s) s
    unfolding part replacement_end
    replacement_here = rw (p, q)

    pub commands_here : {z : ℕ} → z ≡ two_at s 8 → take (a + y + z - (a + y)) (drop (a + y) s) ≡ part (replacement_end s) (commands_end s) s
    unfolding part replacement_end commands_end
    commands_here r = rw (p, q, r)

  pub pattern_fits : {a e : ℕ} → a ≡ before_end s → e ≡ pattern_end s → Parts s
      → (length (take (e - a) (drop a s)) % 2 ≡ 0) × (length (take (e - a) (drop a s)) ≤ slot_bytes)
  pattern_fits {a} {e} p q h =
      let o = ordered s h in
      let l : length (take (e - a) (drop a s)) ≡ e - a =
      length-take-le (e - a) (drop a s) (omega (arith, length-drop a s, o.pattern, o.replacement, o.commands, o.last)) in
      omega (arith, l, h.even, o.pattern, o.replacement, o.commands, o.last, o.size)
