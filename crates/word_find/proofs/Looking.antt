-- Looking words up: 21, 22, then 41.
-- Assumes nothing.
use Prim.Native.Nat.{ℕ, ◌≤◌, ◌<◌}
use mathlib.Core.Path.{◌≡◌, refl, sym, ◌∙◌}
use mathlib.Core.Bool.{true, false}
use mathlib.Core.List.{List}
use borrow.Author.Tests.{le-leb, lt-leb}
use lib.Dec.{leb}
use lib.ListN.{length}
use Rattle.macros.specs.Bounds.{most_line_bytes}
use Rattle.macros.specs.Refusals.LineRefusal.{line_too_long, bad_byte}
use Rattle.words.specs.Refusal.WordRefusal.{bad_pattern}
use Rattle.lines.specs.Feeding.{has_bad_byte}
use Rattle.words.specs.Word.{words_of}
use Rattle.words.specs.Pattern.{is_pattern}
use Rattle.words.specs.Look.{Looked, covered_of, found_of, look_up}
use Rattle.words.specs.Look.Looked.{refused_line, refused_pattern}
use Rattle.words.proofs.LookLaws.{told, told_by}

module _ (t p : List ℕ) where
  pub look_long : 1054 < length t → refused_line line_too_long ≡ look_up t p
  unfolding told
  look_long h = sym (told_by t p false (has_bad_byte t) (is_pattern p) (lt-leb (length t) most_line_bytes h) refl refl)

  module _ (h : length t ≤ 1054) where
    short : leb (length t) most_line_bytes ≡ true
    short = le-leb (length t) most_line_bytes h

    pub look_bad : has_bad_byte t ≡ true → refused_line bad_byte ≡ look_up t p
    unfolding told
    look_bad f = sym (told_by t p true true (is_pattern p) short f refl)

    pub look_form : has_bad_byte t ≡ false → is_pattern p ≡ false → refused_pattern bad_pattern ≡ look_up t p
    unfolding told
    look_form f g = sym (told_by t p true false false short f g)

    pub look_found : has_bad_byte t ≡ false → is_pattern p ≡ true → {x : Looked} → x ≡ found_of (covered_of p (words_of t)) → x ≡ look_up t p
    unfolding told
    look_found f g e = e ∙ sym (told_by t p true false true short f g)
