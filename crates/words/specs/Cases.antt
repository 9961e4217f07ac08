-- Cases of N5, computed from quoted line and pattern.
use Rattle.std.specs.Prelude.{◌≡◌, refl, ℕ, List, [], ◌∷◌, replicate}
use Prim.Native.String.{String}
use Rattle.kinds.specs.Kind.{kind_of}
use Rattle.macros.specs.Cases.{everything as macros_open}
use Rattle.lines.specs.Feeding.{bytes, has_bad_byte}
use Rattle.words.specs.Refusal.{word_number}
use Rattle.words.specs.Word.{leading, begun, words_from, words_of}
use Rattle.words.specs.Pattern.{is_empty, all_allowed, begins_with_dash, two_dashes, is_pattern}
use Rattle.words.specs.Cover.{somewhere, byte_then, covers}
use Rattle.words.specs.Look.{covered_of, first_place, found_of, look_up, looked_number, looked_words, looked_place}

-- the names that open the definitions of words for a computed case
unfoldable pub words_open : ℕ
unfolding macros_open kind_of word_number has_bad_byte leading begun words_from words_of
words_open = 0

-- those of word-patterns and covering
unfoldable pub covers_open : ℕ
unfolding is_empty all_allowed begins_with_dash two_dashes is_pattern somewhere byte_then covers
covers_open = 0

-- all of them
unfoldable pub everything : ℕ
unfolding words_open covers_open covered_of first_place found_of look_up looked_number looked_words looked_place
everything = 0

-- number, words covered, place of the first
abbrev pub answer : List ℕ → List ℕ → ℕ × ℕ × ℕ
answer t p = (looked_number (look_up t p), looked_words (look_up t p), looked_place (look_up t p))

-- the same, of a quoted pattern and a quoted line
abbrev pub looked : String → String → ℕ × ℕ × ℕ
looked p t = answer (bytes t) (bytes p)

-- "`CA-T` covers CAT, CART and CATARACT but not SCAT or CATS; `D-G` covers DIGGING"
pub coverings :
    (looked "CA-T" "CAT CART CATARACT SCAT CATS" ≡ (0, 3, 0)) ×
    (looked "CA-T" "SCAT, CATS" ≡ (0, 0, 0)) ×
    (looked "CA-T" "SCAT; CATARACT" ≡ (0, 1, 6)) ×
    (looked "D-G" "not D or G but DIGGING" ≡ (0, 1, 15)) ×
    (looked "-ABC" "ABABC" ≡ (0, 1, 0)) ×
    (looked "A-A" "A AA ABA" ≡ (0, 2, 2)) ×
    (looked "-A-B-" "BA AB B1A2B3 A1B BBA" ≡ (0, 3, 3)) ×
    (looked "-A-A-A-B" "AAAAAAAAAA" ≡ (0, 0, 0)) ×
    (looked "-" "a 1 ... é" ≡ (0, 3, 0)) ×
    (looked "-" " .:" ≡ (0, 0, 0)) ×
    (looked "A" "a B2A A2" ≡ (0, 0, 0)) ×
    (looked "B-" "a B2A A2 B" ≡ (0, 2, 2)) ×
    (looked "ét-" "L'été, étant; ete" ≡ (0, 2, 2)) ×
    (looked "gr-ße" "Süße grüße" ≡ (0, 1, 5)) ×
    (looked "A" "" ≡ (0, 0, 0))
unfolding everything
coverings = (refl, refl, refl, refl, refl, refl, refl, refl, refl, refl, refl, refl, refl, refl, refl)

-- the SCAN manual's own: of 3.2 the dashes at an end and the patterns of statements 20 and 40, of 5.3 the words of a sentence
pub manual_cases :
    (looked "CA-T-" "SCAT CAT CATS CARTHORSE" ≡ (0, 3, 5)) ×
    (looked "-CA-T-" "CAT CATS CARTHORSE SCAT LMNCAPQR123T789" ≡ (0, 5, 0)) ×
    (looked "UNIVERSIT-" "COLLEGE UNIVERSITY UNIVERSE" ≡ (0, 1, 8)) ×
    (looked "-S-" "ONE WORD HAS IT" ≡ (0, 1, 9)) ×
    (looked "-" "\"IT'S EX-ARMY\", SAID J.SMITH." ≡ (0, 7, 1)) ×
    (looked "ARMY" "\"IT'S EX-ARMY\", SAID J.SMITH." ≡ (0, 1, 9)) ×
    (looked "EX-ARMY" "\"IT'S EX-ARMY\", SAID J.SMITH." ≡ (0, 0, 0))
unfolding everything
manual_cases = (refl, refl, refl, refl, refl, refl, refl)

-- 41, after 21 and 22
pub look_refusals :
    (looked "" "A" ≡ (41, 0, 0)) ×
    (looked "A B" "A" ≡ (41, 0, 0)) ×
    (looked "A×" "A" ≡ (41, 0, 0)) ×
    (looked "A--B" "AB" ≡ (41, 0, 0)) ×
    (looked "--" "AB" ≡ (41, 0, 0)) ×
    (looked "-A-" "AB" ≡ (0, 1, 0)) ×
    (answer (65 ∷ 10 ∷ []) [] ≡ (22, 0, 0)) ×
    (answer (replicate 1054 10) [] ≡ (22, 0, 0)) ×
    (answer (replicate 1055 10) [] ≡ (21, 0, 0))
unfolding everything
look_refusals = (refl, refl, refl, refl, refl, refl, refl, refl, refl)
