-- N3, a second time: the letters beyond ASCII by their names in ISO 8859-1, held against the ranges of Kind.antt.
use Rattle.std.specs.Prelude.{◌≡◌, refl, ℕ, zero, suc, Bool, true, false, ◌||◌, List, [], ◌∷◌, eqb, length}
use Prim.Native.String.{String}
use Prim.Native.String as Str
use Prim.Native.Char.{code}
use Rattle.kinds.specs.Kind.{kind_of}

-- the names of bytes 160 to 255, in order; 128 to 159 have none
abbrev pub names : List String
names =
    "NO-BREAK SPACE" ∷
    "INVERTED EXCLAMATION MARK" ∷
    "CENT SIGN" ∷
    "POUND SIGN" ∷
    "CURRENCY SIGN" ∷
    "YEN SIGN" ∷
    "BROKEN BAR" ∷
    "SECTION SIGN" ∷
    "DIAERESIS" ∷
    "COPYRIGHT SIGN" ∷
    "FEMININE ORDINAL INDICATOR" ∷
    "LEFT-POINTING DOUBLE ANGLE QUOTATION MARK" ∷
    "NOT SIGN" ∷
    "SOFT HYPHEN" ∷
    "REGISTERED SIGN" ∷
    "MACRON" ∷
    "DEGREE SIGN" ∷
    "PLUS-MINUS SIGN" ∷
    "SUPERSCRIPT TWO" ∷
    "SUPERSCRIPT THREE" ∷
    "ACUTE ACCENT" ∷
    "MICRO SIGN" ∷
    "PILCROW SIGN" ∷
    "MIDDLE DOT" ∷
    "CEDILLA" ∷
    "SUPERSCRIPT ONE" ∷
    "MASCULINE ORDINAL INDICATOR" ∷
    "RIGHT-POINTING DOUBLE ANGLE QUOTATION MARK" ∷
    "VULGAR FRACTION ONE QUARTER" ∷
    "VULGAR FRACTION ONE HALF" ∷
    "VULGAR FRACTION THREE QUARTERS" ∷
    "INVERTED QUESTION MARK" ∷
    "LATIN CAPITAL LETTER A WITH GRAVE" ∷
    "LATIN CAPITAL LETTER A WITH ACUTE" ∷
    "LATIN CAPITAL LETTER A WITH CIRCUMFLEX" ∷
    "LATIN CAPITAL LETTER A WITH TILDE" ∷
    "LATIN CAPITAL LETTER A WITH DIAERESIS" ∷
    "LATIN CAPITAL LETTER A WITH RING ABOVE" ∷
    "LATIN CAPITAL LETTER AE" ∷
    "LATIN CAPITAL LETTER C WITH CEDILLA" ∷
    "LATIN CAPITAL LETTER E WITH GRAVE" ∷
    "LATIN CAPITAL LETTER E WITH ACUTE" ∷
    "LATIN CAPITAL LETTER E WITH CIRCUMFLEX" ∷
    "LATIN CAPITAL LETTER E WITH DIAERESIS" ∷
    "LATIN CAPITAL LETTER I WITH GRAVE" ∷
    "LATIN CAPITAL LETTER I WITH ACUTE" ∷
    "LATIN CAPITAL LETTER I WITH CIRCUMFLEX" ∷
    "LATIN CAPITAL LETTER I WITH DIAERESIS" ∷
    "LATIN CAPITAL LETTER ETH" ∷
    "LATIN CAPITAL LETTER N WITH TILDE" ∷
    "LATIN CAPITAL LETTER O WITH GRAVE" ∷
    "LATIN CAPITAL LETTER O WITH ACUTE" ∷
    "LATIN CAPITAL LETTER O WITH CIRCUMFLEX" ∷
    "LATIN CAPITAL LETTER O WITH TILDE" ∷
    "LATIN CAPITAL LETTER O WITH DIAERESIS" ∷
    "MULTIPLICATION SIGN" ∷
    "LATIN CAPITAL LETTER O WITH STROKE" ∷
    "LATIN CAPITAL LETTER U WITH GRAVE" ∷
    "LATIN CAPITAL LETTER U WITH ACUTE" ∷
    "LATIN CAPITAL LETTER U WITH CIRCUMFLEX" ∷
    "LATIN CAPITAL LETTER U WITH DIAERESIS" ∷
    "LATIN CAPITAL LETTER Y WITH ACUTE" ∷
    "LATIN CAPITAL LETTER THORN" ∷
    "LATIN SMALL LETTER SHARP S" ∷
    "LATIN SMALL LETTER A WITH GRAVE" ∷
    "LATIN SMALL LETTER A WITH ACUTE" ∷
    "LATIN SMALL LETTER A WITH CIRCUMFLEX" ∷
    "LATIN SMALL LETTER A WITH TILDE" ∷
    "LATIN SMALL LETTER A WITH DIAERESIS" ∷
    "LATIN SMALL LETTER A WITH RING ABOVE" ∷
    "LATIN SMALL LETTER AE" ∷
    "LATIN SMALL LETTER C WITH CEDILLA" ∷
    "LATIN SMALL LETTER E WITH GRAVE" ∷
    "LATIN SMALL LETTER E WITH ACUTE" ∷
    "LATIN SMALL LETTER E WITH CIRCUMFLEX" ∷
    "LATIN SMALL LETTER E WITH DIAERESIS" ∷
    "LATIN SMALL LETTER I WITH GRAVE" ∷
    "LATIN SMALL LETTER I WITH ACUTE" ∷
    "LATIN SMALL LETTER I WITH CIRCUMFLEX" ∷
    "LATIN SMALL LETTER I WITH DIAERESIS" ∷
    "LATIN SMALL LETTER ETH" ∷
    "LATIN SMALL LETTER N WITH TILDE" ∷
    "LATIN SMALL LETTER O WITH GRAVE" ∷
    "LATIN SMALL LETTER O WITH ACUTE" ∷
    "LATIN SMALL LETTER O WITH CIRCUMFLEX" ∷
    "LATIN SMALL LETTER O WITH TILDE" ∷
    "LATIN SMALL LETTER O WITH DIAERESIS" ∷
    "DIVISION SIGN" ∷
    "LATIN SMALL LETTER O WITH STROKE" ∷
    "LATIN SMALL LETTER U WITH GRAVE" ∷
    "LATIN SMALL LETTER U WITH ACUTE" ∷
    "LATIN SMALL LETTER U WITH CIRCUMFLEX" ∷
    "LATIN SMALL LETTER U WITH DIAERESIS" ∷
    "LATIN SMALL LETTER Y WITH ACUTE" ∷
    "LATIN SMALL LETTER THORN" ∷
    "LATIN SMALL LETTER Y WITH DIAERESIS" ∷
    []

-- the name begins with these words
abbrev pub begins_with : String → String → Bool
begins_with Str.[] s = true
begins_with (Str.◌∷◌ c cs) Str.[] = false
begins_with (Str.◌∷◌ c cs) (Str.◌∷◌ d ds) = elim (eqb (code c) (code d)) [ true ↦ begins_with cs ds | false ↦ false ]

-- the name is that of an upper case letter
abbrev pub capital : String → Bool
capital = begins_with "LATIN CAPITAL LETTER "

-- the name is that of a lower case letter
abbrev pub small : String → Bool
small = begins_with "LATIN SMALL LETTER "

-- the bytes, counted from b, whose names pass the test
abbrev pub named : (String → Bool) → ℕ → List String → List ℕ
named f b [] = []
named f b (n ∷ ns) = elim (f n) [ true ↦ b ∷ named f (suc b) ns | false ↦ named f (suc b) ns ]

-- the bytes of kind n among k bytes, from b on
abbrev pub of_kind : ℕ → ℕ → ℕ → List ℕ
of_kind n zero b = []
of_kind n (suc k) b = elim (kind_of n b) [ true ↦ b ∷ of_kind n k (suc b) | false ↦ of_kind n k (suc b) ]

-- of bytes 128 to 255 those named letters are of kinds 2 and 3, the 30 capital ones of kind 4, the 32 small ones of kind 5,
-- and none of kind 6
pub by_name :
    (of_kind 2 128 128 ≡ named (λ s. capital s || small s) 160 names) ×
    (of_kind 3 128 128 ≡ named (λ s. capital s || small s) 160 names) ×
    (of_kind 4 128 128 ≡ named capital 160 names) ×
    (of_kind 5 128 128 ≡ named small 160 names) ×
    (of_kind 6 128 128 ≡ []) ×
    (length (named capital 160 names) ≡ 30) ×
    (length (named small 160 names) ≡ 32)
unfolding kind_of
by_name = (refl, refl, refl, refl, refl, refl, refl)
