-- 01, "Songs tried": the M cases, computed from quoted file, line and budget to the answer. In a string `\\` is one `\`.
use Rattle.std.specs.Prelude.{◌≡◌, refl, [], ◌∷◌}
use Rattle.lines.specs.Cases.{everything, says, refused, song}

M4 : song "'int'='integer';" 262 "print" ≡ refused 31 0 262 ∷ []
unfolding everything
M4 = refl

M5 : song "'int'='integer';" 263 "print" ≡ refused 32 0 263 ∷ []
unfolding everything
M5 = refl

-- M1 to M13
pub M-cases :
    (song "'@{-*-?6*\\/?6*}'='o{1}';" 10000 "@-1/4" ≡ says "o-1/4" 2 ∷ []) ×
    (song "'@{-*-?6*\\/?6*}'='o{1}';" 10000 "@1/4" ≡ says "o1/4" 2 ∷ []) ×
    (song "'ab'<'abc';" 10000 "ababab" ≡ says "abcabcabc" 1 ∷ []) ×
    (song "'int'='integer';" 262 "print" ≡ refused 31 0 262 ∷ []) ×
    (song "'int'='integer';" 263 "print" ≡ refused 32 0 263 ∷ []) ×
    (song "'?1*{[0-9]*}'<'{1}';" 10000 "Mozart's 38th symphony" ≡ says "8th symphony" 1 ∷ []) ×
    (song "'a*-'<'X';" 10000 "baac" ≡ says "XbXcX" 1 ∷ []) ×
    (song "'^'<'*';" 10000 "" ≡ says "*" 1 ∷ []) ×
    (song "'a'='b';'a'='c';" 10000 "a" ≡ says "c" 3 ∷ []) ×
    (song "'more &(a)*s'<'ok';" 10000 "more s" ≡ says "ok" 1 ∷ []) ×
    (song "'a**'='b';" 10000 "" ≡ refused 14 3 0 ∷ []) ×
    (song "'[z-a]'='b';" 10000 "" ≡ refused 13 4 0 ∷ []) ×
    (song "'a'='{2}';" 10000 "" ≡ refused 16 7 0 ∷ [])
unfolding everything
M-cases = (refl, refl, refl, M4, M5, refl, refl, refl, refl, refl, refl, refl, refl)
