-- Cases of N11, computed: a file beside what is kept of it and its faults. In a string `\\` is one `\`.
use Rattle.std.specs.Prelude.{◌≡◌, refl, ℕ, zero, suc, List, [], ◌∷◌, ◌++◌, length, replicate}
use Rattle.std.proofs.Math.Option.{none, some}
use Prim.Native.String.{String}
use Rattle.macros.specs.Refusals.{file_number}
use Rattle.macros.specs.Write.{Written, write_out}
use Rattle.macros.specs.Write.Written.{refused as not_written, file}
use Rattle.macros.specs.Cases.{everything as macros_open, bytes, stretched as around}
use Rattle.faults.specs.Refusal.{recover_number, recover_place}
use Rattle.faults.specs.Recover.{Fault, Recovered, is_fault, whole_macros, at_file_end, stretch, behind_first}
use Rattle.faults.specs.Recover.{with_fault, resumed, after_stretch, recover_from, recover}
use Rattle.faults.specs.Recover.Fault.{fault_at}
use Rattle.faults.specs.Recover.Recovered.{kept, refused}

-- opens what reads to the first refusal
unfoldable pub opens_stretch : ℕ
unfolding recover_number recover_place is_fault whole_macros at_file_end stretch
opens_stretch = 0

-- opens all definitions, for a computed case
unfoldable pub everything : ℕ
unfolding macros_open opens_stretch behind_first with_fault resumed after_stretch recover_from recover
everything = 0

-- WHAT A CASE IS MADE OF

-- number and place of each fault
abbrev pub pairs : List Fault → List (ℕ × ℕ)
pairs [] = []
pairs (fault_at r p ∷ fs) = (file_number r, p) ∷ pairs fs

-- a table written out
abbrev pub text : Written → List ℕ
text (file s) = s
text (not_written r p) = []

-- number and place of a refusal, the kept table written out, and the faults
abbrev pub Outcome : Type 0
Outcome = ℕ × ℕ × List ℕ × List (ℕ × ℕ)

abbrev pub outcome : Recovered → Outcome
outcome (kept ms fs) = (0, 0, text (write_out ms), pairs fs)
outcome (refused r) = (recover_number r, recover_place r, [], [])

infix 30 ◌keeps◌past◌
-- a file beside what it comes to
pub data Case : Type 0 where
  -- the macros kept, written out as t, past these faults
  ◌keeps◌past◌ : (s t : String) → List (ℕ × ℕ) → Case

abbrev pub computed : Case → Outcome
computed (s keeps t past fs) = outcome (recover (bytes s))

abbrev pub claimed : Case → Outcome
claimed (s keeps t past fs) = (0, 0, bytes t, fs)

abbrev pub each : (Case → Outcome) → List Case → List Outcome
each f [] = []
each f (c ∷ cs) = f c ∷ each f cs

-- every case of the list comes out as claimed
abbrev pub Hold : List Case → Type 0
Hold cs = each computed cs ≡ each claimed cs

-- n copies of some bytes
abbrev times : ℕ → List ℕ → List ℕ
times zero s = []
times (suc n) s = s ++ times n s

infix 30 ◌macros◌faults
infix 30 refusal◌at◌
-- what a file comes to, in numbers
pub data Tally : Type 0 where
  -- n macros are kept past k faults
  ◌macros◌faults : (n k : ℕ) → Tally
  -- the refusal n at place p
  refusal◌at◌ : (n p : ℕ) → Tally

abbrev pub tally : List ℕ → Tally
tally s =
    elim (recover s) [
      | kept ms fs ↦ (length ms) macros (length fs) faults
      | refused r ↦ refusal (recover_number r) at (recover_place r)
    ]

-- CASES

-- a quote missing in the middle
pub lost_quotes : Hold (
    ("'a'='b';'c='d';'e'='f';" keeps "'a'='b';\n'e'='f';\n" past ((12, 13) ∷ []))
    ∷ ("'a'='b';'c'='d;'e'='f';'g'='h';" keeps "'a'='b';\n'e'='f';\n'g'='h';\n" past ((12, 14) ∷ []))
    ∷ ("'a'='b\n;'c'='d';" keeps "'c'='d';\n" past ((12, 6) ∷ []))
    ∷ ("'a'='b';'c'='d';'e**'='';'f'='g';" keeps "'a'='b';\n'c'='d';\n'f'='g';\n" past ((14, 19) ∷ []))
    ∷ ("'a**}}'='{9}';'c'='d';" keeps "'c'='d';\n" past ((14, 3) ∷ [])) ∷ [])
unfolding everything
lost_quotes = refl

-- "A file that reading accepts gives its own table and no faults."
pub accepted : Hold (
    ("" keeps "" past [])
    ∷ ("'a'='b';x'c'<'d';" keeps "'a'='b';\n'c'<'d';\n" past [])
    ∷ ("no; macro" keeps "" past []) ∷ [])
unfolding everything
accepted = refl

-- 12 to 18, each with a macro before it and one behind it
pub every_number : Hold (
    ("'p'='';'a';'q'='';" keeps "'p'='';\n'q'='';\n" past ((12, 10) ∷ []))
    ∷ ("'p'='';'[z-a]'='';'q'='';" keeps "'p'='';\n'q'='';\n" past ((13, 11) ∷ []))
    ∷ ("'p'='';'a**'='';'q'='';" keeps "'p'='';\n'q'='';\n" past ((14, 10) ∷ []))
    ∷ ("'p'='';'{a'='';'q'='';" keeps "'p'='';\n'q'='';\n" past ((15, 10) ∷ []))
    ∷ ("'p'='';'a'='{2}';'q'='';" keeps "'p'='';\n'q'='';\n" past ((16, 14) ∷ []))
    ∷ ("'p'='';''='';'q'='';" keeps "'p'='';\n'q'='';\n" past ((17, 8) ∷ []))
    ∷ ("'a';'q'='';'[z-a]'='';'q'='';'a**'='';'q'='';'{a'='';'q'='';'a'='{2}';'q'='';''='';'q'='';"
    keeps "'q'='';\n'q'='';\n'q'='';\n'q'='';\n'q'='';\n'q'='';\n"
    past ((12, 3) ∷ (13, 15) ∷ (14, 32) ∷ (15, 48) ∷ (16, 67) ∷ (17, 78) ∷ []))
    ∷ [])
unfolding everything
every_number = refl

-- 18: from the 513th byte on the first `;` is looked for, and it is that byte itself where the macro's own `;` is its 513th
pub too_long :
    (outcome (recover (around "'a'='" 600 "x" "';'q'='';")) ≡ (0, 0, bytes "'q'='';\n", (18, 512) ∷ [])) ×
    (outcome (recover (around "'a'='" 506 "x" "';'c'='d';")) ≡ (0, 0, bytes "'c'='d';\n", (18, 512) ∷ [])) ×
    (outcome (recover (around "#(v=1)'a'='" 500 "x" "';'c'='d';")) ≡ (0, 0, bytes "'c'='d';\n", (18, 512) ∷ [])) ×
    (outcome (recover (around "'a/" 600 ";" "/'='b';'c'='d';")) ≡ (0, 0, bytes "", (18, 512) ∷ (12, 618) ∷ []))
unfolding everything
too_long = (refl, refl, refl, refl)

-- at the 513th byte a lower number comes before 18
pub lowest_number :
    (outcome (recover (around "'a'='" 507 "x" ";'c'='d';")) ≡ (0, 0, bytes "'c'='d';\n", (12, 512) ∷ [])) ×
    (outcome (recover (around "#(v=1)" 506 "x" ";'c'='d';")) ≡ (0, 0, bytes "'c'='d';\n", (12, 512) ∷ [])) ×
    (outcome (recover (around "&/" 508 "x" "/()'a'='b';'c'='d';")) ≡ (0, 0, bytes "'c'='d';\n", (16, 512) ∷ []))
unfolding everything
lowest_number = (refl, refl, refl)

-- calls before a pattern (02, N2): a fault in them, or a `;` or the file's end behind them, leaves out their macro
pub calls_before : Hold (
    ("#(v=1);'a'='b';" keeps "'a'='b';\n" past ((12, 6) ∷ []))
    ∷ ("'q'='';see #(2) 'a'='b';'c'='d';" keeps "'q'='';\n'c'='d';\n" past ((16, 13) ∷ []))
    ∷ ("#(v=1)'a'='b';'c='d';#(w=2)'e'='f';" keeps "#(v=1)'a'='b';\n#(w=2)'e'='f';\n" past ((12, 19) ∷ []))
    ∷ ("'a'='b';#(v=1)'c**';x;&(s=2)'d'='';" keeps "'a'='b';\n&(s=2)'d'='';\n" past ((14, 17) ∷ []))
    ∷ ("'a;#(v=1);'b;&(s=2);'c'='d';" keeps "'c'='d';\n" past ((12, 2) ∷ (12, 9) ∷ (12, 12) ∷ (12, 19) ∷ []))
    ∷ ("'a'='b'; see #(v=1)" keeps "'a'='b';\n" past ((12, 19) ∷ []))
    ∷ ("'a'='b';&/x;" keeps "'a'='b';\n" past ((12, 12) ∷ []))
    ∷ ("'a**';&;#;(s=2)'a'='b';" keeps "'a'='b';\n" past ((14, 3) ∷ [])) ∷ [])
unfolding everything
calls_before = refl

-- 18 of a call whose sign holds a skip is known at the `(`; the first `;` is looked for from the 513th byte on, so inside that skip
pub long_signs :
    (outcome (recover (around "&/" 600 "x" "/(s=2)'a'='b';'c'='d';")) ≡ (0, 0, bytes "'c'='d';\n", (18, 512) ∷ [])) ×
    (outcome (recover (around "&/" 600 ";" "/(s=2)'a'='b';'c'='d';")) ≡ (0, 0, bytes "", (18, 512) ∷ (12, 624) ∷ [])) ×
    (outcome (recover (around "&/" 600 ";" "/(s=2)'a'='b';/'c'='d';")) ≡ (0, 0, bytes "'c'='d';\n", (18, 512) ∷ [])) ×
    (outcome (recover (around "'a'='';&/" 600 "x" "/(s=2)'a'='b';")) ≡ (0, 0, bytes "'a'='';\n", (18, 519) ∷ [])) ×
    (outcome (recover (around "&/" 509 "x" "/(s=2)'a'='b';'c'='d';")) ≡ (0, 0, bytes "'c'='d';\n", (18, 512) ∷ []))
unfolding everything
long_signs = (refl, refl, refl, refl, refl)

-- the place behind the first `;` of the bytes from place 3 on; a file's answer cannot show it, since a `;` before a pattern is ignored
pub resuming_places :
    (behind_first 3 (bytes ";'c'='d';") ≡ some 4) ×
    (behind_first 3 (bytes "**\\;x;") ≡ some 7) ×
    (behind_first 3 (bytes "**'") ≡ none)
unfolding everything
resuming_places = (refl, refl, refl)

-- "the first `;` at or after that byte, be it escaped or in a skip": behind it all is read afresh
pub resuming : Hold (
    ("'a';'c'='d';" keeps "'c'='d';\n" past ((12, 3) ∷ []))
    ∷ ("'a**/;/'='y';'c'='d';" keeps "" past ((14, 3) ∷ (12, 21) ∷ []))
    ∷ ("'a**\\;'='b';'c'='d';" keeps "'c'='d';\n" past ((14, 3) ∷ (12, 10) ∷ []))
    ∷ ("'a**'/x;x/='b';'c'='d';" keeps "" past ((14, 3) ∷ (12, 23) ∷ []))
    ∷ ("'a**[\\;]'='b';'c'='d';" keeps "'c'='d';\n" past ((14, 3) ∷ (12, 12) ∷ []))
    ∷ ("'a**;x;y'c'='d';" keeps "'c'='d';\n" past ((14, 3) ∷ []))
    ∷ ("'a**';/x/'c'='d';" keeps "'c'='d';\n" past ((14, 3) ∷ []))
    ∷ ("'a';'b'='c';'d'='e';" keeps "'b'='c';\n'd'='e';\n" past ((12, 3) ∷ [])) ∷ [])
unfolding everything
resuming = refl

-- "If there is none, it ends."; a fault at the file's end has the length as its place; an open skip holds all
pub file_ends : Hold (
    ("'a'='b';'c**'='d'" keeps "'a'='b';\n" past ((14, 11) ∷ []))
    ∷ ("'a'='b';'c'" keeps "'a'='b';\n" past ((12, 11) ∷ []))
    ∷ ("'a'='b';'" keeps "'a'='b';\n" past ((12, 9) ∷ []))
    ∷ ("'a'='b';/'c'='d';" keeps "'a'='b';\n" past ((12, 17) ∷ []))
    ∷ ("'a'='b';'c'='d'/;" keeps "'a'='b';\n" past ((12, 17) ∷ [])) ∷ [])
unfolding everything
file_ends = refl

-- "19 where a macro begins after 96 kept ones", also a faulty one; those left out are not counted; a skip begins none
pub full_table :
    (tally (times 96 (bytes "'a'='';") ++ bytes "'b**';") ≡ refusal 19 at 672) ×
    (tally (times 96 (bytes "'a'='';") ++ bytes " '") ≡ refusal 19 at 673) ×
    (tally (bytes "'b**';" ++ times 96 (bytes "'a'='';")) ≡ 96 macros 1 faults) ×
    (tally (bytes "'b**';" ++ (times 96 (bytes "'a'='';") ++ bytes "'")) ≡ refusal 19 at 678) ×
    (tally (times 96 (bytes "'a'='';") ++ bytes "/x") ≡ 96 macros 1 faults)
unfolding everything
full_table = (refl, refl, refl, refl, refl)

-- 19 where a macro begins with a call after 96 kept ones: at its `&` or `#`, once the `(` is there
pub full_of_calls :
    (tally (times 96 (bytes "'a'='';") ++ bytes " #(2);") ≡ refusal 19 at 673) ×
    (tally (times 96 (bytes "'a'='';") ++ bytes "&/;/(") ≡ refusal 19 at 672) ×
    (tally (times 96 (bytes "'a'='';") ++ around "&/" 600 "x" "/(s=2)'a'='b';") ≡ refusal 19 at 672) ×
    (tally (times 96 (bytes "'a'='';") ++ bytes "& # &/;/") ≡ 96 macros 0 faults) ×
    (tally (bytes "#(v);" ++ (times 95 (bytes "'a'='';") ++ bytes "#(v=1);'a'='';")) ≡ 96 macros 2 faults) ×
    (tally (bytes "#(v);" ++ (times 96 (bytes "'a'='';") ++ bytes "#(")) ≡ refusal 19 at 677)
unfolding everything
full_of_calls = (refl, refl, refl, refl, refl, refl)

-- 10 and then 11, "over the whole file first", before any fault
pub whole_file :
    (tally (bytes "'a**';" ++ replicate 32763 120) ≡ refusal 10 at 32768) ×
    (tally (bytes "'a**';'b'='" ++ (0 ∷ bytes "';")) ≡ refusal 11 at 11) ×
    (tally (0 ∷ replicate 32768 120) ≡ refusal 10 at 32768)
unfolding everything
whole_file = (refl, refl, refl)

-- 256 faults are listed; "61, the 257th fault, comes at that fault", with place 0, and 19 or 61 by which comes first
pub many_faults :
    (tally (times 256 (bytes "'a;") ++ bytes "'c'='d';") ≡ 1 macros 256 faults) ×
    (tally (times 257 (bytes "'a;") ++ bytes "'c'='d';") ≡ refusal 61 at 0) ×
    (tally (times 256 (bytes "'a;") ++ bytes "'") ≡ refusal 61 at 0) ×
    (tally (times 256 (bytes "'a;")) ≡ 0 macros 256 faults) ×
    (tally (times 257 (bytes "'a;") ++ times 97 (bytes "'a'='';")) ≡ refusal 61 at 0) ×
    (tally (times 97 (bytes "'a'='';") ++ times 257 (bytes "'a;")) ≡ refusal 19 at 672)
unfolding everything
many_faults = (refl, refl, refl, refl, refl, refl)

-- 256 faults and 96 kept macros: 19 where one more begins, else 61 at the next fault; with 95 kept ones a call begins the 96th
pub both_full :
    (tally (times 256 (bytes "'a;") ++ (times 96 (bytes "'a'='';") ++ bytes "'b**';")) ≡ refusal 19 at 1440) ×
    (tally (times 256 (bytes "'a;") ++ (times 96 (bytes "'a'='';") ++ bytes "/x")) ≡ refusal 61 at 0) ×
    (tally (times 256 (bytes "'a;") ++ (times 95 (bytes "'a'='';") ++ bytes "#(v=1);")) ≡ refusal 61 at 0) ×
    (tally (times 256 (bytes "'a;") ++ times 96 (bytes "'a'='';")) ≡ 96 macros 256 faults)
unfolding everything
both_full = (refl, refl, refl, refl)
