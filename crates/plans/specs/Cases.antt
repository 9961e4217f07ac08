-- Cases of N8, computed: a file beside its numbers. In a string `\\` is one `\`.
use Rattle.std.specs.Prelude.{◌≡◌, refl, ℕ, zero, suc, List, [], ◌∷◌, ◌++◌, replicate}
use Prim.Native.String.{String}
use Rattle.macros.specs.Cases.{everything as macros_open, bytes, stretched}
use Rattle.plans.specs.Measure.{larger, most, macro_elements, macro_tags, size_of, measured, measure}
use Rattle.plans.specs.Numbers.{plan, unread_plan, sized_plan, told, plan_of}
use Rattle.plans.specs.declared.Plan.{Plan}

-- opens all definitions, for a computed case
unfoldable pub everything : ℕ
unfolding macros_open larger most macro_elements macro_tags size_of measured measure sized_plan told plan_of
everything = 0

-- macros, elements, tags and bytes
abbrev pub takes : (macros elements tags size : ℕ) → Plan
takes m e t b = plan 0 0 m e t b 0 0

-- macros, elements and tags; number and place of the refusal of writing out
abbrev pub unwritten : (macros elements tags number place : ℕ) → Plan
unwritten m e t n p = plan 0 0 m e t 0 n p

-- of a quoted file
abbrev pub of : String → Plan
of s = plan_of (bytes s)

-- n copies of some bytes
abbrev pub times : ℕ → List ℕ → List ℕ
times zero s = []
times (suc n) s = s ++ times n s

-- "0 without macros"
pub no_macros :
    (of "" ≡ takes 0 0 0 0) ×
    (of "only text, /'a'='b';/" ≡ takes 0 0 0 0)
unfolding everything
no_macros = (refl, refl)

-- a closure and its unit are one element, a class is one, `^` and `$` are two; braces are none, and a left brace is a tag
pub elements_and_tags :
    (of "'a'='b';" ≡ takes 1 1 0 9) ×
    (of "'@{-*-?6*\\/?6*}'='o{1}';" ≡ takes 1 5 1 26) ×
    (of "'^a$'='b';" ≡ takes 1 3 0 11) ×
    (of "'{{a}{}}'='b';" ≡ takes 1 1 3 15) ×
    (of "'[a-c~x]*?3*-&(a)#(b)*'='';" ≡ takes 1 4 0 29) ×
    (of "'{a}'='bcd{1}&(1,e)&(f)'&(1,g)#(h=2);" ≡ takes 1 1 1 38) ×
    (plan_of (bytes "'" ++ (replicate 99 123 ++ (bytes "a" ++ (replicate 99 125 ++ bytes "'='{99}';'b'='';")))) ≡ takes 2 1 99 218) ×
    (plan_of (bytes "'" ++ (replicate 506 97 ++ bytes "'='';")) ≡ takes 1 506 0 513)
unfolding everything
elements_and_tags = (refl, refl, refl, refl, refl, refl, refl, refl)

-- 02, N2: the calls before a pattern are no elements; they are written out with their macro
pub calls_before :
    (of "&(s=2)#(v=1)'^a'='b';" ≡ takes 1 2 0 22) ×
    (of "&(a:xy:) , /z/ #/z/( v = 01 )  'a'='';'{b}c'='';" ≡ takes 2 2 1 33) ×
    (of "&(s=2) ; 'a'='';" ≡ unread_plan 12 7)
unfolding everything
calls_before = (refl, refl, refl)

-- the most of any macro, be it the first, one between or the last; the two may be of different macros
pub the_most :
    (of "'abcdef'='';'{{{a}}}'='';'{b}c'='';" ≡ takes 3 6 3 38) ×
    (of "'a'='';'bc'='';" ≡ takes 2 2 0 17) ×
    (of "'ab'='';'c'='';" ≡ takes 2 2 0 17) ×
    (of "'{a}'='';'{b}{c}'='';'d'='';" ≡ takes 3 2 2 31)
unfolding everything
the_most = (refl, refl, refl, refl)

-- the bytes are those of the file written out, line feeds too, and not those that were read
pub written_bytes :
    (of "/x/'a-?'  <  ':/;/}' #( v = 007 );" ≡ takes 1 3 0 21) ×
    (of "'a'='b'; 'c'='d';" ≡ takes 2 1 0 18) ×
    (plan_of (times 96 (bytes "'a'='';")) ≡ takes 96 1 0 768)
unfolding everything
written_bytes = (refl, refl, refl)

-- "A file that reading refuses gets the same number and place.", also where writing out would be refused
pub unread_files :
    (plan_of (replicate 32769 120) ≡ unread_plan 10 32768) ×
    (plan_of (bytes "'a'='b" ++ (0 ∷ bytes "';")) ≡ unread_plan 11 6) ×
    (of "'a'='b'" ≡ unread_plan 12 7) ×
    (of "'[z-a]'='b';" ≡ unread_plan 13 4) ×
    (of "'a**'='b';" ≡ unread_plan 14 3) ×
    (of "'{a'='b';" ≡ unread_plan 15 3) ×
    (of "'a'='{2}';" ≡ unread_plan 16 7) ×
    (of "'{}'='b';" ≡ unread_plan 17 3) ×
    (plan_of (stretched "'a'='" 600 "x" "';") ≡ unread_plan 18 512) ×
    (plan_of (times 97 (bytes "'a'='';")) ≡ unread_plan 19 672) ×
    (plan_of (times 96 (bytes "'a'='';") ++ bytes " #(v=1)'a'='';") ≡ unread_plan 19 673) ×
    (of "'a'='b'; see #(v=1)" ≡ unread_plan 12 19) ×
    (of "'a'='b';'c'" ≡ unread_plan 12 11) ×
    (plan_of (stretched "'a'='" 505 ":" "';'c'") ≡ unread_plan 12 515)
unfolding everything
unread_files = (refl, refl, refl, refl, refl, refl, refl, refl, refl, refl, refl, refl, refl, refl)

-- 18: "the byte number is replaced by that refusal and its place, and the others are still given", of macros behind it too;
-- the place counts from the start of the file that would be written
pub unwritten18 :
    (plan_of (stretched "'{a}b'='" 501 ":" "';") ≡ unwritten 1 2 1 18 512) ×
    (plan_of (stretched "'a'='';'a'='" 505 ":" "';'{bcd}'='';") ≡ unwritten 3 3 1 18 520) ×
    (plan_of (stretched "#(v=1)'a'='" 499 ":" "';") ≡ unwritten 1 1 0 18 512)
unfolding everything
unwritten18 = (refl, refl, refl)

-- each number by its name
pub by_name :
    ((of "'abcdef'='';'{{{a}}}'='';'{b}c'='';").macros ≡ 3) ×
    ((of "'abcdef'='';'{{{a}}}'='';'{b}c'='';").elements ≡ 6) ×
    ((of "'abcdef'='';'{{{a}}}'='';'{b}c'='';").tags ≡ 3) ×
    ((of "'abcdef'='';'{{{a}}}'='';'{b}c'='';").bytes ≡ 38) ×
    ((of "'a**'='b';").number ≡ 14) ×
    ((of "'a**'='b';").place ≡ 3) ×
    ((plan_of (stretched "'a'='" 505 ":" "';")).write_number ≡ 18) ×
    ((plan_of (stretched "'a'='" 505 ":" "';")).write_place ≡ 512)
unfolding everything
by_name = (refl, refl, refl, refl, refl, refl, refl, refl)
