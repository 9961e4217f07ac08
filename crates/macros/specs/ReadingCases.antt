-- Cases of reading (01, part 2), computed: each file beside what it comes to (Cases.antt). In a string `\\` is one `\`.
use Rattle.std.specs.Prelude.{◌≡◌, refl, true, [], ◌∷◌}
use Rattle.macros.specs.Macro.{Macro}
use Rattle.macros.specs.Macro.Closure.{once, one_or_more, zero_or_more}
use Rattle.macros.specs.Macro.Member.{single, range}
use Rattle.macros.specs.Macro.Mark.{stack, counter}
use Rattle.macros.specs.Macro.PatternUnit.{literal, kind, class, call_of}
use Rattle.macros.specs.Macro.Piece.{element, start, end, left, right}
use Rattle.macros.specs.Macro.Sign.{plus, minus}
use Rattle.macros.specs.Macro.Move.{still, before, after}
use Rattle.macros.specs.Macro.Call.{insert, store_tag, set_to, store_text, set_increment, divide}
use Rattle.macros.specs.Macro.Action.{text, tag, call}
use Rattle.macros.specs.Macro.Symbol.{equal, less}
use Rattle.macros.specs.Read.{read_file}
use Rattle.macros.specs.ReadFile.Read.{table}
use Rattle.macros.specs.Cases.{everything, bytes, old_shown, Case, Hold}
use Rattle.macros.specs.Cases.Case.{◌is◌at◌, ◌becomes◌, ◌shortens_to◌, ◌skips◌, long}

-- 01's M11 to M13
pub songs : Hold (
    ("'a**'='b';" is 14 at 3)
    ∷ ("'[z-a]'='b';" is 13 at 4)
    ∷ ("'a'='{2}';" is 16 at 7) ∷ [])
unfolding everything
songs = refl

-- a file as data: each form of part 2
pub as_data :
    read_file (bytes "&(t+:w:)#(n=2)'{^a*}?3*-[~b-dx]*&(s)#(n)$'<'c{1}&(s)&(1,+t)#(n-)#(n:4)'&(s=20)&(t-:u:)#(n=7)#(n,3);") ≡ table (record {
      before = store_text 116 (after plus) (119 ∷ []) ∷ set_to counter 110 2 ∷ [];
      pattern =
          left ∷ start ∷ element (literal 97) one_or_more ∷ right ∷ element (kind 3) zero_or_more
          ∷ element (class true (range 98 100 ∷ single 120 ∷ [])) one_or_more
          ∷ element (call_of stack 115) once ∷ element (call_of counter 110) once ∷ end ∷ [];
      symbol = less;
      replacement =
          text 99 ∷ tag 1 ∷ call (insert stack 115 still) ∷ call (store_tag 1 116 (before plus))
          ∷ call (insert counter 110 (after minus)) ∷ call (divide 110 4) ∷ [];
      commands = set_to stack 115 20 ∷ store_text 116 (after minus) (117 ∷ []) ∷ set_to counter 110 7 ∷ set_increment 110 3 ∷ [];
    } ∷ [])
unfolding everything
as_data = refl

-- THE FILE AND BETWEEN PARTS

-- 12: the file's end, `;`, line feed or quote before the open part is complete
pub incomplete_parts : Hold (
    ("'" is 12 at 1)
    ∷ ("'a" is 12 at 2)
    ∷ ("'\\" is 12 at 2)
    ∷ ("'[" is 12 at 2)
    ∷ ("'[a" is 12 at 3)
    ∷ ("'[a'='b';" is 12 at 3)
    ∷ ("'[a;]'='b';" is 12 at 3)
    ∷ ("'[a\n]'='b';" is 12 at 3)
    ∷ ("'['" is 12 at 2)
    ∷ ("'&(" is 12 at 3)
    ∷ ("'&('" is 12 at 3)
    ∷ ("'&(a;" is 12 at 4)
    ∷ ("'#(\n" is 12 at 3)
    ∷ ("'a\n'='b';" is 12 at 2)
    ∷ ("'a;'='b';" is 12 at 2)
    ∷ ("'a'" is 12 at 3)
    ∷ ("'a';" is 12 at 3)
    ∷ ("'a'b'c';" is 12 at 4)
    ∷ ("'a'=" is 12 at 4)
    ∷ ("'a'=;" is 12 at 4)
    ∷ ("'a'='b" is 12 at 6)
    ∷ ("'a'='b;" is 12 at 6)
    ∷ ("'a'='b\n" is 12 at 6)
    ∷ ("'a'='{1" is 12 at 7)
    ∷ ("'a'='&(a" is 12 at 8)
    ∷ ("'a'='&(a'" is 12 at 8)
    ∷ ("'a'='&(a;" is 12 at 8)
    ∷ ("'a'='&(a\n" is 12 at 8)
    ∷ ("'a'='b'" is 12 at 7)
    ∷ ("'a'='b''" is 12 at 7)
    ∷ ("'a'=''&(a" is 12 at 9)
    ∷ ("'a'=''&(a'" is 12 at 9)
    ∷ ("'a'=''&(a;" is 12 at 9)
    ∷ ("'a'=''&(a\n" is 12 at 9)
    ∷ ("/x" is 12 at 2)
    ∷ ("'a/" is 12 at 3)
    ∷ ("'a'/" is 12 at 4)
    ∷ ("'a'='b'/;" is 12 at 9) ∷ [])
unfolding everything
incomplete_parts = refl

-- before a pattern only `'` and `/` count, and calls (below); an empty file has no macro
pub before_pattern : Hold (
    ("" is 0 at 0)
    ∷ ("no macro; = < & # \\ {}" is 0 at 0)
    ∷ ("/no macro's/" is 0 at 0)
    ∷ (";;=<& (a)#[{\\\n'a'='b';" becomes "'a'='b';")
    ∷ ("/don't/'a'='b';" becomes "'a'='b';")
    ∷ ("and/or 'a'='b';/'c'='d';" becomes "'c'='d';")
    ∷ ("'a'='b';\n'c'<'d' x;" becomes "'a'='b';\n'c'<'d';") ∷ [])
unfolding everything
before_pattern = refl

-- outside quotes other text is ignored, a line feed too; `\` protects nothing there; the first `=` or `<` is the symbol
pub other_text : Hold (
    ("'a'\n=\n'b'\n;" becomes "'a'='b';")
    ∷ ("'a'x\"y<z\"w'b'x\"y=z<\n;" becomes "'a'<'b';")
    ∷ ("'a'<=='b';" becomes "'a'<'b';")
    ∷ ("'a'=<'b';" becomes "'a'='b';")
    ∷ ("'a'&(=x'b';" becomes "'a'='b';")
    ∷ ("'a'='b'&x#y& (a=1)&#(n=1)##(n=2)(;" becomes "'a'='b'#(n=1)#(n=2);")
    ∷ ("'a'=''\\;" becomes "'a'='';")
    ∷ ("'a'\\='b';" becomes "'a'='b';")
    ∷ ("'a'=''\\/;" is 12 at 9) ∷ [])
unfolding everything
other_text = refl

-- `/` skips to the next `/`, everywhere but in a class, also inside a sign of two bytes; an escape never reaches over a skip
pub skipped : Hold (
    ("'a'/';/=/';/'b'/';/;" becomes "'a'='b';")
    ∷ ("'a/';/b'='c/';/d';" becomes "'ab'='cd';")
    ∷ ("'a*/x/-?/x/1&/x/(b)'='';" becomes "'a*-?1&(b)'='';")
    ∷ ("'&(/x/a/x/)#/x/(/x/b/x/)/x/*'='';" becomes "'&(a)#(b)*'='';")
    ∷ ("'{a}{b}'='{/x/2/x/}';" becomes "'{a}{b}'='{2}';")
    ∷ ("'a'='&/x/(/x/b/x/+/x/)#/x/(/x/-/x/n/x/)';" becomes "'a'='&(b+)#(-n)';")
    ∷ ("'a'='&(b/x/=/x/1/x/2/x/)#(n/x/,/x/3/x/)';" becomes "'a'='&(b=12)#(n,3)';")
    ∷ ("'{a}'='&(/x/1/x/,/x/+/x/b/x/)&(1,b/x/-/x/)';" becomes "'{a}'='&(1,+b)&(1,b-)';")
    ∷ ("'a'='&(a:x/:/y:/x/)';" becomes "'a'='&(a:xy:)';")
    ∷ ("'{a}'=''&/x/(/x/1/x/,b)#/x/(n/x/,/x/1/x/)&(+b:x/:)/y:/z/);" becomes "'{a}'=''&(1,b)#(n,1)&(+b:xy:);")
    ∷ ("'[a/b/]'='';" becomes "'[a/b/]'='';")
    ∷ ("'[/b]'='';" becomes "'[/b]'='';")
    ∷ ("'[~/b]'='';" becomes "'[~/b]'='';")
    ∷ ("'\\/a\\/'='\\/b\\/&(a:\\/c\\/:)';" becomes "'\\/a\\/'='\\/b\\/&(a:\\/c\\/:)';") ∷ [])
unfolding everything
skipped = refl

-- skips count everywhere but in a class, behind a `\` that escapes, and in a skip
pub skip_places : Hold (
    ("'a*-?1&(b)[c-d]e'" skips "///////////----///")
    ∷ ("'a\\b[~c\\d" skips "///-/-----")
    ∷ ("'{a}'x<x'b\\c{1}&(d:e\\f:)'x&(1,g)h;i" skips "///////////-/////////-//////////////")
    ∷ ("'a'\\=\\'b'\\;" skips "////////////")
    ∷ ("a/b/'c/d/e" skips "//--///--//")
    ∷ ("&(d:e\\f:)x#'" skips "//////-//////") ∷ [])
unfolding everything
skip_places = refl

-- `\` makes the next byte literal, a raw line feed too, but `\n` is line feed and `\t` tab; elsewhere in a call and in `{n}` it is 16
pub escapes : Hold (
    ("'\\n\\t\\a\\?'='\\n\\t\\a\\{&(a:\\n\\t\\a\\::)';" becomes "'\\n\\ta\\?'='\\n\\ta\\{&(a:\\n\\ta\\::)';")
    ∷ ("'[\\n\\t\\a\\]]'='';" becomes "'[\\n\\ta\\]]'='';")
    ∷ ("'a\\\n[\\\n]'<'\\\n&(a:\\\n:)';" becomes "'a\\n[\\n]'<'\\n&(a:\\n:)';")
    ∷ ("'\t[\ta]'<'\t&(a:\t:)';" becomes "'\\t[\\ta]'<'\\t&(a:\\t:)';")
    ∷ ("'\\'\\;[\\'\\;]'='\\'\\;&(a:\\'\\;:)';" becomes "'\\'\\;[\\'\\;]'='\\'\\;&(a:\\'\\;:)';")
    ∷ ("'&(\\a)'='';" is 16 at 3)
    ∷ ("'&(a\\)'='';" is 16 at 4)
    ∷ ("'a'='&(\\a)';" is 16 at 7)
    ∷ ("'a'='#(a=\\1)';" is 16 at 9)
    ∷ ("'a'='&(a:x:\\)';" is 16 at 11)
    ∷ ("'a'=''&(\\a=1);" is 16 at 8)
    ∷ ("'{a}'='{\\1}';" is 16 at 8) ∷ [])
unfolding everything
escapes = refl

-- PATTERN

-- `?` with 1 to 6, else literal; `&` or `#` without `(` is literal; `]` and `~` outside a class are literal, and `"` is ordinary
pub literals : Hold (
    ("'?0?1?2?3?4?5?6?7?'='';" becomes "'\\?0?1?2?3?4?5?6\\?7\\?'='';")
    ∷ ("'?*?a*??1'='';" becomes "'\\?*\\?a*\\??1'='';")
    ∷ ("'&a#*-&#(a)& (b)'='';" becomes "'\\&a\\#*-\\&#(a)\\& (b)'='';")
    ∷ ("'?\\3&\\('='';" becomes "'\\?3\\&('='';")
    ∷ ("']~\"(),.:=<'='';" becomes "']~\"(),.:=<'='';")
    ∷ ("'\r[\r]'='\r&(a:\r:)';" becomes "'\r[\r]'='\r&(a:\r:)';")
    ∷ ("'é[é]'='é&(a:é:)';" becomes "'é[é]'='é&(a:é:)';") ∷ [])
unfolding everything
literals = refl

-- `*` is one or more and `*-` zero or more, always read so; 14 where there is no unit
pub closures : Hold (
    ("'a*b*-[c]*?1*-&(a)*#(a)*-'='';" becomes "'a*b*-[c]*?1*-&(a)*#(a)*-'='';")
    ∷ ("'a*--b*\\-'='';" becomes "'a*-\\-b*\\-'='';")
    ∷ ("'-*-'='';" becomes "'\\-*-'='';")
    ∷ ("'*'='b';" is 14 at 1)
    ∷ ("'*-'='b';" is 14 at 1)
    ∷ ("'{*a}'='b';" is 14 at 2)
    ∷ ("'{a}*'='b';" is 14 at 4)
    ∷ ("'^*'='b';" is 14 at 2)
    ∷ ("'$*'='b';" is 14 at 2)
    ∷ ("'a*-*'='b';" is 14 at 4)
    ∷ ("'[a]**'='b';" is 14 at 5) ∷ [])
unfolding everything
closures = refl

-- tags nest; 15 at an unmatched `}` and at the quote where a brace is open; 17 where there is no element
pub braces : Hold (
    ("'{a{^}c}{$}{}'='{1}{2}{3}{4}';" becomes "'{a{^}c}{$}{}'='{1}{2}{3}{4}';")
    ∷ ("'}'='b';" is 15 at 1)
    ∷ ("'{a}}'='b';" is 15 at 4)
    ∷ ("'{a'='b';" is 15 at 3)
    ∷ ("'{'='b';" is 15 at 2)
    ∷ ("'{}'='b';" is 17 at 3)
    ∷ ("''='b';" is 17 at 1)
    ∷ ("'^'='';" becomes "'^'='';")
    ∷ ("'$'='';" becomes "'$'='';") ∷ [])
unfolding everything
braces = refl

-- CLASS

-- a leading `~` is the complement; only a raw `-` makes a range, and only a raw `]` ends the class or keeps a dash from being a range
pub members : Hold (
    ("'[\\a-c]'='';" becomes "'[a-c]'='';")
    ∷ ("'[a-\\c]'='';" becomes "'[a-c]'='';")
    ∷ ("'[a\\-z]'='';" becomes "'[a\\-z]'='';")
    ∷ ("'[a-]'='';" becomes "'[a\\-]'='';")
    ∷ ("'[-a]'='';" becomes "'[\\-a]'='';")
    ∷ ("'[--]'='';" becomes "'[\\-\\-]'='';")
    ∷ ("'[a-c-e]'='';" becomes "'[a-c\\-e]'='';")
    ∷ ("'[cab-da]'='';" becomes "'[cab-da]'='';")
    ∷ ("'[~a-cx]'='';" becomes "'[~a-cx]'='';")
    ∷ ("'[~~]'='';" becomes "'[~\\~]'='';")
    ∷ ("'[a~]'='';" becomes "'[a\\~]'='';")
    ∷ ("'[\\~a]'='';" becomes "'[\\~a]'='';")
    ∷ ("'[*?&#(){}$^[\"]]'='';" becomes "'[*?&#(){}$^[\"]]'='';")
    ∷ ("'[]'='b';" is 13 at 2)
    ∷ ("'[~]'='';" is 13 at 3) ∷ [])
unfolding everything
members = refl

-- range ends are both lower, both upper or both digits, rising or equal; 13 at the second end
pub ranges : Hold (
    ("'[a-z]'='';" becomes "'[a-z]'='';")
    ∷ ("'[A-Z]'='';" becomes "'[A-Z]'='';")
    ∷ ("'[0-9]'='';" becomes "'[0-9]'='';")
    ∷ ("'[a-a]'='';" becomes "'[a-a]'='';")
    ∷ ("'[A-z]'='';" is 13 at 4)
    ∷ ("'[a-Z]'='';" is 13 at 4)
    ∷ ("'[0-a]'='';" is 13 at 4)
    ∷ ("'[0-A]'='';" is 13 at 4)
    ∷ ("'[b-a]'='';" is 13 at 4)
    ∷ ("'[Z-A]'='';" is 13 at 4)
    ∷ ("'[9-0]'='';" is 13 at 4)
    ∷ ("'[!-.]'='';" is 13 at 4)
    ∷ ("'[a--]'='';" is 13 at 4)
    ∷ ("'[a-\\]]'='';" is 13 at 5)
    ∷ ("'[a-\\n]'='';" is 13 at 5) ∷ [])
unfolding everything
ranges = refl

-- REPLACEMENT

-- `{n}`, calls, and every other byte a literal; a number is taken by its value;
-- 16 at what cannot be, or at the `}` of a tag that the pattern has not
pub tag_numbers : Hold (
    ("'{a}'='{001}}*-?[~]^$(\"';" becomes "'{a}'='{1}}*-?[~]^$(\"';")
    ∷ ("'{a}'='{2}';" is 16 at 9)
    ∷ ("'{a}'='{0}';" is 16 at 9)
    ∷ ("'{a}'='{}';" is 16 at 8)
    ∷ ("'{a}'='{a}';" is 16 at 8)
    ∷ ("'{a}'='{ 1}';" is 16 at 8)
    ∷ ("'{a}'='{1'" is 16 at 9)
    ∷ ("'{a}'='{1;" is 12 at 9)
    ∷ ("'{a}'='{1\n" is 12 at 9)
    ∷ (long "'{a}'='{" 100 "9" "}';" 16 108) ∷ [])
unfolding everything
tag_numbers = refl

-- CALLS

-- every call with every sign, in a replacement and as a command
pub signs : Hold (
    ("'{a}'='&(b)&(+b)&(-b)&(b+)&(b-)';" becomes "'{a}'='&(b)&(+b)&(-b)&(b+)&(b-)';")
    ∷ ("'{a}'='&(1,b)&(1,+b)&(1,-b)&(1,b+)&(1,b-)';" becomes "'{a}'='&(1,b)&(1,+b)&(1,-b)&(1,b+)&(1,b-)';")
    ∷ ("'a'='&(b:x:)&(+b:x:)&(-b:x:)&(b+:x:)&(b-:x:)';" becomes "'a'='&(b:x:)&(+b:x:)&(-b:x:)&(b+:x:)&(b-:x:)';")
    ∷ ("'a'='#(n)#(+n)#(-n)#(n+)#(n-)#(n=2)#(n,3)&(b=4)';" becomes "'a'='#(n)#(+n)#(-n)#(n+)#(n-)#(n=2)#(n,3)&(b=4)';")
    ∷ ("'{a}'=''&(1,b)&(1,+b)&(1,-b)&(1,b+)&(1,b-);" becomes "'{a}'=''&(1,b)&(1,+b)&(1,-b)&(1,b+)&(1,b-);")
    ∷ ("'a'=''&(b:x:)&(+b:x:)&(-b:x:)&(b+:x:)&(b-:x:);" becomes "'a'=''&(b:x:)&(+b:x:)&(-b:x:)&(b+:x:)&(b-:x:);")
    ∷ ("'a'=''#(n=2)#(n,3)&(b=4);" becomes "'a'=''#(n=2)#(n,3)&(b=4);") ∷ [])
unfolding everything
signs = refl

-- 16 at the first byte that no form allowed in that place can have
pub wrong_calls : Hold (
    ("'&(1,b)'='';" is 16 at 3)
    ∷ ("'&(+b)'='';" is 16 at 3)
    ∷ ("'&(B)'='';" is 16 at 3)
    ∷ ("'&(b+)'='';" is 16 at 4)
    ∷ ("'#(b=1)'='';" is 16 at 4)
    ∷ ("'a'='&()';" is 16 at 7)
    ∷ ("'a'='&(B)';" is 16 at 7)
    ∷ ("'a'='&(:x:)';" is 16 at 7)
    ∷ ("'a'='#(1,b)';" is 16 at 7)
    ∷ ("'a'='&(ab)';" is 16 at 8)
    ∷ ("'a'='&(a,1)';" is 16 at 8)
    ∷ ("'a'='#(a:x:)';" is 16 at 9)
    ∷ ("'a'='&(++a)';" is 16 at 8)
    ∷ ("'a'='&(+1,b)';" is 16 at 8)
    ∷ ("'a'='&(+a+)';" is 16 at 9)
    ∷ ("'a'='&(a+-)';" is 16 at 9)
    ∷ ("'a'='&(+a=1)';" is 16 at 9)
    ∷ ("'a'='&(a=)';" is 16 at 9)
    ∷ ("'a'='&(a=+1)';" is 16 at 9)
    ∷ ("'a'='#(+n+)';" is 16 at 9)
    ∷ ("'a'='#(+n,1)';" is 16 at 9)
    ∷ ("'a'='#(+n=1)';" is 16 at 9)
    ∷ ("'a'='#(a,)';" is 16 at 9)
    ∷ ("'a'='#(a=)';" is 16 at 9)
    ∷ ("'{a}'='&(1b)';" is 16 at 10)
    ∷ ("'{a}'='&(1,)';" is 16 at 11)
    ∷ ("'{a}'='&(1,b=1)';" is 16 at 12)
    ∷ ("'{a}'='&(1,+b+)';" is 16 at 13)
    ∷ ("'a'='&(b:x:+)';" is 16 at 11)
    ∷ ("'a'=''&(b);" is 16 at 9)
    ∷ ("'a'=''&(+b);" is 16 at 10)
    ∷ ("'a'=''&(b+);" is 16 at 10)
    ∷ ("'a'=''&(+b=1);" is 16 at 10)
    ∷ ("'a'=''#(b);" is 16 at 9)
    ∷ ("'a'=''#(b+);" is 16 at 9)
    ∷ ("'a'=''#(+b);" is 16 at 8) ∷ [])
unfolding everything
wrong_calls = refl

-- numbers in range, by their values; out of range 16 at the `)`, and so for a tag that the pattern has not
pub numbers : Hold (
    ("'a'='&(a=001)&(a=20)#(a=1)#(a=999999999)#(a,1)#(a,999999999)';" becomes "'a'='&(a=1)&(a=20)#(a=1)#(a=999999999)#(a,1)#(a,999999999)';")
    ∷ ("'a'='&(a=0)';" is 16 at 10)
    ∷ ("'a'='&(a=21)';" is 16 at 11)
    ∷ ("'a'='#(a=0)';" is 16 at 10)
    ∷ ("'a'='#(a=1000000000)';" is 16 at 19)
    ∷ ("'a'='#(a,0)';" is 16 at 10)
    ∷ ("'a'='#(a,1000000000)';" is 16 at 19)
    ∷ ("'{a}'='&(01,b)';" becomes "'{a}'='&(1,b)';")
    ∷ ("'{a}'='&(0,b)';" is 16 at 12)
    ∷ ("'{a}'='&(2,b)';" is 16 at 12)
    ∷ ("'a'='b'&(1,a);" is 16 at 12)
    ∷ ("'a'=''&(a=21);" is 16 at 12)
    ∷ ("'a'=''#(a=1000000000);" is 16 at 20) ∷ [])
unfolding everything
numbers = refl

-- 02, N7: `#(i:n)`; 16 at the `:` where it may not stand, at the `)` where n is out of range; spaces and leading zeros are free
pub divisors : Hold (
    ("'a'='#(b:4)#(b:1)#(z:999999999)';" becomes "'a'='#(b:4)#(b:1)#(z:999999999)';")
    ∷ ("'a'='#( b : 0 0 4 )#(b/x/:/;/4/x/)';" becomes "'a'='#(b:4)#(b:4)';")
    ∷ ("'a'='#( b : 0 4 ):';" shortens_to "'a'='#(b:4):';")
    ∷ ("'#(b:4)'='';" is 16 at 4)
    ∷ ("'a'=''#(b:4);" is 16 at 9)
    ∷ ("'a'='#(+b:4)';" is 16 at 9)
    ∷ ("'a'='#(-b:4)';" is 16 at 9)
    ∷ ("'a'='#(b-:4)';" is 16 at 9)
    ∷ ("'a'='#(b+:4)';" is 16 at 9)
    ∷ ("'a'=''#(+b:4);" is 16 at 8)
    ∷ ("'#( b : 4 )'='';" is 16 at 6)
    ∷ ("'a'='#(B:4)';" is 16 at 7)
    ∷ ("'a'='#(b=4:2)';" is 16 at 10)
    ∷ ("'a'='#(b:000)';" is 16 at 12)
    ∷ ("'a'='#(b:)';" is 16 at 9)
    ∷ ("'a'='#(b:0)';" is 16 at 10)
    ∷ ("'a'='#(b:1000000000)';" is 16 at 19)
    ∷ (long "'a'='#(b:" 400 "9" ")';" 16 409)
    ∷ ("'a'='#(b:4+)';" is 16 at 10)
    ∷ ("'a'='#(b:-4)';" is 16 at 9)
    ∷ ("'a'='#(b:4:)';" is 16 at 10)
    ∷ ("'a'='#(b:\\4)';" is 16 at 9)
    ∷ ("'a'='#(b\\:4)';" is 16 at 8)
    ∷ ("'a'='#(b:\t4)';" is 16 at 9)
    ∷ ("'a'='#(b:4'" is 12 at 10)
    ∷ ("'a'='#(b:;" is 12 at 9)
    ∷ ("'a'='#(b:4\n" is 12 at 10)
    ∷ ("'a'='#(b:4" is 12 at 10)
    ∷ ("'a'='#b:4#\\(b:4)';" becomes "'a'='\\#b\\:4\\#(b\\:4)';") ∷ [])
unfolding everything
divisors = refl

-- 02, N2: "From now on `&(` or `#(` before a pattern begins a command"; before the first call `;` is ignored, and so is other text behind
-- it, but for `;`, `&(`, `#(` and a quote; `&(` or `#(` between pattern and replacement stays other text
pub calls_before : Hold (
    ("&(a+:x:)&(b=7)#(c=8)#(d,9)'q'='';" becomes "&(a+:x:)&(b=7)#(c=8)#(d,9)'q'='';")
    ∷ (";x;#(v=1)'a'='b';" becomes "#(v=1)'a'='b';")
    ∷ ("#(v=1) = < \\ x ) \n : 'a'='b';" becomes "#(v=1)'a'='b';")
    ∷ ("\\#(v=1)'a'='b';" becomes "#(v=1)'a'='b';")
    ∷ ("& (s=2)'a'='b';" becomes "'a'='b';")
    ∷ ("&/x/(s=2)'a'='b';" becomes "&(s=2)'a'='b';")
    ∷ ("&&#(v=1)##&'a'='b';" becomes "#(v=1)'a'='b';")
    ∷ ("#(v=1)/;'/'a'='b';" becomes "#(v=1)'a'='b';")
    ∷ ("#(v=1)& (#/x/ (&(s=2)'a'='b';" becomes "#(v=1)&(s=2)'a'='b';")
    ∷ ("'q'='';#(v=1)'a'='b';'c'='d';" becomes "'q'='';\n#(v=1)'a'='b';\n'c'='d';")
    ∷ ("&( s : a\\:b{\t : ) #( v = 0 07 ) 'a'='b';" becomes "&(s: a\\:b\\{\\t :)#(v=7)'a'='b';")
    ∷ ("&(s:a\\:b{\\t:) #(v=7) 'a'='b';" shortens_to "&(s:a\\:b{\t:)#(v=7)'a'='b';")
    ∷ ("'a'#(v=1)=&(b)'b';" becomes "'a'='b';")
    ∷ ("(s=2)'a'='b';" becomes "'a'='b';")
    ∷ ("/x/(s=2)'a'='b';" becomes "'a'='b';")
    ∷ ("'a'='b';(s=2)'c'='d';" becomes "'a'='b';\n'c'='d';")
    ∷ ("#(v=1)(s=2)'a'='b';" becomes "#(v=1)'a'='b';") ∷ [])
unfolding everything
calls_before = refl

-- "`;` or file end between such a call and its pattern is 12"; a call is an open part
pub incomplete_calls : Hold (
    ("#(v=1);'a'='b';" is 12 at 6)
    ∷ ("#(v=1) ;#(w=1)'a'='b';" is 12 at 7)
    ∷ ("#(v=1)#;'a'='b';" is 12 at 7)
    ∷ ("'a'='b'; see #(v=1)" is 12 at 19)
    ∷ (" #(v=1)" is 12 at 7)
    ∷ ("#(v=1)&" is 12 at 7)
    ∷ ("#(v=1)/x" is 12 at 8)
    ∷ ("#(v=1'a'='b';" is 12 at 5)
    ∷ ("&(s:x;" is 12 at 5)
    ∷ ("&(s=\n1)'a'='b';" is 12 at 4)
    ∷ ("&(s" is 12 at 3)
    ∷ ("&" is 0 at 0)
    ∷ ("&/x/" is 0 at 0)
    ∷ ("&/x" is 12 at 3) ∷ [])
unfolding everything
incomplete_calls = refl

-- "Storing a tag is refused there with 16, at the number's first digit"; the other calls as those of commands
pub wrong_calls_before : Hold (
    ("&(1,a)'{a}'='b';" is 16 at 2)
    ∷ ("&( 01,a)'{a}'='b';" is 16 at 3)
    ∷ ("&(+1,a)'{a}'='b';" is 16 at 3)
    ∷ ("&(s=2)&(1,a)'{a}'='b';" is 16 at 8)
    ∷ ("&(b)'a'='b';" is 16 at 3)
    ∷ ("&(+b)'a'='b';" is 16 at 4)
    ∷ ("&(b+)'a'='b';" is 16 at 4)
    ∷ ("#(b)'a'='b';" is 16 at 3)
    ∷ ("#(b+)'a'='b';" is 16 at 3)
    ∷ ("#(+b)'a'='b';" is 16 at 2)
    ∷ ("#(b:4)'a'='b';" is 16 at 3)
    ∷ ("&(b=0)'a'='b';" is 16 at 5)
    ∷ ("&(b=21)'a'='b';" is 16 at 6)
    ∷ ("#(v=1000000000)'a'='b';" is 16 at 14)
    ∷ ("#(v\\=1)'a'='b';" is 16 at 3)
    ∷ ("see #(2) 'a'='b';" is 16 at 6)
    ∷ ("x &(Chorus) 'a'='b';" is 16 at 4)
    ∷ ("'a'='b';#(b)" is 16 at 11)
    ∷ (long "&(s:" 100 "x" ":)'a'='b';" 0 1)
    ∷ (long "&(s:" 101 "x" ":)'a'='b';" 16 104) ∷ [])
unfolding everything
wrong_calls_before = refl

-- spaces in calls are ignored, but not in the text, nor between `&` and `(`; a tab is 16
pub spaces : Hold (
    ("'&( a )#( a )'='';" becomes "'&(a)#(a)'='';")
    ∷ ("'{a}{b}'='&( b )&( + b )&( b = 1 2 )&( 0 1 , b - )&( b : x : )#( n , 1 2 )';"
    becomes "'{a}{b}'='&(b)&(+b)&(b=12)&(1,b-)&(b: x :)#(n,12)';")
    ∷ ("'a'='& (b)# (n)';" becomes "'a'='\\& (b)\\# (n)';")
    ∷ ("'a'=''&( b = 1 2 )& (b;" becomes "'a'=''&(b=12);")
    ∷ ("'a'='&(b=\t1)';" is 16 at 9)
    ∷ ("'&(\ta)'='';" is 16 at 3) ∷ [])
unfolding everything
spaces = refl

-- a call's text: at most 100 bytes behind escapes and skips, 16 at the 101st, at its `\` if it has one; 12 at a raw quote, `;` or line feed
pub texts : Hold (
    ("'a'='&(a::)&(a:{}&#(x\\\\:)';" becomes "'a'='&(a::)&(a:\\{}\\&\\#(x\\\\:)';")
    ∷ ("'a'='&(a:x'" is 12 at 10)
    ∷ ("'a'='&(a:x;" is 12 at 10)
    ∷ ("'a'='&(a:x\n" is 12 at 10)
    ∷ ("'a'='&(a:x" is 12 at 10)
    ∷ (long "'a'='&(a:" 100 "x" ":)';" 0 1)
    ∷ (long "'a'='&(a:" 100 "x" "/y/:)';" 0 1)
    ∷ (long "'a'='&(a:\\:" 99 "x" ":)';" 0 1)
    ∷ (long "'a'='&(a:" 101 "x" "" 16 109)
    ∷ (long "'a'='&(a:" 100 "x" "\\x" 16 109)
    ∷ (long "'a'='&(a:" 100 "x" "'" 12 109)
    ∷ (long "'a'='&(a:" 100 "x" ";" 12 109)
    ∷ (long "'a'='&(a:" 100 "x" "\n" 12 109) ∷ [])
unfolding everything
texts = refl

-- 02, N6: the same as the old engine reads, with texts of at most 50 bytes, in a replacement, a command and before a pattern
pub old_texts :
    (old_shown "'a'='&(a:" 50 "x" ":)';" ≡ (0, 1)) ×
    (old_shown "'a'='&(a:" 50 "x" "/y/:)';" ≡ (0, 1)) ×
    (old_shown "'a'='&(a:\\:" 49 "x" ":)';" ≡ (0, 1)) ×
    (old_shown "'a'='&(a:" 51 "x" ":)';" ≡ (16, 59)) ×
    (old_shown "'a'='&(a:" 100 "x" ":)';" ≡ (16, 59)) ×
    (old_shown "'a'='&(a:" 50 "x" "\\x" ≡ (16, 59)) ×
    (old_shown "'a'='&(a:" 50 "x" "'" ≡ (12, 59)) ×
    (old_shown "'a'='b'&(a:" 51 "x" ":);" ≡ (16, 61)) ×
    (old_shown "&(s:" 50 "x" ":)'a'='b';" ≡ (0, 1)) ×
    (old_shown "&(s:" 51 "x" ":)'a'='b';" ≡ (16, 54))
unfolding everything
old_texts = (refl, refl, refl, refl, refl, refl, refl, refl, refl, refl)

-- THE 513TH BYTE: 12 to 17 come before 18; the file's end is no byte; skipped bytes count
pub byte513 : Hold (
    (long "'a'='" 505 "b" "';" 0 1)
    ∷ (long "'a'='" 506 "b" "';" 18 512)
    ∷ (long "'a'='" 508 "b" "" 18 512)
    ∷ (long "'a'='" 507 "b" "" 12 512)
    ∷ (long "'a/" 600 "x" "/'='b';" 18 512)
    ∷ (long "'a'='" 507 "b" "\n" 12 512)
    ∷ (long "'" 510 "a" "[]" 13 512)
    ∷ (long "'" 510 "a" "**" 14 512)
    ∷ (long "'" 511 "a" "}" 15 512)
    ∷ (long "'a'='" 506 "b" "{}" 16 512)
    ∷ (long "'/" 509 "x" "/'" 17 512) ∷ [])
unfolding everything
byte513 = refl

-- 02, N2: "The 512 bytes count from the first such call's `&` or `#`", what stands before it not, skips behind it too
pub byte513_calls : Hold (
    (long "#(v=1)" 498 "x" "'a'='b';" 0 1)
    ∷ (long "#(v=1)" 499 "x" "'a'='b';" 18 512)
    ∷ (long "; x #(v=1)" 499 "x" "'a'='b';" 18 516)
    ∷ (long "&/" 496 "x" "/(s=2)'a'='b';" 0 1)
    ∷ (long "&/" 497 "x" "/(s=2)'a'='b';" 18 512)
    ∷ (long "&/" 508 "x" "/(s=2)'a'='b';" 18 512)
    ∷ (long "&/" 509 "x" "/(s=2)'a'='b';" 18 512)
    ∷ (long "&/" 600 "x" "/(s=2)'a'='b';" 18 512)
    ∷ (long "&/" 600 "x" "/(" 18 512)
    ∷ (long "&/" 600 "x" "/'a'='b';" 0 1)
    ∷ (long "&/" 600 "x" "/" 0 0)
    ∷ (long "#(v=1)" 506 "x" "'a'='b';" 18 512)
    ∷ (long "#(v=1)" 506 "x" "/y/'a'='b';" 18 512)
    ∷ (long "#(v=1)" 506 "x" ";" 12 512)
    ∷ (long "#(v=1)" 507 "x" "" 18 512)
    ∷ (long "#(v=1)" 506 "x" "" 12 512)
    ∷ (long "#(v=1)" 501 "x" "&(b=0)'a'='b';" 16 512)
    ∷ (long "#(v=1)" 502 "x" "&(b=0)'a'='b';" 18 512) ∷ [])
unfolding everything
byte513_calls = refl
