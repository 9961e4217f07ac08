-- Cases of parts 3 to 6, computed. Each line stands beside its answer (Cases) and what is then not as in the fresh state.
-- In a string `\\` is one `\`.
use Rattle.std.specs.Prelude.{◌≡◌, refl, List, [], ◌∷◌, ◌++◌, replicate}
use Rattle.lines.specs.Feeding.{bytes}
use Rattle.lines.specs.Cases.{everything, out, withheld, control, refused, says, holds, fed, fed_within, fed_bytes, Tried}
use Rattle.lines.specs.Cases.Part.{pointer, value, increment, entry, trace, nflag}

-- PART 3

-- "In a class a leading `~` means the complement"; single members; a range has both its ends
pub classes :
    (Tried "'[~a-c]'<'X';'[xz]'<'-';" (
    fed "abcd" (says "abcX" 3) []
    ∷ fed "xyz" (says "XXX" 2) []
    ∷ []
    )) ×
    (Tried "'[aceg]'<'-';" (
    fed "abcdefgh" (says "-b-d-f-h" 1) []
    ∷ []
    )) ×
    (Tried "'[b-d]'<'X';" (
    fed "abcde" (says "aXXXe" 1) []
    ∷ []
    ))
unfolding everything
classes = (refl, refl, refl)

-- a literal, `?n`, and "`^` (place 0) and `$` (line end), both of width zero"
pub kinds :
    (Tried "'?4?6'<'X';" (
    fed "A1a1AA" (says "Xa1AA" 1) []
    ∷ []
    )) ×
    (Tried "'^a'<'X';'a$'<'Y';" (
    fed "aaa" (says "XaY" 2) []
    ∷ fed "a" (says "Y" 2) []
    ∷ []
    )) ×
    (Tried "'^a$'<'X';" (
    fed "aa" (says "aa" 1) []
    ∷ fed "a" (says "X" 1) []
    ∷ []
    ))
unfolding everything
kinds = (refl, refl, refl)

-- "`*` after a literal, `?n`, class or call means one or more, `*-` zero or more"; what follows a closure gets its copies back; the first
-- closure has the most
pub closures :
    (Tried "'a*ab'<'X';" (
    fed "aaab" (says "X" 1) []
    ∷ fed "ab" (says "ab" 1) []
    ∷ []
    )) ×
    (Tried "'a*-ab'<'X';" (
    fed "aaab" (says "X" 1) []
    ∷ fed "ab" (says "X" 1) []
    ∷ []
    )) ×
    (Tried "'{a*-}{a*-}{a*}'<'{1},{2},{3}.';" (
    fed "aaa" (says "aa,,a." 1) []
    ∷ []
    ))
unfolding everything
closures = (refl, refl, refl)

-- "an empty entry counts once under `*` and no times under `*-`"; "A closure's span is whole copies of its unit, not single bytes of a
-- call's text"; the entry is the current one
pub entries_match :
    (Tried "'Z'<''&(a:aa:);'&(a)*a'<'X';" (
    fed "aaaa" (says "XXXX" 2) []
    ∷ fed "Z" (says "" 3) (holds "a" 1 "aa" ∷ [])
    ∷ fed "aaaa" (says "Xa" 2) (holds "a" 1 "aa" ∷ [])
    ∷ []
    )) ×
    (Tried "'<&(a)*-{&(a)}>'<'{1}!';'p'<''&(a:u:)&(+a:vw:);'q'<''&(a=1);" (
    fed "<>" (says "!" 5) []
    ∷ fed "p" (says "" 4) (pointer "a" 2 ∷ holds "a" 1 "u" ∷ holds "a" 2 "vw" ∷ [])
    ∷ fed "<vwvw>" (says "vw!" 5) (pointer "a" 2 ∷ holds "a" 1 "u" ∷ holds "a" 2 "vw" ∷ [])
    ∷ fed "<vw>q<uu>" (says "<vw>u!" 4) (holds "a" 1 "u" ∷ holds "a" 2 "vw" ∷ [])
    ∷ []
    ))
unfolding everything
entries_match = (refl, refl)

-- "a call `&(i)` or `#(i)` .. matches the current entry or the value's digits"
pub values_match :
    Tried "'#(n)*'<'X'#(n=20);" (
    fed "1" (says "X" 1) (value "n" 20 ∷ [])
    ∷ fed "a202020b" (says "aXb" 1) (value "n" 20 ∷ [])
    ∷ fed "a2022" (says "aX22" 1) (value "n" 20 ∷ [])
    ∷ []
    )
unfolding everything
values_match = refl

-- "A tag runs from the end of what precedes its left brace to the end of what precedes its right."; "Tags .. are numbered by their left
-- braces"
pub tags :
    Tried "'{a{b*-}}{c}'<'{3}{2}{1}.'&(1,p)&(2,q)&(3,r);" (
    fed "xabbc" (says "xcbbabb." 1) (holds "p" 1 "abb" ∷ holds "q" 1 "bb" ∷ holds "r" 1 "c" ∷ [])
    ∷ fed "ac" (says "ca." 1) (holds "p" 1 "a" ∷ holds "r" 1 "c" ∷ [])
    ∷ []
    )
unfolding everything
tags = refl

-- PART 4

-- "For each occurrence replacement and then commands act, left to right"; a counter moves by its increment, before or after it is
-- inserted; "#(i=n)" and "#(i,n)"; "A pointer or counter that would fall below 1 is 1."
pub counters :
    (Tried "'a'<'#(n),#(n)'#(n=9)#(n=7)#(n,3);'b'<'#(n-)#(n) #(+n)#(n+)#(n)';'c'<'#(-n)#(-n)#(-n)#(-n)';" (
    fed "a" (says "1,1" 5) (value "n" 7 ∷ increment "n" 3 ∷ [])
    ∷ fed "b" (says "74 7710" 4) (value "n" 10 ∷ increment "n" 3 ∷ [])
    ∷ fed "c" (says "7411" 3) (increment "n" 3 ∷ [])
    ∷ []
    )) ×
    (Tried "'a'<'#(n=5)#(n,3)#(-n)';'b'<'#(n=4)#(-n)';'c'<'#(n=3)#(-n)';" (
    fed "a" (says "2" 5) (value "n" 2 ∷ increment "n" 3 ∷ [])
    ∷ fed "b" (says "1" 4) (increment "n" 3 ∷ [])
    ∷ fed "c" (says "1" 3) (increment "n" 3 ∷ [])
    ∷ []
    ))
unfolding everything
counters = (refl, refl)

-- 02, N7: `#(i:n)` inserts quotient, space and remainder, of the value as it then is, and changes nothing
pub bars :
    (Tried "'a'<'#(b:4)'#(b=9);'c'<'#(b:4)';'d'<'#(b=3)#(b:4)';" (
    fed "a" (says "0 1" 5) (value "b" 9 ∷ [])
    ∷ fed "c" (says "2 1" 4) (value "b" 9 ∷ [])
    ∷ fed "d" (says "0 3" 3) (value "b" 3 ∷ [])
    ∷ []
    )) ×
    (Tried "'a'<'#(b=999999999)#(b:1),#(b:999999999),#(b:999999998),#(b:2)';'c'<'#(d:1),#(d:999999999)';" (
    fed "c" (says "1 0,0 1" 2) []
    ∷ fed "a" (says "999999999 0,1 0,1 1,499999999 1" 3) (value "b" 999999999 ∷ [])
    ∷ []
    )) ×
    (Tried "'|'<'[#(b:4)]#(+b)';'a'<'#(b,7)#(b=10)#(b:3)#(b:3)#(b)';" (
    fed "|||||" (says "[0 1]2[0 2]3[0 3]4[1 0]5[1 1]6" 3) (value "b" 6 ∷ [])
    ∷ fed "a" (says "3 13 110" 2) (value "b" 10 ∷ increment "b" 7 ∷ [])
    ∷ []
    )) ×
    (Tried "'$'<'#(b:4)';" (
    fed_bytes 10000 (replicate 1051 97) (out (replicate 1051 97 ++ bytes "0 1") 1) []
    ∷ fed_bytes 10000 (replicate 1052 97) (refused 32 0 1) []
    ∷ []
    ))
unfolding everything
bars = (refl, refl, refl, refl)

-- a pointer moves before or after the access; `&(i=n)`, `&(i:text:)`, and "Storing and setting insert nothing."
pub stacks :
    (Tried "'p'<'&(a:x:)&(+a:yy:)&(a)&(-a)&(a+)&(a-)&(a)';" (
    fed "p" (says "yyxxyyx" 1) (holds "a" 1 "x" ∷ holds "a" 2 "yy" ∷ [])
    ∷ []
    )) ×
    (Tried "'p'<'&(a=3)'&(-a:u:)&(a-:v:);'{q}{r}'<''&(1,b+)&(2,+b)&(1,-c);" (
    fed "p" (says "" 3) (holds "a" 2 "v" ∷ [])
    ∷ fed "qr" (says "" 2) (holds "a" 2 "v" ∷ pointer "b" 3 ∷ holds "b" 1 "q" ∷ holds "b" 3 "r" ∷ holds "c" 1 "q" ∷ [])
    ∷ []
    ))
unfolding everything
stacks = (refl, refl)

-- commands and replacement act "on the state that the next occurrence sees", and so do its divisions
pub next_occurrence :
    (Tried "'a'<'#(n+)'&(s:x:);" (
    fed "aaa" (says "123" 1) (holds "s" 1 "x" ∷ value "n" 4 ∷ [])
    ∷ []
    )) ×
    (Tried "'#(n)'<'x#(+n)';" (
    fed "122" (says "x2x32" 1) (value "n" 3 ∷ [])
    ∷ []
    ))
unfolding everything
next_occurrence = (refl, refl)

-- 01's song, and what its stacks hold
pub average :
    Tried "'avg({?2*},{?2*})'='({1}+{2})\\/2'&(1,a)&(2,b);" (
    fed "avg(26,42)" (says "(26+42)/2" 2) (holds "a" 1 "26" ∷ holds "b" 1 "42" ∷ [])
    ∷ []
    )
unfolding everything
average = refl

-- 34, "pointer past 20", and 20 itself; a step with a sign acts in written order (reading 20)
pub pointer_bound :
    (Tried "'p'<'&(a=19)';'q'<'&(a+)';" (
    fed "p" (says "" 3) (pointer "a" 19 ∷ [])
    ∷ fed "q" (says "" 2) (pointer "a" 20 ∷ [])
    ∷ fed "q" (refused 34 0 1) (pointer "a" 20 ∷ [])
    ∷ []
    )) ×
    (Tried "'p'<'&(a=20)';'{x*}'<''&(1,+a);'{y*}'<''&(1,a+);'z'<'&(a+)q';" (
    fed "p" (says "" 7) (pointer "a" 20 ∷ [])
    ∷ fed_bytes 10000 (replicate 101 120) (refused 34 0 3) (pointer "a" 20 ∷ [])
    ∷ fed_bytes 10000 (replicate 101 121) (refused 33 0 2) (pointer "a" 20 ∷ [])
    ∷ fed "z" (refused 34 0 1) (pointer "a" 20 ∷ [])
    ∷ []
    ))
unfolding everything
pointer_bound = (refl, refl)

-- 35, "counter past its end", and the end itself
pub counter_bound :
    (Tried "'s'<'#(n=999999998)';'t'<'#(n+)';" (
    fed "s" (says "" 3) (value "n" 999999998 ∷ [])
    ∷ fed "t" (says "999999998" 2) (value "n" 999999999 ∷ [])
    ∷ fed "t" (refused 35 0 1) (value "n" 999999999 ∷ [])
    ∷ []
    )) ×
    (Tried "'s'<'#(n=999999994)#(n,5)';'t'<'#(+n)';" (
    fed "s" (says "" 3) (value "n" 999999994 ∷ increment "n" 5 ∷ [])
    ∷ fed "t" (says "999999999" 2) (value "n" 999999999 ∷ increment "n" 5 ∷ [])
    ∷ fed "t" (refused 35 0 1) (value "n" 999999999 ∷ increment "n" 5 ∷ [])
    ∷ []
    ))
unfolding everything
counter_bound = (refl, refl)

-- 33, a stored tag over 100 bytes: 01's song, whose 50 and 51 become 100 and 101 (02, N6)
pub tag_bound :
    Tried "'{a*}'<'b'&(1,t);" (
    fed_bytes 10000 (replicate 100 97) (says "b" 1) (entry "t" 1 (replicate 100 97) ∷ [])
    ∷ fed_bytes 10000 (replicate 101 97) (refused 33 0 1) (entry "t" 1 (replicate 100 97) ∷ [])
    ∷ []
    )
unfolding everything
tag_bound = refl

-- 32, "the new line's 1,055th byte": bytes of a replacement, and the byte that is copied
pub room_of_bytes :
    Tried "'x'<'yz';" (
    fed_bytes 10000 (bytes "x" ++ replicate 1052 97) (out (bytes "yz" ++ replicate 1052 97) 1) []
    ∷ fed_bytes 10000 (bytes "x" ++ replicate 1053 97) (refused 32 0 1) []
    ∷ fed_bytes 10000 (replicate 1052 97 ++ bytes "x") (out (replicate 1052 97 ++ bytes "yz") 1) []
    ∷ fed_bytes 10000 (replicate 1053 97 ++ bytes "x") (refused 32 0 1) []
    ∷ []
    )
unfolding everything
room_of_bytes = refl

-- 32 where a tag's text or an entry is inserted
pub room_of_texts :
    (Tried "'{x}'<'{1}{1}';" (
    fed_bytes 10000 (replicate 1052 97 ++ bytes "x") (out (replicate 1052 97 ++ bytes "xx") 1) []
    ∷ fed_bytes 10000 (replicate 1053 97 ++ bytes "x") (refused 32 0 1) []
    ∷ []
    )) ×
    (Tried "'{x}$'<'&(s:12:)&(s)';" (
    fed_bytes 10000 (replicate 1052 97 ++ bytes "x") (out (replicate 1052 97 ++ bytes "12") 1) (holds "s" 1 "12" ∷ [])
    ∷ fed_bytes 10000 (replicate 1053 97 ++ bytes "x") (refused 32 0 1) (holds "s" 1 "12" ∷ [])
    ∷ []
    ))
unfolding everything
room_of_texts = (refl, refl)

-- PART 5

-- reading 19: an empty match copies the byte there; one "at the end of the match just made in the same pass does not count"
pub empty_matches :
    (Tried "'a*-'<'X';" (
    fed "bb" (says "XbXbX" 1) []
    ∷ fed "aa" (says "X" 1) []
    ∷ fed "aab" (says "XbX" 1) []
    ∷ fed "" (says "X" 1) []
    ∷ []
    )) ×
    (Tried "'$'<'X';" (
    fed "ab" (says "abX" 1) []
    ∷ []
    ))
unfolding everything
empty_matches = (refl, refl)

-- "Replaced text is not looked at again in that pass."; a match goes on at its end
pub replaced_text :
    (Tried "'ab'<'abc';" (
    fed_within 1 "ababab" (says "abcabcabc" 1) []
    ∷ []
    )) ×
    (Tried "'aa'<'b';" (
    fed "aaaaa" (says "bba" 1) []
    ∷ []
    ))
unfolding everything
replaced_text = (refl, refl)

-- reading 21: a line feed made by a replacement is an ordinary byte; `^` and `$` are the ends of the whole line
pub line_feeds :
    Tried "'a'<'\\n';'^b'<'X';'b$'<'Y';" (
    fed "bab" (says "X\nY" 3) []
    ∷ []
    )
unfolding everything
line_feeds = refl

-- PART 6

-- "Passes begin with the newest macro and go to older ones; after a pass with an occurrence, again with the newest."; M9, and a chain back
pub order :
    (Tried "'a'='b';'a'='c';" (
    fed "a" (says "c" 3) []
    ∷ []
    )) ×
    (Tried "'b'<'c';'a'='b';'c'<'a';" (
    fed "a" (says "b" 8) []
    ∷ []
    ))
unfolding everything
order = (refl, refl)

-- "A `<` macro that occurred is closed to this line; all others are open.": and open again to the next
pub closed :
    (Tried "'a'<'aa';" (
    fed_within 1 "a" (says "aa" 1) []
    ∷ fed_within 1 "aa" (says "aaaa" 1) []
    ∷ []
    )) ×
    (Tried "'aa'='a';" (
    fed "aaaa" (says "a" 3) []
    ∷ []
    ))
unfolding everything
closed = (refl, refl)

-- 31 exactly, with the passes begun; reading 22: the control line is looked at before the budget
pub budgets :
    (Tried "'a'='b';" (
    fed_within 0 "x" (refused 31 0 0) []
    ∷ fed_within 1 "x" (says "x" 1) []
    ∷ fed_within 1 "a" (refused 31 0 1) []
    ∷ fed_within 2 "a" (says "b" 2) []
    ∷ fed_within 0 "$NFLAG 1" (control 0) (nflag 1 ∷ [])
    ∷ []
    )) ×
    (Tried "'a'='$NFLAG 1';" (
    fed_within 1 "a" (control 1) (nflag 1 ∷ [])
    ∷ []
    )) ×
    (Tried "" (
    fed_within 0 "x" (says "x" 0) []
    ∷ []
    ))
unfolding everything
budgets = (refl, refl, refl)

-- 4, 21 and 22, in that order, each at its bound, before any pass and before a control line; a tab is no bad byte
pub refusals_before :
    Tried "'q'='b';" (
    fed_bytes 1000000 (replicate 1054 120) (out (replicate 1054 120) 1) []
    ∷ fed_bytes 1000001 (replicate 1055 0) (refused 4 0 0) []
    ∷ fed_bytes 0 (replicate 1055 0) (refused 21 0 0) []
    ∷ fed_bytes 0 (97 ∷ 0 ∷ []) (refused 22 0 0) []
    ∷ fed_bytes 0 (36 ∷ 10 ∷ []) (refused 22 0 0) []
    ∷ fed_bytes 1 (9 ∷ []) (out (9 ∷ []) 1) []
    ∷ []
    )
unfolding everything
refusals_before = refl

-- the four flag lines, "exactly so"; reading 23: a trailing space is 23
pub flags :
    Tried "" (
    fed "$TRACE 1" (control 0) (trace 1 ∷ [])
    ∷ fed "$NFLAG 1" (control 0) (trace 1 ∷ nflag 1 ∷ [])
    ∷ fed "$TRACE 0" (control 0) (nflag 1 ∷ [])
    ∷ fed "$TRACE 1" (control 0) (trace 1 ∷ nflag 1 ∷ [])
    ∷ fed "$NFLAG 0" (control 0) (trace 1 ∷ [])
    ∷ fed "$TRACE 1 " (refused 23 0 0) (trace 1 ∷ [])
    ∷ fed "$TRACE 2" (refused 23 0 0) (trace 1 ∷ [])
    ∷ fed "$TRACE" (refused 23 0 0) (trace 1 ∷ [])
    ∷ fed "$" (refused 23 0 0) (trace 1 ∷ [])
    ∷ fed "$trace 0" (refused 23 0 0) (trace 1 ∷ [])
    ∷ []
    )
unfolding everything
flags = refl

-- reading 23: `$MACRO` is compared as the line's start and adds the newest; a fault gives its own number and place; "else a count other
-- than one gives 23"
pub new_macros :
    Tried "'a'='o';" (
    fed "$MACROS 'a'='b';" (control 0) []
    ∷ fed "a" (says "b" 3) []
    ∷ fed "$MACRO" (refused 23 0 0) []
    ∷ fed "$MACRO'a'='c';'c'='d';" (refused 23 0 0) []
    ∷ fed "$MACRO 'a**'='b';" (refused 14 4 0) []
    ∷ fed "$MACRO 'a'='b'" (refused 12 8 0) []
    ∷ fed "a" (says "b" 3) []
    ∷ []
    )
unfolding everything
new_macros = refl

-- "withheld if NFLAG is 1 and it had no occurrence; otherwise it goes out"
pub withholding :
    Tried "'a'='b';" (
    fed "$NFLAG 1" (control 0) (nflag 1 ∷ [])
    ∷ fed "x" (withheld 1) (nflag 1 ∷ [])
    ∷ fed "a" (says "b" 2) (nflag 1 ∷ [])
    ∷ fed "" (withheld 1) (nflag 1 ∷ [])
    ∷ fed "$NFLAG 0" (control 0) []
    ∷ fed "x" (says "x" 1) []
    ∷ fed "$TRACE 1" (control 0) (trace 1 ∷ [])
    ∷ fed "x" (says "x" 1) (trace 1 ∷ [])
    ∷ []
    )
unfolding everything
withholding = refl

-- reading 24: state moved by passes stays when the line turns out to be a control line that is taken, "a refused one restores all"; 23 has
-- place 0 and the passes begun
pub control_later :
    Tried "'o'<'$TRACE 1'#(n=5);'q'<'$FOO'#(n=7);'m'<'$MACRO \\'k\\'<\\'\\#(n)\\'\\;'#(n=6);" (
    fed "o" (control 3) (value "n" 5 ∷ trace 1 ∷ [])
    ∷ fed "q" (refused 23 0 2) (value "n" 5 ∷ trace 1 ∷ [])
    ∷ fed "m" (control 1) (value "n" 6 ∷ trace 1 ∷ [])
    ∷ fed "k" (says "6" 4) (value "n" 6 ∷ trace 1 ∷ [])
    ∷ []
    )
unfolding everything
control_later = refl

-- 01's song of the program: a refused line in the middle leaves the state, and the next line gets it
pub list_of_lines :
    Tried "'^'<'#(n+) ';" (
    fed "do" (says "1 do" 1) (value "n" 2 ∷ [])
    ∷ fed "$FOO" (refused 23 0 0) (value "n" 2 ∷ [])
    ∷ fed "re" (says "2 re" 1) (value "n" 3 ∷ [])
    ∷ []
    )
unfolding everything
list_of_lines = refl

-- 02, N2

-- "It runs when the macro's first pass on the line begins", before place 0 is tried, and at no other pass; on the next line again
pub calls_run :
    (Tried "#(v=5)'x'='y#(v+)';" (
    fed "xx" (says "y5y6" 2) (value "v" 7 ∷ [])
    ∷ fed "xx" (says "y5y6" 2) (value "v" 7 ∷ [])
    ∷ []
    )) ×
    (Tried "#(n=1)'a'='b#(n+)';'b'='c';" (
    fed "aa" (says "c1c2" 5) (value "n" 3 ∷ [])
    ∷ []
    )) ×
    (Tried "'x'='y#(v+)';#(v=5)'q'='';" (
    fed "x" (says "y5" 4) (value "v" 6 ∷ [])
    ∷ []
    )) ×
    (Tried "#(v=4)'^p#(v)'<'w';" (
    fed "p4" (says "w" 1) (value "v" 4 ∷ [])
    ∷ []
    )) ×
    (Tried "&(a:lo:)'&(a)'<'X';" (
    fed "hello" (says "helX" 1) (holds "a" 1 "lo" ∷ [])
    ∷ []
    )) ×
    (Tried "#(v=3)'q'='';#(v=2)'r'='';" (
    fed "z" (says "z" 2) (value "v" 3 ∷ [])
    ∷ []
    )) ×
    (Tried "#(v=1)'@'<'#(v+).';" (
    fed "@Lord @hear @us" (says "1.Lord 2.hear 3.us" 1) (value "v" 4 ∷ [])
    ∷ fed "@Amen" (says "1.Amen" 1) (value "v" 2 ∷ [])
    ∷ []
    )) ×
    (Tried "" (
    fed "$MACRO #(v=1)" (refused 12 7 0) []
    ∷ fed "$MACRO #(v=3)'a'<'#(v)';" (control 0) []
    ∷ fed "a" (says "3" 1) (value "v" 3 ∷ [])
    ∷ []
    ))
unfolding everything
calls_run = (refl, refl, refl, refl, refl, refl, refl, refl)

-- what they do, left to right; a refused one ends the line, with that pass begun
pub calls_do :
    (Tried "&(a+:x:)&(a+:y:)&(-a:z:)&(b=7)#(c=8)#(d,9)'q'='';" (
    fed "-" (says "-" 1) (pointer "a" 2 ∷ holds "a" 1 "x" ∷ holds "a" 2 "z" ∷ pointer "b" 7 ∷ value "c" 8 ∷ increment "d" 9 ∷ [])
    ∷ []
    )) ×
    (Tried "&(s=20)&(+s:x:)'a'='b';" (
    fed "z" (refused 34 0 1) []
    ∷ fed_within 0 "z" (refused 31 0 0) []
    ∷ []
    )) ×
    (Tried "&(s=20)&(s+:x:)'a'='b';'z'='a';" (
    fed "z" (refused 34 0 3) []
    ∷ []
    ))
unfolding everything
calls_do = (refl, refl, refl)

-- "after the budget is looked at", and after the control look; a refused line leaves the state
pub calls_after :
    (Tried "#(v=9)'q'='';#(v=8)'r'='';" (
    fed_within 1 "z" (refused 31 0 1) []
    ∷ fed_within 2 "z" (says "z" 2) (value "v" 9 ∷ [])
    ∷ []
    )) ×
    (Tried "#(v=9)'a'='a';" (
    fed_within 3 "a" (refused 31 0 3) []
    ∷ []
    )) ×
    (Tried "#(v=9)'q'='';#(w=8)'@'<'$NFLAG 0';" (
    fed "$NFLAG 0" (control 0) []
    ∷ fed "@" (control 1) (value "w" 8 ∷ [])
    ∷ []
    ))
unfolding everything
calls_after = (refl, refl, refl)

-- they are no occurrence: what they changed stays, NFLAG withholds, and a macro tried before is not tried again because of them
pub calls_quiet :
    (Tried "#(v=2)'q'='';" (
    fed "$NFLAG 1" (control 0) (nflag 1 ∷ [])
    ∷ fed "z" (withheld 1) (value "v" 2 ∷ nflag 1 ∷ [])
    ∷ []
    )) ×
    (Tried "&(a:b:)'zz'='';'<&(a)>'='x';" (
    fed "<b>" (says "<b>" 2) (holds "a" 1 "b" ∷ [])
    ∷ fed "<b>" (says "x" 3) (holds "a" 1 "b" ∷ [])
    ∷ []
    )) ×
    (Tried "#(v=2)'q'='r';'p#(v)'='w';" (
    fed "p2" (says "p2" 2) (value "v" 2 ∷ [])
    ∷ fed "p2" (says "w" 3) (value "v" 2 ∷ [])
    ∷ []
    ))
unfolding everything
calls_quiet = (refl, refl, refl)

-- 02, N3

-- 02, N3: a line under each kind with letters beyond ASCII, and the signs among them; ranges and calls keep to ASCII
pub letter_cases :
    (Tried "'{?3*}'<'({1})';" (
    fed "L'été à Nîmes: 2 × 3" (says "(L)'(été) (à) (Nîmes): 2 × 3" 1) []
    ∷ fed "Süße Grüße, Änne" (says "(Süße) (Grüße), (Änne)" 1) []
    ∷ []
    )) ×
    (Tried "'{?2*}'<'({1})';" (
    fed "6÷2×é1 ªµº" (says "(6)÷(2)×(é1) ªµº" 1) []
    ∷ []
    )) ×
    (Tried "'{?4*}'<'({1})';" (
    fed "¿ÀÖ×ØÞßZ" (says "¿(ÀÖ)×(ØÞ)ß(Z)" 1) []
    ∷ []
    )) ×
    (Tried "'{?5*}'<'({1})';" (
    fed "Þßö÷øÿz" (says "Þ(ßö)÷(øÿz)" 1) []
    ∷ []
    )) ×
    (Tried "'{?6*}'<'({1})';" (
    fed "é1é" (says "é(1)é" 1) []
    ∷ []
    )) ×
    (Tried "'[éa-z]*'<'x';" (
    fed "thé à" (says "x à" 1) []
    ∷ []
    )) ×
    (Tried "'[a-é]'='';" (
    fed "" (refused 13 4 0) []
    ∷ []
    )) ×
    (Tried "'[à-é]'='';" (
    fed "" (refused 13 4 0) []
    ∷ []
    )) ×
    (Tried "'[A-Ö]'='';" (
    fed "" (refused 13 4 0) []
    ∷ []
    )) ×
    (Tried "'&(é)'='';" (
    fed "" (refused 16 3 0) []
    ∷ []
    ))
unfolding everything
letter_cases = (refl, refl, refl, refl, refl, refl, refl, refl, refl, refl)
