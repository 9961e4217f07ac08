-- Cases of writing out (01, part 7) and of the shortest spelling, computed. In a string `\\` is one `\`.
use Rattle.std.specs.Prelude.{◌≡◌, refl, ℕ, List, [], ◌∷◌, ◌++◌, length, replicate}
use Rattle.macros.specs.Macro.{Table}
use Rattle.macros.specs.Refusals.{file_number}
use Rattle.macros.specs.Read.{Read, read_file}
use Rattle.macros.specs.ReadFile.Read.{refused_at, table}
use Rattle.macros.specs.Write.{Written, write_from, write_out}
use Rattle.macros.specs.Write.Written.{file, refused}
use Rattle.macros.specs.Cases.{everything, stretched, sized, Case, Hold}
use Rattle.macros.specs.Cases.Case.{◌becomes◌, ◌shortens_to◌}

-- every byte from 32 to 126 in a pattern, in a class, in a replacement and in a call's text, with the `\` that part 7 lists and no other
pub marks : Hold (
    ("'\\ \\!\\\"\\#\\$\\%\\&\\'\\(\\)\\*\\+\\,\\-\\.\\/\\0\\1\\2\\3\\4\\5\\6\\7\\8\\9\\:\\;\\<\\=\\>\\?\\@ABCDEFGHIJKLMNOPQRSTUVWXYZ\\[\\\\\\]\\^\\_\\`abcdefghijklmnopqrstuvwxyz\\{\\|\\}\\~'='';"
    becomes "' !\"\\#\\$%\\&\\'()\\*+,\\-.\\/0123456789:\\;<=>\\?@ABCDEFGHIJKLMNOPQRSTUVWXYZ\\[\\\\]\\^_`abcdefghijklmnopqrstuvwxyz\\{|\\}~'='';")
    ∷ ("'[\\ \\!\\\"\\#\\$\\%\\&\\'\\(\\)\\*\\+\\,\\-\\.\\/\\0\\1\\2\\3\\4\\5\\6\\7\\8\\9\\:\\;\\<\\=\\>\\?\\@ABCDEFGHIJKLMNOPQRSTUVWXYZ\\[\\\\\\]\\^\\_\\`abcdefghijklmnopqrstuvwxyz\\{\\|\\}\\~]'='';"
    becomes "'[ !\"#$%&\\'()*+,\\-./0123456789:\\;<=>?@ABCDEFGHIJKLMNOPQRSTUVWXYZ[\\\\\\]^_`abcdefghijklmnopqrstuvwxyz{|}\\~]'='';")
    ∷ ("'a'='\\ \\!\\\"\\#\\$\\%\\&\\'\\(\\)\\*\\+\\,\\-\\.\\/\\0\\1\\2\\3\\4\\5\\6\\7\\8\\9\\:\\;\\<\\=\\>\\?\\@ABCDEFGHIJKLMNOPQRSTUVWXYZ\\[\\\\\\]\\^\\_\\`abcdefghijklmnopqrstuvwxyz\\{\\|\\}\\~';"
    becomes "'a'=' !\"\\#$%\\&\\'()*+,-.\\/0123456789\\:\\;<=>?@ABCDEFGHIJKLMNOPQRSTUVWXYZ[\\\\]^_`abcdefghijklmnopqrstuvwxyz\\{|}~';")
    ∷ ("'a'='&(a:\\ \\!\\\"\\#\\$\\%\\&\\'\\(\\)\\*\\+\\,\\-\\.\\/\\0\\1\\2\\3\\4\\5\\6\\7\\8\\9\\:\\;\\<\\=\\>\\?\\@\\[\\\\\\]\\^\\_\\`\\{\\|\\}\\~:)';"
    becomes "'a'='&(a: !\"\\#$%\\&\\'()*+,-.\\/0123456789\\:\\;<=>?@[\\\\]^_`\\{|}~:)';") ∷ [])
unfolding everything
marks = refl

-- without comments or needless spaces; numbers without leading zeros
pub forms : Hold (
    ("x'a?/x/3*/y/-{?&*&(b)}[~a-z\\]-]'</and/'{01}&(a=0 9)&( b:x:)\\&(';" becomes "'a?3*-{\\?\\&*&(b)}[~a-z\\]\\-]'<'{1}&(a=9)&(b:x:)\\&(';")
    ∷ ("'{^a#}#(n)*$'='&(+b)&(1,b-)#(n+)'x&(01,b)&#(n,7)&(b-:\\:\\n:)y#(n=3);"
    becomes "'{^a\\#}#(n)*$'='&(+b)&(1,b-)#(n+)'&(1,b)#(n,7)&(b-:\\:\\n:)#(n=3);")
    ∷ ("'a'='#(n=0100)#(n,123456789)#(n=10)#(n=9)';" becomes "'a'='#(n=100)#(n,123456789)#(n=10)#(n=9)';")
    ∷ ("x &(b-:\\:\\n:) /y/ #(n=03)z'a'='b'&(b=2);" becomes "&(b-:\\:\\n:)#(n=3)'a'='b'&(b=2);") ∷ [])
unfolding everything
forms = refl

-- the shortest spellings: a `\` only where the byte would be read otherwise without it
pub spellings : Hold (
    ("'\\?3&\\(a*\\-[\\~a\\-b-]'='\\:\\&(';" shortens_to "'?\\3&\\(a*\\-[\\~a\\-b-]'=':&\\(';")
    ∷ ("'\\?a\\?3\\&\\#x*\\-y*-\\-'='\\&\\(\\:';" shortens_to "'?a?\\3&#x*\\-y*--'='&\\(:';")
    ∷ ("'\\$\\^\\*\\[\\{\\}\\/\\\\\\'\\;\\n\\t\\-\\]'='\\{\\/\\\\\\'\\;\\n\\t\\}&(a:\\:\\/\\\\\\'\\;\\n\\{\\&:)';"
    shortens_to "'\\$\\^\\*\\[\\{\\}\\/\\\\\\'\\;\\n\t-]'='\\{\\/\\\\\\'\\;\\n\t}&(a:\\:\\/\\\\\\'\\;\\n{&:)';")
    ∷ ("'a*{\\-}?*\\3[~\\~a-c\\-][\\-a][\\]\\\\\\'\\;\\n]'='';" shortens_to "'a*{-}?*3[~~a-c-][-a][\\]\\\\\\'\\;\\n]'='';") ∷ [])
unfolding everything
spellings = refl

abbrev pub table_of : Read → Table
table_of (refused_at r p) = []
table_of (table ms) = ms

-- the length of the file written, or number and place
abbrev pub shown_written : Written → ℕ × ℕ
shown_written (file s) = (0, length s)
shown_written (refused r p) = (file_number r, p)

-- a macro that is written with 511 bytes
abbrev pub line512 : Table
line512 = table_of (read_file (sized 504))

-- a macro that is written with 512 bytes
abbrev pub line513 : Table
line513 = table_of (read_file (sized 505))

-- a macro that is read with 512 bytes and written with more
abbrev pub too_long : Table
too_long = table_of (read_file (stretched "'a'='" 505 ":" "';"))

-- 02, N2: the same of a macro with a call before its pattern, whose bytes count
abbrev pub too_long_calls : Table
too_long_calls = table_of (read_file (stretched "#(v=1)'a'='" 499 ":" "';"))

-- 18 and 10, "whichever comes first (18 if the same)", behind a file that is nearly full
pub writings :
    (shown_written (write_out too_long) ≡ (18, 512)) ×
    (shown_written (write_out (line512 ++ too_long)) ≡ (18, 1024)) ×
    (shown_written (write_out too_long_calls) ≡ (18, 512)) ×
    (shown_written (write_out (line512 ++ too_long_calls)) ≡ (18, 1024)) ×
    (shown_written (write_out line513) ≡ (0, 513)) ×
    (shown_written (write_from (replicate 32256 32) line512) ≡ (0, 32768)) ×
    (shown_written (write_from (replicate 32257 32) line512) ≡ (10, 32768)) ×
    (shown_written (write_from (replicate 32256 32) line513) ≡ (10, 32768)) ×
    (shown_written (write_from (replicate 32256 32) too_long) ≡ (18, 32768)) ×
    (shown_written (write_from (replicate 32257 32) too_long) ≡ (10, 32768))
unfolding everything
writings = (refl, refl, refl, refl, refl, refl, refl, refl, refl, refl)
