-- What looking words up promises.
use Rattle.std.specs.Prelude.{Result, Ok, Err}
use Rattle.macros.specs.Refusals.LineRefusal.{line_too_long, bad_byte}
use Rattle.words.specs.Refusal.WordRefusal.{bad_pattern}
use Rattle.words.specs.Look.{Looked as Answered}
use Rattle.words.specs.Look.Looked.{refused_line, refused_pattern, found}
use Rattle.word_find.specs.declared.WordFault.{WordFault}
use Rattle.word_find.specs.declared.WordFault.TheVariants.{LineTooLong, BadByte, BadPattern}
use Rattle.word_find.specs.declared.Found.{Found}

-- the answer of the definition for each case of the code's
abbrev pub looked_of : Result Found WordFault → Answered
looked_of (Err LineTooLong) = refused_line line_too_long
looked_of (Err BadByte) = refused_line bad_byte
looked_of (Err BadPattern) = refused_pattern bad_pattern
looked_of (Ok f) = found f.words f.first
