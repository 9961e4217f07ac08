-- THE CONTRACT OF m7_words: from line and word-pattern, the whole answer; it writes no memory.
-- It rules out, among others, the edits words_place_lost (the place is always 0) and words_as_bad_byte (41 is answered as 22).
use Rattle.std.specs.Prelude.{ℕ, List}
use Rattle.words.specs.Look.{Looked, look_up, looked_number, looked_words, looked_place}
use Rattle.line_answer.specs.declared.Answer.{Answer}
use Rattle.line_answer.specs.Replies.{reply}

-- number, the place of the first word covered, and the number of words covered as the length
unfoldable pub words_reply : Looked → Answer
words_reply a = reply (looked_number a) (looked_place a) (looked_words a)

-- m7_words, of a line and a word-pattern
unfoldable pub looks_up : (line pattern : List ℕ) → Answer
looks_up t p = words_reply (look_up t p)
