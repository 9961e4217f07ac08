-- 01, part 2: reading. Begin here; then, from outside in:
-- ReadFile (a file: skips, the 512 bytes, 10, 11, 18 and 19), ReadParts (a macro: between its parts), ReadPattern, ReadClass,
-- ReadReplacement and ReadCalls. What has been read so far is said in ReadSoFar; bytes are quoted as in Quoted.
-- A name with `By` takes how many bytes the text of a call may have (02, N6); without `By` these are 100. This file only passes on names.
pub use Rattle.macros.specs.ReadFile.{Pending, Prior, Reader, Next, Read, no_calls, step, read_from, read_onto, read_file}
unfoldable pub use Rattle.macros.specs.ReadFile.{count, macro_of, taken, outside_fresh, first_call, outside, further, step_by}
unfoldable pub use Rattle.macros.specs.ReadFile.{at_end, read_from_by, first_zero, read_onto_by, read_file_by}
unfoldable pub use Rattle.macros.specs.ReadParts.{calls_fresh, calls_byte, symbol_byte, quote_byte, commands_fresh, commands_byte}
pub use Rattle.macros.specs.ReadParts.{part_byte}
unfoldable pub use Rattle.macros.specs.ReadParts.{part_byte_by, skips}
unfoldable pub use Rattle.macros.specs.ReadPattern.{signs, kind_digit, hold, pattern_end, sign, fresh, closes, pattern_byte}
unfoldable pub use Rattle.macros.specs.ReadClass.{new_member, members_at_end, class_end, dashes, dashed, members_byte, opened_byte}
unfoldable pub use Rattle.macros.specs.ReadReplacement.{tag_end, tag_byte, replacement_fresh, replacement_byte}
pub use Rattle.macros.specs.ReadCalls.{Turn, text_byte}
unfoldable pub use Rattle.macros.specs.ReadCalls.{otherwise, and_digit, is_sign, sign_of, is_still, number_end, may_insert, may_store_tag}
unfoldable pub use Rattle.macros.specs.ReadCalls.{call_byte, site_of, pieces_of, behind_call, turned, text_byte_by}
pub use Rattle.macros.specs.ReadSoFar.{Joinable, Last, Front, Phase, Site, CallSite, Part, Step}
unfoldable pub use Rattle.macros.specs.ReadSoFar.{breaks, escaped}
