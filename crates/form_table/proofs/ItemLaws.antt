-- The laws of what is read of a table's bytes.
use Rattle.form_table.specs.ItemLaws.{ActionSizes, SlotLengths}
use Rattle.form_table.proofs.Actions.{action_size_lem}
use Rattle.form_table.proofs.Slots.{before_at, pattern_at_lem, replacement_at, commands_at}

pub action_sizes : ActionSizes
action_sizes a rest = action_size_lem a rest

pub slot_lengths : SlotLengths
slot_lengths m = record { before = before_at m; pattern = pattern_at_lem m; replacement = replacement_at m; commands = commands_at m }
