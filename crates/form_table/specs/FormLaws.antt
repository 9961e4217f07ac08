-- What the form of a table is held to.
-- FormSize rules out must-fail/form_size_body, form_size_class_end and form_size_tail,
-- OneForm must-fail/one_form_before, one_form_call_code and one_form_symbol.
use Rattle.std.specs.Prelude.{◌*◌, ◌-◌, ◌≤◌, ◌≡◌, length}
use Rattle.macros.specs.Bounds.{most_tags}
use Rattle.macros.specs.Macro.{Macro, Table, tags}
use Rattle.macros.specs.Formed.{Octets}
use Rattle.macros.specs.Spell.{shortest}
use Rattle.macros.specs.Accepted.{Each, Accepted}
use Rattle.form_table.specs.Form.{table_bytes, slot_bytes, body, slot, form}

-- A macro's items are at most twice as many bytes as its shortest spelling has beside its four quotes, its symbol and its `;`.
abbrev pub BodySize : Type 0
BodySize = (m : Macro) → length (body m) ≤ 2 * (length (shortest m) - 6)

-- A macro fits into its slot: the tags and the lengths into their bytes, the items into 1,012 bytes.
pub record Fits (m : Macro) : Type 0 where
  pub tagged : tags m.pattern ≤ most_tags
  pub items : length (body m) ≤ 1012
  pub whole : length (slot m) ≡ slot_bytes
  pub bytes : Octets (slot m)

-- The form of an accepted table has 98,304 bytes, each at most 255, and each macro fits into its slot.
abbrev pub FormSize : Type 0
FormSize = (ms : Table) → Accepted ms → (length (form ms) ≡ table_bytes) × Octets (form ms) × Each Fits ms

-- Different accepted lists of macros have different forms.
abbrev pub OneForm : Type 0
OneForm = (ms ks : Table) → Accepted ms → Accepted ks → form ms ≡ form ks → ms ≡ ks
