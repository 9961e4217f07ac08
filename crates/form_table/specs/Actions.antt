-- The items of an action, which t begins with: how many bytes they are, and what is read of them.
-- Its first byte (`action_items`, `call_items` of Form.antt) is below 64 for a byte, a tag or an insertion; 64 to 71 for a stored tag,
-- 72 to 79 for a stored text; then it is a setting, or 104 for `#(i:n)`.
use Rattle.std.specs.Prelude.{ℕ, ◌+◌, ◌%◌, ◌≤◌, List, ltb, length, get_or, take, drop}
use Rattle.form_bytes.specs.Fours.{number_at}
use Rattle.macros.specs.Macro.{pick}

-- how many bytes the action takes
unfoldable pub action_size : List ℕ → ℕ
action_size t =
    pick (ltb (get_or t 0 0) 64) 2
    (pick (ltb (get_or t 0 0) 72) 4
    (pick (ltb (get_or t 0 0) 80) (4 + get_or t 3 0 + get_or t 3 0 % 2) 6))

-- the number of `&(i=n)`, `#(i=n)`, `#(i,n)` or `#(i:n)`: bytes 2 to 5, low byte first
unfoldable pub number_in : List ℕ → ℕ
number_in t = number_at t 2

-- the text of `&(i:text:)`: from byte 4 on, as many bytes as byte 3 says
unfoldable pub text_in : List ℕ → List ℕ
text_in t = take (get_or t 3 0) (drop 4 t)

-- t has as many bytes as its first ones ask for
abbrev pub Held : List ℕ → Type 0
Held t = action_size t ≤ length t
