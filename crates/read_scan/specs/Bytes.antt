-- The bytes of a macro that count, with their places, and the next of them: what the functions about single bytes answer.
use Rattle.std.specs.Prelude.{ℕ, suc, ◌+◌, ◌-◌, Bool, true, false, not, ◌||◌, List, [], ◌∷◌, eqb, ltb, length, get_or, take, drop}
use Rattle.macros.specs.Bounds.{most_macro_bytes}
use Rattle.macros.specs.Macro.{pick}
use Rattle.read_scan.specs.declared.FileFault.{FileFault}
use Rattle.read_scan.specs.declared.FileFault.TheVariants.{Incomplete, MacroTooLong}
use Rattle.std.specs.Prelude.{Result, Ok, Err}
use Rattle.read_scan.specs.declared.ReadError.{ReadError}

-- a byte with its place, or a refusal with its place
abbrev pub Next : Type 0
Next = Result (ℕ × ℕ) ReadError

-- the refusal f at place q
abbrev pub refused : FileFault → ℕ → Next
refused f q = Err (record { fault = f; place = q })

-- a byte and its place
pub data Placed : Type 0 where
  byte_at : ℕ → ℕ → Placed

-- with x, or without it
unfoldable pub with? : Bool → Placed → List Placed → List Placed
with? true x xs = x ∷ xs
with? false x xs = xs

-- the bytes from place p on that stand in no skip, "`/` skips to the next `/`", as far as no `\` and no class comes;
-- k says whether p is in a skip
unfoldable pub outside : Bool → ℕ → List ℕ → List Placed
outside k p [] = []
outside k p (b ∷ bs) = with? (not (eqb b 47 || k)) (byte_at b p) (outside (pick (eqb b 47) (not k) k) (suc p) bs)

-- the file up to the 513th byte of the macro that began at a, that byte too, at which 12 to 17 come before 18
unfoldable pub up_to : List ℕ → ℕ → List ℕ
up_to s a = take (a + (most_macro_bytes + 1)) s

-- the bytes that count from place p on, which is in no skip, as far as no `\` and no class comes
unfoldable pub seen : List ℕ → ℕ → ℕ → List Placed
seen s a p = outside false p (drop p (up_to s a))

-- where no byte is left: 18 at the macro's 513th byte if the file has one, else 12 at the file's end
unfoldable pub unended : List ℕ → ℕ → Next
unended s a = pick (ltb most_macro_bytes (length s - a)) (refused MacroTooLong (a + most_macro_bytes)) (refused Incomplete (length s))

-- the byte at place p itself: in a class and behind `\` no skip begins
unfoldable pub byte_here : List ℕ → ℕ → ℕ → Next
byte_here s a p = pick (ltb p (length (up_to s a))) (Ok (get_or s p 0, p)) (unended s a)

-- the first of some bytes; the refusal r where there is none
unfoldable pub first : Next → List Placed → Next
first r [] = r
first r (byte_at b q ∷ xs) = Ok (b, q)

-- the next byte from p on that stands in no skip, in the macro that began at a
unfoldable pub next_byte : List ℕ → ℕ → ℕ → Next
next_byte s a p = first (unended s a) (seen s a p)

-- "Spaces in calls are ignored": byte 32 alone
unfoldable pub spaceless : List Placed → List Placed
spaceless [] = []
spaceless (byte_at b q ∷ xs) = with? (not (eqb b 32)) (byte_at b q) (spaceless xs)

-- the next byte in a call
unfoldable pub next_in_call : List ℕ → ℕ → ℕ → Next
next_in_call s a p = first (unended s a) (spaceless (seen s a p))
