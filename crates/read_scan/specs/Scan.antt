-- What the machine does from a place on, and what the answers about single bytes say of it.
use Rattle.std.specs.Prelude.{ℕ, suc, ◌+◌, ◌-◌, ◌≤◌, ◌<◌, ◌≡◌, Bool, true, false, List, [], ◌∷◌, ltb, length, get_or, drop}
use Rattle.macros.specs.Bounds.{most_macro_bytes}
use Rattle.macros.specs.Refusals.{FileRefusal}
use Rattle.macros.specs.Refusals.FileRefusal.{file_too_long, zero_byte, incomplete, bad_class, no_unit}
use Rattle.macros.specs.Refusals.FileRefusal.{bad_brace, bad_call, no_element, macro_too_long, too_many_macros}
use Rattle.macros.specs.Macro.{Piece, Macro, pick}
use Rattle.macros.specs.Read.{Part, Prior, Read, Next as Stepped, read_from, step, skips, breaks, part_byte}
use Rattle.macros.specs.ReadSoFar.Part.{calls, pattern, pattern_escape, opened, members, members_escape, pattern_call, pattern_called}
use Rattle.macros.specs.ReadSoFar.Part.{await_symbol}
use Rattle.macros.specs.ReadSoFar.Part.{await_quote, replacement, replacement_escape, tag_number, calling, call_text, call_text_escape, commands}
use Rattle.macros.specs.ReadFile.Pending.{clear}
use Rattle.macros.specs.ReadFile.Reader.{between, inside}
use Rattle.macros.specs.ReadFile.Next.{go, refuse, refuse_before}
use Rattle.macros.specs.ReadSoFar.Step.{on}
use Rattle.macros.specs.ReadFile.Read.{refused_at as file_refused_at}
use Rattle.read_scan.specs.Bytes.{Next, byte_here, next_byte, next_in_call}
use Rattle.read_scan.specs.declared.FileFault.{FileFault}
use Rattle.read_scan.specs.declared.FileFault.TheVariants.{FileTooLong, ZeroByte, Incomplete, BadClass, NoUnit}
use Rattle.read_scan.specs.declared.FileFault.TheVariants.{BadBrace, BadCall, NoElement, MacroTooLong, TooManyMacros}
use Rattle.std.specs.Prelude.{Ok, Err}

-- the refusal that each fault of the code is
abbrev pub fault_of : FileFault → FileRefusal
fault_of FileTooLong = file_too_long
fault_of ZeroByte = zero_byte
fault_of Incomplete = incomplete
fault_of BadClass = bad_class
fault_of NoUnit = no_unit
fault_of BadBrace = bad_brace
fault_of BadCall = bad_call
fault_of NoElement = no_element
fault_of MacroTooLong = macro_too_long
fault_of TooManyMacros = too_many_macros

-- READING ONE MACRO

-- what it comes to: a refusal with its place; the pieces of a pattern, newest first, that ends before a place, and what follows;
-- the macro, that ends before a place
pub data MacroRead : Type 0 where
  refused_at : FileRefusal → ℕ → MacroRead
  pattern_to : ℕ → List Piece → MacroRead → MacroRead
  macro_to : ℕ → Macro → MacroRead

-- at the wait for the symbol a pattern is complete
abbrev pub at_symbol : Part → ℕ → MacroRead → MacroRead
at_symbol (await_symbol ps) p o = pattern_to p ps o
at_symbol (calls a cs) p o = o
at_symbol (pattern h ps) p o = o
at_symbol (pattern_escape ps) p o = o
at_symbol (opened ps) p o = o
at_symbol (members ps neg l xs) p o = o
at_symbol (members_escape ps neg l xs) p o = o
at_symbol (pattern_call m ps) p o = o
at_symbol (pattern_called m ps i) p o = o
at_symbol (await_quote f) p o = o
at_symbol (replacement a f l) p o = o
at_symbol (replacement_escape f l) p o = o
at_symbol (tag_number n f l) p o = o
at_symbol (calling pl ph) p o = o
at_symbol (call_text pl i v t) p o = o
at_symbol (call_text_escape pl i v t) p o = o
at_symbol (commands a f l cs) p o = o

-- from one part to the next: behind a pattern, with it
abbrev pub noted : Part → Part → ℕ → MacroRead → MacroRead
noted (calls a cs) st p o = o
noted (pattern h ps) st p o = at_symbol st p o
noted (pattern_escape ps) st p o = o
noted (opened ps) st p o = o
noted (members ps neg l xs) st p o = o
noted (members_escape ps neg l xs) st p o = o
noted (pattern_call m ps) st p o = o
noted (pattern_called m ps i) st p o = o
noted (await_symbol ps) st p o = o
noted (await_quote f) st p o = o
noted (replacement a f l) st p o = o
noted (replacement_escape f l) st p o = o
noted (tag_number n f l) st p o = o
noted (calling pl ph) st p o = o
noted (call_text pl i v t) st p o = o
noted (call_text_escape pl i v t) st p o = o
noted (commands a f l cs) st p o = o

-- behind the byte at place p of the part st: on in the macro, by f, to its end, or refused; no byte leads out of a macro without one
abbrev pub go_on : Part → ℕ → (Bool → ℕ → Part → Prior → MacroRead) → Stepped → MacroRead
go_on st p f (go (inside k n st' pr)) = noted st st' (suc p) (f k n st' pr)
go_on st p f (go (between k a [])) = refused_at incomplete p
go_on st p f (go (between k a (m ∷ ms))) = macro_to (suc p) m
go_on st p f (refuse c) = refused_at c p
go_on st p f (refuse_before c n) = refused_at c (p - n)

-- the bytes from place p on, in the part st of a macro of n bytes so far, in a skip or not
unfoldable pub read_macro : Prior → ℕ → Bool → ℕ → Part → List ℕ → MacroRead
read_macro pr p k n st [] = refused_at incomplete p
read_macro pr p k n st (b ∷ bs) = go_on st p (λ k' n' st' pr'. read_macro pr' (suc p) k' n' st' bs) (step (inside k n st pr) b)

-- what follows a macro in the file s: the macros behind it
unfoldable pub after : List ℕ → List Macro → MacroRead → Read
after s ms (refused_at c q) = file_refused_at c q
after s ms (pattern_to q ps o) = after s ms o
after s ms (macro_to q m) = read_from q (between false clear (m ∷ ms)) (drop q s)

-- the machine's answer on the macro that began at a, from place p of the file s on, in a skip or not;
-- 18 shows one byte later than in read_macro, behind the 513th byte
unfoldable pub run : List ℕ → ℕ → Prior → Bool → ℕ → Part → MacroRead
run s a pr k p st = pick (ltb most_macro_bytes (p - a)) (refused_at macro_too_long (p - 1)) (read_macro pr p k (p - a) st (drop p s))

-- a place that reading may have reached in the macro that began at a
abbrev pub Reached : List ℕ → ℕ → ℕ → Type 0
Reached s a p = (a ≤ p) × (p ≤ length s) × (p ≤ a + (most_macro_bytes + 1))

-- the byte b at place p, in the macro that began at a
pub record At (s : List ℕ) (a p b : ℕ) : Type 0 where
  pub behind : a ≤ p
  pub there : p < length s
  pub counted : p ≤ a + most_macro_bytes
  pub byte : get_or s p 0 ≡ b

-- the same of a byte that begins no skip
pub record Here (s : List ℕ) (a p b : ℕ) : Type 0 where
  pub stands : At s a p b
  pub plain : b ≡ 47 → ⊥

-- what the machine answers in the state st at the byte found, or the refusal found
abbrev pub passed : List ℕ → ℕ → Prior → Part → Next → MacroRead
passed s a pr st (Ok (b, q)) = run s a pr false q st
passed s a pr st (Err e) = refused_at (fault_of e.fault) e.place

-- where the byte behind skips stands
abbrev pub Found : List ℕ → ℕ → ℕ → Next → Type 0
Found s a p (Ok (b, q)) = (p ≤ q) × Here s a q b
Found s a p (Err e) = (e.place ≤ length s)

-- the next byte behind skips, as defined; and the machine comes to it in the state it had at p
pub record Passes (s : List ℕ) (a p : ℕ) (r : Next) : Type 0 where
  pub exact : r ≡ next_byte s a p
  pub found : Found s a p r
  pub answer : (st : Part) (pr : Prior) → skips st ≡ true → run s a pr false p st ≡ passed s a pr st r

-- that the byte stands at p itself
abbrev pub FoundThere : List ℕ → ℕ → ℕ → Next → Type 0
FoundThere s a p (Ok (b, q)) = (q ≡ p) × At s a p b
FoundThere s a p (Err e) = (e.place ≤ length s)

-- the byte at p itself, as defined, in any state; a refusal is that of every state
pub record Stays (s : List ℕ) (a p : ℕ) (r : Next) : Type 0 where
  pub exact : r ≡ byte_here s a p
  pub found : FoundThere s a p r
  pub answer : (st : Part) (pr : Prior) → run s a pr false p st ≡ passed s a pr st r

-- where the byte behind skips and spaces stands
abbrev pub FoundCall : List ℕ → ℕ → ℕ → Next → Type 0
FoundCall s a p (Ok (b, q)) = (p ≤ q) × Here s a q b × (b ≡ 32 → ⊥)
FoundCall s a p (Err e) = (e.place ≤ length s)

-- the next byte behind skips and spaces, as defined; and the machine comes to it in the state it had at p, one that passes over spaces
pub record Calls (s : List ℕ) (a p : ℕ) (r : Next) : Type 0 where
  pub exact : r ≡ next_in_call s a p
  pub found : FoundCall s a p r
  pub answer : (st : Part) (pr : Prior) → skips st ≡ true → part_byte st 32 ≡ on st → run s a pr false p st ≡ passed s a pr st r

-- what a byte other than a space shows that a call cannot have
unfoldable pub wrong_call : ℕ → FileRefusal
wrong_call b = pick (breaks b) incomplete bad_call
