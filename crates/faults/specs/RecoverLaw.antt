-- THE LAW OF READING PAST FAULTS: what a file comes to, by plain reading of what is left of it, again and again.
-- It shares with the definition plain reading (read_onto), and not the walk from byte to byte.
use Rattle.std.specs.Prelude.{◌≡◌, ◌↔◌, ℕ, suc, ◌+◌, ◌≤◌, List, [], ◌∷◌, ◌++◌, length, take, drop}
use Prim.Native.Char.{code}
use Rattle.macros.specs.Refusals.{FileRefusal, file_number}
use Rattle.macros.specs.Refusals.FileRefusal.{too_many_macros}
use Rattle.macros.specs.Macro.{Table}
use Rattle.macros.specs.Formed.{Between, Octets}
use Rattle.macros.specs.Read.{read_onto, read_file}
use Rattle.macros.specs.ReadFile.Read.{refused_at, table}
use Rattle.macros.specs.FirstFault.{Plain}
use Rattle.faults.specs.Refusal.{RecoverRefusal, most_faults}
use Rattle.faults.specs.Refusal.RecoverRefusal.{as_before, too_many_faults}
use Rattle.faults.specs.Recover.{Fault, Recovered, recover}
use Rattle.faults.specs.Recover.Fault.{fault_at}
use Rattle.faults.specs.Recover.Recovered.{kept, refused}

-- WHERE READING GOES ON

-- no byte is `;`
abbrev pub NoSemicolon : List ℕ → Type 0
NoSemicolon [] = Unit {0}
NoSemicolon (b ∷ t) = (b ≡ code ";" → ⊥) × NoSemicolon t

-- n is the place behind "the first `;` at or after" place q of the file s
pub record Behind (s : List ℕ) (q n : ℕ) : Type 0 where
  pub up_to : List ℕ
  pub rest : List ℕ
  pub stands : drop q s ≡ up_to ++ (code ";" ∷ rest)
  pub no_earlier : NoSemicolon up_to
  pub place : n ≡ suc (q + length up_to)

-- A FAULT

-- the macros ms that plain reading of the bytes t, onto a table `older`, has made by place q
pub record MadeBy (older : Table) (t : List ℕ) (q : ℕ) (ms : Table) : Type 0 where
  -- some beginning of these bytes, up to q at most, is read as them
  pub is_read : (n : ℕ) × (n ≤ q) × (read_onto older (take n t) ≡ table ms)
  -- no macro is lost: what any beginning up to q is read as stands at the start of them
  pub none_lost : (n : ℕ) (ks : Table) → n ≤ q → read_onto older (take n t) ≡ table ks → (more : Table) × (ms ≡ ks ++ more)

-- plain reading from place p on, behind the macros `older`, is refused with 12 to 18 at place q; by then it has made the macros ms
pub record Faulty (s : List ℕ) (p : ℕ) (older : Table) (r : FileRefusal) (q : ℕ) (ms : Table) : Type 0 where
  pub number : Between 12 18 (file_number r)
  -- q counts in the file, n in what is left of it
  pub n : ℕ
  pub place : q ≡ p + n
  pub shows : read_onto older (drop p s) ≡ refused_at r n
  pub made : MadeBy older (drop p s) n ms

-- A FILE

-- what the file s comes to from place p on, behind the macros `older`, where k faults more may be listed
pub data Past (s : List ℕ) : (k p : ℕ) → (older : Table) → Recovered → Type 0 where
  -- plain reading accepts what is left
  rest_accepted : {k p : ℕ} {older ms : Table} → read_onto older (drop p s) ≡ table ms → Past s k p older (kept ms [])
  -- "19 where a macro begins after 96 kept ones"
  full : {k p n : ℕ} {older : Table} → read_onto older (drop p s) ≡ refused_at too_many_macros n
      → Past s k p older (refused (as_before too_many_macros (p + n)))
  -- "61, the 257th fault, comes at that fault"
  too_many : {p q : ℕ} {older ms : Table} {r : FileRefusal} → Faulty s p older r q ms → Past s 0 p older (refused too_many_faults)
  -- "If there is none, it ends."
  ends : {k p q : ℕ} {older ms : Table} {r : FileRefusal} → Faulty s p older r q ms → NoSemicolon (drop q s)
      → Past s (suc k) p older (kept ms (fault_at r q ∷ []))
  -- "the macro begun, if any, is left out, and reading goes on after the first `;` at or after that byte"
  goes_on : {k p q n : ℕ} {older ms ks : Table} {r : FileRefusal} {fs : List Fault} → Faulty s p older r q ms → Behind s q n
      → Past s k n ms (kept ks fs) → Past s (suc k) p older (kept ks (fault_at r q ∷ fs))
  -- what is left behind a fault is refused
  refused_behind : {k p q n : ℕ} {older ms : Table} {r : FileRefusal} {v : RecoverRefusal} → Faulty s p older r q ms → Behind s q n
      → Past s k n ms (refused v) → Past s (suc k) p older (refused v)

-- what the whole file comes to
pub data Recovers (s : List ℕ) : Recovered → Type 0 where
  -- "10, 11 .. refuse the file as before"
  refused_whole : {r : FileRefusal} {p : ℕ} → file_number r ≤ 11 → read_file s ≡ refused_at r p → Recovers s (refused (as_before r p))
  -- without 10 and 11 it is read past its faults, from its first byte on
  past : {v : Recovered} → Plain s → Past s most_faults 0 [] v → Recovers s v

-- THE LAW: that is what a file of bytes comes to, and nothing else
abbrev pub RecoversExactly : Type 0
RecoversExactly = (s : List ℕ) (v : Recovered) → Octets s → (recover s ≡ v) ↔ Recovers s v
