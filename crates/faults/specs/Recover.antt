-- 02, N11: reading past faults. Reading is that of ReadFile.antt (crates/macros), from one fault to the next.
use Rattle.std.specs.Prelude.{ℕ, zero, suc, ◌-◌, Bool, true, false, List, [], ◌∷◌, reverse, ltb, length, drop}
use Rattle.std.proofs.Math.Option.{Option, none, some}
use Rattle.macros.specs.Quoted.{◌is◌}
use Rattle.macros.specs.Bounds.{most_file_bytes}
use Rattle.macros.specs.Refusals.{FileRefusal, file_number}
use Rattle.macros.specs.Refusals.FileRefusal.{file_too_long, zero_byte}
use Rattle.macros.specs.Macro.{Table, pick, within}
use Rattle.macros.specs.Read.{Reader, Read, step, at_end, first_zero}
use Rattle.macros.specs.ReadFile.Pending.{clear}
use Rattle.macros.specs.ReadFile.Reader.{between, inside}
use Rattle.macros.specs.ReadFile.Next.{go, refuse, refuse_before}
use Rattle.macros.specs.ReadFile.Read.{refused_at, table}
use Rattle.faults.specs.Refusal.{RecoverRefusal, most_faults}
use Rattle.faults.specs.Refusal.RecoverRefusal.{as_before, too_many_faults}

-- FAULTS

-- "number and place of each fault"
pub data Fault : Type 0 where
  fault_at : FileRefusal → (place : ℕ) → Fault

-- "Where reading is refused with 12 to 18"
unfoldable pub is_fault : FileRefusal → Bool
is_fault r = within 12 18 (file_number r)

-- READING TO THE FIRST REFUSAL

-- the macros that are whole, oldest first: "the macro begun, if any, is left out"
unfoldable pub whole_macros : Reader → Table
whole_macros (between skip a ms) = reverse ms
whole_macros (inside skip n st pr) = reverse pr.macros

-- the macros of a file that is read to its end; or a refusal with its place, and the macros that are whole by then
pub data Stretch : Type 0 where
  to_end : Table → Stretch
  to_refusal : FileRefusal → (place : ℕ) → Table → Stretch

-- what reading says at the file's end, where the macros ms are whole
unfoldable pub at_file_end : Table → Read → Stretch
at_file_end ms (table ks) = to_end ks
at_file_end ms (refused_at r p) = to_refusal r p ms

-- the bytes from place p on: what `read_from` says of them, with the macros that are whole
unfoldable pub stretch : ℕ → Reader → List ℕ → Stretch
stretch p r [] = at_file_end (whole_macros r) (at_end p r)
stretch p r (b ∷ bs) =
    elim (step r b) [
      | go r' ↦ stretch (suc p) r' bs
      | refuse k ↦ to_refusal k p (whole_macros r)
      | refuse_before k n ↦ to_refusal k (p - n) (whole_macros r)
    ]

-- READING ON

-- "the first `;` at or after that byte, be it escaped or in a skip": the place behind it, of the bytes from place p on
unfoldable pub behind_first : ℕ → List ℕ → Option ℕ
behind_first p [] = none
behind_first p (b ∷ bs) = elim (b is ";") [ true ↦ some (suc p) | false ↦ behind_first (suc p) bs ]

-- "the table of the macros kept and, in file order, number and place of each fault"; or a refusal
pub data Recovered : Type 0 where
  kept : Table → List Fault → Recovered
  refused : RecoverRefusal → Recovered

-- a fault before those of the rest of the file
unfoldable pub with_fault : Fault → Recovered → Recovered
with_fault f (kept ms fs) = kept ms (f ∷ fs)
with_fault f (refused r) = refused r

-- "reading goes on after the first `;` .. If there is none, it ends.": next reads on from a place, behind the macros kept
unfoldable pub resumed : (next : ℕ → Table → Recovered) → Table → Option ℕ → Recovered
resumed next ms none = kept ms []
resumed next ms (some p) = next p ms

-- at the end of a stretch: a fault is what onFault says, with its place and the macros kept; "19 refuse[s] the file as before"
unfoldable pub after_stretch : (onFault : FileRefusal → ℕ → Table → Recovered) → Stretch → Recovered
after_stretch onFault (to_end ms) = kept ms []
after_stretch onFault (to_refusal r p ms) = elim (is_fault r) [ true ↦ onFault r p ms | false ↦ refused (as_before r p) ]

-- the file s from place p on, read afresh behind the macros kept so far; k: how many faults more may be listed
unfoldable pub recover_from : (k : ℕ) → (s : List ℕ) → (p : ℕ) → Table → Recovered
recover_from zero s p ms = after_stretch (λ r q ks. refused too_many_faults) (stretch p (between false clear (reverse ms)) (drop p s))
recover_from (suc k) s p ms =
    after_stretch (λ r q ks. with_fault (fault_at r q) (resumed (recover_from k s) ks (behind_first q (drop q s))))
    (stretch p (between false clear (reverse ms)) (drop p s))

-- a macro file, read past its faults: "10, 11 and 19 refuse the file as before", 10 and 11 over the whole file first
unfoldable pub recover : List ℕ → Recovered
recover s =
    pick (ltb most_file_bytes (length s)) (refused (as_before file_too_long most_file_bytes))
    (elim (first_zero 0 s) [ none ↦ recover_from most_faults s 0 [] | some p ↦ refused (as_before zero_byte p) ])
