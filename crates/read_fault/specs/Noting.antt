-- A fault listed, and where reading goes on behind it.
use Rattle.std.specs.Prelude.{ℕ, ◌+◌, ◌≤◌, ◌<◌, ◌≡◌, true, false, List, [], ◌∷◌, ◌++◌, length, drop, Option, Some, None, Result, Ok, Err}
use Rattle.std.proofs.Math.Option as maybe
use Rattle.macros.specs.Refusals.{FileRefusal, file_number}
use Rattle.macros.specs.Macro.{within}
use Rattle.faults.specs.Refusal.{most_faults}
use Rattle.faults.specs.Recover.{Fault, behind_first}
use Rattle.faults.specs.Recover.Fault.{fault_at}
use Rattle.form_faults.specs.Form.{faults_form}
use Rattle.read_scan.specs.Scan.{fault_of}
use Rattle.read_scan.specs.declared.ReadError.{ReadError}
use Rattle.read_fault.specs.declared.PastError.{PastError}
use Rattle.read_fault.specs.declared.Progress.{Progress}

-- a refusal as before, with its number
abbrev pub past_error : ReadError → PastError
past_error e = record { number = file_number (fault_of e.fault); place = e.place }

-- a place that may be missing, as the code has it
abbrev pub as_option : maybe.Option ℕ → Option ℕ
as_option maybe.none = None
as_option (maybe.some p) = Some p

-- the place behind the first `;` at or after q, if there is one
abbrev pub behind_or_none : List ℕ → (q : ℕ) → Option ℕ
behind_or_none s q = as_option (behind_first q (drop q s))

-- reading goes on there, behind n macros and k faults
abbrev pub resumes_at : Option ℕ → (n k : ℕ) → Option Progress
resumes_at None n k = None
resumes_at (Some p) n k = Some (record { at = p; macros = n; faults = k })

-- old is the form of k faults, and out of one more
abbrev pub Lists : (old out : List ℕ) → (k c q : ℕ) → Type 0
Lists old out k c q =
    (fs : List Fault) (r : FileRefusal) → faults_form fs ≡ old → length fs ≡ k → file_number r ≡ c
    → faults_form (fs ++ (fault_at r q ∷ [])) ≡ out

-- what noting the refusal c at place q says, behind n macros and k faults
pub data Notes (s old out : List ℕ) (c q n k : ℕ) : Result (Option Progress) PastError → Type 0 where
  -- it is no fault
  unlisted : within 12 18 c ≡ false → out ≡ old → Notes s old out c q n k (Err (record { number = c; place = q }))
  -- it is the 257th
  one_too_many : within 12 18 c ≡ true → most_faults ≤ k → out ≡ old → Notes s old out c q n k (Err (record { number = 61; place = 0 }))
  listed : within 12 18 c ≡ true → k < most_faults → Lists old out k c q → Notes s old out c q n k (Ok (resumes_at (behind_or_none s q) n (k + 1)))
