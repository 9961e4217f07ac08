-- A file as a whole: refused before its macros are read, or read past its faults.
-- Assumes nothing.
use mathlib.Core.Path.{◌≡◌, refl, ◌∙◌}
use mathlib.Core.List.{List, []}
use mathlib.Core.Option.{none}
use mathlib.Core.Bool.{true, false}
use Rattle.std.specs.Prelude.{Result, Ok, Err, is_ok}
use Rattle.read_scan.specs.declared.ReadError.{ReadError}
use Rattle.read_scan.specs.declared.FileFault.TheVariants.{FileTooLong, ZeroByte}
use Rattle.read_fault.specs.Noting.{past_error}
use Rattle.read_fault.specs.declared.PastError.{PastError}
use Prim.Native.Nat.{ℕ, ◌≤◌}
use lib.ListN.{length, replicate}
use borrow.Author.Tests.{lt-ltb, le-ltb}
use Rattle.macros.specs.Bounds.{most_file_bytes}
use Rattle.macros.specs.Refusals.FileRefusal.{file_too_long, zero_byte}
use Rattle.macros.specs.Macro.{pick}
use Rattle.macros.specs.Read.{first_zero}
use Rattle.form_table.specs.Form.{table_bytes}
use Rattle.faults.specs.Refusal.{most_faults, recover_number, recover_place}
use Rattle.faults.specs.Refusal.RecoverRefusal.{as_before}
use Rattle.faults.specs.Recover.{recover, recover_from}
use Rattle.form_faults.specs.Form.{faults_bytes}
use Rattle.read_start.specs.Start.{WholeFile}
use Rattle.read_start.specs.Start.WholeFile.{plain, long, zeroed}
use Rattle.read_past.specs.Past.{Answered, ReadsPast}

-- 10 and 11
pub past_unread : (s tb fb : List ℕ) (e : ReadError) → WholeFile s (Err e) → tb ≡ replicate table_bytes 0 → fb ≡ replicate faults_bytes 0 → ReadsPast s tb fb (Err (past_error e))
unfolding recover recover_number recover_place pick
past_unread s tb fb e x a b = by (Err e) x refl
  where
    by : (t : Result (Unit {0}) ReadError) → WholeFile s t → t ≡ Err e → ReadsPast s tb fb (Err (past_error e))
    by t (plain l z) k = cc
    by t (long l) k =
        let i : e ≡ record { fault = FileTooLong; place = most_file_bytes } = cc in
        rw i (as_before file_too_long most_file_bytes, rw (lt-ltb _ _ l) refl, refl, refl, a, b)
    by t (zeroed q l z) k =
        let i : e ≡ record { fault = ZeroByte; place = q } = cc in
        rw i (as_before zero_byte q, rw (le-ltb _ _ l, z) refl, refl, refl, a, b)

module _ (s : List ℕ) (l : length s ≤ most_file_bytes) (e : first_zero 0 s ≡ none) where
  recover_whole : recover s ≡ recover_from most_faults s 0 []
  unfolding recover pick
  recover_whole = rw (le-ltb _ _ l, e) refl

  pub past_kept : (tb fb : List ℕ) (r : Result ℕ PastError) → is_ok r ≡ true → Answered s tb fb r → ReadsPast s tb fb r
  past_kept tb fb (Ok n) i y = (y.0, y.1, recover_whole ∙ y.2, y.3, y.4, y.5)
  past_kept tb fb (Err w) i y = cc

  pub past_refused : (tb fb a b : List ℕ) (r : Result ℕ PastError) → is_ok r ≡ false → Answered s tb fb r → a ≡ replicate table_bytes 0 → b ≡ replicate faults_bytes 0
      → ReadsPast s a b r
  past_refused tb fb a b (Ok n) i y f g = cc
  past_refused tb fb a b (Err w) i y f g = (y.0, recover_whole ∙ y.1, y.2, y.3, f, g)
