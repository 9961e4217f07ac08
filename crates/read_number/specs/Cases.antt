-- Cases of numbers, computed.
use Rattle.std.specs.Prelude.{◌≡◌, refl, ℕ, true, false, ◌++◌, replicate, Result, Ok, Err, Some, None}
use Rattle.std.specs.Prelude.{Option}
use Rattle.macros.specs.Cases.{bytes}
use Rattle.macros.specs.Macro.{pick, within, digit}
use Rattle.read_scan.specs.Bytes.{with?, outside, up_to, seen, unended, spaceless}
use Rattle.read_number.specs.Number.{most, counting, leading, behind, value_from, any?, numbered, number_from}
use Rattle.read_scan.specs.declared.FileFault.TheVariants.{Incomplete, MacroTooLong}
use Rattle.read_scan.specs.declared.FileFault.{FileFault}
use Rattle.read_scan.specs.declared.ReadError.{ReadError}
use Rattle.read_number.specs.declared.Number.{Number}

-- a number with the byte behind it and its place; a refusal with its place
abbrev got : Option ℕ → ℕ → ℕ → Result Number ReadError
got x b q = Ok (record { value = x; behind = b; place = q })

abbrev no_number : FileFault → ℕ → Result Number ReadError
no_number f q = Err (record { fault = f; place = q })

-- numbers read, computed
pub number_cases :
    -- spaces in a call; none elsewhere; a skip between digits; leading zeros
    (number_from (bytes "1 2 )") 0 0 true ≡ got (Some 12) 41 4) ×
    (number_from (bytes "1 2 )") 0 0 false ≡ got (Some 1) 32 1) ×
    (number_from (bytes "1/9/2}") 0 0 false ≡ got (Some 12) 125 5) ×
    (number_from (bytes "007}") 0 0 false ≡ got (Some 7) 125 3) ×
    -- no digit; 0; the byte behind `9`; the largest counter, and larger numbers
    (number_from (bytes " )") 0 0 true ≡ got None 41 1) ×
    (number_from (bytes "0}") 0 0 false ≡ got (Some 0) 125 1) ×
    (number_from (bytes "1:") 0 0 true ≡ got (Some 1) 58 1) ×
    (number_from (bytes "999999999)") 0 0 true ≡ got (Some 999999999) 41 9) ×
    (number_from (bytes "1000000001)") 0 0 true ≡ got (Some 1000000000) 41 10) ×
    (number_from (bytes "12345678901234567890123)") 0 0 true ≡ got (Some 1000000000) 41 23) ×
    -- the file's end and the 513th byte
    (number_from (bytes "12") 0 0 true ≡ no_number Incomplete 2) ×
    (number_from (bytes "'" ++ replicate 600 57) 0 1 true ≡ no_number MacroTooLong 512)
unfolding pick within digit with? outside up_to seen unended spaceless most counting leading behind value_from any? numbered number_from
number_cases = (refl, refl, refl, refl, refl, refl, refl, refl, refl, refl, refl, refl)
