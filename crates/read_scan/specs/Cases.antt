-- Cases of the next byte, computed.
use Rattle.std.specs.Prelude.{◌≡◌, refl, ◌++◌, replicate}
use Rattle.macros.specs.Cases.{bytes}
use Rattle.macros.specs.Macro.{pick}
use Rattle.std.specs.Prelude.{Ok}
use Rattle.read_scan.specs.Bytes.{refused}
use Rattle.read_scan.specs.Bytes.{with?, outside, up_to, seen, unended, byte_here, first, next_byte, spaceless, next_in_call}
use Rattle.read_scan.specs.declared.FileFault.TheVariants.{Incomplete, MacroTooLong}

-- the next byte, computed
pub next_cases :
    -- a skip; two; one that is not closed; the file's end
    (next_byte (bytes "'a'/b/=") 0 3 ≡ Ok (61, 6)) ×
    (next_byte (bytes "'a'/b//c/=") 0 3 ≡ Ok (61, 9)) ×
    (next_byte (bytes "'a'/b=") 0 3 ≡ refused Incomplete 6) ×
    (next_byte (bytes "'a'") 0 3 ≡ refused Incomplete 3) ×
    -- the 512th and the 513th byte, and behind them
    (next_byte (replicate 512 97) 0 511 ≡ Ok (97, 511)) ×
    (next_byte (replicate 512 97) 0 512 ≡ refused Incomplete 512) ×
    (next_byte (replicate 513 97) 0 512 ≡ Ok (97, 512)) ×
    (next_byte (replicate 513 97) 0 513 ≡ refused MacroTooLong 512) ×
    (next_byte (replicate 514 97) 0 513 ≡ refused MacroTooLong 512) ×
    (next_byte (bytes ";;" ++ replicate 513 97) 2 514 ≡ Ok (97, 514)) ×
    (next_byte (bytes ";;" ++ replicate 512 97) 2 514 ≡ refused Incomplete 514) ×
    -- a skip that goes on past the 513th byte, of a macro that began at 2; one that ends behind it; a `\` in one
    (next_byte (bytes ";;'/" ++ replicate 600 97) 2 3 ≡ refused MacroTooLong 514) ×
    (next_byte (bytes "'a/" ++ (replicate 600 120 ++ bytes "/'='b';")) 0 2 ≡ refused MacroTooLong 512) ×
    (next_byte (bytes "'/a\\/=") 0 1 ≡ Ok (61, 5)) ×
    -- in a class no skip begins
    (byte_here (bytes "'[/a]'") 0 2 ≡ Ok (47, 2)) ×
    (byte_here (bytes "'[") 0 2 ≡ refused Incomplete 2) ×
    (byte_here (replicate 514 97) 0 513 ≡ refused MacroTooLong 512) ×
    -- in a call: spaces, and a skip between them; a tab and a line feed are no spaces
    (next_byte (bytes "&(  a") 0 2 ≡ Ok (32, 2)) ×
    (next_in_call (bytes "&(  a") 0 2 ≡ Ok (97, 4)) ×
    (next_in_call (bytes "&( / / a") 0 2 ≡ Ok (97, 7)) ×
    (next_in_call (bytes "&(\t") 0 2 ≡ Ok (9, 2)) ×
    (next_in_call (bytes "&(\n") 0 2 ≡ Ok (10, 2)) ×
    (next_in_call (bytes "&(  ") 0 2 ≡ refused Incomplete 4)
unfolding pick with? outside up_to seen unended byte_here first next_byte spaceless next_in_call
next_cases = (refl, refl, refl, refl, refl, refl, refl, refl, refl, refl, refl, refl, refl, refl, refl, refl, refl, refl, refl, refl, refl, refl, refl)
