-- 02, N8, computed: files that are written out with some 32,768 bytes.
use Rattle.std.specs.Prelude.{◌≡◌, refl, ◌++◌}
use Rattle.macros.specs.Cases.{bytes, stretched}
use Rattle.plans.specs.Cases.{everything, takes, unwritten, times}
use Rattle.plans.specs.Numbers.{plan_of}

-- 64 macros of 257 bytes are written with 508 each, line feeds counted
pub nearly_full : plan_of (times 64 (stretched "'a'='" 250 ":" "';")) ≡ takes 64 1 0 32512
unfolding everything
nearly_full = refl

-- 10: with a 65th the 32,769th byte is due; the macros behind it are still counted
pub unwritten10 : plan_of (times 65 (stretched "'a'='" 250 ":" "';") ++ bytes "'{bc}'='';") ≡ unwritten 66 2 1 10 32768
unfolding everything
unwritten10 = refl
