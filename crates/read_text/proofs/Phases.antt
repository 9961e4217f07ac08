-- Calls: spaces vanish in every phase, and what fits no phase is 12 or 16.
-- Assumes nothing.
use mathlib.Core.Path.{◌≡◌, refl}
use Prim.Native.Nat.{ℕ}
use Rattle.macros.specs.Macro.{pick, within, ascii_lower, digit}
use Rattle.macros.specs.Macro.Mark.{stack, counter}
use Rattle.macros.specs.Read.{Site, CallSite, Phase, part_byte, is_sign, turned, call_byte, otherwise, site_of, part_byte_by}
use Rattle.macros.specs.ReadSoFar.Part.{calling}
use Rattle.macros.specs.ReadSoFar.Phase.{begun, signed, named, equals, increment, divisor, tagged, comma, tag_signed, tag_named, texted}
use Rattle.macros.specs.ReadCalls.Turn.{wrong}
use Rattle.macros.specs.ReadSoFar.Step.{on, stop}
use Rattle.read_scan.specs.Scan.{wrong_call}
use Rattle.read_scan.proofs.Laws.{otherwise_wrong}

space_wrong : (si : Site) (ph : Phase) → call_byte si ph 32 ≡ wrong
unfolding call_byte digit ascii_lower within is_sign pick
space_wrong si (begun stack) = refl
space_wrong si (begun counter) = refl
space_wrong si (signed m x) = refl
space_wrong si (named stack i h) = refl
space_wrong si (named counter i h) = refl
space_wrong si (equals m i o) = refl
space_wrong si (increment i o) = refl
space_wrong si (divisor i o) = refl
space_wrong si (tagged n) = refl
space_wrong si (comma n) = refl
space_wrong si (tag_signed n x) = refl
space_wrong si (tag_named n i h) = refl
space_wrong si (texted i h t) = refl

pub space_call : (pl : CallSite) (ph : Phase) → part_byte (calling pl ph) 32 ≡ on (calling pl ph)
unfolding part_byte_by turned otherwise pick
space_call pl ph = rw (space_wrong (site_of pl) ph) refl

pub wrong_call_lem : (pl : CallSite) (ph : Phase) (b : ℕ) → call_byte (site_of pl) ph b ≡ wrong → (b ≡ 32 → ⊥) → part_byte (calling pl ph) b ≡ stop (wrong_call b)
unfolding part_byte_by turned
wrong_call_lem pl ph b e f = rw e (otherwise_wrong (calling pl ph) b f)
