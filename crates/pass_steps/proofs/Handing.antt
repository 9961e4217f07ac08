-- A part of the line, as the definitions have it.
use mathlib.Core.List.{List}
use Rattle.pass_steps.specs.Texts.{Cut}
use Prim.Native.Nat.{ℕ, ◌+◌, ◌-◌}
use mathlib.Core.Path.{◌≡◌, sym, ap, ◌∙◌}
use native.Mathlib.Omega.{arith}
use lib.ListN.{take, drop}
use lib.Seq.{slice, take-add, drop_at, length-take-le}
use Rattle.macros.specs.Formed.{Bytes}
use Rattle.lines.proofs.KeepBytes.{bytes_take, bytes_drop}

module _ {line : List ℕ} {from to : ℕ} (p : Cut line from to) where
  pub cut_is : take (to - from) (drop from line) ≡ slice from to line
  cut_is =
      let h = p.ordered in
      let l = p.inside in
      let e : to ≡ from + (to - from) = omega arith in
      sym
      (ap (λ (k : ℕ). drop from (take k line)) e
      ∙ ap (drop from) (take-add from (to - from) line)
      ∙ drop_at (take from line) (take (to - from) (drop from line)) from (length-take-le from line (omega arith)))

  pub cut_bytes : Bytes (take (to - from) (drop from line))
  cut_bytes = bytes_take (to - from) (drop from line) (bytes_drop from line p.bytes)
