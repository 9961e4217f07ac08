-- A pass one place at a time, over the line and a place.
use mathlib.Core.Path.{◌≡◌, ap, ◌∙◌}
use mathlib.Core.List.{List}
use mathlib.Core.Option.{Option, none, some}
use Prim.Native.Nat.{ℕ, zero, suc, ◌+◌, ◌-◌, ◌≤◌, ◌<◌}
use native.Mathlib.Nat.{add-zero}
use native.Mathlib.Omega.{arith}
use lib.ListN.{length, drop, get_or, drop_of_length-le}
use lib.Seq.{drop-cons}
use Rattle.macros.specs.Macro.{Macro}
use Rattle.lines.specs.Matching.{Division, end_of}
use Rattle.lines.specs.Replacing.{Work, good, put, occur}
use Rattle.lines.specs.Pass.{Walk, match, go_on, matched, at_end, onward, at_byte, walk, outcome}

module _ (m : Macro) (t : List ℕ) where
  -- the pass from place p on
  abbrev pub from : Option ℕ → ℕ → Work → Walk
  from last p w = walk m t 0 last p w (drop p t)

  pub walk_end : (last : Option ℕ) (p : ℕ) (w : Work) → length t ≤ p → from last p w ≡ at_end m t p w (match w.state m.pattern last p (drop p t))
  unfolding walk
  walk_end last p w h = rw (drop_of_length-le t {i = p} h)

  pub walk_byte : (last : Option ℕ) (p : ℕ) (w : Work) → p < length t
      → from last p w ≡ at_byte m t p (get_or t p 0) last w (λ skip l v. walk m t skip l (suc p) v (drop (suc p) t)) (match w.state m.pattern last p (drop p t))
  unfolding walk
  walk_byte last p w h = rw (drop-cons t p 0 h)

  pub walk_skips : (skip : ℕ) (last : Option ℕ) (p : ℕ) (w : Work) → p + skip ≤ length t → walk m t skip last p w (drop p t) ≡ from last (p + skip) w
  unfolding walk
  walk_skips zero last p w h = rw add-zero
  walk_skips (suc k) last p w h =
      let e : suc p + k ≡ p + suc k = omega arith in
      rw (drop-cons t p 0 (omega arith)) (walk_skips k last (suc p) w (omega arith) ∙ ap (λ (q : ℕ). from last q w) e)

  -- no match: the byte is copied
  pub step_copy : (last : Option ℕ) (p : ℕ) (w v : Work) → p < length t → match w.state m.pattern last p (drop p t) ≡ none → put (get_or t p 0) w ≡ good v
      → from last p w ≡ from last (suc p) v
  unfolding at_byte go_on
  step_copy last p w v h e f = walk_byte last p w h ∙ rw (e, f)

  -- a match that is not empty, and one that is
  pub step_match : (last : Option ℕ) (p : ℕ) (w v : Work) (d : Division) → p < length t → match w.state m.pattern last p (drop p t) ≡ some d → occur m t d w ≡ good v
      → p < end_of p d → end_of p d ≤ length t → outcome (from last p w) ≡ outcome (from (some (end_of p d)) (end_of p d) v)
  unfolding at_byte matched go_on onward outcome
  step_match last p w v d h e f l i =
      let z : end_of p d - p ≡ suc (end_of p d - suc p) = omega arith in
      let y : suc p + (end_of p d - suc p) ≡ end_of p d = omega arith in
      ap outcome (walk_byte last p w h) ∙ rw (e, f, z) (ap outcome (walk_skips (end_of p d - suc p) (some (end_of p d)) (suc p) v (omega arith) ∙ ap (λ (q : ℕ). from (some (end_of p d)) q v) y))

  pub step_empty : (last : Option ℕ) (p : ℕ) (w v x : Work) (d : Division) → p < length t → match w.state m.pattern last p (drop p t) ≡ some d → occur m t d w ≡ good v
      → end_of p d ≡ p → put (get_or t p 0) v ≡ good x → outcome (from last p w) ≡ outcome (from (some p) (suc p) x)
  unfolding at_byte matched go_on onward outcome
  step_empty last p w v x d h e f l g =
      let z : end_of p d - p ≡ 0 = omega arith in
      ap outcome (walk_byte last p w h) ∙ rw (e, f, z, g) (ap (λ (q : ℕ). outcome (from (some q) (suc p) x)) l)
