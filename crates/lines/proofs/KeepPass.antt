-- A pass of a well formed macro over a line without byte 0 ends in a sound moment, or refused.
use Prim.Native.Nat.{ℕ, zero, suc, ◌-◌}
use mathlib.Core.Bool.{Bool, true, false}
use mathlib.Core.List.{List, [], ◌∷◌}
use mathlib.Core.Option.{Option, none, some}
use mathlib.Core.Path.{refl}
use native.Mathlib.Omega.{arith}
use Rattle.macros.specs.Macro.{Macro}
use Rattle.macros.specs.Formed.{Byte, Bytes, Formed}
use Rattle.lines.specs.State.{State, InRange}
use Rattle.lines.specs.Matching.{Division, end_of}
use Rattle.lines.specs.Replacing.{Work, Done, start_in, put, occur}
use Rattle.lines.specs.Replacing.Done.{bad, good}
use Rattle.lines.specs.Pass.{Walk, go_on, matched, at_end, onward, at_byte, walk, pass, match, outcome}
use Rattle.lines.specs.Pass.Walk.{ended}
use Rattle.lines.specs.Line.{Numbered, is_in, prepares, pass_behind, pass_of}
use Rattle.lines.proofs.KeepWork.{Sound, SoundDone, put_sound, occur_sound, calls_sound}

abbrev pub SoundWalk : Walk → Type 0
SoundWalk k = SoundDone (outcome k)

-- from any sound moment
abbrev SoundFrom : (ℕ → Option ℕ → Work → Walk) → Type 0
SoundFrom go = (skip : ℕ) (last : Option ℕ) (v : Work) → Sound v → SoundWalk (go skip last v)

go_sound : (a : Done) (k : Work → Walk) → SoundDone a → ((w : Work) → Sound w → SoundWalk (k w)) → SoundWalk (go_on a k)
unfolding go_on outcome
go_sound (bad r w) k h g = tt
go_sound (good w) k h g = g w h

onward_sound : (q b k : ℕ) (go : ℕ → Option ℕ → Work → Walk) (v : Work) → Byte b → SoundFrom go → Sound v → SoundWalk (onward q b k go v)
unfolding onward
onward_sound q b zero go v c g h = go_sound (put b v) _ (put_sound b v c h) (g zero (some q))
onward_sound q b (suc k) go v c g h = g k (some q) v h

module _ (m : Macro) (t : List ℕ) (f : Formed m) (c : Bytes t) where
  matched_sound : (p : ℕ) (d : Division) (w : Work) (go : Work → Walk) → ((v : Work) → Sound v → SoundWalk (go v)) → Sound w → SoundWalk (matched m t p d w go)
  unfolding matched outcome
  matched_sound p d w go g h = go_sound (occur m t d w) _ (occur_sound m t d w f c h) g

  end_sound : (p : ℕ) (w : Work) (a : Option Division) → Sound w → SoundWalk (at_end m t p w a)
  unfolding at_end outcome
  end_sound p w none h = h
  end_sound p w (some d) h = matched_sound p d w (λ v. ended (good v)) (λ v g. g) h

  byte_sound : (p b : ℕ) (last : Option ℕ) (w : Work) (go : ℕ → Option ℕ → Work → Walk) (a : Option Division) → Byte b → SoundFrom go → Sound w
      → SoundWalk (at_byte m t p b last w go a)
  unfolding at_byte
  byte_sound p b last w go none e g h = go_sound (put b w) _ (put_sound b w e h) (g zero last)
  byte_sound p b last w go (some d) e g h = matched_sound p d w _ (λ v. onward_sound (end_of p d) b (end_of p d - p) go v e g) h

  walk_sound : (s : List ℕ) (skip : ℕ) (last : Option ℕ) (p : ℕ) (w : Work) → Bytes s → Sound w → SoundWalk (walk m t skip last p w s)
  unfolding walk
  walk_sound [] skip last p w e h = end_sound p w (match w.state m.pattern last p []) h
  walk_sound (b ∷ s) (suc skip) last p w e h = walk_sound s skip last (suc p) w e.1 h
  walk_sound (b ∷ s) zero last p w e h =
      byte_sound p b last w _ (match w.state m.pattern last p (b ∷ s)) e.0 (λ skip l v. walk_sound s skip l (suc p) v e.1) h

start_sound : (st : State) → InRange st → Sound (start_in st)
start_sound st h = record { exact = refl; fits = omega arith; bytes = tt; state = h }

pub pass_sound : (m : Macro) (t : List ℕ) (st : State) → Formed m → Bytes t → InRange st → SoundWalk (pass m t st)
unfolding pass
pass_sound m t st f c h = walk_sound m t f c t 0 none 0 _ c (start_sound st h)

-- with the calls before its pattern
pub made_sound : (begun : List ℕ) (e : Numbered) (t : List ℕ) (st : State) → Formed e.macro → Bytes t → InRange st → SoundWalk (pass_of begun e t st).events
unfolding pass_of pass_behind prepares outcome
made_sound begun e t st f c h = behind (prepares (is_in e.number begun) e.macro st) (by (is_in e.number begun))
  where
    by : (again : Bool) → SoundDone (prepares again e.macro st)
    by true = start_sound st h
    by false = calls_sound e.macro (start_in st) f (start_sound st h)

    behind : (d : Done) → SoundDone d → SoundWalk (pass_behind e t st d).events
    behind (bad r w) g = tt
    behind (good w) g = pass_sound e.macro t w.state f c g.state
