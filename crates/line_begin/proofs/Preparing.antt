-- A pass of a macro, with how it begins.
-- Assumes nothing.
use Prim.Native.Nat.{ℕ, zero, suc, ◌<◌}
use mathlib.Core.Path.{◌≡◌, refl, ap, ◌∙◌}
use mathlib.Core.Bool.{Bool, true}
use mathlib.Core.List.{List}
use native.Mathlib.Omega.{arith}
use lib.ListN.{length, get_or, set}
use Rattle.macros.specs.Macro.{Macro}
use Rattle.lines.specs.State.{State}
use Rattle.lines.specs.Replacing.{start_in}
use Rattle.lines.specs.Pass.{outcome}
use Rattle.lines.specs.Line.{prepares, pass_behind, pass_of}
use Rattle.form_state.specs.Access.{Holds}
use Rattle.std.specs.Prelude.{Result, Ok, Err}
use Rattle.refusals.specs.declared.WorkError.{WorkError}
use Rattle.pass_replace.specs.Contract.{IsSlot, Prepares}
use Rattle.pass_one.specs.Contract.{Lent, Passes}
use Rattle.pass_one.specs.Contract.{Comes as PassedTo}
use Rattle.pass_moment.specs.declared.Passed.{Passed}
use Rattle.line_begin.specs.Flags.{is_set, Begun, begun_flags}
use Rattle.line_begin.specs.Beginning.{PrepareLent, MacroPrepares, PassLent, MomentOf, PassComes, PassRuns}

-- THE CALLS BEFORE A PATTERN

set_true : (n : ℕ) → (n ≡ 0 → ⊥) → is_set n ≡ true
set_true zero f = absurd (f refl)
set_true (suc n) f = refl

module _ {s b flags : List ℕ} {k : ℕ} (y : PrepareLent s b flags k) where
  pub flag_lent : k < length flags
  flag_lent = omega (arith, y.few, y.flags)

  -- its macro passed before
  pub prepared_before : (get_or flags k 0 ≡ 0 → ⊥) → MacroPrepares s b b flags (set flags k 2) k (Ok 0)
  unfolding prepares begun_flags
  prepared_before f =
      record {
        comes = λ m h begun g st hb. (start_in st, ap (λ (a : Bool). prepares a m st) (g k y.few ∙ set_true (get_or flags k 0) f), hb);
        flags = refl;
      }

  -- its macro's first pass
  pub prepared_first : get_or flags k 0 ≡ 0 → {b' : List ℕ} {r : Result ℕ WorkError} → Prepares s b b' r → MacroPrepares s b b' flags (set flags k 2) k r
  unfolding prepares begun_flags
  prepared_first e p =
      record {
        comes = λ m h begun g st hb.
            let u = p.comes m h st hb in
            (u.0, ap (λ (a : Bool). prepares a m st) (g k y.few ∙ ap is_set e) ∙ u.1, u.3);
        flags = refl;
      }

-- A PASS

module _ {s kinds present t b new flags : List ℕ} {k : ℕ} (y : PassLent s kinds present t b new flags k) where
  pub calls_lent : PrepareLent s b flags k
  calls_lent = record { calls = record { macro = y.pass.macro; state = y.pass.state }; few = y.few; flags = y.flags }

  module _ {b₁ fl₁ : List ℕ} where
    -- the state in which place 0 is tried is one
    pub places_lent : {o : Result ℕ WorkError} → MacroPrepares s b b₁ flags fl₁ k o → Lent s kinds present t b₁ new
    places_lent p =
        let u = p.comes y.pass.macro.0 y.pass.macro.1 y.begins.0 y.begins.1 y.pass.state.0 y.pass.state.1 in
        record {
          macro = y.pass.macro;
          table = y.pass.table;
          flags = y.pass.flags;
          bytes = y.pass.bytes;
          short = y.pass.short;
          state = (u.0.state, u.2);
          room = y.pass.room;
        }

    -- the places are tried
    module _ {n : ℕ} (p : MacroPrepares s b b₁ flags fl₁ k (Ok n)) {b₂ new₂ : List ℕ} where
      comes_so : (r : Result Passed WorkError) → ((m : Macro) → IsSlot s m → (st : State) → Holds b₁ st → PassedTo t b₁ b₂ new new₂ r m st)
          → (x : Macro) → IsSlot s x → (begun : List ℕ) → Begun flags begun → (st : State) → Holds b st
          → PassComes (record { state = b₂; new = new₂; flags = fl₁ }) r (pass_of begun (record { number = k; macro = x }) t st)
      unfolding pass_of pass_behind
      comes_so r c x h begun g st hb =
          let u = p.comes x h begun g st hb in
          let z = c x h u.0.state u.2 in
          rw u.1 (record { moment = (z.moment.0, z.moment.1, held r z); says = z.says })
        where
          held : (r : Result Passed WorkError) {m : Macro} {st : State} (z : PassedTo t b₁ b₂ new new₂ r m st) → MomentOf r (record { state = b₂; new = new₂; flags = fl₁ }) z.moment.0
          held (Ok q) z = record { state = z.moment.2.state; line = z.moment.2.line }
          held (Err x) z = tt

      pub runs_places : {r : Result Passed WorkError} → Passes s t b₁ b₂ new new₂ r
          → PassRuns s t (record { state = b; new = new; flags = flags }) (record { state = b₂; new = new₂; flags = fl₁ }) k r
      runs_places {r} q = record { comes = comes_so r q.comes; within = q.within; flags = p.flags }

    -- a call is refused: no place is tried
    pub runs_refused : {x₀ : WorkError} → MacroPrepares s b b₁ flags fl₁ k (Err x₀)
        → PassRuns s t (record { state = b; new = new; flags = flags }) (record { state = b₁; new = new; flags = fl₁ }) k (Err (record { fault = x₀.fault; size = 0 }))
    unfolding pass_of pass_behind outcome
    runs_refused p =
        record {
          comes = λ x h begun g st hb.
              let u = p.comes x h begun g st hb in
              rw u.1 (record { moment = (u.0, refl, tt); says = tt });
          within = omega arith;
          flags = p.flags;
        }
