-- The calls before a pattern (02, N2), from the slot of their macro.
use Prim.Native.Nat.{ℕ, zero, suc, ◌+◌, ◌-◌, ◌≤◌, ◌<◌}
use mathlib.Core.Path.{◌≡◌, refl, sym, ap, ◌∙◌}
use mathlib.Core.List.{List, [], ◌∷◌, map}
use native.Mathlib.Omega.{arith}
use lib.ListN.{length, get_or, take, drop, replicate, length-replicate}
use Rattle.macros.specs.Macro.{Macro}
use Rattle.macros.specs.Macro.Action.{call}
use Rattle.form_table.specs.Form.{slot_bytes, body_bytes, calls_items}
use Rattle.form_table.specs.Check.{two_at}
use Rattle.form_table.proofs.Actions.{calls_items_lem}
use Rattle.lines.specs.State.{State}
use Rattle.lines.specs.Matching.{tag_text}
use Rattle.lines.specs.Replacing.{Work, onto, start_in, before_acts}
use Rattle.lines.specs.Replacing.Done.{good}
use Rattle.lines.specs.Line.{text_of}
use Rattle.form_state.specs.Access.{Holds}
use Rattle.pass_steps.specs.Moments.{IsMoment, Does}
use Rattle.pass_replace.specs.Contract.{Prepared, Prepares}
use Rattle.pass_replace.specs.Tags.{tag_in, Divided}
use Rattle.pass_replace.specs.Acting.{act_in, acts_in, Fits}
use Rattle.refusals.specs.declared.WorkError.{WorkError}
use Rattle.std.specs.Prelude.{Result, Ok}
use Rattle.pass_replace.proofs.Decoding.{actions_do, commands_as}
use Rattle.pass_replace.proofs.Parts.{slot_long, before_long, parts_short, before_here, calls_fitting}

-- WHAT IS LENT

pub zeros : (n i : ℕ) → get_or {A = ℕ} (replicate n 0) i 0 ≡ 0
zeros zero i = refl
zeros (suc n) zero = refl
zeros (suc n) (suc i) = zeros n i

-- there is no line, and no tag
pub none_divided : Divided [] (replicate body_bytes 0) []
none_divided =
    record {
      ended = record { few = omega arith; count = length-replicate {A = ℕ} body_bytes 0 };
      inside = λ i. omega (arith, zeros body_bytes i);
      bytes = tt;
      short = omega arith;
    }

module _ {s b : List ℕ} (h : Prepared s b) where
  pub slot_size : length s ≡ slot_bytes
  slot_size = slot_long s h.macro.0 h.macro.1

  pub calls_short : two_at s 2 + 2 ≤ body_bytes
  calls_short = omega (arith, parts_short s h.macro.0 h.macro.1)

  pub calls_fit : {x : ℕ} → x ≡ two_at s 2 → Fits (take (10 + x - 10) (drop 10 s))
  calls_fit p = rw (before_here s h.macro.0 h.macro.1 p) (calls_fitting s h.macro.0 h.macro.1)

-- THE CONTRACT

no_tag : (ends : List ℕ) (n : ℕ) → tag_in [] n [] ends ≡ tag_text [] n [] []
unfolding tag_in tag_text
no_tag ends n = refl

-- the items of the calls do what the calls do
calls_do_lem : (ends : List ℕ) (m : Macro) (w : Work) → before_acts m w ≡ act_in (acts_in [] [] ends) 0 (calls_items m.before) w
unfolding before_acts
calls_do_lem ends m w =
    sym (commands_as [] [] [] m.before w)
    ∙ sym (actions_do [] [] ends [] [] (no_tag ends) (map call m.before) w)
    ∙ ap (λ (l : List ℕ). act_in (acts_in [] [] ends) 0 l w) (sym (calls_items_lem m.before))

-- nothing of the new line is made yet
start_moment : (out b : List ℕ) (st : State) → Holds b st → IsMoment out b 0 (start_in st)
unfolding text_of onto
start_moment out b st h = record { line = refl; size = refl; state = h }

-- there are no calls
no_items : (l : List ℕ) → length l < 1 → (w : Work) → act_in (acts_in [] [] []) 0 l w ≡ good w
unfolding act_in
no_items [] h w = refl
no_items (_ ∷ l) h w = absurd (omega arith)

module _ {s b : List ℕ} {x : ℕ} (p : x ≡ two_at s 2) where
  pub prepares : {out b₁ out₁ : List ℕ} {r : Result ℕ WorkError}
      → Does (act_in (acts_in [] [] (replicate body_bytes 0)) 0 (take (10 + x - 10) (drop 10 s))) out b 0 out₁ b₁ r → Prepares s b b₁ r
  prepares {out} does =
      record {
        comes = λ m i st h.
            let v = does.comes (start_in st) (start_moment out b st h) in
            let e = ap (λ (l : List ℕ). act_in (acts_in [] [] (replicate body_bytes 0)) 0 l (start_in st)) (sym (before_here s m i p)) in
            (v.0, calls_do_lem (replicate body_bytes 0) m (start_in st) ∙ e ∙ v.1, v.2.size, v.2.state);
      }

  pub prepares_none : x ≡ 0 → Prepares s b b (Ok 0)
  prepares_none few =
      record {
        comes = λ m i st h.
            (start_in st, calls_do_lem [] m (start_in st) ∙ no_items (calls_items m.before) (omega (arith, before_long s m i)) (start_in st), refl, h);
      }
