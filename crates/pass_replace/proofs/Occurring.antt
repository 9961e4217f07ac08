-- An occurrence, from the slot of its macro.
use Prim.Native.Nat.{ℕ, ◌+◌, ◌-◌, ◌≤◌}
use mathlib.Core.Path.{◌≡◌, sym, ap, ◌∙◌}
use mathlib.Core.List.{List, ◌++◌, map}
use native.Mathlib.Omega.{arith}
use lib.ListN.{length, take, drop}
use Rattle.macros.specs.Macro.{Piece, Action, Macro}
use Rattle.macros.specs.Macro.Action.{call}
use Rattle.form_table.specs.Form.{slot_bytes, body_bytes, pattern_items}
use Rattle.form_table.specs.Check.{two_at}
use Rattle.lines.specs.Matching.{Division, stops}
use Rattle.lines.specs.Replacing.{Work, occur}
use Rattle.pass_replace.specs.Contract.{IsSlot, IsDivided, Lent, Occurs}
use Rattle.pass_replace.specs.Tags.{Divided}
use Rattle.pass_replace.specs.Acting.{act_in, acts_in, Fits}
use Rattle.pass_steps.specs.Moments.{Does}
use Rattle.refusals.specs.declared.WorkError.{WorkError}
use Rattle.std.specs.Prelude.{Result}
use Rattle.pass_replace.proofs.Braces.{tag_is}
use Rattle.pass_replace.proofs.Decoding.{actions_do, both_do}
use Rattle.pass_replace.proofs.Parts.{slot_long, pattern_long, parts_short, pattern_here, actions_here, actions_all, actions_fitting}

-- WHAT IS LENT

module _ {s ends t b out : List ℕ} {size : ℕ} (h : Lent s ends t b out size) where
  abbrev is_slot : IsSlot s h.divided.0
  is_slot = h.divided.2.macro

  pub slot_size : length s ≡ slot_bytes
  slot_size = slot_long s h.divided.0 is_slot

  pub parts_fit_lem : two_at s 2 + two_at s 4 + two_at s 6 + two_at s 8 + 2 ≤ body_bytes
  parts_fit_lem = parts_short s h.divided.0 is_slot

  module _ {x y : ℕ} (p : x ≡ two_at s 2) (q : y ≡ two_at s 4) where
    pub is_divided : Divided (take (10 + x + y - (10 + x)) (drop (10 + x) s)) ends t
    is_divided =
        record {
          ended = record { few = let e = ap length (pattern_here s h.divided.0 is_slot p q) in let a = pattern_long s h.divided.0 is_slot in let c = parts_fit_lem in omega arith; count = h.count };
          inside = h.inside;
          bytes = h.bytes;
          short = h.short;
        }

    pub are_fit : {z u : ℕ} → z ≡ two_at s 6 → u ≡ two_at s 8 → Fits (take (10 + x + y + z + u - (10 + x + y)) (drop (10 + x + y) s))
    are_fit r v = rw (actions_here s h.divided.0 is_slot p q r v) (actions_fitting s h.divided.0 is_slot)

-- THE CONTRACT

module _ {s ends t b out : List ℕ} {size : ℕ} (h : Lent s ends t b out size)
    {x y z u : ℕ} (p : x ≡ two_at s 2) (q : y ≡ two_at s 4) (r : z ≡ two_at s 6) (v : u ≡ two_at s 8) where
  abbrev pat : List ℕ
  pat = take (10 + x + y - (10 + x)) (drop (10 + x) s)

  abbrev items : List ℕ
  items = take (10 + x + y + z + u - (10 + x + y)) (drop (10 + x + y) s)

  same_step : (m : Macro) (d : Division) → IsDivided s ends m d → (w : Work) → occur m t d w ≡ act_in (acts_in t pat ends) 0 items w
  unfolding occur
  same_step m d e w =
      let es : List Piece = m.pattern in
      let all : List Action = m.replacement ++ map call m.commands in
      sym (both_do t es (stops d) m.replacement m.commands w)
      ∙ sym (actions_do t (pattern_items es) ends es (stops d) (tag_is t es ends (stops d) e.spans) all w)
      ∙ ap (λ (l : List ℕ). act_in (acts_in t (pattern_items es) ends) 0 l w) (actions_all s m e.macro ∙ sym (actions_here s m e.macro p q r v))
      ∙ ap (λ (l : List ℕ). act_in (acts_in t l ends) 0 items w) (sym (pattern_here s m e.macro p q))

  pub occurs : {b₁ out₁ : List ℕ} {a : Result ℕ WorkError} → Does (act_in (acts_in t pat ends) 0 items) out b size out₁ b₁ a → Occurs s ends t b b₁ out out₁ size a
  occurs does =
      record {
        comes = λ m d e w im. let z = does.comes w im in (z.0, same_step m d e w ∙ z.1, z.2);
        past = does.past;
        within = does.fits;
      }
