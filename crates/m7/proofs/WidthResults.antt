-- What widening and narrowing come to, taken to the contracts of m7_widen and m7_narrow.
use Prim.Native.Nat.{ℕ}
use mathlib.Core.Path.{◌≡◌, refl, sym, ap, ◌∙◌}
use mathlib.Core.Bool.{Bool, true, false, ◌&&◌}
use mathlib.Core.List.{List}
use borrow.Author.Tests.{eq-eqb, ne_eqb}
use lib.Dec.{eqb}
use lib.ListN.{length}
use Rattle.macros.specs.Refusals.{number, place, host_number}
use Rattle.macros.specs.Formed.{Octets}
use Rattle.form_table.proofs.Basics.{clash, and_both}
use Rattle.lines.specs.State.{State}
use Rattle.m_widths.specs.Widths.{Short}
use Rattle.form_state.specs.Form.{state_bytes}
use Rattle.form_state.specs.Check.{state_checks}
use Rattle.form_state.specs.Access.{Holds}
use Rattle.form_state.proofs.Decode.{one_state_form, state_check_exact}
use Rattle.form_old.specs.Refusal.{width_number}
use Rattle.form_old.specs.Old.{old_state_bytes, widened_bytes, narrowed_bytes, short_entries}
use Rattle.form_old.proofs.OldLaws.{old_exact, widens_form, narrows_form, short_exact}
use Rattle.line_memory.specs.Memory.{padded}
use Rattle.line_memory.proofs.Copying.{padded_whole}
use Rattle.line_answer.specs.declared.Answer.{Answer}
use Rattle.line_answer.specs.Replies.{reply}
use Rattle.m7.specs.Contract.{refuses, takes}
use Rattle.m7.specs.Widening.{sized_states, refuses_long, Widens, Narrows}

-- the copy
pub wide_copied : (wide state : List ℕ) {b : List ℕ} → length wide ≡ state_bytes → length state ≡ state_bytes → b ≡ padded wide (length state) → b ≡ wide
wide_copied wide state g h e = padded_whole wide (length state) (g ∙ sym h) e

module _ (old state : List ℕ) where
  pub other_old : (length old ≡ old_state_bytes → ⊥) → sized_states old state ≡ false
  unfolding sized_states
  other_old h = let e : eqb (length old) old_state_bytes ≡ false = ne_eqb _ _ h in rw e

  pub other_new : length old ≡ old_state_bytes → (length state ≡ state_bytes → ⊥) → sized_states old state ≡ false
  unfolding sized_states
  other_new g h = let e : eqb (length state) state_bytes ≡ false = ne_eqb _ _ h in let f : eqb (length old) old_state_bytes ≡ true = eq-eqb _ _ g in rw (f, e)

  pub new_other : (length state ≡ state_bytes → ⊥) → sized_states old state ≡ false
  unfolding sized_states
  new_other h = let e : eqb (length state) state_bytes ≡ false = ne_eqb _ _ h in rw e (no (eqb (length old) old_state_bytes))
    where
      no : (a : Bool) → a && false ≡ false
      no true = refl
      no false = refl

  both_sized : length old ≡ old_state_bytes → length state ≡ state_bytes → sized_states old state ≡ true
  unfolding sized_states
  both_sized g h = and_both (eq-eqb _ _ g) (eq-eqb _ _ h)

  -- 3
  pub widen_other : {a : Answer} → sized_states old state ≡ false → a ≡ reply 3 0 0 → Widens old state a state
  unfolding refuses number place host_number
  widen_other z e = record { other_size = λ y. record { answers = e; holds = refl }; no_state = λ y. clash y z; made = λ y. clash y z }

  pub narrow_other : {a : Answer} → sized_states old state ≡ false → a ≡ reply 3 0 0 → Narrows state old a old
  unfolding refuses number place host_number
  narrow_other z e =
      record {
        other_size = λ y. record { answers = e; holds = refl };
        no_state = λ y. clash y z;
        too_long = λ y. clash y z;
        made = λ y. clash y z;
      }

  module _ (g : length old ≡ old_state_bytes) (h : length state ≡ state_bytes) where
    sizes : sized_states old state ≡ true
    sizes = both_sized g h

    module _ (o : Octets old) where
      -- 2
      pub widen_none : {a : Answer} → state_checks (widened_bytes old) ≡ false → a ≡ reply 2 0 0 → Widens old state a state
      unfolding refuses number place host_number
      widen_none z e =
          record {
            other_size = λ y. clash sizes y;
            no_state = λ y n. record { answers = e; holds = refl };
            made = λ y st k. clash ((old_exact old o g).1 (st, k)) z;
          }

      pub widen_made : {a : Answer} {b : List ℕ} → state_checks (widened_bytes old) ≡ true → b ≡ widened_bytes old → a ≡ reply 0 0 0 → Widens old state a b
      unfolding takes
      widen_made z f e =
          record {
            other_size = λ y. clash sizes y;
            no_state = λ y n. let s = (old_exact old o g).0 z in absurd (n s.0 s.1);
            made = λ y st k. record { answers = e; holds = f ∙ widens_form old st k };
          }

    module _ (o : Octets state) where
      -- 2
      pub narrow_none : {a : Answer} → state_checks state ≡ false → a ≡ reply 2 0 0 → Narrows state old a old
      unfolding refuses number place host_number
      narrow_none z e =
          let no : (st : State) → Holds state st → ⊥ = λ st k. clash ((state_check_exact state o).1 (st, k.in_range, k.form)) z in
          record {
            other_size = λ y. clash sizes y;
            no_state = λ y n. record { answers = e; holds = refl };
            too_long = λ y st k. absurd (no st k);
            made = λ y st k. absurd (no st k);
          }

      module _ (z : state_checks state ≡ true) where
        some : ((st : State) → Holds state st → ⊥) → ⊥
        some n = let s = (state_check_exact state o).0 z in n s.0 (record { in_range = s.1; form = s.2 })

        -- 42
        pub narrow_long : {a : Answer} → short_entries state ≡ false → a ≡ reply 42 0 0 → Narrows state old a old
        unfolding refuses_long width_number
        narrow_long f e =
            record {
              other_size = λ y. clash sizes y;
              no_state = λ y n. absurd (some n);
              too_long = λ y st k l. record { answers = e; holds = refl };
              made = λ y st k s. clash ((short_exact state st k).1 s) f;
            }

        pub narrow_made : {a : Answer} {b : List ℕ} → short_entries state ≡ true → b ≡ narrowed_bytes state → a ≡ reply 0 0 0 → Narrows state old a b
        unfolding takes
        narrow_made t f e =
            record {
              other_size = λ y. clash sizes y;
              no_state = λ y n. absurd (some n);
              too_long = λ y st k l. absurd (l ((short_exact state st k).0 t));
              made = λ y st k s. record { answers = e; holds = f ∙ narrows_form state st k s };
            }
