-- Letters with a sign before or behind them.
-- Assumes nothing.
use mathlib.Core.Path.{◌≡◌, refl, ap, sym, ◌∙◌}
use mathlib.Core.Bool.{Bool, true, false, ◌&&◌, true≢false}
use mathlib.Core.List.{List}
use Prim.Native.Nat.{ℕ, ◌+◌, ◌≤◌, ◌<◌}
use native.Mathlib.Omega.{arith}
use lib.Dec.{eqb}
use Rattle.macros.specs.Macro.{Move, Sign, pick, ascii_lower}
use Rattle.macros.specs.Macro.Sign.{plus, minus}
use Rattle.macros.specs.Macro.Move.{still, before, after}
use Rattle.macros.specs.Read.{Prior, CallSite, Phase, site_of, is_sign, sign_of, is_still}
use Rattle.macros.specs.ReadSoFar.Part.{calling}
use Rattle.form_table.specs.Form.{move_code}
use Rattle.read_scan.specs.Scan.{run, Here, Calls, fault_of, wrong_call}
use Rattle.std.specs.Prelude.{Ok}
use Rattle.read_scan.specs.Bytes.{Next, refused}
use Rattle.read_call.specs.Call.{Names, name_read, no_name, Naming, sign_code}
use Rattle.read_scan.specs.declared.FileFault.{FileFault}
use Rattle.read_text.proofs.Turns.{call_next, call_none, here_wrong, here_into}

-- CODES

pub code_before : (b : ℕ) → sign_code b ≡ move_code (before (sign_of b))
unfolding sign_of sign_code move_code pick
code_before b = by (eqb b 43)
  where
    by : (x : Bool) → pick x 1 2 ≡ move_code (before (pick x plus minus))
    by true = refl
    by false = refl

pub code_after : (b : ℕ) → 2 + sign_code b ≡ move_code (after (sign_of b))
unfolding sign_of sign_code move_code pick
code_after b = by (eqb b 43)
  where
    by : (x : Bool) → 2 + pick x 1 2 ≡ move_code (after (pick x plus minus))
    by true = refl
    by false = refl

pub code_still : 0 ≡ move_code still
unfolding move_code
code_still = refl

pub code_most : (v : Move) → move_code v ≤ 4
unfolding move_code
code_most still = omega arith
code_most (before plus) = omega arith
code_most (before minus) = omega arith
code_most (after plus) = omega arith
code_most (after minus) = omega arith

pub code_none : (v : Move) → move_code v ≡ 0 → v ≡ still
unfolding move_code
code_none still e = refl
code_none (before plus) e = absurd (omega arith)
code_none (before minus) e = absurd (omega arith)
code_none (after plus) e = absurd (omega arith)
code_none (after minus) e = absurd (omega arith)

pub code_some : (v : Move) → 0 < move_code v → is_still v ≡ false
unfolding move_code is_still
code_some still e = absurd (omega arith)
code_some (before x) e = refl
code_some (after x) e = refl

pub sign_code_most : (b : ℕ) → sign_code b ≤ 2
unfolding sign_code pick
sign_code_most b = by (eqb b 43)
  where
    by : (x : Bool) → pick x 1 2 ≤ 2
    by true = omega arith
    by false = omega arith

unstill : (x : Sign) → is_still (before x) ≡ true → (y : Bool) → y ≡ false
unfolding is_still
unstill x e y = absurd (true≢false (sym e))

unstill_after : (x : Sign) → is_still (after x) ≡ true → (y : Bool) → y ≡ false
unfolding is_still
unstill_after x e y = absurd (true≢false (sym e))

-- A LETTER BEHIND A SIGN

module _ {s : List ℕ} {a p b : ℕ} (sg : Bool) (x : Here s a p b) (h : (is_sign b && sg) ≡ true) {r : Next} (y : Calls s a (p + 1) r) where
  lead : (pl : CallSite) (start : Phase) (sgn : Sign → Phase) (nam : ℕ → Move → Phase) → Names (site_of pl) sg b start sgn nam → (pr : Prior)
      → run s a pr false p (calling pl start) ≡ run s a pr false (p + 1) (calling pl (sgn (sign_of b)))
  unfolding pick
  lead pl start sgn nam g pr = here_into pl start pr x (sgn (sign_of b)) (g.first ∙ rw h refl)

  pub signed_none : {f : FileFault} {q : ℕ} → r ≡ refused f q → Naming s a p b sg (no_name f q)
  signed_none {f} {q} e =
      let z : Calls s a (p + 1) (refused f q) = rw e at y in
      (z.found, λ pl start sgn nam g pr. lead pl start sgn nam g pr ∙ call_none pl (sgn (sign_of b)) pr z)

  module _ {c q : ℕ} (e : r ≡ Ok (c, q)) where
    pub signed_byte : Calls s a (p + 1) (Ok (c, q))
    signed_byte = rw e at y

    pub signed_wrong : (f : FileFault) → ascii_lower c ≡ false → fault_of f ≡ wrong_call c → Naming s a p b sg (no_name f q)
    unfolding pick
    signed_wrong f l i =
        let z = signed_byte in
        let t = z.found.1.stands in (
          omega (arith, t.there),
          λ pl start sgn nam g pr. lead pl start sgn nam g pr
              ∙ (call_next pl (sgn (sign_of b)) pr z ∙ here_wrong pl (sgn (sign_of b)) pr z.found.1 f z.found.2 (g.second (sign_of b) c ∙ rw l refl) i),
        )

    module _ (l : ascii_lower c ≡ true) {r' : Next} (y' : Calls s a (q + 1) r') where
      letter : (pl : CallSite) (start : Phase) (sgn : Sign → Phase) (nam : ℕ → Move → Phase) → Names (site_of pl) sg b start sgn nam → (pr : Prior)
          → run s a pr false p (calling pl start) ≡ run s a pr false (q + 1) (calling pl (nam c (before (sign_of b))))
      unfolding pick
      letter pl start sgn nam g pr =
          lead pl start sgn nam g pr
          ∙ (call_next pl (sgn (sign_of b)) pr signed_byte
          ∙ here_into pl (sgn (sign_of b)) pr signed_byte.found.1 (nam c (before (sign_of b))) (g.second (sign_of b) c ∙ rw l refl))

      pub signed_none_2 : {f : FileFault} {v : ℕ} → r' ≡ refused f v → Naming s a p b sg (no_name f v)
      signed_none_2 {f} {v} e' =
          let z : Calls s a (q + 1) (refused f v) = rw e' at y' in
          (z.found, λ pl start sgn nam g pr. letter pl start sgn nam g pr ∙ call_none pl (nam c (before (sign_of b))) pr z)

      pub signed_got : {d v m : ℕ} → r' ≡ Ok (d, v) → m ≡ sign_code b → Naming s a p b sg (name_read c m d v)
      signed_got {d} {v} e' i =
          let z : Calls s a (q + 1) (Ok (d, v)) = rw e' at y' in
          record {
            move = before (sign_of b);
            code = i ∙ code_before b;
            here = z.found.1;
            solid = z.found.2;
            further = omega (arith, z.found.0, signed_byte.found.0);
            last = λ j. unstill (sign_of b) j _;
            answer = λ pl start sgn nam g pr. letter pl start sgn nam g pr ∙ call_next pl (nam c (before (sign_of b))) pr z;
          }

-- A LETTER AT ONCE

module _ {s : List ℕ} {a p b : ℕ} (sg : Bool) (x : Here s a p b) (h : (is_sign b && sg) ≡ false) where
  pub name_wrong : (f : FileFault) → (b ≡ 32 → ⊥) → ascii_lower b ≡ false → fault_of f ≡ wrong_call b → Naming s a p b sg (no_name f p)
  unfolding pick
  name_wrong f k l i =
      let t = x.stands in
      (omega (arith, t.there), λ pl start sgn nam g pr. here_wrong pl start pr x f k (g.first ∙ (rw h (rw l refl))) i)

  module _ (l : ascii_lower b ≡ true) {r : Next} (y : Calls s a (p + 1) r) where
    named : (pl : CallSite) (start : Phase) (sgn : Sign → Phase) (nam : ℕ → Move → Phase) → Names (site_of pl) sg b start sgn nam → (pr : Prior)
        → run s a pr false p (calling pl start) ≡ run s a pr false (p + 1) (calling pl (nam b still))
    unfolding pick
    named pl start sgn nam g pr = here_into pl start pr x (nam b still) (g.first ∙ (rw h (rw l refl)))

    pub name_none : {f : FileFault} {q : ℕ} → r ≡ refused f q → Naming s a p b sg (no_name f q)
    name_none {f} {q} e =
        let z : Calls s a (p + 1) (refused f q) = rw e at y in
        (z.found, λ pl start sgn nam g pr. named pl start sgn nam g pr ∙ call_none pl (nam b still) pr z)

    module _ {c q : ℕ} (e : r ≡ Ok (c, q)) where
      pub name_byte : Calls s a (p + 1) (Ok (c, q))
      name_byte = rw e at y

      there : (pl : CallSite) (start : Phase) (sgn : Sign → Phase) (nam : ℕ → Move → Phase) → Names (site_of pl) sg b start sgn nam → (pr : Prior)
          → run s a pr false p (calling pl start) ≡ run s a pr false q (calling pl (nam b still))
      there pl start sgn nam g pr = named pl start sgn nam g pr ∙ call_next pl (nam b still) pr name_byte

      pub name_still : (is_sign c && sg) ≡ false → Naming s a p b sg (name_read b 0 c q)
      name_still j =
          record {
            move = still;
            code = code_still;
            here = name_byte.found.1;
            solid = name_byte.found.2;
            further = omega (arith, name_byte.found.0);
            last = λ k. j;
            answer = there;
          }

      module _ (j : (is_sign c && sg) ≡ true) {r' : Next} (y' : Calls s a (q + 1) r') where
        moved : (pl : CallSite) (start : Phase) (sgn : Sign → Phase) (nam : ℕ → Move → Phase) → Names (site_of pl) sg b start sgn nam → (pr : Prior)
            → run s a pr false p (calling pl start) ≡ run s a pr false (q + 1) (calling pl (nam b (after (sign_of c))))
        moved pl start sgn nam g pr =
            there pl start sgn nam g pr ∙ here_into pl (nam b still) pr name_byte.found.1 (nam b (after (sign_of c))) (g.third b c j)

        pub name_none_2 : {f : FileFault} {v : ℕ} → r' ≡ refused f v → Naming s a p b sg (no_name f v)
        name_none_2 {f} {v} e' =
            let z : Calls s a (q + 1) (refused f v) = rw e' at y' in
            (z.found, λ pl start sgn nam g pr. moved pl start sgn nam g pr ∙ call_none pl (nam b (after (sign_of c))) pr z)

        pub name_moved : {d v m : ℕ} → r' ≡ Ok (d, v) → m ≡ sign_code c → Naming s a p b sg (name_read b (2 + m) d v)
        name_moved {d} {v} e' i =
            let z : Calls s a (q + 1) (Ok (d, v)) = rw e' at y' in
            record {
              move = after (sign_of c);
              code = ap (λ (k : ℕ). 2 + k) i ∙ code_after c;
              here = z.found.1;
              solid = z.found.2;
              further = omega (arith, z.found.0, name_byte.found.0);
              last = λ k. unstill_after (sign_of c) k _;
              answer = λ pl start sgn nam g pr. moved pl start sgn nam g pr ∙ call_next pl (nam b (after (sign_of c))) pr z;
            }
