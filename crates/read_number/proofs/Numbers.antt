-- Numbers of any length.
-- Assumes nothing.
use mathlib.Core.Path.{◌≡◌, refl, ap, sym, ◌∙◌}
use mathlib.Core.Bool.{Bool, true, false, ◌&&◌, ◌||◌, or-true, or-false, true≢false}
use mathlib.Core.List.{List, [], ◌∷◌}
use mathlib.Core.Option.{Option, none, some}
use Prim.Native.Nat.{ℕ, ◌+◌, ◌-◌, ◌*◌, ◌≤◌, ◌<◌, min}
use native.Mathlib.Omega.{arith}
use lib.Dec.{ltb}
use borrow.Author.Tests.{ne_eqb, lt-ltb, le-ltb, ltb-true, ltb-false, leb-true}
use Rattle.macros.specs.Macro.{Mark, Action, pick, within, ascii_lower, digit}
use Rattle.macros.specs.Macro.Mark.{stack}
use Rattle.macros.specs.Read.{Part, Prior, Front, CallSite, part_byte, skips, and_digit, tag_byte, turned, call_byte, site_of, may_store_tag, otherwise, is_sign}
use Rattle.macros.specs.Read.{part_byte_by}
use Rattle.macros.specs.ReadSoFar.Step.{on}
use Rattle.macros.specs.ReadSoFar.Part.{tag_number, calling}
use Rattle.macros.specs.ReadSoFar.Phase.{equals, increment, divisor, begun, tagged}
use Rattle.std.specs.Prelude.{Ok, Err, Some, None, IfSome, is_some, unwrap_or}
use Rattle.std.specs.Prelude.{Option as Maybe}
use Rattle.read_scan.specs.Bytes.{Next, refused, Placed, with?, seen, next_byte, spaceless}
use Rattle.read_scan.specs.Bytes.Placed.{byte_at}
use Rattle.read_scan.specs.Scan.{MacroRead, noted, run, Passes}
use Rattle.read_number.specs.Number.{Eats, most, number_fault, counting, leading, behind, value_from, any?, if_digit, numbered, number_from, Kept, Digits, Behind, Counts}
use Rattle.read_scan.specs.declared.FileFault.{FileFault}
use Rattle.read_scan.proofs.Bytes.{seen_byte, seen_none}
use Rattle.read_scan.proofs.Laws.{here_on}

pub most_low : (n : ℕ) → n < 1000000000 → most n ≡ n
unfolding most pick
most_low n h = simp (lt-ltb _ _ h)

pub most_high : (n : ℕ) → 1000000000 ≤ n → most n ≡ 1000000000
unfolding most pick
most_high n h = simp (le-ltb _ _ h)

pub most_min : (n : ℕ) → min n 1000000000 ≡ most n
unfolding most pick
most_min n = by (ltb n 1000000000) refl
  where
    by : (y : Bool) → ltb n 1000000000 ≡ y → min n 1000000000 ≡ pick y n 1000000000
    by true e = omega (arith, ltb-true n 1000000000 e)
    by false e = omega (arith, ltb-false n 1000000000 e)

-- one digit more
most_next : (v d : ℕ) → most (most v * 10 + d) ≡ most (v * 10 + d)
most_next v d = by (ltb v 1000000000) refl
  where
    by : (x : Bool) → ltb v 1000000000 ≡ x → most (most v * 10 + d) ≡ most (v * 10 + d)
    by true e = rw (most_low v (ltb-true v 1000000000 e)) refl
    by false e =
        let h : 1000000000 ≤ v = ltb-false v 1000000000 e in
        rw (most_high v h) (most_high (1000000000 * 10 + d) (omega arith) ∙ sym (most_high (v * 10 + d) (omega arith)))

kept_next : (o : Option ℕ) (x : Maybe ℕ) (b : ℕ) → Kept o x → Kept (some (and_digit o b)) (Some (most (unwrap_or x 0 * 10 + (b - 48))))
unfolding and_digit
kept_next none x b k = rw k (ap (λ (n : ℕ). Some (most n)) (omega arith))
kept_next (some v) x b k = rw k (ap Some (most_next v (b - 48)))

and_left : (x y : Bool) → (x && y) ≡ true → x ≡ true
and_left true y e = refl
and_left false y e = e

pub digit_low : {b : ℕ} → digit b ≡ true → 48 ≤ b
unfolding digit within
digit_low e = leb-true _ _ (and_left _ _ e)

-- `{n}` and the calls take digits
pub eats_tag : (f : Front) (xs : List Action) → Eats false (λ o. tag_number o f xs)
unfolding part_byte_by skips tag_byte pick
eats_tag f xs = record { skipping = λ o. refl; digits = λ o b e. simp e; spaces = λ o e. absurd (true≢false (sym e)); within = λ o u q r. refl }

pub eats_equals : (pl : CallSite) (m : Mark) (i : ℕ) → Eats true (λ o. calling pl (equals m i o))
unfolding part_byte_by skips pick turned call_byte otherwise digit within
eats_equals pl m i = record { skipping = λ o. refl; digits = λ o b e. simp e; spaces = λ o e. refl; within = λ o u q r. refl }

pub eats_increment : (pl : CallSite) (i : ℕ) → Eats true (λ o. calling pl (increment i o))
unfolding part_byte_by skips pick turned call_byte otherwise digit within
eats_increment pl i = record { skipping = λ o. refl; digits = λ o b e. simp e; spaces = λ o e. refl; within = λ o u q r. refl }

pub eats_divisor : (pl : CallSite) (i : ℕ) → Eats true (λ o. calling pl (divisor i o))
unfolding part_byte_by skips pick turned call_byte otherwise digit within
eats_divisor pl i = record { skipping = λ o. refl; digits = λ o b e. simp e; spaces = λ o e. refl; within = λ o u q r. refl }

-- behind `&(`, the number of a tag, where one may be stored
abbrev pub tag_state : CallSite → Option ℕ → Part
tag_state pl none = calling pl (begun stack)
tag_state pl (some n) = calling pl (tagged n)

pub eats_tagged : (pl : CallSite) → may_store_tag (site_of pl) ≡ true → Eats true (tag_state pl)
unfolding part_byte_by skips pick turned call_byte otherwise digit within is_sign ascii_lower and_digit
eats_tagged pl h = record { skipping = skipped; digits = took; spaces = spaced; within = inner }
  where
    skipped : (o : Option ℕ) → skips (tag_state pl o) ≡ true
    skipped none = refl
    skipped (some n) = refl

    took : (o : Option ℕ) (b : ℕ) → digit b ≡ true → part_byte (tag_state pl o) b ≡ on (tag_state pl (some (and_digit o b)))
    took none b e = simp (e, h)
    took (some n) b e = simp e

    spaced : (o : Option ℕ) → true ≡ true → part_byte (tag_state pl o) 32 ≡ on (tag_state pl o)
    spaced none e = refl
    spaced (some n) e = refl

    inner : (o u : Option ℕ) (q : ℕ) (r : MacroRead) → noted (tag_state pl o) (tag_state pl u) q r ≡ r
    inner none u q r = refl
    inner (some n) u q r = refl

-- BYTES OF A NUMBER

counting_none : (sp : Bool) → counting sp [] ≡ []
unfolding counting spaceless pick
counting_none true = refl
counting_none false = refl

counting_byte : (sp : Bool) (b q : ℕ) (xs : List Placed) → (sp ≡ true → b ≡ 32 → ⊥) → counting sp (byte_at b q ∷ xs) ≡ byte_at b q ∷ counting sp xs
unfolding counting spaceless with? pick
counting_byte true b q xs f = simp (ne_eqb _ _ (f refl))
counting_byte false b q xs f = refl

counting_space : (sp : Bool) (b q : ℕ) (xs : List Placed) → sp ≡ true → b ≡ 32 → counting sp (byte_at b q ∷ xs) ≡ counting sp xs
unfolding counting spaceless with? pick
counting_space sp b q xs e f = rw (e, f) refl

-- the digits from p up to v: what the machine does, and what they leave to be counted
pub record Sofar (s : List ℕ) (a p : ℕ) (sp : Bool) (v : ℕ) (x : Maybe ℕ) : Type 0 where
  pub machine : Digits s a p sp v x
  pub value : ℕ
  pub kept : unwrap_or x 0 ≡ most value
  pub folded : value_from 0 (leading (counting sp (seen s a p))) ≡ value_from value (leading (counting sp (seen s a v)))
  pub told : any? (leading (counting sp (seen s a p))) ≡ (is_some x || any? (leading (counting sp (seen s a v))))
  pub rest : behind (counting sp (seen s a p)) ≡ behind (counting sp (seen s a v))

pub digits_none : (s : List ℕ) (a p : ℕ) (sp : Bool) → Sofar s a p sp p None
digits_none s a p sp =
    record {
      machine = record { value = none; kept = refl; answer = λ F x pr. refl };
      value = 0;
      kept = sym (most_low 0 (omega arith));
      folded = refl;
      told = refl;
      rest = refl;
    }

pub low : {B : ℕ} (x : Maybe ℕ) → IfSome x (λ n. n ≤ B) → unwrap_or x 0 ≤ B
low None h = omega arith
low (Some n) h = h

if_digit_same : (x : Maybe ℕ) → if_digit (is_some x) (unwrap_or x 0) ≡ x
if_digit_same None = refl
if_digit_same (Some n) = refl

-- the digits up to v, and the next byte from there on
module _ {s : List ℕ} {a p : ℕ} {sp : Bool} {v : ℕ} {x : Maybe ℕ} (g : Sofar s a p sp v x) (l : p ≤ v) {r : Next} (z : Passes s a v r) where
  number_none : {f : FileFault} {q : ℕ} → refused f q ≡ next_byte s a v → Err (record { fault = f; place = q }) ≡ number_from s a p sp
  unfolding number_from numbered behind
  number_none {f} {q} e =
      let h = seen_none s a v f q e in
      rw (g.rest, h.0, counting_none sp) (ap number_fault h.1)

  pub counts_fault : {f : FileFault} {q : ℕ} → r ≡ refused f q → Counts s a p sp (Err (record { fault = f; place = q }))
  counts_fault {f} {q} e =
      let h : Passes s a v (refused f q) = rw e at z in
      (h.found, λ F y pr. g.machine.answer F y pr ∙ h.answer _ pr (y.skipping g.machine.value), number_none h.exact)

  module _ {b q : ℕ} (e : r ≡ Ok (b, q)) where
    pub byte_found : Passes s a v (Ok (b, q))
    byte_found = rw e at z

    there : (F : Option ℕ → Part) → Eats sp F → (pr : Prior) → run s a pr false p (F none) ≡ run s a pr false q (F g.machine.value)
    there F y pr = g.machine.answer F y pr ∙ byte_found.answer _ pr (y.skipping g.machine.value)

    -- the bytes that are left to be counted
    at_byte_lem : (sp ≡ true → b ≡ 32 → ⊥) → counting sp (seen s a v) ≡ byte_at b q ∷ counting sp (seen s a (q + 1))
    at_byte_lem f = ap (counting sp) (seen_byte s a v b q byte_found.exact) ∙ counting_byte sp b q _ f

    at_space : sp ≡ true → b ≡ 32 → counting sp (seen s a v) ≡ counting sp (seen s a (q + 1))
    at_space h f = ap (counting sp) (seen_byte s a v b q byte_found.exact) ∙ counting_space sp b q _ h f

    number_end_lem : Behind sp b → Ok (record { value = x; behind = b; place = q }) ≡ number_from s a p sp
    unfolding number_from numbered behind leading value_from any? pick
    number_end_lem i =
        let c = at_byte_lem i.1 in
        let k : behind (counting sp (seen s a p)) ≡ byte_at b q ∷ counting sp (seen s a (q + 1)) = g.rest ∙ rw (c, i.0) refl in
        let y : value_from 0 (leading (counting sp (seen s a p))) ≡ g.value = g.folded ∙ rw (c, i.0) refl in
        let w : any? (leading (counting sp (seen s a p))) ≡ is_some x = g.told ∙ rw (c, i.0) (or-false (is_some x)) in
        rw (k, y, w) (ap (λ (o : Maybe ℕ). Ok (record { value = o; behind = b; place = q })) (sym (if_digit_same x) ∙ ap (if_digit (is_some x)) g.kept))

    pub counts_end : IfSome x (λ n. n ≤ 1000000000) → Behind sp b → Counts s a p sp (Ok (record { value = x; behind = b; place = q }))
    counts_end h i = (
      omega (arith, byte_found.found.0),
      byte_found.found.1,
      i,
      h,
      record { value = g.machine.value; kept = g.machine.kept; answer = there },
      number_end_lem i,
    )

    pub digits_space : b ≡ 32 → sp ≡ true → Sofar s a p sp (q + 1) x
    digits_space f h =
        record {
          machine = record {
            value = g.machine.value;
            kept = g.machine.kept;
            answer = λ F y pr. there F y pr ∙ here_on byte_found.found.1 pr _ _ (y.within _ _) (rw f (y.spaces g.machine.value h));
          };
          value = g.value;
          kept = g.kept;
          folded = g.folded ∙ rw (at_space h f) refl;
          told = g.told ∙ rw (at_space h f) refl;
          rest = g.rest ∙ rw (at_space h f) refl;
        }

    pub digits_next : (w : ℕ) → digit b ≡ true → w ≡ most (unwrap_or x 0 * 10 + (b - 48)) → Sofar s a p sp (q + 1) (Some w)
    unfolding behind leading value_from any? pick
    digits_next w f h =
        let c = at_byte_lem (λ i j. omega (arith, digit_low f)) in
        record {
          machine = record {
            value = some (and_digit g.machine.value b);
            kept = rw h (kept_next g.machine.value x b g.machine.kept);
            answer = λ F y pr. there F y pr ∙ here_on byte_found.found.1 pr _ _ (y.within _ _) (y.digits g.machine.value b f);
          };
          value = g.value * 10 + (b - 48);
          kept = h ∙ rw g.kept (most_next g.value (b - 48));
          folded = g.folded ∙ rw (c, f) refl;
          told = g.told ∙ rw (c, f) (or-true (is_some x));
          rest = g.rest ∙ rw (c, f) refl;
        }
