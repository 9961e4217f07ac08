-- Elements: the closure behind a unit, each kind of unit, and its items.
-- Assumes nothing.
use mathlib.Core.Path.{◌≡◌, refl, sym, ◌∙◌}
use mathlib.Core.Bool.{Bool, true, false, ◌&&◌, ◌||◌, true≢false}
use mathlib.Core.List.{List, []}
use Prim.Native.Nat.{ℕ, ◌+◌, ◌-◌, ◌*◌, ◌≤◌}
use native.Mathlib.Omega.{arith}
use native.Mathlib.Nat.{add-zero}
use lib.ListN.{length}
use lib.Dec.{eqb}
use borrow.Author.Tests.{ne_eqb, leb-true}
use Rattle.macros.specs.Macro.{Closure, Member, Mark, PatternUnit, Piece, pick, among, within, ascii_lower, mark_byte}
use Rattle.macros.specs.Macro.Closure.{once, one_or_more, zero_or_more}
use Rattle.macros.specs.Macro.PatternUnit.{literal, kind, class, call_of}
use Rattle.macros.specs.Macro.Piece.{element, start, end}
use Rattle.macros.specs.Read.{Part, Prior, skips, breaks, escaped, signs, kind_digit}
use Rattle.macros.specs.ReadSoFar.Joinable.{unit, starred}
use Rattle.macros.specs.ReadSoFar.Part.{pattern, pattern_escape, opened, pattern_called}
use Rattle.form_table.specs.Form.{unit_rest, members_items, piece_items}
use Rattle.form_element.specs.Element.{unit_of, element_of, item_of}
use Rattle.form_element.proofs.Items.{unit_item}
use Rattle.read_scan.specs.Scan.{fault_of, run, Here, Passes, Stays, Calls, wrong_call}
use Rattle.form_items.specs.Items.{Wrote}
use Rattle.read_class.specs.Class.{Classing}
use Rattle.read_element.specs.Element.{mark_at, got_item, Joins, Makes, MakesOne, at_query, at_mark, at_call, at_class, at_fresh, neg_of, IsClass, Inner, Pieces, PieceRead}
use Rattle.std.specs.Prelude.{Result, Ok, Err}
use Rattle.read_scan.specs.declared.ReadError.{ReadError}
use Rattle.read_scan.specs.declared.FileFault.{FileFault}
use Rattle.read_scan.specs.declared.FileFault.TheVariants.{Incomplete, NoUnit}
use Rattle.form_element.specs.declared.Unit.{Unit as CodeUnit}
use Rattle.form_element.specs.declared.Unit.TheVariants.{Literal, Kind}
use Rattle.form_element.specs.declared.Closure.TheVariants.{Once, OneOrMore, ZeroOrMore}
use Rattle.read_element.specs.declared.Item.{Item}
use Rattle.read_ends.specs.Ends.{Ended, left_by}
use Rattle.read_scan.proofs.Laws.{reached_at, reached_behind}
use Rattle.form_items.proofs.Writing.{wrote_none, wrote_before}
use Rattle.read_ends.proofs.Leaving.{zeroed}
use Rattle.read_element.proofs.Signs.{at_start_lem, at_end_lem, at_star, at_break, at_escape, at_bracket, at_query_lem, at_stack, at_counter, at_literal, query_digit, query_literal, mark_call, mark_literal, call_letter, call_wrong, called_end, called_wrong, unit_star, unit_once, star_dash, star_more, escape_on, opened_not, opened_plain, space_letter, space_called}

-- THE CLOSURE BEHIND A UNIT

module _ (u : CodeUnit) (n : ℕ) {s : List ℕ} {a p : ℕ} where
  pub joins_fault : {f : ReadError} → Passes s a p (Err f) → Joins s a p u n (Err f)
  unfolding skips
  joins_fault x = record { is = (x.found, λ v ps pr. x.answer _ pr refl) }

  module _ {b q : ℕ} (x : Passes s a p (Ok (b, q))) where
    here : Here s a q b
    here = x.found.1

    pub joins_once : (b ≡ 42 → ⊥) → Joins s a p u n (Ok (got_item u Once q n))
    unfolding skips
    joins_once f =
        record {
          is = (
            refl,
            record {
              further = x.found.0;
              reached = reached_at here.stands;
              its = once;
              same = refl;
              answer = λ v ps pr. x.answer _ pr refl ∙ unit_once here pr ps v f;
            },
          );
        }

    module _ (f : b ≡ 42) where
      star : (w : PatternUnit) (ps : List Piece) (pr : Prior) → run s a pr false p (pattern (unit w) ps) ≡ run s a pr false (q + 1) (pattern (starred w) ps)
      unfolding skips
      star w ps pr = x.answer _ pr refl ∙ unit_star here pr ps w f

      pub joins_star_fault : {g : ReadError} → Passes s a (q + 1) (Err g) → Joins s a p u n (Err g)
      unfolding skips
      joins_star_fault z = record { is = (z.found, λ x ps pr. star x ps pr ∙ z.answer _ pr refl) }

      module _ {d v : ℕ} (z : Passes s a (q + 1) (Ok (d, v))) where
        pub joins_zero : d ≡ 45 → Joins s a p u n (Ok (got_item u ZeroOrMore (v + 1) n))
        unfolding skips
        joins_zero k =
            record {
              is = (
                refl,
                record {
                  further = omega (arith, x.found.0, z.found.0);
                  reached = reached_behind z.found.1.stands;
                  its = zero_or_more;
                  same = refl;
                  answer = λ w ps pr. star w ps pr ∙ (z.answer _ pr refl ∙ star_dash z.found.1 pr ps w k);
                },
              );
            }

        pub joins_one : (d ≡ 45 → ⊥) → Joins s a p u n (Ok (got_item u OneOrMore v n))
        unfolding skips
        joins_one k =
            record {
              is = (
                refl,
                record {
                  further = omega (arith, x.found.0, z.found.0);
                  reached = reached_at z.found.1.stands;
                  its = one_or_more;
                  same = refl;
                  answer = λ w ps pr. star w ps pr ∙ (z.answer _ pr refl ∙ star_more z.found.1 pr ps w k);
                },
              );
            }

-- FROM A UNIT TO ITS ELEMENT

-- the unit x is read from v up to w, with its rest written, and then its closure
pub made : {s : List ℕ} {a p v w : ℕ} {F : List Piece → Part} {old out : List ℕ} {i n : ℕ} {o : Result Item ReadError} (x : PatternUnit)
    → Joins s a w (unit_of x) n o → v ≤ w → n ≤ i + 2 * (w - v) → Wrote old out i (unit_rest x) → n ≡ i + length (unit_rest x)
    → ((ps : List Piece) (pr : Prior) → run s a pr false p (F ps) ≡ run s a pr false w (pattern (unit x) ps)) → Makes s a p v F old out i o
made {o = Ok i} x j h k w c f =
    record {
      is = record {
        its_unit = x;
        its_closure = j.is.1.its;
        same = j.is.1.same;
        further = omega (arith, j.is.1.further);
        reached = j.is.1.reached;
        room = omega (arith, j.is.0, j.is.1.further);
        answer = λ ps pr. f ps pr ∙ j.is.1.answer x ps pr;
        wrote = w;
        used = omega (arith, j.is.0);
      };
    }
made {o = Err g} x j h k w c f = record { is = (j.is.0, λ ps pr. f ps pr ∙ j.is.1 x ps pr) }

-- a unit with nothing behind its item
made_one : {s : List ℕ} {a p v w : ℕ} {F : List Piece → Part} {n : ℕ} {o : Result Item ReadError} (x : PatternUnit) → unit_rest x ≡ []
    → Joins s a w (unit_of x) n o → v ≤ w → ((ps : List Piece) (pr : Prior) → run s a pr false p (F ps) ≡ run s a pr false w (pattern (unit x) ps))
    → (out : List ℕ) → Makes s a p v F out out n o
made_one {n = n} x e j h f out = made x j h (omega arith) (rw e (wrote_none out n)) (rw e (sym (add-zero n))) f

-- the same, begun earlier in another state
pub made_from : {s : List ℕ} {a p v w k : ℕ} {F G : List Piece → Part} {old out : List ℕ} {n : ℕ} {o : Result Item ReadError}
    → Makes s a w k G old out n o → v ≤ k → ((ps : List Piece) (pr : Prior) → run s a pr false p (F ps) ≡ run s a pr false w (G ps)) → Makes s a p v F old out n o
made_from {o = Ok i} j h f =
    record {
      is = record {
        its_unit = j.is.its_unit;
        its_closure = j.is.its_closure;
        same = j.is.same;
        further = omega (arith, j.is.further);
        reached = j.is.reached;
        room = omega (arith, j.is.room, j.is.further);
        answer = λ ps pr. f ps pr ∙ j.is.answer ps pr;
        wrote = j.is.wrote;
        used = j.is.used;
      };
    }
made_from {o = Err g} j h f = record { is = (j.is.0, λ ps pr. f ps pr ∙ j.is.1 ps pr) }

literal_rest : (b : ℕ) → unit_rest (literal b) ≡ []
unfolding unit_rest
literal_rest b = refl

kind_rest : (k : ℕ) → unit_rest (kind k) ≡ []
unfolding unit_rest
kind_rest k = refl

call_rest : (m : Mark) (i : ℕ) → unit_rest (call_of m i) ≡ []
unfolding unit_rest
call_rest m i = refl

class_rest : (neg : Bool) (xs : List Member) → unit_rest (class neg xs) ≡ members_items xs
unfolding unit_rest
class_rest neg xs = refl

-- BEHIND `\`

module _ (n : ℕ) {s : List ℕ} {a p : ℕ} where
  pub escape_fault : {f : ReadError} → Stays s a p (Err f) → MakesOne s a p pattern_escape n (Err f)
  escape_fault x out = record { is = (x.found, λ ps pr. x.answer _ pr) }

  pub escape_made : {b q l : ℕ} {o : Result Item ReadError} → Stays s a p (Ok (b, q)) → l ≡ escaped b → Joins s a (q + 1) (Literal l) n o
      → MakesOne s a p pattern_escape n o
  escape_made {l = l} {o = o} x g j =
      let y = x.found in
      let i : Joins s a (p + 1) (Literal l) n o = rw y.0 at j in
      made_one (literal l) (literal_rest l) i (omega arith) (λ ps pr. escape_on y.1 pr ps ∙ rw g refl)

-- BEHIND `?`

module _ (n : ℕ) {s : List ℕ} {a p : ℕ} where
  pub query_fault : {f : ReadError} → Passes s a p (Err f) → MakesOne s a p at_query n (Err f)
  unfolding skips
  query_fault x out = record { is = (x.found, λ ps pr. x.answer _ pr refl) }

  -- BEHIND `&` OR `#`
  pub mark_fault : (m : ℕ) {f : ReadError} → Passes s a p (Err f) → MakesOne s a p (at_mark m) n (Err f)
  unfolding skips
  mark_fault m x out = record { is = (x.found, λ ps pr. x.answer _ pr refl) }

  module _ {b q : ℕ} (x : Passes s a p (Ok (b, q))) {o : Result Item ReadError} where
    pub query_kind : kind_digit b ≡ true → Joins s a (q + 1) (Kind (b - 48)) n o → MakesOne s a p at_query n o
    unfolding skips
    query_kind f j =
        made_one (kind (b - 48)) (kind_rest _) j (omega (arith, x.found.0)) (λ ps pr. x.answer _ pr refl ∙ query_digit x.found.1 pr ps f)

    pub query_itself : kind_digit b ≡ false → Joins s a q (Literal 63) n o → MakesOne s a p at_query n o
    unfolding skips
    query_itself f j = made_one (literal 63) (literal_rest 63) j x.found.0 (λ ps pr. x.answer _ pr refl ∙ query_literal x.found.1 pr ps f)

    pub mark_called : (m : ℕ) → b ≡ 40 → MakesOne s a (q + 1) (at_call m) n o → MakesOne s a p (at_mark m) n o
    unfolding skips
    mark_called m f j out =
        made_from (j out) (omega (arith, x.found.0)) (λ ps pr. x.answer _ pr refl ∙ mark_call x.found.1 pr ps (mark_at m) f)

    pub mark_itself : (m : ℕ) → mark_byte (mark_at m) ≡ m → (b ≡ 40 → ⊥) → Joins s a q (Literal m) n o → MakesOne s a p (at_mark m) n o
    unfolding skips
    mark_itself m g f j =
        made_one (literal m) (literal_rest m) j x.found.0
        (λ ps pr. x.answer _ pr refl ∙ (mark_literal x.found.1 pr ps (mark_at m) f ∙ rw g refl))

and_left : (x y : Bool) → (x && y) ≡ true → x ≡ true
and_left true y e = refl
and_left false y e = e

pub kind_least : {d : ℕ} → kind_digit d ≡ true → 49 ≤ d
unfolding kind_digit within
kind_least e = leb-true _ _ (and_left _ _ e)

-- BEHIND `&(` OR `#(`

module _ (m n : ℕ) {s : List ℕ} {a p : ℕ} where
  pub letter_fault : {f : ReadError} → Calls s a p (Err f) → MakesOne s a p (at_call m) n (Err f)
  unfolding skips
  letter_fault x out = record { is = (x.found, λ ps pr. x.answer _ pr refl (space_letter (mark_at m) ps)) }

  module _ {i q : ℕ} (x : Calls s a p (Ok (i, q))) where
    to_letter : (ps : List Piece) (pr : Prior) → run s a pr false p (at_call m ps) ≡ run s a pr false q (at_call m ps)
    unfolding skips
    to_letter ps pr = x.answer _ pr refl (space_letter (mark_at m) ps)

    pub letter_wrong : {k : FileFault} → ascii_lower i ≡ false → fault_of k ≡ wrong_call i → MakesOne s a p (at_call m) n (Err (record { fault = k; place = q }))
    letter_wrong f g out =
        let y = x.found in
        record { is = (omega (arith, y.1.stands.there), λ ps pr. to_letter ps pr ∙ rw g (call_wrong y.1 pr ps (mark_at m) f y.2)) }

    module _ (f : ascii_lower i ≡ true) where
      behind_letter : (ps : List Piece) (pr : Prior) → run s a pr false p (at_call m ps) ≡ run s a pr false (q + 1) (pattern_called (mark_at m) ps i)
      behind_letter ps pr = to_letter ps pr ∙ call_letter x.found.1 pr ps (mark_at m) f

      pub called_fault : {g : ReadError} → Calls s a (q + 1) (Err g) → MakesOne s a p (at_call m) n (Err g)
      unfolding skips
      called_fault z out = record { is = (z.found, λ ps pr. behind_letter ps pr ∙ z.answer _ pr refl (space_called (mark_at m) ps i)) }

      module _ {b v : ℕ} (z : Calls s a (q + 1) (Ok (b, v))) where
        to_end : (ps : List Piece) (pr : Prior) → run s a pr false p (at_call m ps) ≡ run s a pr false v (pattern_called (mark_at m) ps i)
        unfolding skips
        to_end ps pr = behind_letter ps pr ∙ z.answer _ pr refl (space_called (mark_at m) ps i)

        pub end_wrong : {k : FileFault} → (b ≡ 41 → ⊥) → fault_of k ≡ wrong_call b → MakesOne s a p (at_call m) n (Err (record { fault = k; place = v }))
        end_wrong g k out =
            let y = z.found in
            record { is = (omega (arith, y.1.stands.there), λ ps pr. to_end ps pr ∙ rw k (called_wrong y.1 pr ps (mark_at m) i g y.2)) }

        pub called_made : (u : CodeUnit) {o : Result Item ReadError} → b ≡ 41 → u ≡ unit_of (call_of (mark_at m) i) → Joins s a (v + 1) u n o
            → MakesOne s a p (at_call m) n o
        called_made u {o} g k j =
            let y = z.found in
            let w : Joins s a (v + 1) (unit_of (call_of (mark_at m) i)) n o = rw (sym k) j in
            made_one (call_of (mark_at m) i) (call_rest (mark_at m) i) w (omega (arith, y.0, x.found.0))
            (λ ps pr. to_end ps pr ∙ called_end y.1 pr ps (mark_at m) i g)

-- BEHIND `[`

module _ (u : CodeUnit) {s : List ℕ} {a p : ℕ} {old out : List ℕ} {n : ℕ} where
  pub class_fault_lem : {f : ReadError} → Classing s a p old out n (Err f) → Makes s a p p (at_class (neg_of u)) old out n (Err f)
  class_fault_lem x = record { is = (x.is.0, λ ps pr. x.is.1 ps (neg_of u) pr) }

  pub class_made : {q j : ℕ} {o : Result Item ReadError} → Classing s a p old out n (Ok (q, j)) → IsClass u → Joins s a q u j o
      → Makes s a p p (at_class (neg_of u)) old out n o
  class_made {q} {j} {o} x f k =
      let y = x.is in
      let w : Joins s a q (unit_of (class (neg_of u) y.xs)) j o = rw (f y.xs) k in
      made (class (neg_of u) y.xs) w y.further y.room (rw (class_rest (neg_of u) y.xs) y.wrote) (rw (class_rest (neg_of u) y.xs) y.used)
      (λ ps pr. y.answer ps (neg_of u) pr)

module _ {s : List ℕ} {a p : ℕ} where
  pub opened_fault : (n : ℕ) (old out : List ℕ) {f : ReadError} → Stays s a p (Err f) → Makes s a p p opened old out n (Err f)
  opened_fault n old out x = record { is = (x.found, λ ps pr. x.answer _ pr) }

  module _ {b q : ℕ} (x : Stays s a p (Ok (b, q))) {n : ℕ} {old out : List ℕ} {o : Result Item ReadError} where
    pub opened_complement : b ≡ 126 → Makes s a (q + 1) (q + 1) (at_class true) old out n o → Makes s a p p opened old out n o
    opened_complement f j =
        let y = x.found in
        made_from j (omega (arith, y.0)) (λ ps pr. opened_not y.1 pr ps f ∙ rw y.0 refl)

    pub opened_members : (b ≡ 126 → ⊥) → Makes s a q q (at_class false) old out n o → Makes s a p p opened old out n o
    opened_members f j =
        let y = x.found in
        made_from j (omega (arith, y.0)) (λ ps pr. opened_plain y.1 pr ps f ∙ rw y.0 refl)

-- AN ELEMENT BY ITS FIRST BYTE

pub mark_known : {b : ℕ} → b ≡ 38 → mark_byte (mark_at b) ≡ b
unfolding mark_byte pick
mark_known e = simp e

pub counter_known : {b : ℕ} → b ≡ 35 → mark_byte (mark_at b) ≡ b
unfolding mark_byte pick
counter_known e = simp e

module _ {s : List ℕ} {a p b : ℕ} (x : Here s a p b) (n : ℕ) (old out : List ℕ) where
  pub element_star : b ≡ 42 → Makes s a p (p + 1) at_fresh old out n (Err (record { fault = NoUnit; place = p }))
  element_star e = record { is = (omega (arith, x.stands.there), λ ps pr. at_star x pr ps e) }

  pub element_break : breaks b ≡ true → (b ≡ 39 → ⊥) → Makes s a p (p + 1) at_fresh old out n (Err (record { fault = Incomplete; place = p }))
  element_break e f = record { is = (omega (arith, x.stands.there), λ ps pr. at_break x pr ps e f) }

  pub element_escape : {o : Result Item ReadError} → b ≡ 92 → Makes s a (p + 1) (p + 1) pattern_escape old out n o → Makes s a p (p + 1) at_fresh old out n o
  element_escape e j = made_from j (omega arith) (λ ps pr. at_escape x pr ps e)

  pub element_class : {o : Result Item ReadError} → b ≡ 91 → Makes s a (p + 1) (p + 1) opened old out n o → Makes s a p (p + 1) at_fresh old out n o
  element_class e j = made_from j (omega arith) (λ ps pr. at_bracket x pr ps e)

  pub element_query : {o : Result Item ReadError} → b ≡ 63 → Makes s a (p + 1) (p + 1) at_query old out n o → Makes s a p (p + 1) at_fresh old out n o
  element_query e j = made_from j (omega arith) (λ ps pr. at_query_lem x pr ps e)

  pub element_stack : {o : Result Item ReadError} → b ≡ 38 → Makes s a (p + 1) (p + 1) (at_mark b) old out n o → Makes s a p (p + 1) at_fresh old out n o
  element_stack e j = made_from j (omega arith) (λ ps pr. at_stack x pr ps e)

  pub element_counter : {o : Result Item ReadError} → b ≡ 35 → Makes s a (p + 1) (p + 1) (at_mark b) old out n o → Makes s a p (p + 1) at_fresh old out n o
  element_counter e j = made_from j (omega arith) (λ ps pr. at_counter x pr ps e)

or_false_l : (x y : Bool) → (x || y) ≡ false → x ≡ false
or_false_l true y e = e
or_false_l false y e = refl

or_false_r : (x y : Bool) → (x || y) ≡ false → y ≡ false
or_false_r true y e = absurd (true≢false e)
or_false_r false y e = e

-- a byte that is no sign, nor `?`, `&` or `#`
pub element_literal : {s : List ℕ} {a p b : ℕ} (x : Here s a p b) (n : ℕ) (out : List ℕ) {o : Result Item ReadError} → Inner b → (b ≡ 94 → ⊥) → (b ≡ 36 → ⊥) → (b ≡ 42 → ⊥)
    → breaks b ≡ false → (b ≡ 92 → ⊥) → (b ≡ 91 → ⊥) → (b ≡ 63 → ⊥) → (b ≡ 38 → ⊥) → (b ≡ 35 → ⊥) → Joins s a (p + 1) (Literal b) n o → Makes s a p (p + 1) at_fresh out out n o
unfolding among signs breaks
element_literal {b = b} x n out i c d e f g h k l m j =
    let f2 = or_false_r (eqb b 39) _ f in
    let f3 = or_false_l (eqb b 59) _ f2 in
    let f4 = or_false_l (eqb b 10) _ (or_false_r (eqb b 59) _ f2) in
    made_one (literal b) (literal_rest b) j (omega arith)
    (λ ps pr. at_literal x pr ps (simp (ne_eqb _ _ i.0, f3, f4, ne_eqb _ _ e, ne_eqb _ _ g, ne_eqb _ _ h, ne_eqb _ _ c, ne_eqb _ _ d, ne_eqb _ _ i.1, ne_eqb _ _ i.2)) k l m) out

-- ITS ITEMS

-- the item of an element before what was written behind it
element_wrote : {old mid out : List ℕ} {n : ℕ} (u : PatternUnit) (c : Closure) → n + 2 ≤ length old → n + 2 ≤ length mid → Wrote old mid (n + 2) (unit_rest u)
    → Wrote mid out n (item_of (element_of (element u c))) → Wrote old out n (piece_items (element u c))
unfolding piece_items
element_wrote u c h k v w = wrote_before h k v (rw (unit_item u c) at w)

element_long : (n : ℕ) {m : ℕ} (u : PatternUnit) (c : Closure) → m ≡ n + 2 + length (unit_rest u) → m ≡ n + length (piece_items (element u c))
unfolding piece_items
element_long n u c e = omega arith

module _ {s : List ℕ} {a p b : ℕ} (x : Here s a p b) (n : ℕ) {old : List ℕ} where
  pub piece_start : {out : List ℕ} → b ≡ 94 → Wrote old out n (piece_items start) → Pieces s a p old out n (Ok (p + 1, n + 2))
  unfolding piece_items
  piece_start e w =
      record {
        is = record {
          piece = start;
          counts = tt;
          further = omega arith;
          reached = reached_behind x.stands;
          room = omega arith;
          answer = λ ps pr. at_start_lem x pr ps e;
          wrote = w;
          used = refl;
        };
      }

  pub piece_end : {out : List ℕ} → b ≡ 36 → Wrote old out n (piece_items end) → Pieces s a p old out n (Ok (p + 1, n + 2))
  unfolding piece_items
  piece_end e w =
      record {
        is = record {
          piece = end;
          counts = tt;
          further = omega arith;
          reached = reached_behind x.stands;
          room = omega arith;
          answer = λ ps pr. at_end_lem x pr ps e;
          wrote = w;
          used = refl;
        };
      }

  module _ {mid : List ℕ} where
    pub piece_fault_lem : (out : List ℕ) {f : ReadError} → Makes s a p (p + 1) at_fresh old mid (n + 2) (Err f) → Pieces s a p old out n (Err f)
    piece_fault_lem out y = record { is = (y.is.0, λ ps pr. y.is.1 ps pr) }

    pub piece_element : {i : Item} {out : List ℕ} → Makes s a p (p + 1) at_fresh old mid (n + 2) (Ok i) → n + 2 ≤ length old → n + 2 ≤ length mid
        → Wrote mid out n (item_of i.element) → Pieces s a p old out n (Ok (i.place, i.end))
    piece_element {i} {out} y h k w =
        let z = y.is in
        let v : Wrote mid out n (item_of (element_of (element z.its_unit z.its_closure))) = rw z.same at w in
        record {
          is = record {
            piece = element z.its_unit z.its_closure;
            counts = tt;
            further = omega (arith, z.further);
            reached = z.reached;
            room = omega (arith, z.room, z.further);
            answer = z.answer;
            wrote = element_wrote z.its_unit z.its_closure h k z.wrote v;
            used = element_long n z.its_unit z.its_closure z.used;
          };
        }

-- what is left in the lent bytes
pub piece_left : {s : List ℕ} {a p : ℕ} {old : List ℕ} (mid : List ℕ) {out : List ℕ} {n : ℕ} (r : Ended) → Pieces s a p old mid n r → out ≡ left_by mid r → length mid ≡ length old
    → PieceRead s a p old out n r
piece_left mid (Ok e) x o l = record { from = rw o x; zeros = tt }
piece_left {s} {a} {p} {old} mid (Err e) x o l = record { from = record { is = x.is }; zeros = zeroed old mid (Err e) o l }
