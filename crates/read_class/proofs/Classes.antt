-- Classes: the byte read, the member taken, and the members up to the `]`.
-- Assumes nothing.
use mathlib.Core.Path.{◌≡◌, refl, ap, sym, ◌∙◌}
use mathlib.Core.Bool.{Bool, true, false, ◌&&◌, and-false, true≢false}
use mathlib.Core.List.{List, [], ◌∷◌, ◌++◌, reverse, append_assoc, append-nil, reverse-cons}
use Prim.Native.Nat.{ℕ, ◌+◌, ◌≤◌}
use native.Mathlib.Omega.{arith}
use lib.ListN.{length, length-append}
use lib.Dec.{eqb}
use borrow.Author.Tests.{ne_eqb}
use Rattle.macros.specs.Refusals.{FileRefusal}
use Rattle.macros.specs.Refusals.FileRefusal.{incomplete, bad_class}
use Rattle.macros.specs.Macro.{Member, Piece, pick, among, is_range}
use Rattle.macros.specs.Macro.Member.{single, range}
use Rattle.macros.specs.Macro.PatternUnit.{class}
use Rattle.macros.specs.Read.{Part, Prior, Last, part_byte_by, skips, new_member, members_byte, breaks, escaped, dashes, dashed, members_at_end, class_end}
use Rattle.macros.specs.ReadSoFar.Joinable.{unit}
use Rattle.macros.specs.ReadSoFar.Last.{free, member, dash}
use Rattle.macros.specs.ReadSoFar.Part.{pattern, members, members_escape}
use Rattle.macros.specs.ReadSoFar.Step.{on, stop}
use Rattle.read_scan.specs.Scan.MacroRead.{refused_at}
use Rattle.form_table.specs.Form.{member_items, members_items}
use Rattle.read_scan.specs.Scan.{run, At, Reached, Stays}
use Rattle.form_items.specs.Items.{Wrote, member_bytes}
use Rattle.read_class.specs.Class.{class_turn, Plain, Meets, Meeting, last_of, last_items, pending, Takes, Membered, Classing, ClassRead}
use Rattle.std.specs.Prelude.{Ok, Err}
use Rattle.read_ends.specs.Ends.{Ended, left_by}
use Rattle.read_scan.specs.Bytes.{refused}
use Rattle.read_scan.specs.declared.ReadError.{ReadError}
use Rattle.read_scan.specs.declared.FileFault.TheVariants.{Incomplete, BadClass}
use Rattle.read_class.specs.declared.Last.{Last as CodeLast}
use Rattle.read_class.specs.declared.Last.TheVariants.{Free, Member as AMember, Dash}
use Rattle.read_scan.proofs.Laws.{at_on, at_stop}
use Rattle.form_items.proofs.Writing.{wrote_none, wrote_more}
use Rattle.read_ends.proofs.Leaving.{zeroed}

-- A BYTE OF A CLASS

-- `]` does not break off
no_bracket : {b : ℕ} → breaks b ≡ true → b ≡ 93 → ⊥
unfolding breaks among
no_bracket f e = true≢false (sym f ∙ ap breaks e)

-- the step of the members at the place p
module _ {s : List ℕ} {a p b : ℕ} (x : At s a p b) (ps : List Piece) (neg : Bool) (l : Last) (xs : List Member) (pr : Prior) where
  pub member_on : (st : Part) → members_byte ps neg l xs b ≡ on st → run s a pr false p (members ps neg l xs) ≡ run s a pr false (p + 1) st
  unfolding part_byte_by skips
  member_on st e = at_on x pr (members ps neg l xs) st (λ q o. refl) refl e

  pub member_stop : (k : FileRefusal) → members_byte ps neg l xs b ≡ stop k → run s a pr false p (members ps neg l xs) ≡ refused_at k p
  unfolding part_byte_by skips
  member_stop k e = at_stop x pr (members ps neg l xs) k refl e

  escaped_on : (st : Part) → new_member ps neg l xs (escaped b) ≡ on st → run s a pr false p (members_escape ps neg l xs) ≡ run s a pr false (p + 1) st
  unfolding part_byte_by skips
  escaped_on st e = at_on x pr (members_escape ps neg l xs) st (λ q o. refl) refl e

  escaped_stop : (k : FileRefusal) → new_member ps neg l xs (escaped b) ≡ stop k → run s a pr false p (members_escape ps neg l xs) ≡ refused_at k p
  unfolding part_byte_by skips
  escaped_stop k e = at_stop x pr (members_escape ps neg l xs) k refl e

  member_escape : b ≡ 92 → run s a pr false p (members ps neg l xs) ≡ run s a pr false (p + 1) (members_escape ps neg l xs)
  unfolding members_byte pick breaks among
  member_escape e = member_on (members_escape ps neg l xs) (rw e refl)

  member_breaks : breaks b ≡ true → run s a pr false p (members ps neg l xs) ≡ refused_at incomplete p
  unfolding members_byte pick
  member_breaks f = member_stop incomplete (simp (ne_eqb _ _ (no_bracket f), f))

pub meets_fault : {s : List ℕ} {a p : ℕ} {f : ReadError} → Stays s a p (Err f) → Meeting s a p (Err f)
meets_fault x = (x.found, λ ps neg l xs pr. x.answer (members ps neg l xs) pr)

module _ {s : List ℕ} {a p b q : ℕ} (x : Stays s a p (Ok (b, q))) where
  byte_at : At s a p b
  byte_at = x.found.1

  pub meets_break : breaks b ≡ true → Meeting s a p (Err (record { fault = Incomplete; place = q }))
  meets_break f = rw x.found.0 (omega (arith, byte_at.there), λ ps neg l xs pr. member_breaks byte_at ps neg l xs pr f)

  pub meets_raw : breaks b ≡ false → (b ≡ 92 → ⊥) → Meeting s a p (Ok (b, true, q))
  meets_raw f g =
      rw x.found.0 (record {
        further = omega arith;
        behind = byte_at.behind;
        there = byte_at.there;
        counted = byte_at.counted;
        plain = λ _. (f, g);
        taken = λ ps neg l xs pr st i. member_on byte_at ps neg l xs pr st i;
        refused = λ ps neg l xs pr k i. member_stop byte_at ps neg l xs pr k i;
      })

  -- behind `\`
  module _ (f : b ≡ 92) where
    pub meets_escape_fault : {g : ReadError} → Stays s a (q + 1) (Err g) → Meeting s a p (Err g)
    meets_escape_fault {g} z =
        let w : Stays s a (p + 1) (Err g) = rw x.found.0 at z in
        (w.found, λ ps neg l xs pr. member_escape byte_at ps neg l xs pr f ∙ w.answer (members_escape ps neg l xs) pr)

    pub meets_escaped : {d c v : ℕ} → Stays s a (q + 1) (Ok (d, v)) → c ≡ escaped d → Meeting s a p (Ok (c, false, v))
    meets_escaped {d} {c} {v} z j =
        let w : Stays s a (p + 1) (Ok (d, v)) = rw x.found.0 at z in
        let y = w.found.1 in
        rw w.found.0 (record {
          further = omega arith;
          behind = y.behind;
          there = y.there;
          counted = y.counted;
          plain = λ k. absurd (true≢false (sym k));
          taken = λ ps neg l xs pr st k. member_escape byte_at ps neg l xs pr f ∙ escaped_on y ps neg l xs pr st (rw j at k);
          refused = λ ps neg l xs pr k m. member_escape byte_at ps neg l xs pr f ∙ escaped_stop y ps neg l xs pr k (rw j at m);
        })

-- A MEMBER TAKEN

-- a byte that neither ends the class nor makes a range's dash is a new member
turn_new : (raw : Bool) (ps : List Piece) (neg : Bool) (l : Last) (xs : List Member) (c : ℕ) → (raw ≡ true → Plain c × (c ≡ 93 → ⊥))
    → (raw ≡ true → (eqb c 45 && dashes l) ≡ false) → class_turn raw ps neg l xs c ≡ new_member ps neg l xs c
unfolding members_byte pick
turn_new true ps neg l xs c f g = simp (ne_eqb _ _ (f refl).1, (f refl).0.0, ne_eqb _ _ (f refl).0.1, g refl)
turn_new false ps neg l xs c f g = refl

module _ {c : ℕ} {raw : Bool} (f : raw ≡ true → Plain c × (c ≡ 93 → ⊥)) (old : List ℕ) (n : ℕ) where
  pub takes_first : Takes Free c raw (AMember c) old old n n
  unfolding new_member member_bytes dashes
  takes_first =
      record {
        complete = [];
        turn = λ ps neg xs. turn_new raw ps neg free xs c f (λ _. and-false (eqb c 45));
        wrote = wrote_none old n;
        used = omega arith;
        room = omega arith;
      }

  pub takes_dash : (m : ℕ) → raw ≡ true → c ≡ 45 → Takes (AMember m) c raw (Dash m) old old n n
  unfolding members_byte pick breaks among dashes dashed member_bytes
  takes_dash m g e =
      record {
        complete = [];
        turn = λ ps neg xs. rw (g, e) refl;
        wrote = wrote_none old n;
        used = omega arith;
        room = omega arith;
      }

  pub takes_single : (m : ℕ) (out : List ℕ) → (raw ≡ true → c ≡ 45 → ⊥) → Wrote old out n (32 ∷ m ∷ []) → Takes (AMember m) c raw (AMember c) old out n (n + 2)
  unfolding new_member member_bytes member_items dashes
  takes_single m out g w =
      record {
        complete = single m ∷ [];
        turn = λ ps neg xs. turn_new raw ps neg (member m) xs c f (λ k. simp (ne_eqb _ _ (g k)));
        wrote = w;
        used = refl;
        room = omega arith;
      }

  pub takes_range : (m : ℕ) (mid out : List ℕ) → is_range m c ≡ true → Wrote old mid n (33 ∷ m ∷ []) → Wrote mid out (n + 2) (34 ∷ c ∷ [])
      → Takes (Dash m) c raw Free old out n (n + 4)
  unfolding new_member pick member_bytes member_items dashes
  takes_range m mid out g v w =
      record {
        complete = range m c ∷ [];
        turn = λ ps neg xs. turn_new raw ps neg (dash m) xs c f (λ _. and-false (eqb c 45)) ∙ rw g refl;
        wrote = wrote_more {l = 33 ∷ m ∷ []} v w;
        used = refl;
        room = omega arith;
      }

  pub takes_bad : (m : ℕ) → is_range m c ≡ false → (ps : List Piece) (neg : Bool) (xs : List Member) → class_turn raw ps neg (dash m) xs c ≡ stop bad_class
  unfolding new_member pick dashes
  takes_bad m g ps neg xs = turn_new raw ps neg (dash m) xs c f (λ _. and-false (eqb c 45)) ∙ rw g refl

-- THE MEMBERS

-- the items of members, oldest first, without the end
abbrev bodies : List Member → List ℕ
bodies [] = []
bodies (m ∷ ms) = member_items m ++ bodies ms

bodies_append : (xs ys : List Member) → bodies (xs ++ ys) ≡ bodies xs ++ bodies ys
bodies_append [] ys = refl
bodies_append (x ∷ xs) ys = rw (bodies_append xs ys) (sym (append_assoc (member_items x) (bodies xs) (bodies ys)))

bodies_reverse : (xs : List Member) → bodies (reverse xs) ≡ member_bytes xs
unfolding member_bytes
bodies_reverse [] = refl
bodies_reverse (x ∷ xs) =
    rw (reverse-cons x xs) (bodies_append (reverse xs) (x ∷ []) ∙ rw (bodies_reverse xs) (ap (λ (z : List ℕ). member_bytes xs ++ z) (append-nil (member_items x))))

bodies_end : (xs : List Member) → members_items xs ≡ bodies xs ++ (35 ∷ 0 ∷ [])
unfolding members_items
bodies_end [] = refl
bodies_end (x ∷ xs) = rw (bodies_end xs) (sym (append_assoc (member_items x) (bodies xs) (35 ∷ 0 ∷ [])))

-- the form's items of the members that the machine keeps
members_items_lem : (xs : List Member) → members_items (reverse xs) ≡ member_bytes xs ++ (35 ∷ 0 ∷ [])
members_items_lem xs = bodies_end (reverse xs) ∙ rw (bodies_reverse xs) refl

kept_items : (l : CodeLast) (xs : List Member) → member_bytes (members_at_end (last_of l) xs) ≡ member_bytes xs ++ last_items l
unfolding members_at_end member_bytes member_items
kept_items Free xs = sym (append-nil (member_bytes xs))
kept_items (AMember c) xs = refl
kept_items (Dash c) xs = append_assoc (member_bytes xs) (32 ∷ c ∷ []) (32 ∷ 45 ∷ [])

pending_items : (l : CodeLast) → length (last_items l) ≡ pending l
pending_items Free = refl
pending_items (AMember c) = refl
pending_items (Dash c) = refl

two_more : (x : Member) → 2 ≤ length (member_items x)
unfolding member_items
two_more (single c) = omega arith
two_more (range a z) = omega arith

class_empty : (ps : List Piece) (neg : Bool) (ys : List Member) → length (member_bytes ys) ≡ 0 → class_end ps neg ys ≡ stop bad_class
unfolding class_end member_bytes
class_empty ps neg [] e = refl
class_empty ps neg (y ∷ ys) e = absurd (omega (arith, two_more y, simp length-append at e))

class_full : (ps : List Piece) (neg : Bool) (ys : List Member) → (length (member_bytes ys) ≡ 0 → ⊥) → class_end ps neg ys ≡ on (pattern (unit (class neg (reverse ys))) ps)
unfolding class_end member_bytes
class_full ps neg [] e = absurd (e refl)
class_full ps neg (y ∷ ys) e = refl

bytes_append : (xs ys : List Member) → member_bytes (xs ++ ys) ≡ member_bytes ys ++ member_bytes xs
unfolding member_bytes
bytes_append [] ys = sym (append-nil (member_bytes ys))
bytes_append (x ∷ xs) ys = rw (bytes_append xs ys) (append_assoc (member_bytes ys) (member_bytes xs) (member_items x))

pub membered_none : (s : List ℕ) (a p : ℕ) (o : List ℕ) (i : ℕ) → Membered s a p p o o i i Free
unfolding member_bytes
membered_none s a p o i = record { xs = []; answer = λ ps neg pr. refl; wrote = wrote_none o i; used = omega arith; room = omega arith }

module _ {s : List ℕ} {a p v : ℕ} {old y : List ℕ} {i j : ℕ} {l : CodeLast} (g : Membered s a p v old y i j l) (h : p ≤ v) where
  pub classing_fault : (out : List ℕ) {f : ReadError} → Meeting s a v (Err f) → Classing s a p old out i (Err f)
  classing_fault out w = record { is = (w.0, λ ps neg pr. g.answer ps neg pr ∙ w.1 ps neg (last_of l) g.xs pr) }

  module _ {c : ℕ} {raw : Bool} {q : ℕ} (met : Meets s a v c raw q) where
    pub met_reached : Reached s a (q + 1)
    met_reached = (omega (arith, met.behind), omega (arith, met.there), omega (arith, met.counted))

    pub classing_bad : (out : List ℕ) → ((ps : List Piece) (neg : Bool) (xs : List Member) → class_turn raw ps neg (last_of l) xs c ≡ stop bad_class)
        → Classing s a p old out i (refused BadClass q)
    classing_bad out k =
        record { is = (omega (arith, met.there), λ ps neg pr. g.answer ps neg pr ∙ met.refused ps neg (last_of l) g.xs pr bad_class (k ps neg g.xs)) }

    pub membered_more : {out : List ℕ} {k : CodeLast} {m : ℕ} → Takes l c raw k y out j m → Membered s a p (q + 1) old out i m k
    membered_more {out} {k} {m} w =
        record {
          xs = w.complete ++ g.xs;
          answer = λ ps neg pr. g.answer ps neg pr ∙ met.taken ps neg (last_of l) g.xs pr _ (w.turn ps neg g.xs);
          wrote = rw (bytes_append w.complete g.xs) (wrote_more g.wrote (rw g.used at w.wrote));
          used = rw (bytes_append w.complete g.xs, length-append) (omega (arith, g.used, w.used));
          room = omega (arith, g.room, w.room, met.further);
        }

    -- the `]`
    module _ (t : raw ≡ true) (f : c ≡ 93) {z : List ℕ} {n : ℕ} (w : Wrote y z j (last_items l)) (u : n ≡ j + pending l) where
      closes : (ps : List Piece) (neg : Bool) → class_turn raw ps neg (last_of l) g.xs c ≡ class_end ps neg (members_at_end (last_of l) g.xs)
      unfolding members_byte pick
      closes ps neg = rw (t, f) refl

      wrote_all : Wrote old z i (member_bytes (members_at_end (last_of l) g.xs))
      wrote_all = rw (kept_items l g.xs) (wrote_more g.wrote (rw g.used at w))

      counted : n ≡ i + length (member_bytes (members_at_end (last_of l) g.xs))
      counted = rw (kept_items l g.xs, length-append, pending_items l) (omega (arith, g.used))

      pub classing_empty : (out : List ℕ) → n ≡ i → Classing s a p old out i (refused BadClass q)
      classing_empty out k =
          record {
            is = (
              omega (arith, met.there),
              λ ps neg pr. g.answer ps neg pr
                  ∙ met.refused ps neg (last_of l) g.xs pr bad_class (closes ps neg ∙ class_empty ps neg _ (omega (arith, counted))),
            );
          }

      pub classing_end : {out : List ℕ} → (n ≡ i → ⊥) → Wrote z out n (35 ∷ 0 ∷ []) → Classing s a p old out i (Ok (q + 1, n + 2))
      classing_end {out} k m =
          record {
            is = record {
              xs = reverse (members_at_end (last_of l) g.xs);
              further = omega (arith, met.further);
              reached = met_reached;
              room = omega (arith, g.room, met.further);
              answer = λ ps neg pr. g.answer ps neg pr
                  ∙ met.taken ps neg (last_of l) g.xs pr _ (closes ps neg ∙ class_full ps neg _ (λ b. k (omega (arith, counted))));
              wrote = rw (members_items_lem (members_at_end (last_of l) g.xs)) (wrote_more wrote_all (rw counted at m));
              used = rw (members_items_lem (members_at_end (last_of l) g.xs), length-append) (omega (arith, counted));
            };
          }

-- what is left in the lent bytes
pub class_left : {s : List ℕ} {a p : ℕ} {old : List ℕ} (mid : List ℕ) {out : List ℕ} {i : ℕ} (r : Ended) → Classing s a p old mid i r → out ≡ left_by mid r → length mid ≡ length old
    → ClassRead s a p old out i r
class_left mid (Ok e) x o l = record { from = rw o x; zeros = tt }
class_left {s} {a} {p} {old} mid (Err e) x o l = record { from = record { is = x.is }; zeros = zeroed old mid (Err e) o l }
