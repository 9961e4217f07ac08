-- Calls behind `&(` and `#(`.
-- Assumes nothing.
use mathlib.Core.Path.{◌≡◌, refl, sym, ◌∙◌}
use mathlib.Core.Bool.{Bool, true, false, ◌&&◌, and-false}
use mathlib.Core.List.{List, [], ◌∷◌}
use mathlib.Core.Option.{Option, none, some}
use Prim.Native.Nat.{ℕ, ◌+◌, ◌≤◌, ◌<◌}
use native.Mathlib.Omega.{arith}
use borrow.Author.Tests.{ne_eqb}
use Rattle.macros.specs.Macro.{Mark, Move, pick, within, digit}
use Rattle.macros.specs.Macro.Mark.{stack, counter}
use Rattle.macros.specs.Macro.Call.{insert, set_to, set_increment, divide}
use Rattle.macros.specs.Formed.{number_fits, limit}
use Rattle.macros.specs.Read.{Site, call_byte, may_insert, may_store_tag, is_sign, is_still}
use Rattle.macros.specs.ReadSoFar.Part.{calling, call_text}
use Rattle.macros.specs.ReadSoFar.Phase.{begun, signed, named, equals, increment, divisor, tagged}
use Rattle.macros.specs.ReadCalls.Turn.{into, text_of, closed, wrong}
use Rattle.form_table.specs.Form.{call_items, move_code}
use Rattle.read_scan.specs.Scan.{Calls, fault_of, wrong_call}
use Rattle.read_number.specs.Number.{Counts, Kept}
use Rattle.form_items.specs.Items.{Wrote}
use Rattle.read_call.specs.Call.{Names, Letter, Naming, CalledFrom, NamedFrom, Sets, SetFrom, TagFrom, Asks, Starts, signs_in, mark_of, Named, no_name}
use Rattle.read_text.specs.Text.{Comes, StoreFrom}
use Rattle.std.specs.Prelude.{Result, Ok, Option as Maybe, Some, None}
use Rattle.read_scan.specs.Bytes.{Next, refused}
use Rattle.read_scan.specs.declared.ReadError.{ReadError}
use Rattle.read_ends.specs.Ends.{Ended}
use Rattle.read_scan.specs.declared.FileFault.{FileFault}
use Rattle.read_number.specs.declared.Number.{Number}
use Rattle.read_call.specs.declared.Tail.{Tail}
use Rattle.read_call.specs.declared.Tail.TheVariants.{Text, Set, Insert}
use Rattle.read_scan.proofs.Laws.{here_on}
use Rattle.read_number.proofs.Numbers.{tag_state, eats_tagged, eats_equals, eats_increment, eats_divisor}
use Rattle.read_text.proofs.Turns.{turn_text, call_next, here_into}
use Rattle.read_text.proofs.Closing.{ends_from, ends_none, ends_wrong, ends_closed}
use Rattle.read_call.proofs.Naming.{code_none, code_some}
use Rattle.read_call.proofs.Ending.{number_read, no_number, some_same, some_none, joined, names_stack, names_counter}

-- BYTES BEHIND A LETTER

pub stack_colon : (si : Site) (i c : ℕ) (v : Move) → c ≡ 58 → call_byte si (named stack i v) c ≡ text_of i v
unfolding call_byte pick
stack_colon si i c v e = rw e refl

pub stack_equal : (si : Site) (i c m : ℕ) (v : Move) → c ≡ 61 → m ≡ move_code v → m ≤ 0 → call_byte si (named stack i v) c ≡ into (equals stack i none)
unfolding call_byte pick is_still
stack_equal si i c m v e f g = rw (e, code_none v (omega (arith, f))) refl

pub stack_unequal : (si : Site) (i c m : ℕ) (v : Move) → c ≡ 61 → m ≡ move_code v → 0 < m → call_byte si (named stack i v) c ≡ wrong
unfolding call_byte pick is_sign
stack_unequal si i c m v e f g = rw (e, code_some v (omega (arith, f))) refl

pub stack_uninserted : (si : Site) (i c : ℕ) (v : Move) → c ≡ 41 → may_insert si ≡ false → call_byte si (named stack i v) c ≡ wrong
unfolding call_byte pick is_sign
stack_uninserted si i c v e f = rw (e, f) refl

pub stack_close : (si : Site) (i c : ℕ) (v : Move) → c ≡ 41 → may_insert si ≡ true → call_byte si (named stack i v) c ≡ closed (insert stack i v)
unfolding call_byte pick
stack_close si i c v e f = rw (e, f) refl

pub stack_strange : (si : Site) (i c : ℕ) (v : Move) → (c ≡ 58 → ⊥) → (c ≡ 61 → ⊥) → (c ≡ 41 → ⊥) → (is_still v ≡ true → (is_sign c && true) ≡ false)
    → call_byte si (named stack i v) c ≡ wrong
unfolding call_byte pick
stack_strange si i c v e f g h = simp (ne_eqb _ _ e, ne_eqb _ _ f, ne_eqb _ _ g, joined (is_sign c) (is_still v) h)

pub counter_comma : (si : Site) (i c m : ℕ) (v : Move) → c ≡ 44 → m ≡ move_code v → m ≤ 0 → call_byte si (named counter i v) c ≡ into (increment i none)
unfolding call_byte pick is_still
counter_comma si i c m v e f g = rw (e, code_none v (omega (arith, f))) refl

pub counter_uncomma : (si : Site) (i c m : ℕ) (v : Move) → c ≡ 44 → m ≡ move_code v → 0 < m → call_byte si (named counter i v) c ≡ wrong
unfolding call_byte pick is_sign
counter_uncomma si i c m v e f g = rw (e, code_some v (omega (arith, f))) refl

pub counter_equal : (si : Site) (i c m : ℕ) (v : Move) → c ≡ 61 → m ≡ move_code v → m ≤ 0 → call_byte si (named counter i v) c ≡ into (equals counter i none)
unfolding call_byte pick is_still
counter_equal si i c m v e f g = rw (e, code_none v (omega (arith, f))) refl

pub counter_unequal : (si : Site) (i c m : ℕ) (v : Move) → c ≡ 61 → m ≡ move_code v → 0 < m → call_byte si (named counter i v) c ≡ wrong
unfolding call_byte pick is_sign
counter_unequal si i c m v e f g = rw (e, code_some v (omega (arith, f))) refl

pub counter_colon : (si : Site) (i c m : ℕ) (v : Move) → c ≡ 58 → m ≡ move_code v → m ≤ 0 → may_insert si ≡ true → call_byte si (named counter i v) c ≡ into (divisor i none)
unfolding call_byte pick is_still
counter_colon si i c m v e f g h = rw (e, code_none v (omega (arith, f)), h) refl

pub counter_uncolon : (si : Site) (i c m : ℕ) (v : Move) → c ≡ 58 → m ≡ move_code v → 0 < m → call_byte si (named counter i v) c ≡ wrong
unfolding call_byte pick is_sign
counter_uncolon si i c m v e f g = rw (e, code_some v (omega (arith, f))) refl

pub counter_undivided : (si : Site) (i c : ℕ) (v : Move) → c ≡ 58 → may_insert si ≡ false → call_byte si (named counter i v) c ≡ wrong
unfolding call_byte pick is_sign
counter_undivided si i c v e h = rw (e, h, and-false (is_still v)) refl

pub counter_uninserted : (si : Site) (i c : ℕ) (v : Move) → c ≡ 41 → may_insert si ≡ false → call_byte si (named counter i v) c ≡ wrong
unfolding call_byte pick is_sign
counter_uninserted si i c v e f = rw (e, f) refl

pub counter_close : (si : Site) (i c : ℕ) (v : Move) → c ≡ 41 → may_insert si ≡ true → call_byte si (named counter i v) c ≡ closed (insert counter i v)
unfolding call_byte pick
counter_close si i c v e f = rw (e, f) refl

joined_late : (x y w : Bool) → (y ≡ true → (x && w) ≡ false) → (x && (y && w)) ≡ false
joined_late x true w h = h refl
joined_late x false w h = and-false x

pub counter_strange : (si : Site) (i c : ℕ) (v : Move) → (c ≡ 44 → ⊥) → (c ≡ 61 → ⊥) → (c ≡ 58 → ⊥) → (c ≡ 41 → ⊥) → (is_still v ≡ true → (is_sign c && may_insert si) ≡ false)
    → call_byte si (named counter i v) c ≡ wrong
unfolding call_byte pick
counter_strange si i c v e f k g h = simp (ne_eqb _ _ e, ne_eqb _ _ f, ne_eqb _ _ k, ne_eqb _ _ g, joined_late (is_sign c) (is_still v) (may_insert si) h)

-- NUMBERS

sets_others : (si : Site) (m : Mark) (i : ℕ) (o : Option ℕ) (b : ℕ) → digit b ≡ false → (b ≡ 41 → ⊥) → call_byte si (equals m i o) b ≡ wrong
unfolding call_byte pick
sets_others si m i o b h e = simp (h, ne_eqb _ _ e)

increment_others : (si : Site) (i : ℕ) (o : Option ℕ) (b : ℕ) → digit b ≡ false → (b ≡ 41 → ⊥) → call_byte si (increment i o) b ≡ wrong
unfolding call_byte pick
increment_others si i o b h e = simp (h, ne_eqb _ _ e)

divisor_others : (si : Site) (i : ℕ) (o : Option ℕ) (b : ℕ) → digit b ≡ false → (b ≡ 41 → ⊥) → call_byte si (divisor i o) b ≡ wrong
unfolding call_byte pick
divisor_others si i o b h e = simp (h, ne_eqb _ _ e)

pub sets_stack : (i : ℕ) → Sets 80 i 20 (equals stack i) (set_to stack i)
unfolding call_byte pick digit within number_fits limit call_items
sets_stack i =
    record {
      eats = λ pl. eats_equals pl stack i;
      others = λ si o b h e. sets_others si stack i o b h e;
      closes = λ si o. refl;
      fits = λ k v. refl;
      items = λ v. refl;
    }

pub sets_counter : (i : ℕ) → Sets 88 i 999999999 (equals counter i) (set_to counter i)
unfolding call_byte pick digit within number_fits limit call_items
sets_counter i =
    record {
      eats = λ pl. eats_equals pl counter i;
      others = λ si o b h e. sets_others si counter i o b h e;
      closes = λ si o. refl;
      fits = λ k v. refl;
      items = λ v. refl;
    }

pub sets_increment_lem : (i : ℕ) → Sets 96 i 999999999 (increment i) (set_increment i)
unfolding call_byte pick digit within number_fits limit call_items
sets_increment_lem i =
    record {
      eats = λ pl. eats_increment pl i;
      others = λ si o b h e. increment_others si i o b h e;
      closes = λ si o. refl;
      fits = λ k v. refl;
      items = λ v. refl;
    }

pub sets_divisor : (i : ℕ) → Sets 104 i 999999999 (divisor i) (divide i)
unfolding call_byte pick digit within number_fits limit call_items
sets_divisor i =
    record {
      eats = λ pl. eats_divisor pl i;
      others = λ si o b h e. divisor_others si i o b h e;
      closes = λ si o. refl;
      fits = λ k v. refl;
      items = λ v. refl;
    }

-- TAGS

pub number_at_lem : (s : List ℕ) (a p : ℕ) {r : Result Number ReadError} {x : Maybe ℕ} {b q : ℕ} → Counts s a p true r → r ≡ number_read x b q → Counts s a p true (number_read x b q)
number_at_lem s a p y e = rw e at y

module _ (s : List ℕ) (a p : ℕ) (old out : List ℕ) (n : ℕ) (si : Site) (k : ℕ) (ok : may_store_tag si ≡ true) where
  pub stack_none : {r : Result Number ReadError} {f : FileFault} {q : ℕ} → Counts s a p true r → r ≡ no_number f q → CalledFrom s a p old out n stack si k (refused f q)
  stack_none {r} {f} {q} y e =
      let z : Counts s a p true (no_number f q) = rw e at y in
      (z.0, λ pl u t pr. z.1 (tag_state pl) (eats_tagged pl (rw u ok)) pr)

  pub stack_tag : {x : Maybe ℕ} {v b q : ℕ} → Counts s a p true (number_read x b q) → x ≡ Some v → (w : Ended) → TagFrom s a q old out n v k w → CalledFrom s a p old out n stack si k w
  stack_tag {x} {v} {b} {q} y j w t = by y.4.value y.4.kept (λ pl u g pr. y.4.answer (tag_state pl) (eats_tagged pl (rw u ok)) pr)
    where
      by : (o : Option ℕ) → Kept o x → Comes s a si k (λ pl. calling pl (begun stack)) p (λ pl. tag_state pl o) q → CalledFrom s a p old out n stack si k w
      by none h g = absurd (some_none (sym j ∙ h))
      by (some u) h g =
          ends_from s a p q old out n 0 0 si k (λ pl. calling pl (begun stack)) (λ pl. calling pl (tagged u)) w y.0 (omega arith) g (t u (some_same (sym j ∙ h)) si)

  -- behind spaces and skips alone
  pub stack_begun : {x : Maybe ℕ} {b q : ℕ} → Counts s a p true (number_read x b q) → x ≡ None → (w : Ended) → NamedFrom s a q old out n stack si w → CalledFrom s a p old out n stack si k w
  stack_begun {x} {b} {q} y j w t = by y.4.value y.4.kept (λ pl u g pr. y.4.answer (tag_state pl) (eats_tagged pl (rw u ok)) pr)
    where
      by : (o : Option ℕ) → Kept o x → Comes s a si k (λ pl. calling pl (begun stack)) p (λ pl. tag_state pl o) q → CalledFrom s a p old out n stack si k w
      by none h g = ends_from s a p q old out n 0 0 si k (λ pl. calling pl (begun stack)) (λ pl. calling pl (begun stack)) w y.0 (omega arith) g (t k)
      by (some u) h g = absurd (some_none (sym h ∙ j))

-- A LETTER AND WHAT FOLLOWS

pub letter_at : (s : List ℕ) (a q b : ℕ) {x y : Bool} {i m c u : ℕ} → x ≡ y → Letter s a q b x i m c u → Letter s a q b y i m c u
letter_at s a q b e t = rw e at t

pub signed_at : (s : List ℕ) (a p b : ℕ) {x y : Bool} → x ≡ y → (r : Named) → Naming s a p b x r → Naming s a p b y r
signed_at s a p b e r z = rw e at z

insert_fits : (k : ℕ) (mk : Mark) (i : ℕ) (v : Move) → number_fits k (insert mk i v) ≡ true
unfolding number_fits
insert_fits k mk i v = refl

pub insert_stack : (i : ℕ) (v : Move) → call_items (insert stack i v) ≡ (48 + move_code v) ∷ i ∷ []
unfolding call_items
insert_stack i v = refl

pub insert_counter : (i : ℕ) (v : Move) → call_items (insert counter i v) ≡ (56 + move_code v) ∷ i ∷ []
unfolding call_items
insert_counter i v = refl

pub names_of : (c : Bool) (si : Site) (b : ℕ) → Starts c si b → Names si (signs_in c si) b (begun (mark_of c)) (signed (mark_of c)) (named (mark_of c))
names_of true si b h = names_counter si b
names_of false si b h = names_stack si b (h refl)

module _ (s : List ℕ) (a p : ℕ) (old out : List ℕ) (n : ℕ) (si : Site) (mk : Mark) (sg : Bool) {b : ℕ} (nm : Names si sg b (begun mk) (signed mk) (named mk)) where
  pub mark_noname : {r : Named} {f : FileFault} {u : ℕ} → Naming s a p b sg r → r ≡ no_name f u → NamedFrom s a p old out n mk si (refused f u)
  mark_noname {r} {f} {u} z e =
      let t : Naming s a p b sg (no_name f u) = rw e at z in
      (λ k. (t.0, λ pl x y pr. t.1 pl (begun mk) (signed mk) (named mk) (rw x nm) pr))

  mark_named : {i m c u : ℕ} (t : Letter s a p b sg i m c u) (k : ℕ) → Comes s a si k (λ pl. calling pl (begun mk)) p (λ pl. calling pl (named mk i t.move)) u
  mark_named t k pl x y pr = t.answer pl (begun mk) (signed mk) (named mk) (rw x nm) pr

  module _ {i m c u : ℕ} (t : Letter s a p b sg i m c u) {r : Maybe Tail} (x : Asks mk si sg c m r) where
    pub mark_wrong : r ≡ None → (f : FileFault) → fault_of f ≡ wrong_call c → NamedFrom s a p old out n mk si (refused f u)
    mark_wrong e f j k =
        let h : Asks mk si sg c m None = rw e at x in
        ends_wrong s a p old out n 0 si k (λ pl. calling pl (begun mk)) (named mk i t.move) (mark_named t k) t.here f t.solid (h i t.move t.code t.last) j

    pub mark_set : {code top : ℕ} → r ≡ Some (Set code top) → (w : Ended) → SetFrom s a (u + 1) old out n code i top w → NamedFrom s a p old out n mk si w
    mark_set {code} {top} e w y k =
        let h : Asks mk si sg c m (Some (Set code top)) = rw e at x in
        let g = h.1 i t.move t.code in
        ends_from s a p (u + 1) old out n 0 4 si k (λ pl. calling pl (begun mk)) (λ pl. calling pl (g.0 none)) w
        (omega (arith, t.further)) (omega (arith, t.further))
        (λ pl z v pr. mark_named t k pl z v pr ∙ here_into pl (named mk i t.move) pr t.here (g.0 none) (rw z g.3)) (y g.0 g.1 g.2 si k)

    pub mark_text : r ≡ Some Text → (w : Ended) → StoreFrom s a (u + 1) old out n i m w → NamedFrom s a p old out n mk si w
    mark_text e w y k =
        let h : Asks mk si sg c m (Some Text) = rw e at x in
        ends_from s a p (u + 1) old out n 0 4 si k (λ pl. calling pl (begun mk)) (λ pl. call_text pl i t.move []) w
        (omega (arith, t.further)) (omega (arith, t.further))
        (λ pl z v pr. mark_named t k pl z v pr ∙ here_on t.here pr _ _ (λ q o. refl) (turn_text pl (named mk i t.move) i t.move c (rw z (h i t.move t.code))))
        (y t.move t.code si k)

    pub mark_insert : {code : ℕ} → r ≡ Some (Insert code) → Wrote old out n (code ∷ i ∷ []) → NamedFrom s a p old out n mk si (Ok (u + 1, n + 2))
    mark_insert {code} e w k =
        let h : Asks mk si sg c m (Some (Insert code)) = rw e at x in
        let g = h i t.move t.code in
        ends_closed s a p old out n 0 si k (λ pl. calling pl (begun mk)) (named mk i t.move) (mark_named t k) t.here (insert mk i t.move)
        g.0 (insert_fits k mk i t.move) (rw g.1 w) (rw g.1 refl) (omega (arith, t.further)) (omega (arith, t.further))

-- A CALL THAT BEGINS WITH ITS LETTER

module _ (s : List ℕ) (a p : ℕ) (old out : List ℕ) (n : ℕ) (mk : Mark) (si : Site) {r : Next} (y : Calls s a p r) where
  pub letter_none : {f : FileFault} {q : ℕ} → r ≡ refused f q → NamedFrom s a p old out n mk si (refused f q)
  letter_none e k = ends_none s a p old out n 0 si k (λ pl. calling pl (begun mk)) (begun mk) (λ pl u t pr. refl) (rw e at y)

  module _ {b q : ℕ} (e : r ≡ Ok (b, q)) where
    pub letter_byte : Calls s a p (Ok (b, q))
    letter_byte = rw e at y

    pub letter_begun : (w : Ended) → NamedFrom s a q old out n mk si w → NamedFrom s a p old out n mk si w
    letter_begun w t k =
        let f = letter_byte.found in
        ends_from s a p q old out n 0 0 si k (λ pl. calling pl (begun mk)) (λ pl. calling pl (begun mk)) w f.0 (omega arith)
        (λ pl u g pr. call_next pl (begun mk) pr letter_byte) (t k)
