-- What a call changes, by the numbers that are read and the state that a store makes.
use Prim.Native.Nat.{ℕ, ◌+◌, ◌-◌, ◌%◌, ◌≤◌, ◌<◌, max}
use mathlib.Core.Path.{◌≡◌, refl, sym, ap, ◌∙◌, subst}
use mathlib.Core.Bool.{Bool, true, false}
use mathlib.Core.List.{List}
use native.Mathlib.Omega.{arith}
use borrow.Author.Tests.{le-leb, lt-leb, lt-ltb, le-ltb, ltb-true, ltb-false, eq-eqb, ne_eqb, eqb-false}
use lib.Dec.{eqb, ltb}
use lib.ListN.{length}
use Rattle.macros.specs.Bounds.{most_entries, most_entry_bytes, most_counter}
use Rattle.macros.specs.Macro.{Mark, pick}
use Rattle.macros.specs.Macro.Mark.{stack, counter}
use Rattle.macros.specs.Macro.Sign.{plus, minus}
use Rattle.macros.specs.Formed.{Between}
use Rattle.lines.specs.State.{stack_of, counter_of}
use Rattle.lines.specs.Replacing.{Work, Done, unless, with_stack, with_counter, with_pointer, with_value, with_increment, with_entry, fallen, moves, stores}
use Rattle.lines.specs.Replacing.Done.{good}
use Rattle.lines.proofs.KeepState.{stack_in_range, counter_in_range}
use Rattle.form_state.specs.Access.{Holds, IsState, OfState, OfWork}
use Rattle.pass_steps.specs.Codes.{mark_in}
use Rattle.pass_call.specs.Moving.{moved_in, sign_in, move_in, moves_in, sets_in}
use Rattle.pass_steps.specs.Moments.{Kept, Changes}
use Rattle.refusals.specs.declared.WorkFault.TheVariants.{TagTooLong, PointerTooHigh, CounterTooHigh}
use Rattle.refusals.specs.declared.WorkError.{WorkError}
use Rattle.std.specs.Prelude.{Result, Ok, Err}
use Rattle.pass_steps.proofs.Codes.{within_in, within_out}
use Rattle.pass_steps.proofs.Stepping.{changes_by, changes_none, changes_refused, changes_made}

-- THE NEW LINE STAYS

pointer_kept : (i n : ℕ) (w : Work) → Kept w (with_pointer i n w)
unfolding with_pointer with_stack
pointer_kept i n w = record { out = refl; size = refl }

value_kept : (i n : ℕ) (w : Work) → Kept w (with_value i n w)
unfolding with_value with_counter
value_kept i n w = record { out = refl; size = refl }

increment_kept : (i n : ℕ) (w : Work) → Kept w (with_increment i n w)
unfolding with_increment with_counter
increment_kept i n w = record { out = refl; size = refl }

entry_kept : (i : ℕ) (t : List ℕ) (w : Work) → Kept w (with_entry i t w)
unfolding with_entry with_stack
entry_kept i t w = record { out = refl; size = refl }

abbrev choose : Bool → ℕ → ℕ → ℕ
choose x a c = elim x [ true ↦ a | false ↦ c ]

-- "A pointer or counter that would fall below 1 is 1."
pub falls : {n by : ℕ} → by < n → n - by ≡ fallen n by
unfolding fallen
falls {n} {by} h = sym (ap (λ (x : Bool). choose x (n - by) 1) (lt-ltb by n h))

pub falls_short : {n by : ℕ} → n ≤ by → 1 ≡ fallen n by
unfolding fallen
falls_short {n} {by} h = sym (ap (λ (x : Bool). choose x (n - by) 1) (le-ltb by n h))

pub fallen_in : (n by : ℕ) → 1 ≤ n → Between 1 n (fallen n by)
fallen_in n by h = cases (ltb by n) refl
  where
    cases : (x : Bool) → ltb by n ≡ x → Between 1 n (fallen n by)
    cases true e = let l = ltb-true by n e in let z : n - by ≡ fallen n by = falls l in omega arith
    cases false e = let l = ltb-false by n e in let z : 1 ≡ fallen n by = falls_short l in omega arith

pub moved_some : (n by : ℕ) (up : Bool) → 1 ≤ n → 1 ≤ moved_in n by up
unfolding moved_in pick
moved_some n by true h = omega arith
moved_some n by false h = (fallen_in n by h).0

pub moved_up : (n by : ℕ) {up : Bool} → up ≡ true → n + by ≡ moved_in n by up
unfolding moved_in pick
moved_up n by e = rw e

pub moved_down : (n by : ℕ) {up : Bool} → up ≡ false → max (n - by) 1 ≡ moved_in n by up
unfolding moved_in pick
moved_down n by e = rw e (cases (ltb by n) refl)
  where
    cases : (x : Bool) → ltb by n ≡ x → max (n - by) 1 ≡ fallen n by
    cases true h = let l = ltb-true by n h in let z : max (n - by) 1 ≡ n - by = omega arith in z ∙ falls l
    cases false h = let l = ltb-false by n h in let z : max (n - by) 1 ≡ 1 = omega arith in z ∙ falls_short l

-- the move of a code
pub move_some : (c : ℕ) → 48 ≤ c → c ≤ 79 → c % 8 ≡ move_in c
unfolding move_in pick
move_some c h l = rw (within_in 48 79 c h l)

pub move_none : (c : ℕ) → (48 ≤ c → c ≤ 79 → ⊥) → 0 ≡ move_in c
unfolding move_in pick
move_none c f = rw (within_out 48 79 c f)

-- the move of a code, by its number
abbrev stirs : ℕ → ℕ → Mark → ℕ → Work → Done
stirs m first mark i w = pick (eqb m first) (moves mark plus i w) (pick (eqb m (first + 1)) (moves mark minus i w) (good w))

stirs_none : {m first : ℕ} → (m ≡ first → ⊥) → (m ≡ first + 1 → ⊥) → (mark : Mark) (i : ℕ) (w : Work) → stirs m first mark i w ≡ good w
unfolding pick
stirs_none {m} {first} f g mark i w = rw (ne_eqb m first f, ne_eqb m (first + 1) g)

stirs_some : {m first : ℕ} → ((m ≡ first → ⊥) → m ≡ first + 1) → (mark : Mark) (i : ℕ) (w : Work) → stirs m first mark i w ≡ moves mark (sign_in (eqb m first)) i w
unfolding pick sign_in
stirs_some {m} {first} f mark i w = by (eqb m first) refl
  where
    by : (x : Bool) → eqb m first ≡ x → pick x (moves mark plus i w) (pick (eqb m (first + 1)) (moves mark minus i w) (good w)) ≡ moves mark (pick x plus minus) i w
    by true e = refl
    by false e = rw (eq-eqb m (first + 1) (f (eqb-false _ _ e)))

module _ (b : List ℕ) (i k : ℕ) (s : IsState b) where
  -- A POINTER

  module _ (n : ℕ) (p : OfState b (λ st. n ≡ (stack_of st i).pointer)) where
    pub pointer_in : Between 1 most_entries n
    pointer_in = let e = p s.0 s.1 in let r = (stack_in_range s.0 i s.1.in_range).pointer in omega arith

    pub pointer_high : most_entries ≤ n → Changes (moves stack plus i) b k b (Err (record { fault = PointerTooHigh; size = k }))
    unfolding moves unless
    pointer_high h = changes_refused PointerTooHigh s (λ w g. rw (lt-leb ((stack_of w.state i).pointer + 1) most_entries (let e = p w.state g in omega arith)))

    pub pointer_up : {b₁ : List ℕ} → n < most_entries → OfWork b (λ w. Holds b₁ (with_pointer i (n + 1) w).state) → Changes (moves stack plus i) b k b₁ (Ok k)
    unfolding moves unless
    pointer_up {b₁} h o =
        changes_made (λ w. with_pointer i ((stack_of w.state i).pointer + 1) w) s
        (λ w g. rw (le-leb ((stack_of w.state i).pointer + 1) most_entries (let e = p w.state g in omega arith)))
        (λ w. pointer_kept i ((stack_of w.state i).pointer + 1) w) (λ w g. subst (λ (m : ℕ). Holds b₁ (with_pointer i (m + 1) w).state) (p w.state g) (o w g))

    pub pointer_down : {b₁ : List ℕ} {m : ℕ} → m ≡ fallen n 1 → OfWork b (λ w. Holds b₁ (with_pointer i m w).state) → Changes (moves stack minus i) b k b₁ (Ok k)
    unfolding moves
    pointer_down {b₁} e o =
        changes_made (λ w. with_pointer i (fallen (stack_of w.state i).pointer 1) w) s (λ w g. refl) (λ w. pointer_kept i (fallen (stack_of w.state i).pointer 1) w)
        (λ w g. subst (λ (m : ℕ). Holds b₁ (with_pointer i m w).state) (e ∙ ap (λ (x : ℕ). fallen x 1) (p w.state g)) (o w g))

    pub pointer_past : {m : ℕ} (up : Bool) → m ≡ moved_in n 1 up → most_entries < m → Changes (moves stack (sign_in up) i) b k b (Err (record { fault = PointerTooHigh; size = k }))
    unfolding moved_in sign_in pick
    pointer_past true e h = pointer_high (omega arith)
    pointer_past false e h = absurd (let z = pointer_in in let y = fallen_in n 1 (omega arith) in omega arith)

    pub pointer_moves : {b₁ : List ℕ} {m : ℕ} (up : Bool) → m ≡ moved_in n 1 up → m ≤ most_entries → OfWork b (λ w. Holds b₁ (with_pointer i m w).state) → Changes (moves stack (sign_in up) i) b k b₁ (Ok k)
    unfolding moved_in sign_in pick
    pointer_moves {b₁} true e h o = pointer_up (omega arith) (λ w g. subst (λ (x : ℕ). Holds b₁ (with_pointer i x w).state) e (o w g))
    pointer_moves false e h o = pointer_down e o

  -- A COUNTER

  module _ (n by : ℕ) (p : OfState b (λ st. n ≡ (counter_of st i).value)) (q : OfState b (λ st. by ≡ (counter_of st i).increment)) where
    pub value_in : Between 1 most_counter n
    value_in = let e = p s.0 s.1 in let r = (counter_in_range s.0 i s.1.in_range).value in omega arith

    pub increment_in : Between 1 most_counter by
    increment_in = let e = q s.0 s.1 in let r = (counter_in_range s.0 i s.1.in_range).increment in omega arith

    pub value_high : most_counter < n + by → Changes (moves counter plus i) b k b (Err (record { fault = CounterTooHigh; size = k }))
    unfolding moves unless
    value_high h =
        changes_refused CounterTooHigh s
        (λ w g. rw (lt-leb ((counter_of w.state i).value + (counter_of w.state i).increment) most_counter (let e = p w.state g in let f = q w.state g in omega arith)))

    pub value_up : {b₁ : List ℕ} → n + by ≤ most_counter → OfWork b (λ w. Holds b₁ (with_value i (n + by) w).state) → Changes (moves counter plus i) b k b₁ (Ok k)
    unfolding moves unless
    value_up {b₁} h o =
        changes_made (λ w. with_value i ((counter_of w.state i).value + (counter_of w.state i).increment) w) s
        (λ w g. rw (le-leb ((counter_of w.state i).value + (counter_of w.state i).increment) most_counter (let e = p w.state g in let f = q w.state g in omega arith)))
        (λ w. value_kept i ((counter_of w.state i).value + (counter_of w.state i).increment) w)
        (λ w g. subst (λ (m : ℕ). Holds b₁ (with_value i m w).state) (ap (λ (x : ℕ). x + by) (p w.state g) ∙ ap (λ (x : ℕ). (counter_of w.state i).value + x) (q w.state g)) (o w g))

    pub value_down : {b₁ : List ℕ} {m : ℕ} → m ≡ fallen n by → OfWork b (λ w. Holds b₁ (with_value i m w).state) → Changes (moves counter minus i) b k b₁ (Ok k)
    unfolding moves
    value_down {b₁} e o =
        changes_made (λ w. with_value i (fallen (counter_of w.state i).value (counter_of w.state i).increment) w) s (λ w g. refl)
        (λ w. value_kept i (fallen (counter_of w.state i).value (counter_of w.state i).increment) w)
        (λ w g.
        subst (λ (m : ℕ). Holds b₁ (with_value i m w).state)
        (e ∙ ap (λ (x : ℕ). fallen x by) (p w.state g) ∙ ap (λ (x : ℕ). fallen (counter_of w.state i).value x) (q w.state g)) (o w g))

    pub value_past : {m : ℕ} (up : Bool) → m ≡ moved_in n by up → most_counter < m → Changes (moves counter (sign_in up) i) b k b (Err (record { fault = CounterTooHigh; size = k }))
    unfolding moved_in sign_in pick
    value_past true e h = value_high (omega arith)
    value_past false e h = absurd (let z = value_in in let y = fallen_in n by (omega arith) in omega arith)

    pub value_moves : {b₁ : List ℕ} {m : ℕ} (up : Bool) → m ≡ moved_in n by up → m ≤ most_counter → OfWork b (λ w. Holds b₁ (with_value i m w).state) → Changes (moves counter (sign_in up) i) b k b₁ (Ok k)
    unfolding moved_in sign_in pick
    value_moves {b₁} true e h o = value_up (omega arith) (λ w g. subst (λ (x : ℕ). Holds b₁ (with_value i x w).state) e (o w g))
    value_moves false e h o = value_down e o

  -- AN ENTRY

  pub store_refused : (t : List ℕ) → most_entry_bytes < length t → Changes (stores i t) b k b (Err (record { fault = TagTooLong; size = k }))
  unfolding stores unless
  store_refused t h = changes_refused TagTooLong s (λ w g. rw (g.in_range.entry_bytes, lt-leb (length t) most_entry_bytes h))

  pub store_made : {b₁ : List ℕ} (t : List ℕ) → length t ≤ most_entry_bytes → OfWork b (λ w. Holds b₁ (with_entry i t w).state) → Changes (stores i t) b k b₁ (Ok k)
  unfolding stores unless
  store_made t h o = changes_made (λ w. with_entry i t w) s (λ w g. rw (g.in_range.entry_bytes, le-leb (length t) most_entry_bytes h)) (λ w. entry_kept i t w) o

  -- THE MOVES OF A CALL

  pub shift_none : (first c : ℕ) {m : ℕ} → m ≡ move_in c → (m ≡ first → ⊥) → (m ≡ first + 1 → ⊥) → Changes (moves_in first c i) b k b (Ok k)
  unfolding moves_in
  shift_none first c e f g = changes_by (λ w. ap (λ (x : ℕ). stirs x first (mark_in c) i w) (sym e) ∙ stirs_none f g (mark_in c) i w) (changes_none s)

pub shift_some : (first c i : ℕ) {m k : ℕ} {mark : Mark} {b b₁ : List ℕ} {r : Result ℕ WorkError} → m ≡ move_in c → ((m ≡ first → ⊥) → m ≡ first + 1) → mark ≡ mark_in c → Changes (moves mark (sign_in (eqb m first)) i) b k b₁ r
    → Changes (moves_in first c i) b k b₁ r
unfolding moves_in
shift_some first c i {m} e f g p =
    changes_by (λ w. ap (λ (x : ℕ). stirs x first (mark_in c) i w) (sym e) ∙ ap (λ (x : Mark). stirs m first x i w) (sym g) ∙ stirs_some f _ i w) p

-- WHAT IS SET

module _ (c i n : ℕ) (b : List ℕ) (k : ℕ) (s : IsState b) {b₁ : List ℕ} where
  pub sets_pointer : c < 88 → OfWork b (λ w. Holds b₁ (with_pointer i n w).state) → Changes (sets_in c i n) b k b₁ (Ok k)
  unfolding sets_in pick
  sets_pointer h o = changes_made (λ w. with_pointer i n w) s (λ w g. rw (lt-ltb c 88 h)) (λ w. pointer_kept i n w) o

  pub sets_value : 88 ≤ c → c < 96 → OfWork b (λ w. Holds b₁ (with_value i n w).state) → Changes (sets_in c i n) b k b₁ (Ok k)
  unfolding sets_in pick
  sets_value l h o = changes_made (λ w. with_value i n w) s (λ w g. rw (le-ltb c 88 l, lt-ltb c 96 h)) (λ w. value_kept i n w) o

  pub sets_increment_lem : 96 ≤ c → OfWork b (λ w. Holds b₁ (with_increment i n w).state) → Changes (sets_in c i n) b k b₁ (Ok k)
  unfolding sets_in pick
  sets_increment_lem h o = changes_made (λ w. with_increment i n w) s (λ w g. rw (le-ltb c 88 (omega arith), le-ltb c 96 h)) (λ w. increment_kept i n w) o
