-- A state and the bytes that hold it: what stands where, and the state that a store makes.
use Prim.Native.Nat.{ℕ, zero, suc, ◌+◌, ◌-◌, ◌*◌, ◌≤◌, ◌<◌}
use mathlib.Core.Path.{◌≡◌, refl, sym, ap, ◌∙◌}
use mathlib.Core.Bool.{true}
use mathlib.Core.List.{List, [], ◌∷◌, ◌++◌}
use native.Mathlib.Nat.{le_of_suc-le-suc, not-suc-le-zero}
use native.Mathlib.Omega.{arith}
use lib.ListN.{length, get_or, set, take, drop, replicate, length-take, length-drop, length-set, get_or-append}
use lib.Seq.{take_at, take-take, drop-drop, drop-append-add, drop-append-le, take-append-le, get_or-append-add}
use Rattle.form_state.specs.Form.{stack_bytes, state_bytes, entries_from}
use Rattle.macros.specs.Bounds.{most_entries, most_entry_bytes}
use Rattle.macros.specs.Formed.{Between, Bytes, Octets, Letter}
use Rattle.form_bytes.specs.Fours.{four, number_at}
use Rattle.lines.specs.State.{Stack, Counter, State, AllOf, fresh_stack, fresh_counter, stack_of, counter_of, current_entry, EntryInRange, StackInRange, CounterInRange, InRange}
use Rattle.lines.specs.Replacing.{Work, with_stack, with_counter, with_pointer, with_value, with_increment, with_entry}
use Rattle.lines.specs.Feeding.{with_trace, with_nflag}
use Rattle.form_state.specs.Form.{pointers_form, values_form, increments_form, entry_form, entries_form, stacks_form, state_form}
use Rattle.form_state.specs.Form.{entry_form_by, state_form_by}
use Rattle.form_state.specs.Check.{state_checks}
use Rattle.form_state.specs.Access.{Holds, IsState, replaced, text_length}
use Rattle.form_bytes.proofs.Reading.{number_block}
use Rattle.form_state.proofs.Replaced.{replaced_left, replaced_right, replaced_whole, set_replaced}
use Rattle.form_state.proofs.Each.{each, each_part, each_set, each_kept, part_in, all_any, all_map, all_at, all_set}
use Rattle.form_state.proofs.Parts as parts
use Rattle.form_state.proofs.Decode.{Number, number_four, state_check_exact}

pub is_long_lem : (b : List ℕ) → IsState b → length b ≡ state_bytes
is_long_lem b s = ap length (sym s.1.form) ∙ parts.size s.0 s.1.in_range

-- the bytes of a slice
pub octets_of : (b : List ℕ) → ((i : ℕ) → get_or b i 0 ≤ 255) → Octets b
octets_of [] h = tt
octets_of (x ∷ b) h = (h 0, octets_of b (λ i. h (suc i)))

-- what passes the check is a state
pub passed_is : (b : List ℕ) → Octets b → state_checks b ≡ true → IsState b
passed_is b o e = let s = (state_check_exact b o).0 e in (s.0, record { in_range = s.1; form = s.2 })

-- WHERE A PART OF THE FORM STANDS

abbrev flags_of : State → List ℕ
flags_of st = st.trace ∷ st.nflag ∷ []

abbrev pointers_of : State → List ℕ
pointers_of st = pointers_form st.stacks

abbrev values_of : State → List ℕ
values_of st = values_form st.counters

abbrev increments_of : State → List ℕ
increments_of st = increments_form st.counters

abbrev stacks_of : State → List ℕ
stacks_of st = stacks_form st.stacks

-- the form with the flags of a state and other parts
abbrev made : State → List ℕ → List ℕ → List ℕ → List ℕ → List ℕ
made st p v i s = flags_of st ++ (p ++ (v ++ (i ++ s)))

skip : (a b : List ℕ) (n p w : ℕ) → length a ≡ n → take w (drop (n + p) (a ++ b)) ≡ take w (drop p b)
skip a b n p w h = rw (← h) (ap (take w) (drop-append-add a b p))

stay : (a b : List ℕ) (p w : ℕ) → p + w ≤ length a → take w (drop p (a ++ b)) ≡ take w (drop p a)
stay a b p w h = ap (take w) (drop-append-le p a b (omega arith)) ∙ take-append-le w (drop p a) b (omega (arith, length-drop p a))

module _ (st : State) (g : InRange st) where
  behind_pointers : (k w : ℕ) → take w (drop (2 + (26 + k)) (state_form st)) ≡ take w (drop k (values_of st ++ (increments_of st ++ stacks_of st)))
  unfolding state_form_by
  behind_pointers k w =
      skip (flags_of st) (pointers_of st ++ (values_of st ++ (increments_of st ++ stacks_of st))) 2 (26 + k) w refl
      ∙ skip (pointers_of st) (values_of st ++ (increments_of st ++ stacks_of st)) 26 k w (parts.pointers_26 st g)

  behind_values : (k w : ℕ) → take w (drop (2 + (26 + (104 + k))) (state_form st)) ≡ take w (drop k (increments_of st ++ stacks_of st))
  behind_values k w = behind_pointers (104 + k) w ∙ skip (values_of st) (increments_of st ++ stacks_of st) 104 k w (parts.values_104 st g)

  in_values : (k w : ℕ) → k + w ≤ 104 → take w (drop (28 + k) (state_form st)) ≡ take w (drop k (values_of st))
  in_values k w fit =
      let e : 28 + k ≡ 2 + (26 + k) = omega arith in
      rw e (behind_pointers k w ∙ stay (values_of st) (increments_of st ++ stacks_of st) k w (omega (arith, parts.values_104 st g)))

  in_increments : (k w : ℕ) → k + w ≤ 104 → take w (drop (132 + k) (state_form st)) ≡ take w (drop k (increments_of st))
  in_increments k w fit =
      let e : 132 + k ≡ 2 + (26 + (104 + k)) = omega arith in
      rw e (behind_values k w ∙ stay (increments_of st) (stacks_of st) k w (omega (arith, parts.increments_104 st g)))

  in_stacks : (k w : ℕ) → take w (drop (entries_from + k) (state_form st)) ≡ take w (drop k (stacks_of st))
  in_stacks k w =
      let e : entries_from + k ≡ 2 + (26 + (104 + (104 + k))) = omega arith in
      rw e (behind_values (104 + k) w ∙ skip (increments_of st) (stacks_of st) 104 k w (parts.increments_104 st g))

  put_pointers : (k : ℕ) (u : List ℕ) → k + length u ≤ 26 → replaced (state_form st) (2 + k) u ≡ made st (replaced (pointers_of st) k u) (values_of st) (increments_of st) (stacks_of st)
  unfolding state_form_by
  put_pointers k u fit =
      replaced_right (flags_of st) (pointers_of st ++ (values_of st ++ (increments_of st ++ stacks_of st))) 2 k u refl
      ∙ ap (λ (x : List ℕ). flags_of st ++ x) (replaced_left (pointers_of st) (values_of st ++ (increments_of st ++ stacks_of st)) k u (omega (arith, parts.pointers_26 st g)))

  put_behind : (k : ℕ) (u : List ℕ) → replaced (state_form st) (2 + (26 + k)) u ≡ flags_of st ++ (pointers_of st ++ replaced (values_of st ++ (increments_of st ++ stacks_of st)) k u)
  unfolding state_form_by
  put_behind k u =
      replaced_right (flags_of st) (pointers_of st ++ (values_of st ++ (increments_of st ++ stacks_of st))) 2 (26 + k) u refl
      ∙ ap (λ (x : List ℕ). flags_of st ++ x) (replaced_right (pointers_of st) (values_of st ++ (increments_of st ++ stacks_of st)) 26 k u (parts.pointers_26 st g))

  put_values : (k : ℕ) (u : List ℕ) → k + length u ≤ 104 → replaced (state_form st) (28 + k) u ≡ made st (pointers_of st) (replaced (values_of st) k u) (increments_of st) (stacks_of st)
  put_values k u fit =
      let e : 28 + k ≡ 2 + (26 + k) = omega arith in
      ap (λ (x : ℕ). replaced (state_form st) x u) e
      ∙ put_behind k u
      ∙ ap (λ (x : List ℕ). flags_of st ++ (pointers_of st ++ x)) (replaced_left (values_of st) (increments_of st ++ stacks_of st) k u (omega (arith, parts.values_104 st g)))

  put_increments : (k : ℕ) (u : List ℕ) → k + length u ≤ 104 → replaced (state_form st) (132 + k) u ≡ made st (pointers_of st) (values_of st) (replaced (increments_of st) k u) (stacks_of st)
  put_increments k u fit =
      let e : 132 + k ≡ 2 + (26 + (104 + k)) = omega arith in
      ap (λ (x : ℕ). replaced (state_form st) x u) e
      ∙ put_behind (104 + k) u
      ∙ ap (λ (x : List ℕ). flags_of st ++ (pointers_of st ++ x)) (replaced_right (values_of st) (increments_of st ++ stacks_of st) 104 k u (parts.values_104 st g))
      ∙ ap (λ (x : List ℕ). flags_of st ++ (pointers_of st ++ (values_of st ++ x))) (replaced_left (increments_of st) (stacks_of st) k u (omega (arith, parts.increments_104 st g)))

  put_stacks : (k : ℕ) (u : List ℕ) → replaced (state_form st) (entries_from + k) u ≡ made st (pointers_of st) (values_of st) (increments_of st) (replaced (stacks_of st) k u)
  put_stacks k u =
      let e : entries_from + k ≡ 2 + (26 + (104 + (104 + k))) = omega arith in
      ap (λ (x : ℕ). replaced (state_form st) x u) e
      ∙ put_behind (104 + (104 + k)) u
      ∙ ap (λ (x : List ℕ). flags_of st ++ (pointers_of st ++ x)) (replaced_right (values_of st) (increments_of st ++ stacks_of st) 104 (104 + k) u (parts.values_104 st g))
      ∙ ap (λ (x : List ℕ). flags_of st ++ (pointers_of st ++ (values_of st ++ x))) (replaced_right (increments_of st) (stacks_of st) 104 k u (parts.increments_104 st g))

-- READING

get_or_pointers : (ks : List Stack) (j : ℕ) → j < length ks → get_or (pointers_form ks) j 0 ≡ (get_or ks j fresh_stack).pointer
unfolding pointers_form
get_or_pointers [] j h = absurd (not-suc-le-zero h)
get_or_pointers (k ∷ ks) zero h = refl
get_or_pointers (k ∷ ks) (suc j) h = get_or_pointers ks j (le_of_suc-le-suc h)

-- the number of a counter whose four bytes stand at a place
number_is : (b : List ℕ) (a : ℕ) (f : Counter → ℕ) (cs : List Counter) (j : ℕ) → j < length cs → ((k : Counter) → CounterInRange k → Number (f k)) → AllOf CounterInRange cs
    → take 4 (drop a b) ≡ take 4 (drop (4 * j) (each (λ k. four (f k)) cs)) → number_at b a ≡ f (get_or cs j fresh_counter)
number_is b a f cs j less range h e =
    sym (number_block b a)
    ∙ ap (λ (x : List ℕ). number_at x 0) (e ∙ each_part (λ k. four (f k)) 4 cs j fresh_counter (all_any (λ k. length (four (f k)) ≡ 4) (λ k. parts.four_wide (f k)) cs) less)
    ∙ number_four (f (get_or cs j fresh_counter)) (range (get_or cs j fresh_counter) (all_at CounterInRange cs j fresh_counter h less))

text_entry : (e : List ℕ) (n : ℕ) → Bytes e → text_length (e ++ replicate n 0) ≡ length e
unfolding text_length
text_entry [] zero h = refl
text_entry [] (suc n) h = refl
text_entry (zero ∷ e) n h = absurd (omega (arith, h.0))
text_entry (suc b ∷ e) n h = ap suc (text_entry e n h.1)

text_short : (l : List ℕ) → text_length l ≤ length l
unfolding text_length
text_short [] = omega arith
text_short (zero ∷ l) = omega arith
text_short (suc b ∷ l) = let h : text_length l ≤ length l = text_short l in omega arith

pub text_fits : (n a : ℕ) (l : List ℕ) → n ≡ text_length (take (a + most_entry_bytes - a) l) → n ≤ most_entry_bytes
text_fits n a l e =
    let h : text_length (take (a + most_entry_bytes - a) l) ≤ length (take (a + most_entry_bytes - a) l) = text_short (take (a + most_entry_bytes - a) l) in
    let k : length (take (a + most_entry_bytes - a) l) ≤ a + most_entry_bytes - a = omega (arith, length-take (a + most_entry_bytes - a) l) in
    omega arith

module _ (b : List ℕ) (st : State) (h : Holds b st) where
  pub read_trace : get_or b 0 0 ≡ st.trace
  unfolding state_form_by
  read_trace = ap (λ (x : List ℕ). get_or x 0 0) (sym h.form)

  pub read_nflag : get_or b 1 0 ≡ st.nflag
  unfolding state_form_by
  read_nflag = ap (λ (x : List ℕ). get_or x 1 0) (sym h.form)

  module _ (i j : ℕ) (l : Letter i) (e : j ≡ i - 97) where
    pub read_pointer : get_or b (2 + j) 0 ≡ (stack_of st i).pointer
    unfolding state_form_by stack_of
    read_pointer =
        let less : j < length st.stacks = omega (arith, h.in_range.stack_count) in
        let rest : List ℕ = values_form st.counters ++ (increments_form st.counters ++ stacks_form st.stacks) in
        ap (λ (x : List ℕ). get_or x (2 + j) 0) (sym h.form)
        ∙ get_or-append-add (st.trace ∷ st.nflag ∷ []) (pointers_form st.stacks ++ rest) j 0
        ∙ get_or-append (pointers_form st.stacks) rest 0 j (omega (arith, parts.length_pointers st.stacks))
        ∙ get_or_pointers st.stacks j less
        ∙ ap (λ (k : ℕ). (get_or st.stacks k fresh_stack).pointer) e

    pub pointer_range : Between 1 most_entries (stack_of st i).pointer
    unfolding stack_of
    pointer_range = (all_at StackInRange st.stacks (i - 97) fresh_stack h.in_range.stacks (omega (arith, h.in_range.stack_count))).pointer

    pub read_value : number_at b (28 + 4 * j) ≡ (counter_of st i).value
    unfolding counter_of
    read_value =
        let less : j < length st.counters = omega (arith, h.in_range.counter_count) in
        number_is b (28 + 4 * j) (λ k. k.value) st.counters j less (λ k r. r.value) h.in_range.counters
        (ap (λ (x : List ℕ). take 4 (drop (28 + 4 * j) x)) (sym h.form) ∙ in_values st h.in_range (4 * j) 4 (omega arith) ∙ ap (λ (x : List ℕ). take 4 (drop (4 * j) x)) (parts.values_each st.counters))
        ∙ ap (λ (k : ℕ). (get_or st.counters k fresh_counter).value) e

    pub read_increment : number_at b (132 + 4 * j) ≡ (counter_of st i).increment
    unfolding counter_of
    read_increment =
        let less : j < length st.counters = omega (arith, h.in_range.counter_count) in
        number_is b (132 + 4 * j) (λ k. k.increment) st.counters j less (λ k r. r.increment) h.in_range.counters
        (ap (λ (x : List ℕ). take 4 (drop (132 + 4 * j) x)) (sym h.form) ∙ in_increments st h.in_range (4 * j) 4 (omega arith) ∙ ap (λ (x : List ℕ). take 4 (drop (4 * j) x)) (parts.increments_each st.counters))
        ∙ ap (λ (k : ℕ). (get_or st.counters k fresh_counter).increment) e

  module _ (i : ℕ) (l : Letter i) where
    stack_in : StackInRange (stack_of st i)
    unfolding stack_of
    stack_in = all_at StackInRange st.stacks (i - 97) fresh_stack h.in_range.stacks (omega (arith, h.in_range.stack_count))

    entry_in : EntryInRange (current_entry st i)
    unfolding current_entry
    entry_in =
        all_at EntryInRange (stack_of st i).entries ((stack_of st i).pointer - 1) [] stack_in.entries (omega (arith, stack_in.count, stack_in.pointer.0, stack_in.pointer.1))

    stack_part : take stack_bytes (drop (stack_bytes * (i - 97)) (stacks_form st.stacks)) ≡ entries_form (stack_of st i).entries
    unfolding stack_of
    stack_part =
        ap (λ (x : List ℕ). take stack_bytes (drop (stack_bytes * (i - 97)) x)) (parts.stacks_each st.stacks)
        ∙ each_part parts.stack_form stack_bytes st.stacks (i - 97) fresh_stack (all_map parts.stack_wide st.stacks h.in_range.stacks) (omega (arith, h.in_range.stack_count))

    pub read_entry : (a : ℕ) → a ≡ entries_from + (stack_bytes * (i - 97) + most_entry_bytes * ((stack_of st i).pointer - 1)) → take most_entry_bytes (drop a b) ≡ entry_form (current_entry st i)
    unfolding current_entry
    read_entry a e =
        let q : ℕ = (stack_of st i).pointer - 1 in
        let less : q < length (stack_of st i).entries = omega (arith, stack_in.count, stack_in.pointer.0, stack_in.pointer.1) in
        let few : most_entry_bytes * q + most_entry_bytes ≤ stack_bytes = omega (arith, stack_in.count) in
        ap (λ (k : ℕ). take most_entry_bytes (drop k b)) e
        ∙ ap (λ (x : List ℕ). take most_entry_bytes (drop (entries_from + (stack_bytes * (i - 97) + most_entry_bytes * q)) x)) (sym h.form)
        ∙ in_stacks st h.in_range (stack_bytes * (i - 97) + most_entry_bytes * q) most_entry_bytes
        ∙ ap (take most_entry_bytes) (sym (drop-drop (most_entry_bytes * q) (stack_bytes * (i - 97)) (stacks_form st.stacks)))
        ∙ sym (part_in most_entry_bytes (most_entry_bytes * q) stack_bytes (drop (stack_bytes * (i - 97)) (stacks_form st.stacks)) few)
        ∙ ap (λ (x : List ℕ). take most_entry_bytes (drop (most_entry_bytes * q) x)) (stack_part ∙ parts.entries_each (stack_of st i).entries)
        ∙ each_part entry_form most_entry_bytes (stack_of st i).entries q [] (parts.entries_wide (stack_of st i).entries stack_in.entries) less

    -- the part that is handed out
    pub entry_is : (a n : ℕ) → a ≡ entries_from + (stack_bytes * (i - 97) + most_entry_bytes * ((stack_of st i).pointer - 1)) → n ≡ text_length (take (a + most_entry_bytes - a) (drop a b)) → take (a + n - a) (drop a b) ≡ current_entry st i
    unfolding entry_form_by
    entry_is a n e c =
        let t : List ℕ = current_entry st i in
        let z : List ℕ = replicate (most_entry_bytes - length t) 0 in
        let whole : a + most_entry_bytes - a ≡ most_entry_bytes = omega arith in
        let some : a + n - a ≡ n = omega arith in
        let part : take most_entry_bytes (drop a b) ≡ t ++ z = read_entry a e in
        let long : length t ≡ n = sym (c ∙ ap (λ (k : ℕ). text_length (take k (drop a b))) whole ∙ ap text_length part ∙ text_entry t (most_entry_bytes - length t) entry_in.0) in
        ap (λ (k : ℕ). take k (drop a b)) some
        ∙ sym (take-take n most_entry_bytes (drop a b) (omega (arith, entry_in.1)))
        ∙ ap (take n) part
        ∙ take_at t z n long

-- STORING

pub trace_set : (b : List ℕ) (st : State) (n : ℕ) → Holds b st → n ≤ 1 → Holds (set b 0 n) (with_trace n st)
unfolding state_form_by with_trace
trace_set b st n h l =
    record {
      in_range = record { stack_count = h.in_range.stack_count; stacks = h.in_range.stacks; counter_count = h.in_range.counter_count; counters = h.in_range.counters; trace = l; nflag = h.in_range.nflag; entry_bytes = h.in_range.entry_bytes };
      form = ap (λ (x : List ℕ). set x 0 n) h.form;
    }

pub nflag_set : (b : List ℕ) (st : State) (n : ℕ) → Holds b st → n ≤ 1 → Holds (set b 1 n) (with_nflag n st)
unfolding state_form_by with_nflag
nflag_set b st n h l =
    record {
      in_range = record { stack_count = h.in_range.stack_count; stacks = h.in_range.stacks; counter_count = h.in_range.counter_count; counters = h.in_range.counters; trace = h.in_range.trace; nflag = l; entry_bytes = h.in_range.entry_bytes };
      form = ap (λ (x : List ℕ). set x 1 n) h.form;
    }

abbrev with_stacks : State → List Stack → State
with_stacks st ks = record { stacks = ks; counters = st.counters; trace = st.trace; nflag = st.nflag; entry_bytes = st.entry_bytes }

abbrev with_counters : State → List Counter → State
with_counters st cs = record { stacks = st.stacks; counters = cs; trace = st.trace; nflag = st.nflag; entry_bytes = st.entry_bytes }

stacks_range : (st : State) (j : ℕ) (y : Stack) → InRange st → StackInRange y → InRange (with_stacks st (set st.stacks j y))
stacks_range st j y h g =
    record {
      stack_count = length-set st.stacks j y ∙ h.stack_count;
      stacks = all_set StackInRange st.stacks j y h.stacks g;
      counter_count = h.counter_count;
      counters = h.counters;
      trace = h.trace;
      nflag = h.nflag;
      entry_bytes = h.entry_bytes;
    }

counters_range : (st : State) (j : ℕ) (y : Counter) → InRange st → CounterInRange y → InRange (with_counters st (set st.counters j y))
counters_range st j y h g =
    record {
      stack_count = h.stack_count;
      stacks = h.stacks;
      counter_count = length-set st.counters j y ∙ h.counter_count;
      counters = all_set CounterInRange st.counters j y h.counters g;
      trace = h.trace;
      nflag = h.nflag;
      entry_bytes = h.entry_bytes;
    }

-- one number of the counters' parts is another
number_set : (f : Counter → List ℕ) (cs : List Counter) (j n : ℕ) (y : Counter) → ((k : Counter) → length (f k) ≡ 4) → j < length cs → f y ≡ four n → each f (set cs j y) ≡ replaced (each f cs) (4 * j) (four n)
number_set f cs j n y wide less e =
    let here : 4 * j + 0 ≡ 4 * j = omega arith in
    each_set f 4 cs j y fresh_counter 0 (four n) (all_any (λ k. length (f k) ≡ 4) wide cs) less (omega (arith, parts.four_wide n))
    (e ∙ sym (replaced_whole (f (get_or cs j fresh_counter)) (four n) (wide (get_or cs j fresh_counter) ∙ sym (parts.four_wide n))))
    ∙ ap (λ (k : ℕ). replaced (each f cs) k (four n)) here

module _ (b e : List ℕ) (i : ℕ) (w : Work) (h : Holds b w.state) (l : Letter i) where
  abbrev st : State
  st = w.state

  abbrev g : InRange st
  g = h.in_range

  pub pointer_set : (n j : ℕ) → Between 1 most_entries n → j ≡ i - 97 → e ≡ set b (2 + j) n → Holds e (with_pointer i n w).state
  unfolding with_pointer with_stack stack_of state_form_by
  pointer_set n j r at d =
      let m : ℕ = i - 97 in
      let ks : List Stack = st.stacks in
      let less : m < length ks = omega (arith, g.stack_count) in
      let y : Stack = record { pointer = n; entries = (get_or ks m fresh_stack).entries } in
      let k = all_at StackInRange ks m fresh_stack g.stacks less in
      let one : 1 * m + 0 ≡ m = omega arith in
      let points : pointers_form (set ks m y) ≡ replaced (pointers_form ks) m (n ∷ []) =
      parts.pointers_each (set ks m y)
      ∙ each_set parts.pointer_form 1 ks m y fresh_stack 0 (n ∷ []) (all_any (λ x. length (parts.pointer_form x) ≡ 1) (λ x. refl) ks) less (omega arith) (sym (replaced_whole (parts.pointer_form (get_or ks m fresh_stack)) (n ∷ []) refl))
      ∙ ap (λ (x : List ℕ). replaced x (1 * m + 0) (n ∷ [])) (sym (parts.pointers_each ks))
      ∙ ap (λ (x : ℕ). replaced (pointers_form ks) x (n ∷ [])) one in
      let entries : stacks_form (set ks m y) ≡ stacks_form ks = parts.stacks_each (set ks m y) ∙ each_kept parts.stack_form ks m y fresh_stack refl ∙ sym (parts.stacks_each ks) in
      record {
        in_range = stacks_range st m y g (record { pointer = r; count = k.count; entries = k.entries });
        form =
            ap (λ (x : List ℕ). made st x (values_of st) (increments_of st) (stacks_form (set ks m y))) points
            ∙ ap (made st (replaced (pointers_of st) m (n ∷ [])) (values_of st) (increments_of st)) entries
            ∙ sym (put_pointers st g m (n ∷ []) (omega (arith, g.stack_count)))
            ∙ ap (λ (x : List ℕ). replaced x (2 + m) (n ∷ [])) h.form
            ∙ ap (λ (x : ℕ). replaced b (2 + x) (n ∷ [])) (sym at)
            ∙ sym (set_replaced b (2 + j) n (omega (arith, is_long_lem b (st, h))))
            ∙ sym d;
      }

  pub value_set : (n j : ℕ) → Number n → j ≡ i - 97 → e ≡ replaced b (28 + 4 * j) (four n) → Holds e (with_value i n w).state
  unfolding with_value with_counter counter_of state_form_by
  value_set n j r at d =
      let m : ℕ = i - 97 in
      let cs : List Counter = st.counters in
      let less : m < length cs = omega (arith, g.counter_count) in
      let y : Counter = record { value = n; increment = (get_or cs m fresh_counter).increment } in
      let k = all_at CounterInRange cs m fresh_counter g.counters less in
      let vals : values_form (set cs m y) ≡ replaced (values_form cs) (4 * m) (four n) =
      parts.values_each (set cs m y) ∙ number_set parts.value_form cs m n y (λ x. parts.four_wide x.value) less refl ∙ ap (λ (x : List ℕ). replaced x (4 * m) (four n)) (sym (parts.values_each cs)) in
      let incs : increments_form (set cs m y) ≡ increments_form cs =
      parts.increments_each (set cs m y) ∙ each_kept parts.increment_form cs m y fresh_counter refl ∙ sym (parts.increments_each cs) in
      record {
        in_range = counters_range st m y g (record { value = r; increment = k.increment });
        form =
            ap (λ (x : List ℕ). made st (pointers_of st) x (increments_form (set cs m y)) (stacks_of st)) vals
            ∙ ap (λ (x : List ℕ). made st (pointers_of st) (replaced (values_of st) (4 * m) (four n)) x (stacks_of st)) incs
            ∙ sym (put_values st g (4 * m) (four n) (omega (arith, g.counter_count, parts.four_wide n)))
            ∙ ap (λ (x : List ℕ). replaced x (28 + 4 * m) (four n)) h.form
            ∙ ap (λ (x : ℕ). replaced b (28 + 4 * x) (four n)) (sym at)
            ∙ sym d;
      }

  pub increment_set : (n j : ℕ) → Number n → j ≡ i - 97 → e ≡ replaced b (132 + 4 * j) (four n) → Holds e (with_increment i n w).state
  unfolding with_increment with_counter counter_of state_form_by
  increment_set n j r at d =
      let m : ℕ = i - 97 in
      let cs : List Counter = st.counters in
      let less : m < length cs = omega (arith, g.counter_count) in
      let y : Counter = record { value = (get_or cs m fresh_counter).value; increment = n } in
      let k = all_at CounterInRange cs m fresh_counter g.counters less in
      let incs : increments_form (set cs m y) ≡ replaced (increments_form cs) (4 * m) (four n) =
      parts.increments_each (set cs m y) ∙ number_set parts.increment_form cs m n y (λ x. parts.four_wide x.increment) less refl ∙ ap (λ (x : List ℕ). replaced x (4 * m) (four n)) (sym (parts.increments_each cs)) in
      let vals : values_form (set cs m y) ≡ values_form cs =
      parts.values_each (set cs m y) ∙ each_kept parts.value_form cs m y fresh_counter refl ∙ sym (parts.values_each cs) in
      record {
        in_range = counters_range st m y g (record { value = k.value; increment = r });
        form =
            ap (λ (x : List ℕ). made st (pointers_of st) x (increments_form (set cs m y)) (stacks_of st)) vals
            ∙ ap (λ (x : List ℕ). made st (pointers_of st) (values_of st) x (stacks_of st)) incs
            ∙ sym (put_increments st g (4 * m) (four n) (omega (arith, g.counter_count, parts.four_wide n)))
            ∙ ap (λ (x : List ℕ). replaced x (132 + 4 * m) (four n)) h.form
            ∙ ap (λ (x : ℕ). replaced b (132 + 4 * x) (four n)) (sym at)
            ∙ sym d;
      }

  pub entry_set : (t : List ℕ) (a : ℕ) → EntryInRange t → a ≡ entries_from + (stack_bytes * (i - 97) + most_entry_bytes * ((stack_of st i).pointer - 1)) → e ≡ replaced b a (entry_form t) → Holds e (with_entry i t w).state
  unfolding with_entry with_stack stack_of state_form_by
  entry_set t a r at d =
      let m : ℕ = i - 97 in
      let ks : List Stack = st.stacks in
      let less : m < length ks = omega (arith, g.stack_count) in
      let old : Stack = get_or ks m fresh_stack in
      let k : StackInRange old = all_at StackInRange ks m fresh_stack g.stacks less in
      let q : ℕ = old.pointer - 1 in
      let es : List (List ℕ) = old.entries in
      let inside : q < length es = omega (arith, k.count, k.pointer.0, k.pointer.1) in
      let y : Stack = record { pointer = old.pointer; entries = set es q t } in
      let was : length (entry_form (get_or es q [])) ≡ most_entry_bytes = parts.entry_wide (get_or es q []) (all_at EntryInRange es q [] k.entries inside) in
      let wide : length (entry_form t) ≡ most_entry_bytes = parts.entry_wide t r in
      let stack : parts.stack_form y ≡ replaced (parts.stack_form old) (most_entry_bytes * q + 0) (entry_form t) =
      parts.entries_each (set es q t)
      ∙ each_set entry_form most_entry_bytes es q t [] 0 (entry_form t) (parts.entries_wide es k.entries) inside (omega arith) (sym (replaced_whole (entry_form (get_or es q [])) (entry_form t) (was ∙ sym wide)))
      ∙ ap (λ (x : List ℕ). replaced x (most_entry_bytes * q + 0) (entry_form t)) (sym (parts.entries_each es)) in
      let stores : stacks_form (set ks m y) ≡ replaced (stacks_form ks) (stack_bytes * m + (most_entry_bytes * q + 0)) (entry_form t) =
      parts.stacks_each (set ks m y)
      ∙ each_set parts.stack_form stack_bytes ks m y fresh_stack (most_entry_bytes * q + 0) (entry_form t) (all_map parts.stack_wide ks g.stacks) less (omega (arith, k.count)) stack
      ∙ ap (λ (x : List ℕ). replaced x (stack_bytes * m + (most_entry_bytes * q + 0)) (entry_form t)) (sym (parts.stacks_each ks)) in
      let points : pointers_form (set ks m y) ≡ pointers_form ks = parts.pointers_each (set ks m y) ∙ each_kept parts.pointer_form ks m y fresh_stack refl ∙ sym (parts.pointers_each ks) in
      let here : entries_from + (stack_bytes * m + (most_entry_bytes * q + 0)) ≡ a = omega arith in
      record {
        in_range = stacks_range st m y g (record { pointer = k.pointer; count = length-set es q t ∙ k.count; entries = all_set EntryInRange es q t k.entries r });
        form =
            ap (λ (x : List ℕ). made st x (values_of st) (increments_of st) (stacks_form (set ks m y))) points
            ∙ ap (made st (pointers_of st) (values_of st) (increments_of st)) stores
            ∙ sym (put_stacks st g (stack_bytes * m + (most_entry_bytes * q + 0)) (entry_form t))
            ∙ ap (λ (x : List ℕ). replaced x (entries_from + (stack_bytes * m + (most_entry_bytes * q + 0))) (entry_form t)) h.form
            ∙ ap (λ (x : ℕ). replaced b x (entry_form t)) here
            ∙ sym d;
      }
