-- A state from its bytes: bytes that pass the check are the form of the state that they decode to, and a form decodes to its state.
use Prim.Native.Nat.{ℕ, zero, suc, ◌+◌, ◌-◌, ◌*◌, ◌≤◌}
use mathlib.Core.Path.{◌≡◌, refl, sym, ap, subst, ◌∙◌}
use mathlib.Core.Bool.{Bool, true, false, not, ◌&&◌, ◌||◌, false≢true}
use mathlib.Core.List.{List, [], ◌∷◌, ◌++◌, map, append_assoc}
use native.Mathlib.Nat.{suc-sub-suc, sub-zero}
use native.Mathlib.Omega.{arith}
use lib.Dec.{leb, eqb}
use borrow.Author.Tests.{leb-true, le-leb, eqb-true, eq-eqb, ne_eqb}
use lib.ListN.{length, get_or, take, drop, replicate, length-append, length-drop, length-map, take-append-drop}
use lib.Seq.{take_at, drop_at, drop-drop, drop-cons, length-take-le}
use Rattle.form_state.specs.Form.{stacks_bytes, state_bytes, entries_from, entry_count}
use Rattle.macros.specs.Formed.{Between, Bytes, Octets}
use Rattle.macros.specs.Bounds.{most_entries, most_entry_bytes, most_counter}
use Rattle.macros.specs.Macro.{within}
use Rattle.form_bytes.specs.Fours.{four, number_at}
use Rattle.form_bytes.proofs.Laws.{four_there, four_back}
use Rattle.lines.specs.State.{Stack, Counter, State, AllOf, EntryInRange, StackInRange, CounterInRange, InRange}
use Rattle.form_state.specs.Form.{pointers_form, values_form, increments_form, entry_form, stacks_form, state_form}
use Rattle.form_state.specs.Form.{entry_form_by, state_form_by}
use Rattle.form_state.specs.FormLaws.{OneStateForm}
use Rattle.form_state.specs.Check.{pointers_check, number_check, entry_check, blocks_check, state_checks, StateCheckExact}
use Rattle.form_state.proofs.Each.{each, itself, chunks, zip, each_append, each_length, each_back, each_chunks, chunks_each, chunks_wide, length_chunks, map_back, all_any, all_map, all_both, all_take, all_drop, all_append, all_chunks, all_of_map, each_all, zip_length, zip_all, zip_left, zip_right, zip_back}
use Rattle.form_state.proofs.Parts as parts

-- TESTS

and_left : (a b : Bool) → a && b ≡ true → a ≡ true
and_left true b e = refl
and_left false b e = e

and_right : (a b : Bool) → a && b ≡ true → b ≡ true
and_right true b e = e
and_right false b e = absurd (false≢true e)

and_both : (a b : Bool) → a ≡ true → b ≡ true → a && b ≡ true
and_both a b p q = rw (p, q)

within_true : (a z n : ℕ) → within a z n ≡ true → Between a z n
unfolding within
within_true a z n e = (leb-true a n (and_left (leb a n) (leb n z) e), leb-true n z (and_right (leb a n) (leb n z) e))

within_of : (a z n : ℕ) → Between a z n → within a z n ≡ true
unfolding within
within_of a z n h = and_both (leb a n) (leb n z) (le-leb a n h.0) (le-leb n z h.1)

module _ (f : List ℕ → Bool) (w : ℕ) where
  pub blocks_true : (n : ℕ) (l : List ℕ) → blocks_check f w n l ≡ true → AllOf (λ c. f c ≡ true) (chunks w n l)
  unfolding blocks_check chunks
  blocks_true zero l e = tt
  blocks_true (suc n) l e = (and_left (f (take w l)) (blocks_check f w n (drop w l)) e, blocks_true n (drop w l) (and_right (f (take w l)) (blocks_check f w n (drop w l)) e))

  pub blocks_of : (n : ℕ) (l : List ℕ) → AllOf (λ c. f c ≡ true) (chunks w n l) → blocks_check f w n l ≡ true
  unfolding blocks_check chunks
  blocks_of zero l h = refl
  blocks_of (suc n) l h = and_both (f (take w l)) (blocks_check f w n (drop w l)) h.0 (blocks_of n (drop w l) h.1)

-- POINTERS

pointers_true : (ps : List ℕ) → pointers_check ps ≡ true → AllOf (Between 1 most_entries) ps
unfolding pointers_check
pointers_true [] e = tt
pointers_true (p ∷ ps) e = (within_true 1 20 p (and_left (within 1 20 p) (pointers_check ps) e), pointers_true ps (and_right (within 1 20 p) (pointers_check ps) e))

pointers_of_lem : (ks : List Stack) → AllOf StackInRange ks → pointers_check (pointers_form ks) ≡ true
unfolding pointers_check pointers_form
pointers_of_lem [] h = refl
pointers_of_lem (k ∷ ks) h = and_both (within 1 20 k.pointer) (pointers_check (pointers_form ks)) (within_of 1 20 k.pointer h.0.pointer) (pointers_of_lem ks h.1)

-- NUMBERS

abbrev pub Number : ℕ → Type 0
Number = Between 1 most_counter

abbrev pub number : List ℕ → ℕ
number c = number_at c 0

pub number_four : (n : ℕ) → Number n → number (four n) ≡ n
unfolding four
number_four n h = four_there n

four_number : (c : List ℕ) → length c ≡ 4 → AllOf parts.Small c → four (number c) ≡ c
four_number [] l s = absurd (omega arith)
four_number (a ∷ []) l s = absurd (omega (arith, l))
four_number (a ∷ b ∷ []) l s = absurd (omega (arith, l))
four_number (a ∷ b ∷ x ∷ []) l s = absurd (omega (arith, l))
four_number (a ∷ b ∷ x ∷ d ∷ []) l s = four_back a b x d s.0 s.1.0 s.1.1.0
four_number (a ∷ b ∷ x ∷ d ∷ y ∷ c) l s = absurd (omega (arith, l))

number_true : (c : List ℕ) → number_check c ≡ true → Number (number c)
unfolding number_check
number_true c e = within_true 1 999999999 (number c) e

number_of : (n : ℕ) → Number n → number_check (four n) ≡ true
unfolding number_check
number_of n h = rw (number_four n h) (within_of 1 999999999 n h)

numbers_right : (n : ℕ) (l : List ℕ) → length l ≡ 4 * n → AllOf parts.Small l → blocks_check number_check 4 n l ≡ true
    → (each four (map number (chunks 4 n l)) ≡ l) × AllOf Number (map number (chunks 4 n l))
numbers_right n l e s p = (
  each_back four number (chunks 4 n l) (all_map (λ c h. four_number c h.0 h.1) (chunks 4 n l) (all_both (λ c. length c ≡ 4) (AllOf parts.Small) (chunks 4 n l) (chunks_wide 4 n l e) (all_chunks parts.Small 4 n l s))) ∙ each_chunks 4 n l e,
  all_of_map Number number (chunks 4 n l) (all_map number_true (chunks 4 n l) (blocks_true number_check 4 n l p)),
)

fours_wide : (ns : List ℕ) → AllOf (λ n. length (four n) ≡ 4) ns
fours_wide ns = all_any (λ n. length (four n) ≡ 4) parts.four_wide ns

numbers_left : (ns : List ℕ) (n : ℕ) → length ns ≡ n → AllOf Number ns → map number (chunks 4 n (each four ns)) ≡ ns
numbers_left ns n e h = rw (← e) (ap (map number) (chunks_each four 4 ns (fours_wide ns)) ∙ map_back four number ns (all_map number_four ns h))

numbers_of_lem : (ns : List ℕ) (n : ℕ) → length ns ≡ n → AllOf Number ns → blocks_check number_check 4 n (each four ns) ≡ true
numbers_of_lem ns n e h =
    blocks_of number_check 4 n (each four ns)
    (rw (← e) (rw (chunks_each four 4 ns (fours_wide ns)) (all_of_map (λ c. number_check c ≡ true) four ns (all_map number_of ns h))))

-- ENTRIES

-- the text in front of the first 0
abbrev text : List ℕ → List ℕ
text [] = []
text (zero ∷ c) = []
text (suc b ∷ c) = suc b ∷ text c

text_bytes_lem : (c : List ℕ) → AllOf parts.Small c → Bytes (text c)
text_bytes_lem [] s = tt
text_bytes_lem (zero ∷ c) s = tt
text_bytes_lem (suc b ∷ c) s = ((omega arith, s.0), text_bytes_lem c s.1)

text_short : (c : List ℕ) → length (text c) ≤ length c
text_short [] = omega arith
text_short (zero ∷ c) = omega arith
text_short (suc b ∷ c) = let h : length (text c) ≤ length c = text_short c in omega arith

zeros : (c : List ℕ) → entry_check (0 ∷ c) ≡ true → c ≡ replicate (length c) 0
unfolding entry_check
zeros [] e = refl
zeros (b ∷ c) e =
    let none : b ≡ 0 = eqb-true b 0 (and_left (eqb b 0) (entry_check (b ∷ c)) e) in
    let rest : entry_check (b ∷ c) ≡ true = and_right (eqb b 0) (entry_check (b ∷ c)) e in
    rw none (ap (λ (t : List ℕ). 0 ∷ t) (zeros c (subst (λ (x : ℕ). entry_check (x ∷ c) ≡ true) none rest)))

tail_checks : (a : ℕ) (c : List ℕ) → entry_check (a ∷ c) ≡ true → entry_check c ≡ true
unfolding entry_check
tail_checks a [] e = refl
tail_checks a (b ∷ c) e = and_right (not (eqb a 0) || eqb b 0) (entry_check (b ∷ c)) e

padded : (c : List ℕ) → entry_check c ≡ true → text c ++ replicate (length c - length (text c)) 0 ≡ c
padded [] e = refl
padded (zero ∷ c) e = rw (sub-zero (suc (length c))) (ap (λ (t : List ℕ). zero ∷ t) (sym (zeros c e)))
padded (suc b ∷ c) e = rw (suc-sub-suc (length c) (length (text c))) (ap (λ (t : List ℕ). suc b ∷ t) (padded c (tail_checks (suc b) c e)))

entry_right : (c : List ℕ) → length c ≡ most_entry_bytes → entry_check c ≡ true → entry_form (text c) ≡ c
unfolding entry_form_by
entry_right c l e = rw (← l) (padded c e)

entry_range : (c : List ℕ) → length c ≡ most_entry_bytes → AllOf parts.Small c → EntryInRange (text c)
entry_range c l s = (text_bytes_lem c s, omega (arith, text_short c))

text_zeros : (n : ℕ) → text (replicate n 0) ≡ []
text_zeros zero = refl
text_zeros (suc n) = refl

text_entry : (e : List ℕ) (n : ℕ) → Bytes e → text (e ++ replicate n 0) ≡ e
text_entry [] n h = text_zeros n
text_entry (zero ∷ e) n h = absurd (omega (arith, h.0))
text_entry (suc b ∷ e) n h = ap (λ (t : List ℕ). suc b ∷ t) (text_entry e n h.1)

entry_left : (e : List ℕ) → EntryInRange e → text (entry_form e) ≡ e
unfolding entry_form_by
entry_left e h = text_entry e (most_entry_bytes - length e) h.0

zeros_check : (n : ℕ) → entry_check (replicate n 0) ≡ true
unfolding entry_check
zeros_check zero = refl
zeros_check (suc zero) = refl
zeros_check (suc (suc n)) = zeros_check (suc n)

cons_checks : (b : ℕ) (c : List ℕ) → 1 ≤ b → entry_check c ≡ true → entry_check (b ∷ c) ≡ true
unfolding entry_check
cons_checks b [] h e = refl
cons_checks b (x ∷ c) h e = rw (ne_eqb b 0 (λ z. omega arith)) e

entry_checks : (e : List ℕ) (n : ℕ) → Bytes e → entry_check (e ++ replicate n 0) ≡ true
entry_checks [] n h = zeros_check n
entry_checks (b ∷ e) n h = cons_checks b (e ++ replicate n 0) h.0.0 (entry_checks e n h.1)

entry_of : (e : List ℕ) → EntryInRange e → entry_check (entry_form e) ≡ true
unfolding entry_form_by
entry_of e h = entry_checks e (most_entry_bytes - length e) h.0

entries_right : (n : ℕ) (l : List ℕ) → length l ≡ most_entry_bytes * n → AllOf parts.Small l → blocks_check entry_check most_entry_bytes n l ≡ true
    → (each entry_form (map text (chunks most_entry_bytes n l)) ≡ l) × AllOf EntryInRange (map text (chunks most_entry_bytes n l))
entries_right n l e s p = (
  each_back entry_form text (chunks most_entry_bytes n l) (all_map (λ c h. entry_right c h.0 h.1) (chunks most_entry_bytes n l) (all_both (λ c. length c ≡ most_entry_bytes) (λ c. entry_check c ≡ true) (chunks most_entry_bytes n l) (chunks_wide most_entry_bytes n l e) (blocks_true entry_check most_entry_bytes n l p))) ∙ each_chunks most_entry_bytes n l e,
  all_of_map EntryInRange text (chunks most_entry_bytes n l)
      (all_map (λ c h. entry_range c h.0 h.1) (chunks most_entry_bytes n l) (all_both (λ c. length c ≡ most_entry_bytes) (AllOf parts.Small) (chunks most_entry_bytes n l) (chunks_wide most_entry_bytes n l e) (all_chunks parts.Small most_entry_bytes n l s))),
)

entries_left : (es : List (List ℕ)) (n : ℕ) → length es ≡ n → AllOf EntryInRange es → map text (chunks most_entry_bytes n (each entry_form es)) ≡ es
entries_left es n e h = rw (← e) (ap (map text) (chunks_each entry_form most_entry_bytes es (parts.entries_wide es h)) ∙ map_back entry_form text es (all_map entry_left es h))

entries_of_lem : (es : List (List ℕ)) (n : ℕ) → length es ≡ n → AllOf EntryInRange es → blocks_check entry_check most_entry_bytes n (each entry_form es) ≡ true
entries_of_lem es n e h =
    blocks_of entry_check most_entry_bytes n (each entry_form es)
    (rw (← e) (rw (chunks_each entry_form most_entry_bytes es (parts.entries_wide es h)) (all_of_map (λ c. entry_check c ≡ true) entry_form es (all_map entry_of es h))))

-- STACKS AND COUNTERS

abbrev make_stack : ℕ → List (List ℕ) → Stack
make_stack p es = record { pointer = p; entries = es }

abbrev make_counter : ℕ → ℕ → Counter
make_counter v i = record { value = v; increment = i }

abbrev single : ℕ → List ℕ
single p = p ∷ []

each_single : (ps : List ℕ) → each single ps ≡ ps
each_single [] = refl
each_single (p ∷ ps) = ap (λ (t : List ℕ). p ∷ t) (each_single ps)

-- the stacks of pointers and entries
unfoldable stacks_from : ℕ → List ℕ → List (List ℕ) → List Stack
stacks_from n ps es = zip make_stack ps (chunks 20 n es)

record StacksRight (n : ℕ) (ps : List ℕ) (es : List (List ℕ)) (ks : List Stack) : Type 0 where
  count : length ks ≡ n
  range : AllOf StackInRange ks
  pointers : pointers_form ks ≡ ps
  entries : stacks_form ks ≡ each entry_form es

stacks_right : (n : ℕ) (ps : List ℕ) (es : List (List ℕ)) → length ps ≡ n → length es ≡ 20 * n → AllOf (Between 1 most_entries) ps → AllOf EntryInRange es
    → StacksRight n ps es (stacks_from n ps es)
unfolding stacks_from
stacks_right n ps es lp le hp he =
    let cs : List (List (List ℕ)) = chunks 20 n es in
    let same : length ps ≡ length cs = lp ∙ sym (length_chunks 20 n es) in
    record {
      count = zip_length make_stack ps cs same ∙ lp;
      range =
          zip_all make_stack (Between 1 most_entries) (λ c. (length c ≡ 20) × AllOf EntryInRange c) StackInRange (λ p c g h. record { pointer = g; count = h.0; entries = h.1 }) ps cs hp
          (all_both (λ c. length c ≡ 20) (AllOf EntryInRange) cs (chunks_wide 20 n es le) (all_chunks EntryInRange 20 n es he));
      pointers = parts.pointers_each (zip make_stack ps cs) ∙ zip_left make_stack parts.pointer_form single (λ p c. refl) ps cs same ∙ each_single ps;
      entries =
          parts.stacks_flat (zip make_stack ps cs) ∙ ap (each entry_form) (zip_right make_stack parts.entries_of itself (λ p c. refl) ps cs same ∙ each_chunks 20 n es le);
    }

stacks_left : (ks : List Stack) (n : ℕ) → length ks ≡ n → AllOf StackInRange ks → stacks_from n (pointers_form ks) (each parts.entries_of ks) ≡ ks
unfolding stacks_from
stacks_left ks n e h =
    rw (← e, parts.pointers_map ks, chunks_each parts.entries_of 20 ks (all_map (λ k g. g.count) ks h)) (zip_back make_stack (λ k. k.pointer) (λ k. k.entries) (λ k. refl) ks)

pub entries_count : (ks : List Stack) (n : ℕ) → length ks ≡ n → AllOf StackInRange ks → length (each parts.entries_of ks) ≡ 20 * n
entries_count ks n e h = each_length parts.entries_of 20 ks (all_map (λ k g. g.count) ks h) ∙ ap (λ (m : ℕ). 20 * m) e

pub entries_all : (ks : List Stack) → AllOf StackInRange ks → AllOf EntryInRange (each parts.entries_of ks)
entries_all ks h = each_all EntryInRange parts.entries_of ks (all_map (λ k g. g.entries) ks h)

-- the counters of their numbers: the values, then the increments
unfoldable counters_from : ℕ → List ℕ → List Counter
counters_from n ns = zip make_counter (take n ns) (drop n ns)

record CountersRight (n : ℕ) (ns : List ℕ) (ks : List Counter) : Type 0 where
  count : length ks ≡ n
  range : AllOf CounterInRange ks
  numbers : values_form ks ++ increments_form ks ≡ each four ns

counters_right : (n : ℕ) (ns : List ℕ) → length ns ≡ n + n → AllOf Number ns → CountersRight n ns (counters_from n ns)
unfolding counters_from
counters_right n ns e h =
    let vs : List ℕ = take n ns in
    let is : List ℕ = drop n ns in
    let first : length vs ≡ n = length-take-le n ns (omega arith) in
    let same : length vs ≡ length is = first ∙ sym (length-drop n ns ∙ omega arith) in
    record {
      count = zip_length make_counter vs is same ∙ first;
      range = zip_all make_counter Number Number CounterInRange (λ v i g k. record { value = g; increment = k }) vs is (all_take Number n ns h) (all_drop Number n ns h);
      numbers =
          rw (parts.values_each (zip make_counter vs is), zip_left make_counter parts.value_form four (λ v i. refl) vs is same, parts.increments_each (zip make_counter vs is), zip_right make_counter parts.increment_form four (λ v i. refl) vs is same)
          (sym (each_append four vs is) ∙ ap (each four) (take-append-drop n ns));
    }

abbrev numbers_of : List Counter → List ℕ
numbers_of ks = map (λ k. k.value) ks ++ map (λ k. k.increment) ks

each_of_map : {A : Type 0} (f : A → ℕ) (ks : List A) → each four (map f ks) ≡ each (λ k. four (f k)) ks
each_of_map f [] = refl
each_of_map f (k ∷ ks) = ap (λ (t : List ℕ). four (f k) ++ t) (each_of_map f ks)

numbers_form : (ks : List Counter) → values_form ks ++ increments_form ks ≡ each four (numbers_of ks)
numbers_form ks =
    rw (parts.values_each ks, parts.increments_each ks, each_append four (map (λ k. k.value) ks) (map (λ k. k.increment) ks), each_of_map (λ (k : Counter). k.value) ks, each_of_map (λ (k : Counter). k.increment) ks)

numbers_range : (ks : List Counter) → AllOf CounterInRange ks → AllOf Number (numbers_of ks)
numbers_range ks h =
    all_append Number (map (λ k. k.value) ks) (map (λ k. k.increment) ks) (all_of_map Number (λ (k : Counter). k.value) ks (all_map (λ k g. g.value) ks h))
    (all_of_map Number (λ (k : Counter). k.increment) ks (all_map (λ k g. g.increment) ks h))

numbers_count : (ks : List Counter) (n : ℕ) → length ks ≡ n → length (numbers_of ks) ≡ n + n
numbers_count ks n e =
    length-append (map (λ k. k.value) ks) (map (λ k. k.increment) ks) ∙ rw (length-map ks (λ k. k.value), length-map ks (λ k. k.increment), e)

counters_left : (ks : List Counter) (n : ℕ) → length ks ≡ n → counters_from n (numbers_of ks) ≡ ks
unfolding counters_from
counters_left ks n e =
    let front : length (map (λ (k : Counter). k.value) ks) ≡ n = length-map ks (λ k. k.value) ∙ e in
    rw (take_at (map (λ k. k.value) ks) (map (λ k. k.increment) ks) n front, drop_at (map (λ k. k.value) ks) (map (λ k. k.increment) ks) n front)
    (zip_back make_counter (λ k. k.value) (λ k. k.increment) (λ k. refl) ks)

-- THE STATE

unfoldable state_of : List ℕ → State
state_of b =
    record {
      stacks = stacks_from 26 (take 26 (drop 2 b)) (map text (chunks most_entry_bytes entry_count (drop entries_from b)));
      counters = counters_from 26 (map number (chunks 4 52 (take 208 (drop 28 b))));
      trace = get_or b 0 0;
      nflag = get_or b 1 0;
      entry_bytes = most_entry_bytes;
    }

trace_first : (st : State) → get_or (state_form st) 0 0 ≡ st.trace
unfolding state_form_by
trace_first st = refl

nflag_second : (st : State) → get_or (state_form st) 1 0 ≡ st.nflag
unfolding state_form_by
nflag_second st = refl

-- a form decodes to its state
decodes : (st : State) → InRange st → state_of (state_form st) ≡ st
unfolding state_of
decodes st h =
    let stacks : stacks_from 26 (take 26 (drop 2 (state_form st))) (map text (chunks most_entry_bytes entry_count (drop entries_from (state_form st)))) ≡ st.stacks =
    rw (parts.pointers_part st h, parts.stacks_part st h, parts.stacks_flat st.stacks, entries_left (each parts.entries_of st.stacks) entry_count (entries_count st.stacks 26 h.stack_count h.stacks) (entries_all st.stacks h.stacks))
    (stacks_left st.stacks 26 h.stack_count h.stacks) in
    let counters : counters_from 26 (map number (chunks 4 52 (take 208 (drop 28 (state_form st))))) ≡ st.counters =
    rw (parts.numbers_part st h, numbers_form st.counters, numbers_left (numbers_of st.counters) 52 (numbers_count st.counters 26 h.counter_count) (numbers_range st.counters h.counters))
    (counters_left st.counters 26 h.counter_count) in
    rw (stacks, counters, trace_first st, nflag_second st)
    (ap (λ (n : ℕ). record { stacks = st.stacks; counters = st.counters; trace = st.trace; nflag = st.nflag; entry_bytes = n }) (sym h.entry_bytes))

pub one_state_form : OneStateForm
one_state_form st other h g e = sym (decodes st h) ∙ ap state_of e ∙ decodes other g

-- a form passes
form_passes : (st : State) → InRange st → state_checks (state_form st) ≡ true
unfolding state_checks
form_passes st h =
    let b : List ℕ = state_form st in
    let entries : blocks_check entry_check most_entry_bytes entry_count (drop entries_from b) ≡ true =
    rw (parts.stacks_part st h, parts.stacks_flat st.stacks) (entries_of_lem (each parts.entries_of st.stacks) entry_count (entries_count st.stacks 26 h.stack_count h.stacks) (entries_all st.stacks h.stacks)) in
    let numbers : blocks_check number_check 4 52 (take 208 (drop 28 b)) ≡ true =
    rw (parts.numbers_part st h, numbers_form st.counters) (numbers_of_lem (numbers_of st.counters) 52 (numbers_count st.counters 26 h.counter_count) (numbers_range st.counters h.counters)) in
    let pointers : pointers_check (take 26 (drop 2 b)) ≡ true = rw (parts.pointers_part st h) (pointers_of_lem st.stacks h.stacks) in
    let trace : leb (get_or b 0 0) 1 ≡ true = rw (trace_first st) (le-leb st.trace 1 h.trace) in
    let nflag : leb (get_or b 1 0) 1 ≡ true = rw (nflag_second st) (le-leb st.nflag 1 h.nflag) in
    rw (eq-eqb (length b) state_bytes (parts.size st h), trace, nflag, pointers, numbers, entries)

-- what the check says, part by part
record Passed (b : List ℕ) : Type 0 where
  size : length b ≡ state_bytes
  trace : get_or b 0 0 ≤ 1
  nflag : get_or b 1 0 ≤ 1
  pointers : AllOf (Between 1 most_entries) (take 26 (drop 2 b))
  numbers : blocks_check number_check 4 52 (take 208 (drop 28 b)) ≡ true
  entries : blocks_check entry_check most_entry_bytes entry_count (drop entries_from b) ≡ true

passes_in : (a b c d e f : Bool) → a && (b && (c && (d && (e && f)))) ≡ true → (a ≡ true) × (b ≡ true) × (c ≡ true) × (d ≡ true) × (e ≡ true) × (f ≡ true)
passes_in true true true true true true q = (refl, refl, refl, refl, refl, refl)
passes_in true true true true true false q = absurd (false≢true q)
passes_in true true true true false f q = absurd (false≢true q)
passes_in true true true false e f q = absurd (false≢true q)
passes_in true true false d e f q = absurd (false≢true q)
passes_in true false c d e f q = absurd (false≢true q)
passes_in false b c d e f q = absurd (false≢true q)

passes : (b : List ℕ) → state_checks b ≡ true → Passed b
unfolding state_checks
passes b e =
    let h = passes_in (eqb (length b) state_bytes) (leb (get_or b 0 0) 1) (leb (get_or b 1 0) 1) (pointers_check (take 26 (drop 2 b))) (blocks_check number_check 4 52 (take 208 (drop 28 b))) (blocks_check entry_check most_entry_bytes entry_count (drop entries_from b)) e in
    record {
      size = eqb-true (length b) state_bytes h.0;
      trace = leb-true (get_or b 0 0) 1 h.1;
      nflag = leb-true (get_or b 1 0) 1 h.2;
      pointers = pointers_true (take 26 (drop 2 b)) h.3;
      numbers = h.4;
      entries = h.5;
    }

-- bytes are their two first, and what is behind
cut : (b : List ℕ) → length b ≡ state_bytes → get_or b 0 0 ∷ get_or b 1 0 ∷ (take 26 (drop 2 b) ++ (take 208 (drop 28 b) ++ drop entries_from b)) ≡ b
cut b h =
    let behind : take 208 (drop 28 b) ++ drop entries_from b ≡ drop 28 b = ap (λ (t : List ℕ). take 208 (drop 28 b) ++ t) (sym (drop-drop 208 28 b)) ∙ take-append-drop 208 (drop 28 b) in
    let rest : take 26 (drop 2 b) ++ drop 28 b ≡ drop 2 b = ap (λ (t : List ℕ). take 26 (drop 2 b) ++ t) (sym (drop-drop 26 2 b)) ∙ take-append-drop 26 (drop 2 b) in
    rw (behind, rest) (ap (λ (t : List ℕ). get_or b 0 0 ∷ t) (sym (drop-cons b 1 0 (omega arith))) ∙ sym (drop-cons b 0 0 (omega arith)))

-- what passes is a form
passed : (b : List ℕ) → Octets b → Passed b → InRange (state_of b) × (state_form (state_of b) ≡ b)
unfolding state_of state_form_by
passed b o p =
    let small : AllOf parts.Small b = parts.octets_all b o in
    let ps : List ℕ = take 26 (drop 2 b) in
    let first : length ps ≡ 26 = length-take-le 26 (drop 2 b) (omega (arith, p.size, length-drop 2 b)) in
    let wide : length (take 208 (drop 28 b)) ≡ 208 = length-take-le 208 (drop 28 b) (omega (arith, p.size, length-drop 28 b)) in
    let long : length (drop entries_from b) ≡ stacks_bytes = length-drop entries_from b ∙ omega (arith, p.size) in
    let ns = numbers_right 52 (take 208 (drop 28 b)) wide (all_take parts.Small 208 (drop 28 b) (all_drop parts.Small 28 b small)) p.numbers in
    let es = entries_right entry_count (drop entries_from b) long (all_drop parts.Small entries_from b small) p.entries in
    let cs = counters_right 26 (map number (chunks 4 52 (take 208 (drop 28 b)))) (length-map (chunks 4 52 (take 208 (drop 28 b))) number ∙ length_chunks 4 52 (take 208 (drop 28 b))) ns.1 in
    let ks = stacks_right 26 ps (map text (chunks most_entry_bytes entry_count (drop entries_from b))) first (length-map (chunks most_entry_bytes entry_count (drop entries_from b)) text ∙ length_chunks most_entry_bytes entry_count (drop entries_from b)) p.pointers es.1 in
    let vs = counters_from 26 (map number (chunks 4 52 (take 208 (drop 28 b)))) in (
      record { stack_count = ks.count; stacks = ks.range; counter_count = cs.count; counters = cs.range; trace = p.trace; nflag = p.nflag; entry_bytes = refl },
      rw (ks.pointers, ks.entries, es.0, ← append_assoc (values_form vs) (increments_form vs) (drop entries_from b), cs.numbers, ns.0) (cut b p.size),
    )

pub state_check_exact : StateCheckExact
state_check_exact b o =
    (λ e. (state_of b, (passed b o (passes b e)).0, (passed b o (passes b e)).1), λ s. ap state_checks (sym s.2) ∙ form_passes s.0 s.1)
