-- The form of a state by its parts: each is put together from parts of one width.
use Prim.Native.Nat.{ℕ, zero, suc, ◌-◌, ◌*◌, ◌≤◌}
use mathlib.Core.Path.{◌≡◌, refl, sym, ap, ◌∙◌}
use mathlib.Core.List.{List, [], ◌∷◌, ◌++◌, map, append_assoc}
use native.Mathlib.Omega.{arith}
use lib.ListN.{length, take, drop, replicate, length-append, length-replicate}
use lib.Seq.{take_at, drop_at, drop-drop}
use Rattle.form_state.specs.Form.{stack_bytes, stacks_bytes, entries_from}
use Rattle.macros.specs.Formed.{Between, Bytes, Octets}
use Rattle.macros.specs.Bounds.{most_counter, most_entry_bytes}
use Rattle.form_bytes.specs.Fours.{four}
use Rattle.lines.specs.State.{Stack, Counter, State, AllOf, EntryInRange, StackInRange, InRange}
use Rattle.form_state.specs.Form.{state_bytes, pointers_form, values_form, increments_form, entry_form, entries_form, stacks_form, state_form}
use Rattle.form_state.specs.Form.{entry_form_by, entries_form_by, stacks_form_by, state_form_by}
use Rattle.form_state.specs.FormLaws.{StateSize}
use Rattle.form_state.proofs.Each.{each, each_append, each_length, each_all, all_any, all_map, all_append}

abbrev pub pointer_form : Stack → List ℕ
pointer_form k = k.pointer ∷ []

abbrev pub value_form : Counter → List ℕ
value_form k = four k.value

abbrev pub increment_form : Counter → List ℕ
increment_form k = four k.increment

abbrev pub stack_form : Stack → List ℕ
stack_form k = entries_form k.entries

abbrev pub entries_of : Stack → List (List ℕ)
entries_of k = k.entries

pub pointers_each : (ks : List Stack) → pointers_form ks ≡ each pointer_form ks
unfolding pointers_form
pointers_each [] = refl
pointers_each (k ∷ ks) = ap (λ (t : List ℕ). k.pointer ∷ t) (pointers_each ks)

pub pointers_map : (ks : List Stack) → pointers_form ks ≡ map (λ k. k.pointer) ks
unfolding pointers_form
pointers_map [] = refl
pointers_map (k ∷ ks) = ap (λ (t : List ℕ). k.pointer ∷ t) (pointers_map ks)

pub values_each : (ks : List Counter) → values_form ks ≡ each value_form ks
unfolding values_form
values_each [] = refl
values_each (k ∷ ks) = ap (λ (t : List ℕ). four k.value ++ t) (values_each ks)

pub increments_each : (ks : List Counter) → increments_form ks ≡ each increment_form ks
unfolding increments_form
increments_each [] = refl
increments_each (k ∷ ks) = ap (λ (t : List ℕ). four k.increment ++ t) (increments_each ks)

-- for entries of n bytes
pub entries_by : (n : ℕ) (es : List (List ℕ)) → entries_form_by n es ≡ each (entry_form_by n) es
unfolding entries_form_by
entries_by n [] = refl
entries_by n (e ∷ es) = ap (λ (t : List ℕ). entry_form_by n e ++ t) (entries_by n es)

pub entries_each : (es : List (List ℕ)) → entries_form es ≡ each entry_form es
entries_each = entries_by most_entry_bytes

pub stacks_each : (ks : List Stack) → stacks_form ks ≡ each stack_form ks
unfolding stacks_form_by
stacks_each [] = refl
stacks_each (k ∷ ks) = ap (λ (t : List ℕ). entries_form k.entries ++ t) (stacks_each ks)

pub stacks_by : (n : ℕ) (ks : List Stack) → stacks_form_by n ks ≡ each (entry_form_by n) (each entries_of ks)
unfolding stacks_form_by
stacks_by n [] = refl
stacks_by n (k ∷ ks) = rw (entries_by n k.entries, stacks_by n ks) (sym (each_append (entry_form_by n) k.entries (each entries_of ks)))

pub stacks_flat : (ks : List Stack) → stacks_form ks ≡ each entry_form (each entries_of ks)
stacks_flat = stacks_by most_entry_bytes

-- WIDTHS

pub four_wide : (n : ℕ) → length (four n) ≡ 4
unfolding four
four_wide n = refl

pub entry_by : (n : ℕ) (e : List ℕ) → length e ≤ n → length (entry_form_by n e) ≡ n
unfolding entry_form_by
entry_by n e h = rw (length-append e (replicate (n - length e) 0), length-replicate {A = ℕ} (n - length e) 0) (omega arith)

pub entry_wide : (e : List ℕ) → EntryInRange e → length (entry_form e) ≡ most_entry_bytes
entry_wide e h = entry_by most_entry_bytes e h.1

pub entries_wide : (es : List (List ℕ)) → AllOf EntryInRange es → AllOf (λ e. length (entry_form e) ≡ most_entry_bytes) es
entries_wide es h = all_map entry_wide es h

pub stack_wide : (k : Stack) → StackInRange k → length (stack_form k) ≡ stack_bytes
stack_wide k h = ap length (entries_each k.entries) ∙ each_length entry_form most_entry_bytes k.entries (entries_wide k.entries h.entries) ∙ ap (λ (n : ℕ). most_entry_bytes * n) h.count

pub length_pointers : (ks : List Stack) → length (pointers_form ks) ≡ length ks
unfolding pointers_form
length_pointers [] = refl
length_pointers (k ∷ ks) = ap suc (length_pointers ks)

pub length_values : (ks : List Counter) → length (values_form ks) ≡ 4 * length ks
length_values ks = ap length (values_each ks) ∙ each_length value_form 4 ks (all_any (λ k. length (value_form k) ≡ 4) (λ k. four_wide k.value) ks)

pub length_increments : (ks : List Counter) → length (increments_form ks) ≡ 4 * length ks
length_increments ks = ap length (increments_each ks) ∙ each_length increment_form 4 ks (all_any (λ k. length (increment_form k) ≡ 4) (λ k. four_wide k.increment) ks)

pub length_stacks : (ks : List Stack) → AllOf StackInRange ks → length (stacks_form ks) ≡ stack_bytes * length ks
length_stacks ks h = ap length (stacks_each ks) ∙ each_length stack_form stack_bytes ks (all_map stack_wide ks h)

-- WHERE THE PARTS STAND

module _ (st : State) (h : InRange st) where
  pub pointers_26 : length (pointers_form st.stacks) ≡ 26
  pointers_26 = length_pointers st.stacks ∙ h.stack_count

  pub values_104 : length (values_form st.counters) ≡ 104
  values_104 = length_values st.counters ∙ ap (λ (n : ℕ). 4 * n) h.counter_count

  pub increments_104 : length (increments_form st.counters) ≡ 104
  increments_104 = length_increments st.counters ∙ ap (λ (n : ℕ). 4 * n) h.counter_count

  pub numbers_208 : length (values_form st.counters ++ increments_form st.counters) ≡ 208
  numbers_208 = rw (length-append (values_form st.counters) (increments_form st.counters), values_104, increments_104)

  pub stacks_long : length (stacks_form st.stacks) ≡ stacks_bytes
  stacks_long = length_stacks st.stacks h.stacks ∙ ap (λ (n : ℕ). stack_bytes * n) h.stack_count

  pub pointers_part : take 26 (drop 2 (state_form st)) ≡ pointers_form st.stacks
  unfolding state_form_by
  pointers_part = take_at (pointers_form st.stacks) (values_form st.counters ++ (increments_form st.counters ++ stacks_form st.stacks)) 26 pointers_26

  behind : drop 28 (state_form st) ≡ (values_form st.counters ++ increments_form st.counters) ++ stacks_form st.stacks
  unfolding state_form_by
  behind =
      drop_at (pointers_form st.stacks) (values_form st.counters ++ (increments_form st.counters ++ stacks_form st.stacks)) 26 pointers_26
      ∙ sym (append_assoc (values_form st.counters) (increments_form st.counters) (stacks_form st.stacks))

  pub numbers_part : take 208 (drop 28 (state_form st)) ≡ values_form st.counters ++ increments_form st.counters
  numbers_part = ap (take 208) behind ∙ take_at (values_form st.counters ++ increments_form st.counters) (stacks_form st.stacks) 208 numbers_208

  pub stacks_part : drop entries_from (state_form st) ≡ stacks_form st.stacks
  stacks_part = sym (drop-drop 208 28 (state_form st)) ∙ ap (drop 208) behind ∙ drop_at (values_form st.counters ++ increments_form st.counters) (stacks_form st.stacks) 208 numbers_208

  pub size : length (state_form st) ≡ state_bytes
  unfolding state_form_by
  size =
      rw (
        length-append (pointers_form st.stacks) (values_form st.counters ++ (increments_form st.counters ++ stacks_form st.stacks)),
        length-append (values_form st.counters) (increments_form st.counters ++ stacks_form st.stacks),
        length-append (increments_form st.counters) (stacks_form st.stacks),
        pointers_26,
        values_104,
        increments_104,
        stacks_long,
      )

-- BYTES

abbrev pub Small : ℕ → Type 0
Small b = b ≤ 255

pub octets_all : (b : List ℕ) → Octets b → AllOf Small b
octets_all [] h = tt
octets_all (x ∷ b) h = (h.0, octets_all b h.1)

pub all_octets : (b : List ℕ) → AllOf Small b → Octets b
all_octets [] h = tt
all_octets (x ∷ b) h = (h.0, all_octets b h.1)

four_small : (n : ℕ) → Between 1 most_counter n → AllOf Small (four n)
unfolding four
four_small n h = (omega arith, (omega arith, (omega arith, (omega (arith, h.1), tt))))

bytes_small : (e : List ℕ) → Bytes e → AllOf Small e
bytes_small [] h = tt
bytes_small (b ∷ e) h = (h.0.1, bytes_small e h.1)

pub zeros_small : (n : ℕ) → AllOf Small (replicate n 0)
zeros_small zero = tt
zeros_small (suc n) = (omega arith, zeros_small n)

entry_small : (e : List ℕ) → EntryInRange e → AllOf Small (entry_form e)
unfolding entry_form_by
entry_small e h = all_append Small e (replicate (most_entry_bytes - length e) 0) (bytes_small e h.0) (zeros_small (most_entry_bytes - length e))

stack_small : (k : Stack) → StackInRange k → AllOf Small (stack_form k)
stack_small k h = rw (entries_each k.entries) (each_all Small entry_form k.entries (all_map entry_small k.entries h.entries))

pub state_size_lem : StateSize
unfolding state_form_by
state_size_lem st h = (
  size st h,
  all_octets (state_form st) (
    omega (arith, h.trace),
    (
      omega (arith, h.nflag),
      all_append Small (pointers_form st.stacks) _ (rw (pointers_each st.stacks) (each_all Small pointer_form st.stacks (all_map (λ k g. (omega (arith, g.pointer.1), tt)) st.stacks h.stacks)))
          (all_append Small (values_form st.counters) _ (rw (values_each st.counters) (each_all Small value_form st.counters (all_map (λ k g. four_small k.value g.value) st.counters h.counters)))
          (all_append Small (increments_form st.counters) _ (rw (increments_each st.counters) (each_all Small increment_form st.counters (all_map (λ k g. four_small k.increment g.increment) st.counters h.counters)))
          (rw (stacks_each st.stacks) (each_all Small stack_form st.stacks (all_map stack_small st.stacks h.stacks))))),
    ),
  ),
)
