-- The laws of states of the old size.
use Prim.Native.Nat.{ℕ, zero, suc, ◌*◌}
use mathlib.Core.Path.{◌≡◌, refl, sym, ap, ◌∙◌}
use mathlib.Core.Logic.{◌↔◌}
use mathlib.Core.Bool.{true}
use mathlib.Core.List.{List, [], ◌∷◌, ◌++◌, append_assoc}
use native.Mathlib.Omega.{arith}
use lib.ListN.{length, take, drop, replicate, length-append, length-drop, take-append-drop}
use lib.Seq.{take_at, drop_at, length-take-le}
use Rattle.macros.specs.Bounds.{letters, most_entries, most_entry_bytes, old_entry_bytes}
use Rattle.macros.specs.Formed.{Octets}
use Rattle.lines.specs.State.{Stack, State, AllOf, fresh_stack, fresh, EntryInRange, InRange}
use Rattle.lines.proofs.KeepState.{fresh_in_range}
use Rattle.m_widths.specs.Widths.{bounded, widened, narrowed, Short}
use Rattle.form_state.specs.Form.{entries_from, entry_count, pointers_form, values_form, increments_form, entry_form, entry_form_by, stacks_form_by, state_form, state_form_by}
use Rattle.form_state.specs.Check.{blocks_check, state_checks}
use Rattle.form_state.proofs.Each.{each, each_length, each_all, all_map, all_append, all_take, all_drop}
use Rattle.form_state.proofs.Parts as parts
use Rattle.form_state.proofs.Decode.{entries_count, entries_all, one_state_form, state_check_exact}
use Rattle.form_old.specs.Old.{old_state_bytes, HoldsOld, widened_entries, widened_bytes, narrowed_entries, narrowed_bytes, short_check, short_entries}
use Rattle.form_old.specs.OldLaws.{OldFresh, OldSize, OldOneForm, WidensForm, OldExact, NarrowsForm, ShortExact}
use Rattle.form_old.proofs.Entries.{Few, widened_each, narrowed_each, back, small_entries, all_few, few_all, widened_short}

-- the front of a form, which is the same in both sizes
abbrev front : State → List ℕ
front st = st.trace ∷ st.nflag ∷ (pointers_form st.stacks ++ (values_form st.counters ++ increments_form st.counters))

-- the entries of all stacks
abbrev entries_in : State → List (List ℕ)
entries_in st = each parts.entries_of st.stacks

front_is : (n : ℕ) (st : State) → state_form_by n st ≡ front st ++ each (entry_form_by n) (entries_in st)
unfolding state_form_by
front_is n st =
    let p : List ℕ = pointers_form st.stacks in
    let v : List ℕ = values_form st.counters in
    let i : List ℕ = increments_form st.counters in
    let s : List ℕ = stacks_form_by n st.stacks in
    ap (λ (t : List ℕ). st.trace ∷ st.nflag ∷ t) (ap (λ (t : List ℕ). p ++ t) (sym (append_assoc v i s)) ∙ sym (append_assoc p (v ++ i) s))
    ∙ ap (λ (t : List ℕ). front st ++ t) (parts.stacks_by n st.stacks)

-- the form does not show the bound
pub bound_free : (n m : ℕ) (st : State) → state_form_by n st ≡ state_form_by n (bounded m st)
unfolding state_form_by
bound_free n m st = refl

all_split : {A : Type 0} (P : A → Type 0) (xs ys : List A) → AllOf P (xs ++ ys) → AllOf P xs × AllOf P ys
all_split P [] ys h = (tt, h)
all_split P (x ∷ xs) ys h = let k = all_split P xs ys h.1 in ((h.0, k.0), k.1)

short_each : (ks : List Stack) → AllOf Few (each parts.entries_of ks) → AllOf (λ (k : Stack). AllOf Few k.entries) ks
short_each [] h = tt
short_each (k ∷ ks) h = let p = all_split Few k.entries (each parts.entries_of ks) h in (p.0, short_each ks p.1)

module _ (st : State) (h : InRange st) where
  front_long : length (front st) ≡ entries_from
  front_long = omega (arith, length-append (pointers_form st.stacks) (values_form st.counters ++ increments_form st.counters), parts.pointers_26 st h, parts.numbers_208 st h)

  count : length (entries_in st) ≡ entry_count
  count = entries_count st.stacks 26 h.stack_count h.stacks

  in_range_lem : AllOf EntryInRange (entries_in st)
  in_range_lem = entries_all st.stacks h.stacks

  front_of : (n : ℕ) → take entries_from (state_form_by n st) ≡ front st
  front_of n = ap (take entries_from) (front_is n st) ∙ take_at (front st) (each (entry_form_by n) (entries_in st)) entries_from front_long

  entries_of_lem : (n : ℕ) → drop entries_from (state_form_by n st) ≡ each (entry_form_by n) (entries_in st)
  entries_of_lem n = ap (drop entries_from) (front_is n st) ∙ drop_at (front st) (each (entry_form_by n) (entries_in st)) entries_from front_long

  all_short : Short st → AllOf Few (entries_in st)
  all_short s = each_all Few parts.entries_of st.stacks s

  widened_form : Short st → widened_bytes (state_form_by old_entry_bytes st) ≡ state_form st
  unfolding widened_bytes
  widened_form s =
      rw (front_of old_entry_bytes, entries_of_lem old_entry_bytes)
      (ap (λ (t : List ℕ). front st ++ t)
      (ap (λ (k : ℕ). widened_entries k (each (entry_form_by old_entry_bytes) (entries_in st))) (sym count) ∙ widened_each (entries_in st) (all_short s))
      ∙ sym (front_is most_entry_bytes st))

  narrowed_form : Short st → narrowed_bytes (state_form st) ≡ state_form_by old_entry_bytes st
  unfolding narrowed_bytes
  narrowed_form s =
      rw (front_of most_entry_bytes, entries_of_lem most_entry_bytes)
      (ap (λ (t : List ℕ). front st ++ t)
      (ap (λ (k : ℕ). narrowed_entries k (each entry_form (entries_in st))) (sym count) ∙ narrowed_each (entries_in st) (all_short s))
      ∙ sym (front_is old_entry_bytes st))

  check_entries : short_entries (state_form st) ≡ blocks_check short_check most_entry_bytes (length (entries_in st)) (each entry_form (entries_in st))
  unfolding short_entries
  check_entries = rw (entries_of_lem most_entry_bytes, count)

  short_form : (short_entries (state_form st) ≡ true) ↔ Short st
  short_form = (
    λ e. short_each st.stacks (all_few (entries_in st) in_range_lem (sym check_entries ∙ e)),
    λ s. check_entries ∙ few_all (entries_in st) in_range_lem (all_short s),
  )

  old_long : Short st → length (state_form_by old_entry_bytes st) ≡ old_state_bytes
  old_long s =
      let es : length (each (entry_form_by old_entry_bytes) (entries_in st)) ≡ 50 * length (entries_in st) =
      each_length (entry_form_by old_entry_bytes) old_entry_bytes (entries_in st) (all_map (parts.entry_by old_entry_bytes) (entries_in st) (all_short s)) in
      ap length (front_is old_entry_bytes st) ∙ length-append (front st) (each (entry_form_by old_entry_bytes) (entries_in st)) ∙ omega (arith, front_long, count)

-- bytes of the old size, widened
module _ (b : List ℕ) (l : length b ≡ old_state_bytes) where
  entries_long : length (drop entries_from b) ≡ 50 * 520
  entries_long = length-drop entries_from b ∙ omega arith

  head_long : length (take entries_from b) ≡ entries_from
  head_long = length-take-le entries_from b (omega arith)

  short_widened : short_entries (widened_bytes b) ≡ true
  unfolding short_entries widened_bytes
  short_widened =
      rw (drop_at (take entries_from b) (widened_entries entry_count (drop entries_from b)) entries_from head_long) (widened_short 520 (drop entries_from b) entries_long)

  back_again : narrowed_bytes (widened_bytes b) ≡ b
  unfolding narrowed_bytes widened_bytes
  back_again =
      rw (
        take_at (take entries_from b) (widened_entries entry_count (drop entries_from b)) entries_from head_long,
        drop_at (take entries_from b) (widened_entries entry_count (drop entries_from b)) entries_from head_long,
        back 520 (drop entries_from b) entries_long,
      )
      (take-append-drop entries_from b)

octets_widened : (b : List ℕ) → Octets b → Octets (widened_bytes b)
unfolding widened_bytes
octets_widened b o =
    let s : AllOf parts.Small b = parts.octets_all b o in
    parts.all_octets (widened_bytes b)
    (all_append parts.Small (take entries_from b) (widened_entries entry_count (drop entries_from b)) (all_take parts.Small entries_from b s)
    (small_entries entry_count (drop entries_from b) (all_drop parts.Small entries_from b s)))

-- THE LAWS

pub widens_form : WidensForm
widens_form b st h = ap widened_bytes (sym h.form ∙ bound_free old_entry_bytes most_entry_bytes st) ∙ widened_form (widened st) h.in_range h.short

pub old_size : OldSize
old_size b st h = ap length (sym h.form ∙ bound_free old_entry_bytes most_entry_bytes st) ∙ old_long (widened st) h.in_range h.short

pub old_one_form : OldOneForm
old_one_form b st other h g =
    let e : widened st ≡ widened other = one_state_form (widened st) (widened other) h.in_range g.in_range (sym (widens_form b st h) ∙ widens_form b other g) in
    let k : st.entry_bytes ≡ other.entry_bytes = h.old ∙ sym g.old in
    λ i. record { stacks = (e i).stacks; counters = (e i).counters; trace = (e i).trace; nflag = (e i).nflag; entry_bytes = k i }

pub narrows_form : NarrowsForm
narrows_form b st h s = ap narrowed_bytes (sym h.form) ∙ narrowed_form st h.in_range s

pub short_exact : ShortExact
short_exact b st h = (λ e. (short_form st h.in_range).0 (ap short_entries h.form ∙ e), λ s. ap short_entries (sym h.form) ∙ (short_form st h.in_range).1 s)

-- a state without an entry over 50 bytes, in the old form
pub holds_old : (b : List ℕ) (st : State) → InRange st → Short st → state_form_by old_entry_bytes st ≡ b → HoldsOld b (narrowed st)
holds_old b st r s f =
    record {
      old = refl;
      in_range = record { stack_count = r.stack_count; stacks = r.stacks; counter_count = r.counter_count; counters = r.counters; trace = r.trace; nflag = r.nflag; entry_bytes = refl };
      short = s;
      form = sym (bound_free old_entry_bytes old_entry_bytes st) ∙ f;
    }

all_same : {A : Type 0} (P : A → Type 0) (n : ℕ) (x : A) → P x → AllOf P (replicate n x)
all_same P zero x h = tt
all_same P (suc n) x h = (h, all_same P n x h)

pub old_fresh : OldFresh
unfolding fresh fresh_stack
old_fresh =
    holds_old _ fresh fresh_in_range
    (all_same (λ (k : Stack). AllOf Few k.entries) letters fresh_stack (all_same Few most_entries [] (omega arith))) refl

pub old_exact : OldExact
old_exact b o l = (there, here)
  where
    there : state_checks (widened_bytes b) ≡ true → (st : State) × HoldsOld b st
    there e =
        let k = (state_check_exact (widened_bytes b) (octets_widened b o)).0 e in
        let st : State = k.0 in
        let r : InRange st = k.1 in
        let s : Short st = (short_form st r).0 (ap short_entries k.2 ∙ short_widened b l) in
        let f : state_form_by old_entry_bytes st ≡ b = sym (narrowed_form st r s) ∙ ap narrowed_bytes k.2 ∙ back_again b l in (narrowed st, holds_old b st r s f)

    here : (st : State) × HoldsOld b st → state_checks (widened_bytes b) ≡ true
    here w =
        let st : State = w.0 in
        let h : HoldsOld b st = w.1 in
        ap state_checks (widens_form b st h) ∙ (state_check_exact (state_form (widened st)) (parts.state_size_lem (widened st) h.in_range).1).1 (widened st, h.in_range, refl)
