-- One macro or one fault more: what reading past faults stands at then, and what the lent bytes hold.
-- Assumes nothing.
use mathlib.Core.Path.{◌≡◌, refl, ap, sym, ◌∙◌}
use mathlib.Core.Bool.{true}
use mathlib.Core.List.{List, [], ◌∷◌, ◌++◌, reverse, append_assoc, append-nil}
use mathlib.Core.Option.{Option, none, some}
use Prim.Native.Nat.{ℕ, suc, ◌+◌, ◌-◌, ◌*◌, ◌≤◌, ◌<◌}
use native.Mathlib.Omega.{arith}
use lib.ListN.{length, take, drop, replicate, length-append, length-drop, length-replicate, length-reverse}
use lib.Seq.{take_at, drop-append-add}
use Rattle.form_bytes.specs.Fours.{four}
use Rattle.macros.specs.Bounds.{most_macros}
use Rattle.macros.specs.Refusals.{file_number}
use Rattle.macros.specs.Macro.{Macro, Table}
use Rattle.form_table.specs.Form.{slot_bytes, table_bytes, slot, slots, form}
use Rattle.form_items.specs.Items.{Wrote}
use Rattle.form_items.proofs.Writing.{wrote_is}
use Rattle.faults.specs.Refusal.{most_faults, recover_number, recover_place}
use Rattle.faults.specs.Refusal.RecoverRefusal.{as_before, too_many_faults}
use Rattle.faults.specs.Recover.{Fault, Recovered, behind_first, is_fault, recover_from, resumed, with_fault}
use Rattle.faults.specs.Recover.Fault.{fault_at}
use Rattle.faults.specs.Recover.Recovered.{kept, refused}
use Rattle.faults.proofs.Exactly.{Found, look_for, listed}
use Rattle.faults.proofs.Exactly.Found.{nowhere, there}
use Rattle.form_faults.specs.Form.{fault_items, faults_bytes, faults_form}
use Rattle.form_faults.proofs.Laws.{form_length}
use Rattle.read_scan.specs.Scan.{fault_of}
use Rattle.read_scan.specs.declared.FileFault.{FileFault}
use Rattle.read_scan.specs.declared.ReadError.{ReadError}
use Rattle.read_fault.specs.declared.PastError.{PastError}
use Rattle.read_fault.specs.declared.Progress.{Progress}
use Rattle.std.specs.Prelude as std
use Rattle.std.specs.Prelude.{Some, None, Result, Ok, Err}
use Rattle.read_start.specs.Next.{next_from}
use Rattle.read_start.specs.Next.Coming.{refused_at, no_more}
use Rattle.read_file.specs.File.{InSlot}
use Rattle.read_file.proofs.Adding.{slots_append}
use Rattle.read_start.proofs.Coming.{next_place}
use Rattle.read_past.specs.Past.{Moved, Standing, with_faults}
use Rattle.read_fault.specs.Noting.{Notes, as_option, resumes_at}
use Rattle.read_fault.specs.Noting.Notes.{listed as noted, one_too_many, unlisted}
use Rattle.read_fault.proofs.Listing.{zeros_drop}
use Rattle.read_past.proofs.Stretching.{recover_end, recover_fault, recover_macro, recover_refused}

-- FAULTS BEFORE THOSE OF THE REST

with_kept : (fs : List Fault) (ms : Table) (gs : List Fault) → with_faults fs (kept ms gs) ≡ kept ms (fs ++ gs)
unfolding with_faults with_fault
with_kept [] ms gs = refl
with_kept (f ∷ fs) ms gs = ap (with_fault f) (with_kept fs ms gs)

with_refused : (fs : List Fault) (v : _) → with_faults fs (refused v) ≡ refused v
unfolding with_faults with_fault
with_refused [] v = refl
with_refused (f ∷ fs) v = ap (with_fault f) (with_refused fs v)

with_one : (fs : List Fault) (f : Fault) (v : Recovered) → with_faults fs (with_fault f v) ≡ with_faults (fs ++ (f ∷ [])) v
unfolding with_faults
with_one [] f v = refl
with_one (g ∷ fs) f v = ap (with_fault g) (with_one fs f v)

-- BYTES

-- one macro more in its slot
form_more : (ms : Table) (m : Macro) (old out : List ℕ) (n b : ℕ) → length ms ≡ n → n < most_macros → b ≡ slot_bytes * n → length (slots ms) ≡ slot_bytes * n → length (slot m) ≡ slot_bytes
    → form ms ≡ old → Wrote old out b (slot m) → form (ms ++ (m ∷ [])) ≡ out
unfolding form slots
form_more ms m old out n b l f e g h o w = sym (wrote_is w ∙ bytes)
  where
    front : take b old ≡ slots ms
    front = ap (take b) (sym o) ∙ take_at (slots ms) _ b (g ∙ sym e)

    back : drop (b + length (slot m)) old ≡ replicate (slot_bytes * (most_macros - length (ms ++ (m ∷ [])))) 0
    back =
        let i : b + length (slot m) ≡ length (slots ms) + slot_bytes = omega arith in
        let j = length-append ms (m ∷ []) in
        let k : slot_bytes * (most_macros - length ms) - slot_bytes ≡ slot_bytes * (most_macros - length (ms ++ (m ∷ []))) = omega arith in
        ap (λ (x : List ℕ). drop (b + length (slot m)) x) (sym o)
        ∙ (ap (λ (x : ℕ). drop x (slots ms ++ replicate (slot_bytes * (most_macros - length ms)) 0)) i
        ∙ (drop-append-add (slots ms) (replicate (slot_bytes * (most_macros - length ms)) 0) slot_bytes
        ∙ (zeros_drop slot_bytes (slot_bytes * (most_macros - length ms)) (omega arith) ∙ ap (λ (x : ℕ). replicate x 0) k)))

    bytes : take b old ++ (slot m ++ drop (b + length (slot m)) old) ≡ slots (ms ++ (m ∷ [])) ++ replicate (slot_bytes * (most_macros - length (ms ++ (m ∷ [])))) 0
    bytes =
        rw (front, back)
        (sym (append_assoc (slots ms) (slot m) (replicate (slot_bytes * (most_macros - length (ms ++ (m ∷ [])))) 0))
        ∙ ap (λ (x : List ℕ). x ++ replicate (slot_bytes * (most_macros - length (ms ++ (m ∷ [])))) 0)
        (sym (slots_append ms (m ∷ []) ∙ ap (λ (x : List ℕ). slots ms ++ x) (append-nil (slot m)))))

-- ONE MORE

slots_one : (ms : Table) (m : Macro) → length (slots (ms ++ (m ∷ []))) ≡ length (slots ms ++ slot m)
unfolding slots
slots_one ms m = ap length (slots_append ms (m ∷ []) ∙ ap (λ (u : List ℕ). slots ms ++ u) (append-nil (slot m)))

-- a count of faults that has room
room_left : (k : ℕ) → k < most_faults → most_faults - k ≡ suc (most_faults - (k + 1))
room_left k h = omega arith

module _ (s : List ℕ) (at n k : ℕ) (tb fb : List ℕ) (x : Standing s at n k tb fb) where
  reversed : length (reverse x.macros) ≡ n
  reversed = length-reverse x.macros ∙ x.counted

  -- a macro in its slot
  pub moved_macro : (z b : ℕ) (out : List ℕ) → b ≡ n * 1024 → InSlot s at n b tb out z → Moved s at n out fb (Ok (Some (record { at = z; macros = n + 1; faults = k })))
  moved_macro z b out e m = (
    m.further,
    record {
      macros = x.macros ++ (m.itself ∷ []);
      faults = x.faults;
      reached = m.reached;
      counted = length-append x.macros (m.itself ∷ []) ∙ omega (arith, x.counted);
      few = omega (arith, m.few);
      size = slots_one x.macros m.itself ∙ omega (arith, length-append (slots x.macros) (slot m.itself), x.size, m.size);
      table = form_more x.macros m.itself tb out n b x.counted m.few (omega arith) x.size m.size x.table m.wrote;
      many = x.many;
      bound = x.bound;
      list = x.list;
      answer = x.answer ∙ ap (with_faults x.faults) (recover_macro s (most_faults - k) at x.macros z m.itself (m.exact (reverse x.macros) reversed));
    },
  )

  -- the file's end
  pub moved_end : (out : List ℕ) → out ≡ tb → ((ms : List Macro) → length ms ≡ n → next_from s at ms ≡ no_more) → Moved s at n out fb (Ok None)
  moved_end out e f = (
    x.macros,
    x.faults,
    x.answer
        ∙ (ap (with_faults x.faults) (recover_end s (most_faults - k) at x.macros (f (reverse x.macros) reversed))
        ∙ (with_kept x.faults x.macros [] ∙ ap (kept x.macros) (append-nil x.faults))),
    sym x.counted,
    x.table ∙ sym e,
    x.list,
  )

  module _ (out : List ℕ) (e : out ≡ tb) (w : ReadError) (g : (ms : List Macro) → length ms ≡ n → next_from s at ms ≡ refused_at (fault_of w.fault) w.place) where
    abbrev f : FileFault
    f = w.fault

    abbrev q : ℕ
    q = w.place

    there_refused : next_from s at (reverse x.macros) ≡ refused_at (fault_of f) q
    there_refused = g (reverse x.macros) reversed

    -- where the refusal stands
    pub refusal_place : (at ≤ q) × (q ≤ length s)
    refusal_place = next_place s at (reverse x.macros) (fault_of f) q x.reached there_refused

    -- what a fault comes to
    by_fault : (j : ℕ) → most_faults - k ≡ j → is_fault (fault_of f) ≡ true → recover_from most_faults s 0 [] ≡ with_faults x.faults (listed s j (fault_of f) q x.macros)
    by_fault j h i = x.answer ∙ ap (with_faults x.faults) (recover_fault s (most_faults - k) at x.macros (fault_of f) q i there_refused ∙ ap (λ (u : ℕ). listed s u (fault_of f) q x.macros) h)

    -- the faults with this one
    abbrev with_this : List Fault
    with_this = x.faults ++ (fault_at (fault_of f) q ∷ [])

    -- a fault that is listed, and then what the rest comes to
    by_listed : (o : Option ℕ) → behind_first q (drop q s) ≡ o → is_fault (fault_of f) ≡ true → k < most_faults
        → recover_from most_faults s 0 [] ≡ with_faults with_this (resumed (recover_from (most_faults - (k + 1)) s) x.macros o)
    unfolding listed
    by_listed o p i h =
        by_fault (suc (most_faults - (k + 1))) (room_left k h) i
        ∙ (ap (λ (u : Option ℕ). with_faults x.faults (with_fault (fault_at (fault_of f) q) (resumed (recover_from (most_faults - (k + 1)) s) x.macros u))) p
        ∙ with_one x.faults (fault_at (fault_of f) q) (resumed (recover_from (most_faults - (k + 1)) s) x.macros o))

    moved_listed : (fin : List ℕ) → is_fault (fault_of f) ≡ true → k < most_faults → faults_form with_this ≡ fin → (o : Option ℕ) → behind_first q (drop q s) ≡ o → Found q (drop q s) o
        → Moved s at n out fin (Ok (resumes_at (as_option o) n (k + 1)))
    unfolding resumed
    moved_listed fin i h y o p (nowhere g) =
        (x.macros, with_this, by_listed none p i h ∙ (with_kept with_this x.macros [] ∙ ap (kept x.macros) (append-nil with_this)), sym x.counted, x.table ∙ sym e, y)
    moved_listed fin i h y o p (there u v g t) =
        let a : length (drop q s) ≡ length u + suc (length v) = ap length g ∙ length-append u (59 ∷ v) in
        let b = length-drop q s in (
          omega (arith, refusal_place.0),
          record {
            macros = x.macros;
            faults = with_this;
            reached = omega arith;
            counted = x.counted;
            few = x.few;
            size = x.size;
            table = x.table ∙ sym e;
            many = length-append x.faults (fault_at (fault_of f) q ∷ []) ∙ omega (arith, x.many);
            bound = omega arith;
            list = y;
            answer = by_listed (some (suc (q + length u))) p i h;
          },
        )

    -- a refusal that is noted
    pub moved_refused : (fin : List ℕ) (r : Result (std.Option Progress) PastError) → Notes s fb fin (file_number (fault_of f)) q n k r → Moved s at n out fin r
    unfolding is_fault
    moved_refused fin r (unlisted i j) = (
      as_before (fault_of f) q,
      x.answer ∙ (ap (with_faults x.faults) (recover_refused s (most_faults - k) at x.macros (fault_of f) q i there_refused) ∙ with_refused x.faults (as_before (fault_of f) q)),
      unfold recover_number in refl,
      unfold recover_place in refl,
    )
    moved_refused fin r (one_too_many i h j) = (
      too_many_faults,
      by_fault 0 (omega (arith, x.bound)) i ∙ (unfold listed in with_refused x.faults too_many_faults),
      unfold recover_number in refl,
      unfold recover_place in refl,
    )
    moved_refused fin r (noted i h y) = moved_listed fin i h (y x.faults (fault_of f) x.list x.many refl) (behind_first q (drop q s)) refl (look_for q (drop q s))

-- THE LENT BYTES

module _ {s : List ℕ} {at n k : ℕ} {tb fb : List ℕ} (x : Standing s at n k tb fb) where
  pub table_size : length tb ≡ table_bytes
  unfolding form
  table_size =
      ap length (sym x.table)
      ∙ (length-append (slots x.macros) (replicate (slot_bytes * (most_macros - length x.macros)) 0)
      ∙ omega (arith, x.size, x.counted, x.few, length-replicate {A = ℕ} (slot_bytes * (most_macros - length x.macros)) 0))

  pub list_size : length fb ≡ faults_bytes
  list_size = ap length (sym x.list) ∙ form_length x.faults (omega (arith, x.many, x.bound))

-- AT THE START

pub standing_start : (s tb fb : List ℕ) → tb ≡ replicate table_bytes 0 → fb ≡ replicate faults_bytes 0 → Standing s 0 0 0 tb fb
unfolding form slots faults_form fault_items four with_faults
standing_start s tb fb e f = record {
  macros = [];
  faults = [];
  reached = omega arith;
  counted = refl;
  few = omega arith;
  size = refl;
  table = sym e;
  many = refl;
  bound = omega arith;
  list = sym f;
  answer = refl;
}
