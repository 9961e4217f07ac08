-- The law of specs/Measure, proved.
-- Assumes nothing.
use Prim.Native.Nat.{ℕ, zero, suc, ◌+◌, ◌-◌, ◌*◌, ◌≤◌, ◌<◌}
use mathlib.Core.Path.{◌≡◌, refl, sym, ap, ◌∙◌, subst}
use mathlib.Core.Bool.{true}
use mathlib.Core.List.{List, [], ◌∷◌, ◌++◌, append_assoc}
use native.Mathlib.Omega.{arith}
use lib.ListN.{length, get_or, take, drop, replicate}
use lib.Seq.{take_at, drop-append-add, get_or-drop}
use borrow.Author.Tests.{eq-eqb}
use Rattle.macros.specs.Bounds.{most_file_bytes, most_macros}
use Rattle.macros.specs.Refusals.{FileRefusal, number, place, file_number}
use Rattle.macros.specs.Macro.{Symbol, Macro, Table}
use Rattle.macros.specs.Macro.Symbol.{equal, less}
use Rattle.macros.specs.Formed.{Octets}
use Rattle.macros.specs.Read.{Read, read_file, read_file_by}
use Rattle.macros.specs.ReadFile.Read.{refused_at, table}
use Rattle.macros.specs.Write.{Written, write_out}
use Rattle.macros.specs.Write.Written.{refused, file}
use Rattle.macros.specs.Accepted.{Each, Accepted, Spellable}
use Rattle.macros.proofs.Laws.{each_spellable, read_keeps}
use Rattle.form_table.specs.Form.{slot_bytes, table_bytes, symbol_code, header, slot, slots, form}
use Rattle.form_table.proofs.Tables.{slot_size, form_size}
use Rattle.form_table.proofs.Basics.{and_both}
use Rattle.plans.specs.Measure.{larger, most, macro_elements, macro_tags, size_of, measured, measure}
use Rattle.plans.specs.Numbers.{sized_plan, told, plan_of}
use Rattle.plans.specs.declared.Plan.{Plan}
use Rattle.plans.proofs.Most.{Larger, larger_is}
use Rattle.plans.proofs.Most.Larger.{first, second}
use Rattle.read_plan.specs.Elements.{slot_elements}
use Rattle.read_plan.proofs.Items.{slot_elements_lem, slot_tags_lem}
use Rattle.line_answer.specs.declared.Answer.{Answer}
use Rattle.line_answer.specs.Replies.{reply}
use Rattle.line_memory.specs.Memory.{IsTable}
use Rattle.m7.specs.Contract.{Result, Gives, refuses, takes, of_reading, reads, of_writing, sized, Writes}
use Rattle.m7.proofs.Results.{reads_sized}
use Rattle.m7_demands.specs.Measure.{slot_at, InUse, slot_tags, MostIn, AsShown, AsRead, AsWritten, NothingElse, Measured, Measures}
use Rattle.m7.proofs.Results.{not_zero}

-- THE SLOTS OF A TABLE

module _ (m : Macro) (f : Spellable m) (z : List ℕ) where
  slot_first : slot_at (slot m ++ z) 0 ≡ slot m
  slot_first = take_at (slot m) z slot_bytes (slot_size m f)

  slot_next : (k : ℕ) → slot_at (slot m ++ z) (suc k) ≡ slot_at z k
  slot_next k =
      let e : slot_bytes * suc k ≡ length (slot m) + slot_bytes * k = omega (arith, slot_size m f) in
      ap (take slot_bytes) (ap (λ (i : ℕ). drop i (slot m ++ z)) e ∙ drop-append-add (slot m) z (slot_bytes * k))

some_symbol : (y : Symbol) → 0 < symbol_code y
unfolding symbol_code
some_symbol equal = omega arith
some_symbol less = omega arith

symbol_first : (m : Macro) → 0 < get_or (slot m) 0 0
unfolding slot header
symbol_first m = some_symbol m.symbol

slots_used : (ms : Table) → Each Spellable ms → (z : List ℕ) (k : ℕ) → k < length ms → 0 < get_or (slot_at (slots ms ++ z) k) 0 0
unfolding slots
slots_used [] f z k l = absurd (omega arith)
slots_used (m ∷ ms) f z zero l =
    rw (append_assoc (slot m) (slots ms) z, slot_first m f.0 (slots ms ++ z)) (symbol_first m)
slots_used (m ∷ ms) f z (suc k) l =
    let r = slots_used ms f.1 z k (omega arith) in
    rw (append_assoc (slot m) (slots ms) z, slot_next m f.0 (slots ms ++ z) k) r

take_first : (n : ℕ) (l : List ℕ) → get_or (take (suc n) l) 0 0 ≡ get_or l 0 0
take_first n [] = refl
take_first n (x ∷ l) = refl

zeros_get : (n i : ℕ) → ◌≡◌ {A = ℕ} (get_or (replicate n 0) i 0) 0
zeros_get zero i = refl
zeros_get (suc n) zero = refl
zeros_get (suc n) (suc i) = zeros_get n i

zeros_unused : (n k : ℕ) → get_or (slot_at (replicate n 0) k) 0 0 ≡ 0
zeros_unused n k = take_first 1023 (drop (slot_bytes * k) (replicate n 0)) ∙ (get_or-drop (slot_bytes * k) (replicate n 0) 0 0 ∙ zeros_get n (slot_bytes * k + 0))

slots_unused : (ms : Table) → Each Spellable ms → (n k : ℕ) → length ms ≤ k → get_or (slot_at (slots ms ++ replicate n 0) k) 0 0 ≡ 0
unfolding slots
slots_unused [] f n k l = zeros_unused n k
slots_unused (m ∷ ms) f n zero l = absurd (omega arith)
slots_unused (m ∷ ms) f n (suc k) l =
    let r = slots_unused ms f.1 n k (omega arith) in
    rw (append_assoc (slot m) (slots ms) (replicate n 0), slot_next m f.0 (slots ms ++ replicate n 0) k) r

-- THE MOST

module _ (f : List ℕ → ℕ) (g : Macro → ℕ) (h : (m : Macro) → f (slot m) ≡ g m) where
  no_more_lem : (m : Macro) (p : Spellable m) (z : List ℕ) (n k v : ℕ) → g m ≤ v → k ≤ v → MostIn z n f k → (j : ℕ) → j < suc n → f (slot_at (slot m ++ z) j) ≤ v
  no_more_lem m p z n k v a b i zero l = rw (slot_first m p z, h m) a
  no_more_lem m p z n k v a b i (suc j) l = let y = i.no_more j (omega arith) in rw (slot_next m p z j) (omega arith)

  most_first : (m : Macro) (p : Spellable m) (z : List ℕ) (n k : ℕ) → k ≤ g m → MostIn z n f k → MostIn (slot m ++ z) (suc n) f (g m)
  most_first m p z n k l i =
      record {
        no_more = no_more_lem m p z n k (g m) (omega arith) l i;
        reached = λ q. (0, omega arith, rw (slot_first m p z) (h m));
        without = λ e. absurd (omega arith);
      }

  most_later : (m : Macro) (p : Spellable m) (z : List ℕ) (n k : ℕ) → g m ≤ k → MostIn z n f k → MostIn (slot m ++ z) (suc n) f k
  most_later m p z zero k l i =
      record {
        no_more = no_more_lem m p z zero k k l (omega arith) i;
        reached = λ q. let e = i.without refl in (0, omega arith, rw (slot_first m p z) (h m ∙ omega arith));
        without = λ e. absurd (omega arith);
      }
  most_later m p z (suc n) k l i =
      record {
        no_more = no_more_lem m p z (suc n) k k l (omega arith) i;
        reached = λ q. let r = i.reached (omega arith) in (suc r.0, omega (arith, r.1), rw (slot_next m p z r.0) r.2);
        without = λ e. absurd (omega arith);
      }

  most_more : (m : Macro) (p : Spellable m) (z : List ℕ) (n k v : ℕ) → Larger (g m) k v → MostIn z n f k → MostIn (slot m ++ z) (suc n) f v
  most_more m p z n k v (first l) i = most_first m p z n k l i
  most_more m p z n k v (second l) i = most_later m p z n k l i

  most_in : (ms : Table) → Each Spellable ms → (z : List ℕ) → MostIn (slots ms ++ z) (length ms) f (most g ms)
  unfolding slots most
  most_in [] p z = record { no_more = λ k l. absurd (omega arith); reached = λ l. absurd (omega arith); without = λ e. refl }
  most_in (m ∷ ms) p z =
      let i = most_in ms p.1 z in
      rw (append_assoc (slot m) (slots ms) z) (most_more m p.0 (slots ms ++ z) (length ms) (most g ms) (larger (g m) (most g ms)) (larger_is (g m) (most g ms)) i)

-- A TABLE THAT IS READ

module _ (ms : Table) (a : Accepted ms) where
  spelled : Each Spellable ms
  spelled = each_spellable a

  in_use : InUse (form ms) (length ms)
  unfolding form
  in_use =
      record {
        few = a.count;
        used = λ k l. slots_used ms spelled (replicate (slot_bytes * (most_macros - length ms)) 0) k l;
        unused = λ k l j. slots_unused ms spelled (slot_bytes * (most_macros - length ms)) k l;
      }

  pub shown : (v : Plan) → v.macros ≡ length ms → v.elements ≡ most macro_elements ms → v.tags ≡ most macro_tags ms → AsShown (form ms) v
  unfolding form
  shown v i j k =
      record {
        macros = rw i in_use;
        elements = rw (i, j) (most_in slot_elements macro_elements slot_elements_lem ms spelled (replicate (slot_bytes * (most_macros - length ms)) 0));
        tags = rw (i, k) (most_in slot_tags macro_tags slot_tags_lem ms spelled (replicate (slot_bytes * (most_macros - length ms)) 0));
      }

  both_sized : (out : List ℕ) → length out ≡ most_file_bytes → sized (form ms) out ≡ true
  unfolding sized
  both_sized out l = and_both (eq-eqb _ _ (form_size ms a).0) (eq-eqb _ _ l)

  answered : (out new : List ℕ) (r : Answer) → length out ≡ most_file_bytes → Writes (form ms) out r new → r ≡ (of_writing out (write_out ms)).answer
  answered out new r l h = (h.written (both_sized out l) ms (record { accepted = a; form = refl })).answers

  taken : (w : Written) → write_out ms ≡ w → Measured (takes (length ms) (form ms)) (sized_plan (length ms) (most macro_elements ms) (most macro_tags ms) (size_of w))
  unfolding takes reply size_of sized_plan of_writing refuses number place
  taken (file u) e =
      record {
        read = record { number = refl; place = refl; macros = refl };
        refused = λ n. absurd (n refl);
        shown = λ n. shown _ refl refl refl;
        written = λ n out new r l h.
            let x : r ≡ reply 0 0 (length u) = answered out new r l h ∙ ap (λ (w : Written). (of_writing out w).answer) e in
            record { bytes = sym (ap (λ (y : Answer). y.length) x); number = sym (ap (λ (y : Answer). y.number) x); place = sym (ap (λ (y : Answer). y.place) x) };
      }
  taken (refused c p) e =
      record {
        read = record { number = refl; place = refl; macros = refl };
        refused = λ n. absurd (n refl);
        shown = λ n. shown _ refl refl refl;
        written = λ n out new r l h.
            let x : r ≡ reply (file_number c) p 0 = answered out new r l h ∙ ap (λ (w : Written). (of_writing out w).answer) e in
            record { bytes = sym (ap (λ (y : Answer). y.length) x); number = sym (ap (λ (y : Answer). y.number) x); place = sym (ap (λ (y : Answer). y.place) x) };
      }

-- EVERY FILE

none_accepted : Accepted []
none_accepted = record { count = omega arith; macros = tt }

of_reading_lem : (s old : List ℕ) → Octets s → (r : Read) → read_file s ≡ r → Measured (of_reading old r) (told (measured r))
unfolding of_reading measured told refuses reply number place read_file_by
of_reading_lem s old o (table ms) e = taken ms (read_keeps [] s ms none_accepted o e).accepted (write_out ms) refl
of_reading_lem s old o (refused_at c p) e =
    record {
      read = record { number = refl; place = refl; macros = refl };
      refused = λ n. record { elements = refl; tags = refl; bytes = refl; number = refl; place = refl };
      shown = λ n. absurd (not_zero c n);
      written = λ n. absurd (not_zero c n);
    }

pub measures : Measures
unfolding plan_of measure
measures s old o l = rw (reads_sized s old l) (of_reading_lem s old o (read_file s) refl)
