-- The macros of a table, one after the other, and the copy of the file.
-- Assumes nothing.
use Prim.Native.Nat.{ℕ, ◌+◌, ◌-◌, ◌*◌, ◌≤◌}
use mathlib.Core.Path.{◌≡◌, refl, ap, sym, ◌∙◌, subst}
use mathlib.Core.List.{List, [], ◌++◌, append-nil}
use native.Mathlib.Omega.{arith}
use lib.ListN.{length, get_or, take, drop, replicate, length-append, length-drop, drop_of_length-le}
use lib.Seq.{length-take-le, take_at, drop_at}
use borrow.Rule.Slice.PartMut.{put_mid}
use Rattle.macros.specs.Bounds.{most_file_bytes, most_macros}
use Rattle.macros.specs.Macro.{Table}
use Rattle.macros.specs.Write.{Written, write_from, write_out}
use Rattle.macros.specs.Write.Written.{refused, file}
use Rattle.form_table.specs.Form.{slot_bytes}
use Rattle.write_file.specs.Slots.{slot_text, refusal_of, onward, Within, Adds, Holds, Lists, padded}
use Rattle.write_file.specs.Contract.{meaning, reply, laid_out, WritesOut}
use Rattle.write_file.specs.Contract.Reply.{size}
use Rattle.write_file.specs.declared.WritingFault.{WritingFault}
use Rattle.std.specs.Prelude.{Ok}
use Rattle.write_file.specs.Slots.{Outcome, no_file}
use Rattle.write_file.proofs.Tabled.{Slot, unused, used}

-- n bytes of the file are k macros of the table
abbrev pub Reaches : List ℕ → List ℕ → ℕ → ℕ → Type 0
Reaches t f n k = (ms : Table) → Holds t ms → (k ≤ length ms) × (write_out ms ≡ write_from (take n f) (drop k ms))

pub reach_none : (t f : List ℕ) → Reaches t f 0 0
unfolding write_out
reach_none t f ms h = (omega arith, refl)

module _ (t f : List ℕ) (n k : ℕ) (reached : Reaches t f n k) where
  -- the first unused slot
  pub reach_end : n ≤ most_file_bytes → get_or t (slot_bytes * k) 0 ≡ 0 → Lists t f (Ok n)
  reach_end w e = record { comes = λ ms h. (reached ms h).1 ∙ ap (write_from (take n f)) (unused t ms h k (reached ms h).0 e); within = w }

  -- the last slot
  pub reach_all : n ≤ most_file_bytes → most_macros ≤ k → Lists t f (Ok n)
  reach_all w l =
      record {
        comes = λ ms h. let c = h.0.count in (reached ms h).1 ∙ ap (write_from (take n f)) (drop_of_length-le ms {i = k} (omega arith));
        within = w;
      }

  module _ (b : get_or t (slot_bytes * k) 0 ≡ 0 → ⊥) where
    pub here : (ms : Table) → Holds t ms → Slot t ms k
    here ms h = used t ms h k (reached ms h).0 b

    module _ {new : List ℕ} {r : Outcome} (a : Adds f n (slot_text (take (slot_bytes * k + slot_bytes - slot_bytes * k) (drop (slot_bytes * k) t))) new r) where
      through : (ms : Table) (h : Holds t ms) → write_out ms ≡ onward new (here ms h).others r
      through ms h =
          (reached ms h).1
          ∙ ap (write_from (take n f)) (here ms h).split
          ∙ a.comes (here ms h).macro (here ms h).others (here ms h).text

      -- a macro more
      pub reach_next : {j : ℕ} → r ≡ Ok j → Reaches t new j (k + 1)
      reach_next {j} e =
          λ ms h. (
            (here ms h).more,
            through ms h ∙ ap (onward new (here ms h).others) e ∙ ap (write_from (take j new)) (sym (here ms h).next),
          )

      pub next_within : {j : ℕ} → r ≡ Ok j → j ≤ most_file_bytes
      next_within e = subst Within e a.within

      -- a refusal
      pub reach_stop : {fault : WritingFault} {p : ℕ} → r ≡ no_file fault p → Lists t new r
      reach_stop e =
          record {
            comes = λ ms h. through ms h ∙ ap (onward new (here ms h).others) e ∙ ap (onward new []) (sym e);
            within = a.within;
          }

-- THE COPY

-- the file's first n bytes and zeros behind them, copied and filled
pub laid : (n k : ℕ) (f out copied filled : List ℕ) → n ≤ most_file_bytes → length f ≡ most_file_bytes → length out ≡ most_file_bytes → copied ≡ take n f
    → k ≡ length (copied ++ drop n out) - n → filled ≡ replicate (length (take k (drop n (copied ++ drop n out)))) 0 → put_mid n k (copied ++ drop n out) filled ≡ padded n f
unfolding padded
laid n k f out copied filled h l m e g i =
    let c : length copied ≡ n = ap length e ∙ length-take-le n f (omega arith) in
    let d : length (drop n out) ≡ most_file_bytes - n = length-drop n out ∙ omega arith in
    let both = length-append copied (drop n out) in
    let q : k ≡ most_file_bytes - n = omega arith in
    let front : take n (copied ++ drop n out) ≡ copied = take_at copied (drop n out) n c in
    let back : drop n (copied ++ drop n out) ≡ drop n out = drop_at copied (drop n out) n c in
    let none : drop k (drop n out) ≡ [] = drop_of_length-le (drop n out) {i = k} (omega arith) in
    let zeros : filled ≡ replicate (most_file_bytes - n) 0 =
    i ∙ ap (λ (z : List ℕ). replicate (length (take k z)) 0) back ∙ ap (λ (j : ℕ). replicate j 0) (length-take-le k (drop n out) (omega arith) ∙ q) in
    rw (front, back, none, zeros, e) (simp append-nil)

-- THE CONTRACT

pub written_within : {t f : List ℕ} {r : Outcome} {n : ℕ} → Lists t f r → r ≡ Ok n → n ≤ most_file_bytes
written_within a e = subst Within e a.within

pub write_file : {t old f new : List ℕ} {r : Outcome} {n : ℕ} → Lists t f r → r ≡ Ok n → length f ≡ most_file_bytes → new ≡ padded n f → WritesOut t old new (Ok n)
unfolding meaning reply laid_out padded write_from
write_file {t} {old} {f} {new} {r} {n} a e l c =
    record {
      answers = λ ms h. ap size (sym taken) ∙ ap reply (sym (come ms h));
      holds = λ ms h. c ∙ ap (λ (k : ℕ). take n f ++ replicate (most_file_bytes - k) 0) (sym taken) ∙ ap (λ (w : Written). laid_out w old) (sym (come ms h));
    }
  where
    taken : length (take n f) ≡ n
    taken = length-take-le n f (omega (arith, written_within a e))

    come : (ms : Table) → Holds t ms → write_out ms ≡ file (take n f)
    come ms h = a.comes ms h ∙ ap (onward f []) e

pub write_none : {t old f : List ℕ} {r : Outcome} {fault : WritingFault} {p : ℕ} → Lists t f r → r ≡ no_file fault p → WritesOut t old old r
unfolding meaning reply laid_out
write_none {t} {old} {f} {r} {fault} {p} a e =
    record {
      answers = λ ms h. ap meaning e ∙ ap reply (sym (come ms h));
      holds = λ ms h. ap (λ (w : Written). laid_out w old) (sym (come ms h));
    }
  where
    come : (ms : Table) → Holds t ms → write_out ms ≡ refused (refusal_of fault) p
    come ms h = a.comes ms h ∙ ap (onward f []) e
