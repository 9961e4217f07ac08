-- One macro more behind a file, by lengths alone.
-- Assumes nothing.
use Prim.Native.Nat.{min, ℕ, suc, ◌+◌, ◌≤◌, ◌<◌}
use mathlib.Core.Path.{◌≡◌, refl, ap, sym, ◌∙◌}
use mathlib.Core.Bool.{Bool, true, false, ◌&&◌}
use mathlib.Core.List.{List, [], ◌∷◌, ◌++◌}
use native.Mathlib.Omega.{arith}
use native.Mathlib.Decide.{dec_le}
use borrow.Author.Tests.{lt-ltb, le-ltb, ltb-false}
use lib.Dec.{leb, ltb}
use lib.ListN.{length, length-append}
use Rattle.macros.specs.Bounds.{most_file_bytes, most_macro_bytes}
use Rattle.macros.specs.Macro.{Macro, Table, pick}
use Rattle.macros.specs.Refusals.{FileRefusal}
use Rattle.macros.specs.Refusals.FileRefusal.{file_too_long, macro_too_long}
use Rattle.macros.specs.Write.{Written, written, write_from, write_out}
use Rattle.macros.specs.Write.Written.{refused, file}
use Rattle.macros.specs.WriteRefusals.{WritesWell}
use Rattle.macros.specs.WriteRefusals.WritesWell.{whole, long, full}
use Rattle.macros.proofs.WriteRefusals.{writes_whole}
use Rattle.form_table.specs.Form.{header_bytes}
use Rattle.write_put.specs.Puts.{Counts}
use Rattle.write_pattern.specs.Items.{pattern_text}
use Rattle.write_actions.specs.Items.{actions_text}
use Rattle.write_file.specs.Slots.{before_end, pattern_end, replacement_end, commands_end, part, before_text, left_text, right_text}
use Rattle.write_file.specs.Slots.{limit_of, answer_of, capped, refusal_of, slot_text, Parts}
use Rattle.write_file.specs.Contract.{meaning, reply, SomeMacro, SoFar, WritesOn}
use Rattle.write_file.specs.Contract.Reply.{size, refusal}
use Rattle.write_file.specs.declared.WritingFault.{WritingFault}
use Rattle.write_file.specs.declared.WritingFault.TheVariants.{MacroTooLong, FileTooLong}
use Rattle.std.specs.Prelude.{Ok}
use Rattle.write_file.specs.Slots.{Outcome, no_file}
use Rattle.write_file.proofs.Files.{long_macro, long_file, no_feed_lem, fitting, limit_low, limit_high, fault_low, fault_high, answer_over, answer_no_feed, answer_fits}
use Rattle.write_file.proofs.Slotted.{slot_text_lem, slot_parts}
use Rattle.write_file.proofs.Tabled.{body_room}

-- THE MACRO

pub macro_parts : {t : List ℕ} → SomeMacro t → Parts t
macro_parts x = rw (← x.2) (slot_parts x.0 (body_room x.0 x.1))

-- the bytes that its parts have
abbrev parts_text : List ℕ → List ℕ
parts_text s =
    actions_text 0 (part header_bytes (before_end s) s)
    ++ (pattern_text 0 (part (before_end s) (pattern_end s) s)
    ++ (actions_text 0 (part (pattern_end s) (replacement_end s) s) ++ actions_text 0 (part (replacement_end s) (commands_end s) s)))

-- and six more: the quotes, the symbol and `;`
six_more : (s : List ℕ) → length (slot_text s) ≡ 6 + length (parts_text s)
unfolding slot_text before_text left_text right_text
six_more s = simp length-append (omega arith)

module _ (s : List ℕ) {n : ℕ} (p : Counts 6 (parts_text s) n) where
  size_over : 512 < n → 513 ≡ capped (length (slot_text s))
  unfolding capped pick
  size_over h = let f = p.ends.full (omega arith) in rw (lt-ltb 512 (length (slot_text s)) (omega (arith, six_more s))) refl

  size_within : n ≤ 512 → n ≡ capped (length (slot_text s))
  unfolding capped pick
  size_within h = let f = p.ends.count (omega arith) in rw (le-ltb 512 (length (slot_text s)) (omega (arith, six_more s))) (omega (arith, six_more s))

  pub size_least : min n 513 ≡ capped (length (slot_text s))
  size_least = by (dec_le n 512)
    where
      by : Dec (n ≤ 512) → min n 513 ≡ capped (length (slot_text s))
      by (yes h) = let e : min n 513 ≡ n = omega arith in e ∙ size_within h
      by (no h) = let e : min n 513 ≡ 513 = omega arith in e ∙ size_over (omega arith)

pub capped_small : (n : ℕ) → capped n ≤ 513
unfolding capped
capped_small n = by (ltb most_macro_bytes n) refl
  where
    by : (x : Bool) → ltb most_macro_bytes n ≡ x → pick x (suc most_macro_bytes) n ≤ 513
    by true e = unfold pick in omega arith
    by false e = unfold pick in omega (arith, ltb-false most_macro_bytes n e)

-- THE TABLE BEFORE IT

behind : Table → Written → Written
behind ks (file t) = write_from t ks
behind ks (refused c p) = refused c p

from_append : (ms : Table) (s : List ℕ) (ks : Table) → write_from s (ms ++ ks) ≡ behind ks (write_from s ms)
unfolding write_from behind
from_append [] s ks = refl
from_append (m ∷ ms) s ks =
    by (ltb most_macro_bytes (length (written m)) && leb (length s + most_macro_bytes) most_file_bytes) (ltb most_file_bytes (length s + suc (length (written m))))
    _ _ (from_append ms (s ++ (written m ++ (10 ∷ []))) ks)
  where
    by : (a b : Bool) (x y : Written) → y ≡ behind ks x
        → pick a (refused macro_too_long (length s + most_macro_bytes)) (pick b (refused file_too_long most_file_bytes) y)
        ≡ behind ks (pick a (refused macro_too_long (length s + most_macro_bytes)) (pick b (refused file_too_long most_file_bytes) x))
    by true b x y e = unfold pick in refl
    by false true x y e = unfold pick in refl
    by false false x y e = unfold pick in e

out_append : (ms : Table) (m : Macro) (w : Written) → write_out ms ≡ w → write_out (ms ++ (m ∷ [])) ≡ behind (m ∷ []) w
unfolding write_out
out_append ms m w e = from_append ms [] (m ∷ []) ∙ ap (behind (m ∷ [])) e

no_size : {A : Type 0} {n p : ℕ} {c : FileRefusal} → size n ≡ refusal c p → A
no_size e = let z : ◌≡◌ {A = ℕ} 0 1 = cc in absurd (omega arith)

-- a file is no longer than a file may be
file_within : (ms : Table) (s : List ℕ) → write_out ms ≡ file s → length s ≤ most_file_bytes
file_within ms s e = by (write_out ms) (writes_whole ms) e
  where
    by : (w : Written) → WritesWell ms w → w ≡ file s → length s ≤ most_file_bytes
    by w (whole h n) f = let z = ap length (same f) in omega arith
      where
        same : {a b : List ℕ} → file a ≡ file b → a ≡ b
        same g = cc
    by w (long t h n) f = let z : ◌≡◌ {A = ℕ} 0 1 = cc in absurd (omega arith)
    by w (full h n) f = let z : ◌≡◌ {A = ℕ} 0 1 = cc in absurd (omega arith)

pub so_far_within : {a : Outcome} {start : ℕ} → SoFar a → a ≡ Ok start → start ≤ most_file_bytes
unfolding meaning reply
so_far_within {a} {start} x e = by (write_out x.0) refl (sym (ap meaning e) ∙ x.1)
  where
    by : (w : Written) → write_out x.0 ≡ w → size start ≡ reply w → start ≤ most_file_bytes
    by (file s) f g = let z : start ≡ length s = cc in omega (arith, file_within x.0 s f)
    by (refused c p) f g = no_size g

-- THE ANSWER

capped_over : (n : ℕ) → most_macro_bytes < n → capped n ≡ 513
unfolding capped pick
capped_over n l = rw (lt-ltb most_macro_bytes n l) refl

capped_under : (n : ℕ) → n ≤ most_macro_bytes → capped n ≡ n
unfolding capped pick
capped_under n l = rw (le-ltb most_macro_bytes n l) refl

module _ (start size : ℕ) where
  abbrev answer : Outcome
  answer = answer_of start (limit_of start) (start + capped size) (start + capped size + 1)

  answer_long : most_macro_bytes < size → start ≤ 32256 → answer ≡ no_file MacroTooLong (start + most_macro_bytes)
  answer_long a b =
      let k = capped_over size a in
      let j = limit_low start b in
      answer_over start (limit_of start) _ _ (omega arith) ∙ rw (fault_low start b, j) refl

  answer_past : 32256 < start → most_file_bytes < start + capped size → answer ≡ no_file FileTooLong most_file_bytes
  answer_past b d =
      let j = limit_high start b in
      answer_over start (limit_of start) _ _ (omega arith) ∙ rw (fault_high start b, j) refl

  module _ (a : size ≤ most_macro_bytes) where
    within_limit : start + size ≤ most_file_bytes → start + capped size ≤ limit_of start
    within_limit d = by (dec_le start 32256)
      where
        by : Dec (start ≤ 32256) → start + capped size ≤ limit_of start
        by (yes b) = omega (arith, capped_under size a, limit_low start b)
        by (no b) = omega (arith, capped_under size a, limit_high start (omega arith))

    answer_fit : start + suc size ≤ most_file_bytes → answer ≡ Ok (start + suc size)
    answer_fit d =
        let k = capped_under size a in
        let e : start + capped size + 1 ≡ start + suc size = omega arith in
        answer_fits start (limit_of start) _ _ (within_limit (omega arith)) (omega arith) ∙ ap Ok e

    answer_full : most_file_bytes < start + suc size → answer ≡ no_file FileTooLong most_file_bytes
    answer_full d = by (dec_le (start + size) most_file_bytes)
      where
        by : Dec (start + size ≤ most_file_bytes) → answer ≡ no_file FileTooLong most_file_bytes
        by (yes b) = answer_no_feed start (limit_of start) _ _ (within_limit b) (omega (arith, capped_under size a))
        by (no b) = answer_past (omega arith) (omega (arith, capped_under size a))

module _ (s : List ℕ) (m : Macro) (h : length s ≤ most_file_bytes) where
  meant : {r a : Outcome} {w : Written} → r ≡ a → meaning a ≡ reply w → write_from s (m ∷ []) ≡ w → meaning r ≡ reply (write_from s (m ∷ []))
  meant e f g = ap meaning e ∙ (f ∙ ap reply (sym g))

  with_feed : length s + suc (length (written m)) ≡ length (s ++ (written m ++ (10 ∷ [])))
  with_feed = simp length-append (omega arith)

  answered : {r : Outcome} → r ≡ answer (length s) (length (written m)) → meaning r ≡ reply (write_from s (m ∷ []))
  unfolding meaning reply write_from
  answered {r} e = by (dec_le (length (written m)) most_macro_bytes) (dec_le (length s) 32256) (dec_le (length s + suc (length (written m))) most_file_bytes)
    where
      by : Dec (length (written m) ≤ most_macro_bytes) → Dec (length s ≤ 32256) → Dec (length s + suc (length (written m)) ≤ most_file_bytes) → meaning r ≡ reply (write_from s (m ∷ []))
      by (no a) (yes b) d = meant (e ∙ answer_long (length s) (length (written m)) (omega arith) b) refl (long_macro s m [] (omega arith) (omega arith))
      by (no a) (no b) d =
          let k = capped_over (length (written m)) (omega arith) in
          meant (e ∙ answer_past (length s) (length (written m)) (omega arith) (omega arith)) refl (long_file s m [] (omega arith) (omega arith))
      by (yes a) b (yes d) = meant (e ∙ answer_fit (length s) (length (written m)) a d) (ap size with_feed) (fitting s m [] a d)
      by (yes a) b (no d) = meant (e ∙ answer_full (length s) (length (written m)) a (omega arith)) refl (no_feed_lem s m [] a (omega arith))

-- ONE MACRO MORE

same_size : {a b : ℕ} → size a ≡ size b → a ≡ b
same_size e = cc

pub writes_on : {so r : Outcome} {t : List ℕ} {start n : ℕ} → so ≡ Ok start → n ≡ capped (length (slot_text t))
    → r ≡ answer_of start (limit_of start) (start + n) (start + n + 1) → WritesOn so t r
unfolding meaning reply behind
writes_on {so} {r} {t} {start} {n} e f g ms m a i x = by (write_out ms) refl (sym (ap meaning e) ∙ x)
  where
    text : length (slot_text t) ≡ length (written m)
    text = ap length (ap slot_text (sym i) ∙ slot_text_lem m a.0)

    by : (w : Written) → write_out ms ≡ w → size start ≡ reply w → meaning r ≡ reply (write_out (ms ++ (m ∷ [])))
    by (file s) j k =
        let z : start ≡ length s = same_size k in
        let y : n ≡ capped (length (written m)) = f ∙ ap capped text in
        answered s m (file_within ms s j) (g ∙ rw (z, y) refl) ∙ ap reply (sym (out_append ms m (file s) j))
    by (refused c p) j k = no_size k

pub writes_no_more : {so : Outcome} {t : List ℕ} {f : WritingFault} {p : ℕ} → so ≡ no_file f p → WritesOn so t so
unfolding meaning reply behind
writes_no_more {so} {t} {f} {p} e ms m a i x = by (write_out ms) refl (sym (ap meaning e) ∙ x)
  where
    by : (w : Written) → write_out ms ≡ w → refusal (refusal_of f) p ≡ reply w → meaning so ≡ reply (write_out (ms ++ (m ∷ [])))
    by (file s) j k = no_size (sym k)
    by (refused c q) j k = ap meaning e ∙ (k ∙ ap reply (sym (out_append ms m (refused c q) j)))
