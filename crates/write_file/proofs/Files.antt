-- A macro more in the file, or the refusal.
-- Assumes nothing.
use Prim.Native.Nat.{ℕ, suc, ◌+◌, ◌≤◌, ◌<◌, min}
use mathlib.Core.Path.{◌≡◌, refl, ap, sym, ◌∙◌, subst}
use mathlib.Core.Bool.{Bool, true, false, ◌&&◌}
use mathlib.Core.List.{List, [], ◌∷◌, ◌++◌, append_assoc}
use native.Mathlib.Omega.{arith}
use native.Mathlib.Decide.{dec_le}
use borrow.Author.Tests.{lt-ltb, le-ltb, le-leb, lt-leb}
use lib.ListN.{length, take, drop, length-append, length-drop, take-append-drop}
use lib.Seq.{length-take-le, take-append-le}
use Rattle.macros.specs.Bounds.{most_file_bytes, most_macro_bytes}
use Rattle.macros.specs.Macro.{Macro, Table, pick}
use Rattle.macros.specs.Refusals.FileRefusal.{file_too_long, macro_too_long}
use Rattle.macros.specs.Write.{written, write_from}
use Rattle.macros.specs.Write.Written.{refused}
use Rattle.write_put.specs.Puts.{Puts}
use Rattle.write_file.specs.Slots.{limit_of, fault_of, answer_of, refusal_of, Adds}
use Rattle.write_file.specs.declared.WritingFault.{WritingFault}
use Rattle.write_file.specs.declared.WritingFault.TheVariants.{MacroTooLong, FileTooLong}
use Rattle.std.specs.Prelude.{Ok}
use Rattle.write_file.specs.Slots.{Outcome, no_file}

-- THE DEFINITION BY CASES

and_false : (p : Bool) → p && false ≡ false
and_false true = refl
and_false false = refl

module _ (s : List ℕ) (m : Macro) (ms : Table) where
  -- 18
  pub long_macro : most_macro_bytes < length (written m) → length s + most_macro_bytes ≤ most_file_bytes → write_from s (m ∷ ms) ≡ refused macro_too_long (length s + most_macro_bytes)
  unfolding write_from pick
  long_macro h l = rw (lt-ltb most_macro_bytes (length (written m)) h, le-leb (length s + most_macro_bytes) most_file_bytes l)

  -- 10 in a macro
  pub long_file : most_file_bytes < length s + most_macro_bytes → most_file_bytes < length s + suc (length (written m)) → write_from s (m ∷ ms) ≡ refused file_too_long most_file_bytes
  unfolding write_from pick
  long_file h l = rw (lt-leb (length s + most_macro_bytes) most_file_bytes h, and_false, lt-ltb most_file_bytes (length s + suc (length (written m))) l)

  -- 10 at a line feed
  pub no_feed_lem : length (written m) ≤ most_macro_bytes → most_file_bytes < length s + suc (length (written m)) → write_from s (m ∷ ms) ≡ refused file_too_long most_file_bytes
  unfolding write_from pick
  no_feed_lem h l = rw (le-ltb most_macro_bytes (length (written m)) h, lt-ltb most_file_bytes (length s + suc (length (written m))) l)

  pub fitting : length (written m) ≤ most_macro_bytes → length s + suc (length (written m)) ≤ most_file_bytes → write_from s (m ∷ ms) ≡ write_from (s ++ (written m ++ (10 ∷ []))) ms
  unfolding write_from pick
  fitting h l = rw (le-ltb most_macro_bytes (length (written m)) h, le-ltb most_file_bytes (length s + suc (length (written m))) l)

-- THE LIMIT

pub limit_low : (n : ℕ) → n ≤ 32256 → limit_of n ≡ n + most_macro_bytes
unfolding limit_of pick
limit_low n h = rw (le-leb n 32256 h)

pub limit_high : (n : ℕ) → 32256 < n → limit_of n ≡ most_file_bytes
unfolding limit_of pick
limit_high n h = rw (lt-leb n 32256 h)

pub fault_low : (n : ℕ) → n ≤ 32256 → fault_of n ≡ MacroTooLong
unfolding fault_of pick
fault_low n h = rw (le-leb n 32256 h)

pub fault_high : (n : ℕ) → 32256 < n → fault_of n ≡ FileTooLong
unfolding fault_of pick
fault_high n h = rw (lt-leb n 32256 h)

-- the limit lies within the file, and within 512 bytes
pub limit_room : (n : ℕ) → n ≤ most_file_bytes → (n ≤ limit_of n) × (limit_of n ≤ most_file_bytes) × (limit_of n ≤ n + most_macro_bytes)
limit_room n h = by (dec_le n 32256)
  where
    by : Dec (n ≤ 32256) → (n ≤ limit_of n) × (limit_of n ≤ most_file_bytes) × (limit_of n ≤ n + most_macro_bytes)
    by (yes l) = let e = limit_low n l in omega arith
    by (no f) = let e = limit_high n (omega arith) in omega arith

pub limit_least : (n : ℕ) → min (n + most_macro_bytes) most_file_bytes ≡ limit_of n
limit_least n = by (dec_le n 32256)
  where
    by : Dec (n ≤ 32256) → min (n + most_macro_bytes) most_file_bytes ≡ limit_of n
    by (yes l) = let e = limit_low n l in omega arith
    by (no f) = let e = limit_high n (omega arith) in omega arith

before : (old : List ℕ) (n : ℕ) → n ≤ most_file_bytes → length old ≡ most_file_bytes → length (take n old) ≡ n
before old n w size = length-take-le n old (omega arith)

-- THE ANSWER

module _ (start limit n end : ℕ) where
  pub answer_over : limit < n → answer_of start limit n end ≡ no_file (fault_of start) limit
  unfolding answer_of pick
  answer_over h = rw (lt-ltb limit n h)

  module _ (h : n ≤ limit) where
    pub answer_no_feed : most_file_bytes < end → answer_of start limit n end ≡ no_file FileTooLong most_file_bytes
    unfolding answer_of pick
    answer_no_feed l = rw (le-ltb limit n h, lt-ltb most_file_bytes end l)

    pub answer_fits : end ≤ most_file_bytes → answer_of start limit n end ≡ Ok end
    unfolding answer_of pick
    answer_fits l = rw (le-ltb limit n h, le-ltb most_file_bytes end l)

-- a macro that is put into the part of the file before its limit, and its line feed
module _ (old : List ℕ) {text part last : List ℕ} {start limit n end : ℕ} (w : start ≤ most_file_bytes) (size : length old ≡ most_file_bytes) (a : limit ≡ limit_of start)
    (p : Puts start text (take limit old) part n) (q : Puts n (10 ∷ []) (part ++ drop limit old) last end) where
  limit_within : (start ≤ limit) × (limit ≤ most_file_bytes) × (limit ≤ start + most_macro_bytes)
  limit_within = let x = limit_room start w in omega arith

  room : length (take limit old) ≡ limit
  room = let x = limit_within in length-take-le limit old (omega arith)

  whole : length (part ++ drop limit old) ≡ most_file_bytes
  whole =
      let x = limit_within in
      let b = length-append part (drop limit old) in
      let c = length-drop limit old in
      let d = p.same in
      let e = room in
      omega arith

  -- the macro does not fit
  adds_none : limit < n → Adds old start text last (no_file (fault_of start) limit)
  adds_none h = record { comes = λ m ms t. by m ms (ap length t) (dec_le start 32256); within = tt }
    where
      by : (m : Macro) (ms : Table) → length (written m) ≡ length text → Dec (start ≤ 32256) → write_from (take start old) (m ∷ ms) ≡ refused (refusal_of (fault_of start)) limit
      by m ms e (yes l) =
          let r = room in
          let f = p.ends.full (omega arith) in
          let c = limit_low start l in
          let d = before old start w size in
          let x : length (take start old) + most_macro_bytes ≡ limit = omega arith in
          long_macro (take start old) m ms (omega arith) (omega arith)
          ∙ ap (refused macro_too_long) x
          ∙ ap (λ (z : WritingFault). refused (refusal_of z) limit) (sym (fault_low start l))
      by m ms e (no g) =
          let r = room in
          let f = p.ends.full (omega arith) in
          let c = limit_high start (omega arith) in
          let d = before old start w size in
          let x : most_file_bytes ≡ limit = omega arith in
          long_file (take start old) m ms (omega arith) (omega arith)
          ∙ ap (refused file_too_long) x
          ∙ ap (λ (z : WritingFault). refused (refusal_of z) limit) (sym (fault_high start (omega arith)))

  module _ (h : n ≤ limit) where
    counted : n ≡ start + length text
    counted = let r = room in p.ends.count (omega arith)

    -- the macro fits, and its line feed does not
    adds_no_feed : most_file_bytes < end → Adds old start text last (no_file FileTooLong most_file_bytes)
    adds_no_feed l =
        record {
          comes = λ m ms t.
              let e : length (written m) ≡ length text = ap length t in
              let c = counted in
              let v = whole in
              let f = q.ends.full (omega arith) in
              let d = before old start w size in
              let x = limit_within in
              no_feed_lem (take start old) m ms (omega arith) (omega arith);
          within = tt;
        }

    stands : take n (part ++ drop limit old) ≡ take start old ++ text
    stands =
        let r = room in
        let x = limit_within in
        let s = p.same in
        take-append-le n part (drop limit old) (omega arith)
        ∙ p.text (omega arith)
        ∙ ap (λ (z : List ℕ). z ++ text) (sym (take-append-le start (take limit old) (drop limit old) (omega arith)) ∙ ap (take start) (take-append-drop limit old))

    -- both fit
    adds_one : end ≤ most_file_bytes → Adds old start text last (Ok end)
    adds_one l =
        record {
          comes = λ m ms t.
              let e : length (written m) ≡ length text = ap length t in
              let c = counted in
              let v = whole in
              let f = q.ends.count (omega arith) in
              let d = before old start w size in
              let x = limit_within in
              let z : take start old ++ (written m ++ (10 ∷ [])) ≡ take end last =
              ap (λ (y : List ℕ). take start old ++ (y ++ (10 ∷ []))) t
              ∙ sym (append_assoc (take start old) text (10 ∷ []))
              ∙ ap (λ (y : List ℕ). y ++ (10 ∷ [])) (sym stands)
              ∙ sym (q.text (omega arith))
              in
              fitting (take start old) m ms (omega arith) (omega arith) ∙ ap (λ (y : List ℕ). write_from y ms) z;
          within = l;
        }

  pub adds : {r : Outcome} → r ≡ answer_of start limit n end → Adds old start text last r
  adds {r} e = by (dec_le n limit) (dec_le end most_file_bytes)
    where
      told : (x : Outcome) → answer_of start limit n end ≡ x → Adds old start text last x → Adds old start text last r
      told x f y = subst (λ (z : Outcome). Adds old start text last z) (sym (e ∙ f)) y

      by : Dec (n ≤ limit) → Dec (end ≤ most_file_bytes) → Adds old start text last r
      by (no f) g = let h : limit < n = omega arith in told _ (answer_over start limit n end h) (adds_none h)
      by (yes h) (no f) = let l : most_file_bytes < end = omega arith in told _ (answer_no_feed start limit n end h l) (adds_no_feed h l)
      by (yes h) (yes l) = told _ (answer_fits start limit n end h l) (adds_one h l)
