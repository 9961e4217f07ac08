-- What adding bytes to a sink is: the laws of adding, for the file and for the counter.
use Prim.Native.Nat.{ℕ, ◌+◌, ◌≤◌, ◌<◌}
use mathlib.Core.Path.{◌≡◌, refl, ap, sym, ◌∙◌, subst}
use mathlib.Core.List.{List, [], ◌++◌, append_assoc, append-nil}
use native.Mathlib.Nat.{add-zero}
use native.Mathlib.Decide.{dec_le}
use native.Mathlib.Omega.{arith}
use lib.ListN.{length, take, length-append}
use Rattle.write_put.specs.Puts.{Ends, Puts, Counts}
use Rattle.write_put.specs.declared.InFile.{InFile}
use Rattle.write_put.specs.declared.Counter.{Counter}

-- nothing is added; one text behind another; and more can be added
pub record SinkLaws {S : Type 0} (fits : S → Type 0) (adds : ℕ → List ℕ → S → S → ℕ → Type 0) : Type 0 where
  pub none : {n : ℕ} {s : S} → adds n [] s s n
  pub also : {n k j : ℕ} {a b : List ℕ} {s t u : S} → adds n a s t k → adds k b t u j → adds n (a ++ b) s u j
  pub kept : {n k : ℕ} {a : List ℕ} {s t : S} → fits s → adds n a s t k → fits t

-- nothing is put
pub put_none : {n : ℕ} {now : List ℕ} → Puts n [] now now n
put_none {n} {now} = record { ends = record { count = λ h. sym (add-zero n); full = λ h. omega arith }; text = λ h. sym (append-nil (take n now)); same = refl }

ends_also : {room n k j a b : ℕ} → Ends room n a k → Ends room k b j → Ends room n (a + b) j
ends_also {room} {n} {k} {j} {a} {b} p q = record { count = λ h. counted h (q.count h); full = λ h. past (q.full h) (dec_le k room) }
  where
    counted : j ≤ room → j ≡ k + b → j ≡ n + (a + b)
    counted h e = let c = p.count (omega arith) in omega arith

    past : room < k + b → Dec (k ≤ room) → room < n + (a + b)
    past l (yes h) = let c = p.count h in omega arith
    past l (no f) = let c = p.full (omega arith) in omega arith

-- a put behind a put
pub put_also : {n k j : ℕ} {bytes more old mid new : List ℕ} → Puts n bytes old mid k → Puts k more mid new j → Puts n (bytes ++ more) old new j
put_also {n} {k} {j} {bytes} {more} {old} {mid} {new} p q =
    record {
      ends = subst (λ (z : ℕ). Ends (length old) n z j) (sym (length-append bytes more)) whole;
      text = λ h. q.text (omega (arith, p.same)) ∙ ap (λ (z : List ℕ). z ++ more) (p.text (let c = rest.count h in omega arith)) ∙ append_assoc (take n old) bytes more;
      same = q.same ∙ p.same;
    }
  where
    rest : Ends (length old) k (length more) j
    rest = subst (λ (z : ℕ). Ends z k (length more) j) p.same q.ends

    whole : Ends (length old) n (length bytes + length more) j
    whole = ends_also p.ends rest

pub by_size : {room n size k r : ℕ} → size ≡ k → Ends room n size r → Ends room n k r
by_size {room} {n} {r = r} e p = subst (λ (z : ℕ). Ends room n z r) e p

pub count_none : {n : ℕ} → Counts n [] n
count_none {n} = record { ends = record { count = λ h. sym (add-zero n); full = λ h. omega arith } }

-- a count behind a count
pub count_also : {n k j : ℕ} {bytes more : List ℕ} → Counts n bytes k → Counts k more j → Counts n (bytes ++ more) j
count_also {bytes = bytes} {more = more} p q = record { ends = by_size (sym (length-append bytes more)) (ends_also p.ends q.ends) }

-- THE SINKS

abbrev pub room_fits : InFile → Type 0
room_fits s = length s.file.now ≤ 32768

abbrev pub puts_into : ℕ → List ℕ → InFile → InFile → ℕ → Type 0
puts_into n bytes s t r = Puts n bytes s.file.now t.file.now r × (t.file.ghost_name ≡ s.file.ghost_name)

pub file_laws : SinkLaws room_fits puts_into
file_laws = record { none = (put_none, refl); also = λ p q. (put_also p.0 q.0, q.1 ∙ p.1); kept = λ f p. let e = p.0.same in omega arith }

abbrev pub can_count : Counter → Type 0
can_count s = Unit

abbrev pub counts_from : ℕ → List ℕ → Counter → Counter → ℕ → Type 0
counts_from n bytes s t r = Counts n bytes r

pub counter_laws : SinkLaws can_count counts_from
counter_laws = record { none = count_none; also = λ p q. count_also p q; kept = λ f p. tt }
