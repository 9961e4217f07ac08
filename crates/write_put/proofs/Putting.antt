-- Laws on what is put.
-- Assumes nothing.
use Prim.Native.Nat.{ℕ, ◌≤◌, ◌<◌}
use mathlib.Core.Path.{◌≡◌, refl, ap, sym, ◌∙◌, subst}
use mathlib.Core.List.{List, [], ◌∷◌, ◌++◌}
use native.Mathlib.Omega.{arith}
use mathlib.Core.Bool.{Bool, true, false}
use borrow.Author.Tests.{ne_eqb}
use Rattle.macros.specs.Bounds.{most_macro_bytes}
use Rattle.macros.specs.Macro.{among, pick}
use Rattle.macros.specs.Write.{byte, escape_byte}
use lib.ListN.{length}
use Rattle.write_put.specs.Sinks.{SinkLaws}
pub use Rattle.write_put.specs.Sinks.{put_none, put_also as also, by_size, count_none, count_also}
use Rattle.write_put.specs.Puts.{short_text, Ends, Puts, Rest, Counts, CountsOn}
use Rattle.write_put.specs.declared.Short.{Short}
use Rattle.write_put.specs.declared.Short.TheVariants.{Nothing, One, Two, Three, Four}

-- the bytes by another name
pub by_bytes : {n r : ℕ} {bytes other old new : List ℕ} → bytes ≡ other → Puts n bytes old new r → Puts n other old new r
by_bytes {n} {r} {old = old} {new = new} e p = subst (λ (z : List ℕ). Puts n z old new r) e p

-- the bytes pass the file's end
pub put_past : {n r : ℕ} {bytes now : List ℕ} → Ends (length now) n (length bytes) r → length now < r → Puts n bytes now now r
put_past e l = record { ends = e; text = λ h. absurd (omega arith); same = refl }

pub short_few : (s : Short) → length (short_text s) ≤ 4
unfolding short_text
short_few Nothing = omega arith
short_few (One a) = omega arith
short_few (Two a b) = omega arith
short_few (Three a b c) = omega arith
short_few (Four a b c d) = omega arith

-- THE MARKS

pub plain : (t : Bool) (b : ℕ) → t ≡ false → b ∷ [] ≡ byte t b
unfolding byte
plain t b n = ap (λ (w : Bool). byte w b) {y = t} (sym n)

pub escaped : (t : Bool) (b : ℕ) {x : ℕ} → t ≡ true → x ≡ escape_byte b → 92 ∷ x ∷ [] ≡ byte t b
unfolding byte
escaped t b n f = ap (λ (y : ℕ). 92 ∷ y ∷ []) f ∙ ap (λ (w : Bool). byte w b) {y = t} (sym n)

pub by_mark : (l : List ℕ) (b : ℕ) {t : Bool} {x : List ℕ} → x ≡ byte t b → t ≡ among l b → x ≡ byte (among l b) b
by_mark l b e f = e ∙ ap (λ (w : Bool). byte w b) f

pub feed : {b : ℕ} → b ≡ 10 → 110 ≡ escape_byte b
unfolding escape_byte pick
feed {b} e = rw e

pub tab : {b : ℕ} → b ≡ 9 → 116 ≡ escape_byte b
unfolding escape_byte pick
tab {b} e = rw e

pub itself : {b : ℕ} → (b ≡ 10 → ⊥) → (b ≡ 9 → ⊥) → b ≡ escape_byte b
unfolding escape_byte pick
itself {b} f g = rw (ne_eqb b 10 f, ne_eqb b 9 g)

-- THE LOOPS

pub rest_next : {m n k : ℕ} {whole old rest bytes more now next : List ℕ} → Rest m whole old n rest now → rest ≡ bytes ++ more → Puts n bytes now next k → Rest m whole old k more next
rest_next f w p = λ new r q. f new r (by_bytes (sym w) (also p q))

pub rest_done : {m n : ℕ} {whole old rest now : List ℕ} → Rest m whole old n rest now → rest ≡ [] → Puts m whole old now n
rest_done {n = n} {now = now} f w = f now n (by_bytes (sym w) put_none)

-- COUNTING

-- the bytes by another name
pub count_as : {n r : ℕ} {bytes other : List ℕ} → bytes ≡ other → Counts n bytes r → Counts n other r
count_as {n} {r} e p = subst (λ (z : List ℕ). Counts n z r) e p

pub counted : {n size r : ℕ} (bytes : List ℕ) → size ≡ length bytes → Ends most_macro_bytes n size r → Counts n bytes r
counted bytes e p = record { ends = by_size e p }

pub counts_next : {m n k : ℕ} {whole rest bytes more : List ℕ} → CountsOn m whole n rest → rest ≡ bytes ++ more → Counts n bytes k → CountsOn m whole k more
counts_next f w p = λ r q. f r (count_as (sym w) (count_also p q))

pub counts_done : {m n : ℕ} {whole rest : List ℕ} → CountsOn m whole n rest → rest ≡ [] → Counts m whole n
counts_done {n = n} f w = f n (count_as (sym w) count_none)

-- THE SINKS

-- where the rest is added behind n to the sink now, the whole has been added behind m to the old sink
abbrev pub Left : {S : Type 0} → (ℕ → List ℕ → S → S → ℕ → Type 0) → ℕ → List ℕ → S → ℕ → List ℕ → S → Type 0
Left {S} adds m whole old n rest now = (new : S) (r : ℕ) → adds n rest now new r → adds m whole old new r

module _ {S : Type 0} {fits : S → Type 0} {adds : ℕ → List ℕ → S → S → ℕ → Type 0} (laws : SinkLaws fits adds) where
  -- the bytes by another name
  pub added_as : {n r : ℕ} {bytes other : List ℕ} {s t : S} → bytes ≡ other → adds n bytes s t r → adds n other s t r
  added_as {n} {r} {s = s} {t = t} e p = subst (λ (z : List ℕ). adds n z s t r) e p

  pub left_all : {n : ℕ} {bytes : List ℕ} {now : S} → Left adds n bytes now n bytes now
  left_all = λ new r p. p

  pub left_next : {m n k : ℕ} {whole rest bytes more : List ℕ} {old now next : S} → Left adds m whole old n rest now → rest ≡ bytes ++ more → adds n bytes now next k → Left adds m whole old k more next
  left_next f w p = λ new r q. f new r (added_as (sym w) (laws.also p q))

  pub left_done : {m n : ℕ} {whole rest : List ℕ} {old now : S} → Left adds m whole old n rest now → rest ≡ [] → adds m whole old now n
  left_done {n = n} {now = now} f w = f now n (added_as (sym w) laws.none)
