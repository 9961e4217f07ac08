-- Copied bytes: copying composes, one byte at a time over the line.
use mathlib.Core.Path.{◌≡◌, refl, sym, ap, ◌∙◌, subst}
use mathlib.Core.Bool.{Bool, true, false, false≢true}
use mathlib.Core.List.{List, [], ◌∷◌, ◌++◌, reverse, reverse_aux, reverse_aux-reverse_aux-nil, append-nil, append_assoc}
use Prim.Native.Nat.{ℕ, zero, suc, ◌+◌, ◌-◌, ◌≤◌, ◌<◌}
use native.Mathlib.Omega.{arith}
use borrow.Author.Tests.{ltb-true, ltb-false}
use lib.Dec.{ltb}
use lib.ListN.{length, take, drop, get_or, length-drop, length-append}
use lib.Seq.{slice, slice_empty, drop-cons, take-suc, drop-append-le, length-take-le}
use Rattle.macros.specs.Bounds.{most_line_bytes}
use Rattle.macros.specs.Refusals.{WorkRefusal}
use Rattle.macros.specs.Refusals.WorkRefusal.{new_line_too_long}
use Rattle.lines.specs.Replacing.{Work, unless, onto, put}
use Rattle.lines.specs.Replacing.Done.{bad, good}
use Rattle.lines.specs.Line.{text_of}
use Rattle.lines.specs.Steps.{new_line, Copied}

reverse_onto : (l o : List ℕ) → reverse_aux l o ≡ reverse l ++ o
reverse_onto [] o = refl
reverse_onto (b ∷ l) o = reverse_onto l (b ∷ o) ∙ sym (append_assoc (reverse l) (b ∷ []) o) ∙ ap (λ (x : List ℕ). x ++ o) (sym (reverse_onto l (b ∷ [])))

onto_reverse : (l o : List ℕ) → onto l o ≡ reverse_aux l o
unfolding onto
onto_reverse [] o = refl
onto_reverse (b ∷ l) o = onto_reverse l (b ∷ o)

-- the text that a pass made, joined to the demand's own notion
pub text_of_lem : (w : Work) → text_of w ≡ new_line w
unfolding text_of
text_of_lem w = onto_reverse w.out []

-- nothing is copied between a place and itself
pub copied_none : (t : List ℕ) (p q : ℕ) (w : Work) → q ≡ p → Copied (slice q p t) w w
copied_none t p q w e =
    subst (λ (s : List ℕ). Copied s w w) (sym (slice_empty p t) ∙ ap (λ (j : ℕ). slice j p t) (sym e)) (record { line = sym (append-nil (new_line w)); size = omega arith; room = λ h. absurd (omega arith); state = refl })

pub copied_append : (l m : List ℕ) (w v x : Work) → Copied l w v → Copied m v x → Copied (l ++ m) w x
copied_append l m w v x h g =
    record {
      line = g.line ∙ ap (λ (s : List ℕ). s ++ m) h.line ∙ append_assoc (new_line w) l m;
      size = (let a = h.size in let b = g.size in let n = length-append l m in omega arith);
      room = λ z. go (length m) refl (omega (arith, z, length-append l m));
      state = g.state ∙ h.state;
    }
  where
    go : (n : ℕ) → length m ≡ n → 0 < length l + length m → x.size ≤ most_line_bytes
    go zero e z =
        let a : v.size ≤ most_line_bytes = h.room (omega arith) in
        let b = g.size in
        omega arith
    go (suc n) e z = g.room (omega arith)

unless_good : (b : Bool) (r : WorkRefusal) (w x v : Work) → unless b r w x ≡ good v → v ≡ x
unfolding unless
unless_good true r w x v e = cc
unless_good false r w x v e = absurd (let z : ◌≡◌ {A = ℕ} 0 1 = cc in omega arith)

unless_true : (b : Bool) (r : WorkRefusal) (w x v : Work) → unless b r w x ≡ good v → b ≡ true
unfolding unless
unless_true true r w x v e = refl
unless_true false r w x v e = absurd (let z : ◌≡◌ {A = ℕ} 0 1 = cc in omega arith)

-- the refusal of a step, and the moment that it finds
unless_bad : (b : Bool) (r : WorkRefusal) (w x : Work) (s : WorkRefusal) (v : Work) → unless b r w x ≡ bad s v → (b ≡ false) × (s ≡ r) × (v ≡ w)
unfolding unless
unless_bad true r w x s v e = absurd (let z : ◌≡◌ {A = ℕ} 0 1 = cc in omega arith)
unless_bad false r w x s v e = (refl, cc, cc)

-- a byte that has no room
pub put_full : (b : ℕ) (w : Work) (r : WorkRefusal) (v : Work) → put b w ≡ bad r v → (v ≡ w) × (most_line_bytes ≤ w.size) × (r ≡ new_line_too_long)
unfolding put
put_full b w r v h =
    let e = unless_bad (ltb w.size most_line_bytes) new_line_too_long w (record { out = b ∷ w.out; size = suc w.size; state = w.state }) r v h in
    (e.2, ltb-false w.size most_line_bytes e.0, e.1)

pub put_copied : (b : ℕ) (w v : Work) → put b w ≡ good v → Copied (b ∷ []) w v
unfolding put
put_copied b w v h =
    let e = unless_good (ltb w.size most_line_bytes) new_line_too_long w (record { out = b ∷ w.out; size = suc w.size; state = w.state }) v h in
    let f : w.size < most_line_bytes = ltb-true w.size most_line_bytes (unless_true (ltb w.size most_line_bytes) new_line_too_long w (record { out = b ∷ w.out; size = suc w.size; state = w.state }) v h) in
    let n : v.size ≡ suc w.size = ap (λ (y : Work). y.size) e in
    record { line = ap new_line e ∙ reverse_onto w.out (b ∷ []); size = omega arith; room = λ z. omega arith; state = ap (λ (y : Work). y.state) e }

pub put_text : (b : ℕ) (w v : Work) → put b w ≡ good v → text_of v ≡ text_of w ++ (b ∷ [])
put_text b w v h = text_of_lem v ∙ (put_copied b w v h).line ∙ ap (λ (s : List ℕ). s ++ (b ∷ [])) (sym (text_of_lem w))

-- a text that has room
pub puts_copied : (x : List ℕ) (w : Work) → w.size + length x ≤ most_line_bytes → Copied x w (record { out = onto x w.out; size = w.size + length x; state = w.state })
puts_copied x w h =
    record { line = ap reverse (onto_reverse x w.out) ∙ reverse_aux-reverse_aux-nil x w.out ∙ reverse_onto w.out x; size = refl; room = λ z. h; state = refl }

-- the byte b at place p of the line t
module _ (t : List ℕ) (p b : ℕ) (bs : List ℕ) (e : b ∷ bs ≡ drop p t) where
  pub byte_inside : p < length t
  byte_inside = let a : suc (length bs) ≡ length t - p = ap length e ∙ length-drop p t in omega arith

  byte_cons : b ∷ bs ≡ get_or t p 0 ∷ drop (suc p) t
  byte_cons = e ∙ drop-cons t p 0 byte_inside

  pub byte_rest : bs ≡ drop (suc p) t
  byte_rest = let c = byte_cons in cc

  byte_is : b ≡ get_or t p 0
  byte_is = let c = byte_cons in cc

  pub slice_next : (a : ℕ) → a ≤ p → slice a (suc p) t ≡ slice a p t ++ (b ∷ [])
  slice_next a l =
      let n : length (take p t) ≡ p = length-take-le p t (let i : p < length t = byte_inside in omega arith) in
      ap (drop a) (take-suc t p 0 byte_inside) ∙ drop-append-le a (take p t) (get_or t p 0 ∷ []) (omega arith) ∙ ap (λ (x : ℕ). slice a p t ++ (x ∷ [])) (sym byte_is)
