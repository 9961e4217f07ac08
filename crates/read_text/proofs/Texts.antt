-- The text of a call.
-- Assumes nothing.
use mathlib.Core.Path.{◌≡◌, refl, ◌∙◌}
use mathlib.Core.Bool.{Bool, true, false}
use mathlib.Core.List.{List, [], ◌∷◌, ◌++◌, reverse, reverse-cons}
use Prim.Native.Nat.{ℕ, ◌+◌, ◌-◌, ◌%◌, ◌≤◌, ◌<◌}
use native.Mathlib.Omega.{arith}
use lib.Dec.{eqb}
use lib.ListN.{length, set, length-set, length-reverse, length-append}
use borrow.Author.Tests.{eq-eqb, ne_eqb, le-ltb, lt-ltb}
use Rattle.macros.specs.Refusals.FileRefusal.{incomplete, bad_call}
use Rattle.macros.specs.Macro.{Move, pick}
use Rattle.macros.specs.Macro.Call.{store_text}
use Rattle.macros.specs.Formed.{number_fits}
use Rattle.macros.specs.Read.{Prior, Site, CallSite, part_byte, skips, text_byte_by, call_byte, breaks, escaped, part_byte_by}
use Rattle.macros.specs.ReadSoFar.Part.{calling, call_text, call_text_escape}
use Rattle.macros.specs.ReadSoFar.Phase.{texted}
use Rattle.macros.specs.ReadSoFar.Step.{on, stop}
use Rattle.macros.specs.ReadCalls.Turn.{closed, wrong}
use Rattle.form_table.specs.Form.{call_items, move_code, evened}
use Rattle.read_scan.specs.Scan.{run, At, Here, Passes, Stays, Calls, Reached, fault_of, wrong_call}
use Rattle.form_items.specs.Items.{Wrote}
use Rattle.read_text.specs.Text.{Comes, Texting, TextRead, TextFrom, StoreFrom, StoreRead, PutStore, padding}
use Rattle.std.specs.Prelude.{Ok, Err}
use Rattle.read_scan.specs.Bytes.{Next, refused}
use Rattle.read_ends.specs.Ends.{Ended, left_by}
use Rattle.read_scan.specs.declared.FileFault.{FileFault}
use Rattle.read_scan.specs.declared.FileFault.TheVariants.{Incomplete, BadCall}
use Rattle.read_scan.proofs.Laws.{here_on, here_stop, at_on, reached_behind}
use Rattle.form_items.proofs.Writing.{wrote_none, wrote_one, wrote_more, wrote_before}
use Rattle.read_ends.proofs.Leaving.{zeroed}
use Rattle.read_text.proofs.Phases.{space_call}
use Rattle.read_text.proofs.Turns.{call_skips}
use Rattle.read_text.proofs.Closing.{ends_none, ends_wrong, ends_closed}

-- ONE BYTE

text_skips : (pl : CallSite) (i : ℕ) (v : Move) (t : List ℕ) → skips (call_text pl i v t) ≡ true
unfolding skips
text_skips pl i v t = refl

text_colon : (pl : CallSite) (i : ℕ) (v : Move) (t : List ℕ) (b : ℕ) → b ≡ 58 → part_byte (call_text pl i v t) b ≡ on (calling pl (texted i v t))
unfolding part_byte_by text_byte_by pick
text_colon pl i v t b e = simp e

module _ (pl : CallSite) (i : ℕ) (v : Move) (t : List ℕ) (b : ℕ) (h : b ≡ 58 → ⊥) where
  byte_break : breaks b ≡ true → part_byte (call_text pl i v t) b ≡ stop incomplete
  unfolding part_byte_by text_byte_by pick
  byte_break g = simp (ne_eqb _ _ h, g)

  byte_long : breaks b ≡ false → 100 ≤ length t → part_byte (call_text pl i v t) b ≡ stop bad_call
  unfolding part_byte_by text_byte_by pick
  byte_long g l = simp (ne_eqb _ _ h, g, le-ltb _ _ l)

  byte_escape : breaks b ≡ false → length t < 100 → b ≡ 92 → part_byte (call_text pl i v t) b ≡ on (call_text_escape pl i v t)
  unfolding part_byte_by text_byte_by pick
  byte_escape g l e = simp (ne_eqb _ _ h, g, lt-ltb _ _ l, eq-eqb _ _ e)

  byte_plain : breaks b ≡ false → length t < 100 → (b ≡ 92 → ⊥) → part_byte (call_text pl i v t) b ≡ on (call_text pl i v (b ∷ t))
  unfolding part_byte_by text_byte_by pick
  byte_plain g l e = simp (ne_eqb _ _ h, g, lt-ltb _ _ l, ne_eqb _ _ e)

byte_escaped : {s : List ℕ} {a p d : ℕ} → At s a p d → (pl : CallSite) (i : ℕ) (v : Move) (t : List ℕ) (pr : Prior)
    → run s a pr false p (call_text_escape pl i v t) ≡ run s a pr false (p + 1) (call_text pl i v (escaped d ∷ t))
unfolding part_byte_by skips
byte_escaped {s} {a} {p} {d} x pl i v t pr = at_on x pr (call_text_escape pl i v t) (call_text pl i v (escaped d ∷ t)) (λ q o. refl) refl refl

module _ {s : List ℕ} {a p b : ℕ} (x : Here s a p b) (h : b ≡ 58 → ⊥) (k : ℕ) where
  within_file : p ≤ length s
  within_file = let t = x.stands in omega (arith, t.there)

  pub text_break : breaks b ≡ true → Texting s a p k (refused Incomplete p)
  text_break g = (within_file, λ pl i v t l pr. here_stop x pr (call_text pl i v t) incomplete (byte_break pl i v t b h g))

  module _ (g : breaks b ≡ false) where
    pub text_long : 100 ≤ k → Texting s a p k (refused BadCall p)
    text_long j = (within_file, λ pl i v t l pr. here_stop x pr (call_text pl i v t) bad_call (byte_long pl i v t b h g (omega (arith, l))))

    pub text_plain : k < 100 → (b ≡ 92 → ⊥) → Texting s a p k (Ok (b, p))
    text_plain j e =
        let y = x.stands in
        (omega arith, y.there, y.counted, j, λ pl i v t l pr. here_on x pr (call_text pl i v t) (call_text pl i v (b ∷ t)) (λ q o. refl) (byte_plain pl i v t b h g (omega (arith, l)) e))

    module _ (j : k < 100) (e : b ≡ 92) {r : Next} (y : Stays s a (p + 1) r) where
      escape : (pl : CallSite) (i : ℕ) (v : Move) (t : List ℕ) → length t ≡ k → (pr : Prior) → run s a pr false p (call_text pl i v t) ≡ run s a pr false (p + 1) (call_text_escape pl i v t)
      escape pl i v t l pr = here_on x pr (call_text pl i v t) (call_text_escape pl i v t) (λ q o. refl) (byte_escape pl i v t b h g (omega (arith, l)) e)

      pub text_none : {f : FileFault} {q : ℕ} → r ≡ refused f q → Texting s a p k (refused f q)
      text_none {f} {q} i =
          let z : Stays s a (p + 1) (refused f q) = rw i at y in
          (z.found, λ pl i v t l pr. escape pl i v t l pr ∙ z.answer (call_text_escape pl i v t) pr)

      pub text_escaped : {d q c : ℕ} → r ≡ Ok (d, q) → c ≡ escaped d → Texting s a p k (Ok (c, q))
      text_escaped {d} {q} {c} i u =
          let z : Stays s a (p + 1) (Ok (d, q)) = rw i at y in
          let same : q ≡ p + 1 = z.found.0 in
          let there = z.found.1 in
          rw u (omega arith, omega (arith, there.there), omega (arith, there.counted), j, λ pl i v t l pr. escape pl i v t l pr ∙ rw same (byte_escaped there pl i v t pr))

-- A TEXT SO FAR

pub record Reading (s : List ℕ) (a p : ℕ) (old out : List ℕ) (n at k : ℕ) : Type 0 where
  pub text : List ℕ
  pub size : length text ≡ k
  pub short : k ≤ 100
  pub wrote : Wrote old out n (reverse text)
  pub room : p + k ≤ at
  pub reached : Reached s a at
  pub kept : length out ≡ length old
  pub answer : (pl : CallSite) (i : ℕ) (v : Move) (pr : Prior) → run s a pr false p (call_text pl i v []) ≡ run s a pr false at (call_text pl i v text)

pub reading_none : {s : List ℕ} {a p : ℕ} (old : List ℕ) (n : ℕ) → Reached s a p → Reading s a p old old n p 0
reading_none old n h =
    record {
      text = [];
      size = refl;
      short = omega arith;
      wrote = wrote_none old n;
      room = omega arith;
      reached = h;
      kept = refl;
      answer = λ pl i v pr. refl;
    }

module _ {s : List ℕ} {a p : ℕ} {old out : List ℕ} {n at k : ℕ} (g : Reading s a p old out n at k) {r : Next} (y : Passes s a at r) where
  pub reading_fault : {f : FileFault} {q : ℕ} → r ≡ refused f q → TextFrom s a p old out n (refused f q)
  reading_fault {f} {q} e =
      let z : Passes s a at (refused f q) = rw e at y in
      (z.found, λ pl i v pr. g.answer pl i v pr ∙ z.answer (call_text pl i v g.text) pr (text_skips pl i v g.text))

  module _ {b q : ℕ} (e : r ≡ Ok (b, q)) where
    pub reading_byte : Passes s a at (Ok (b, q))
    reading_byte = rw e at y

    there : (pl : CallSite) (i : ℕ) (v : Move) (pr : Prior) → run s a pr false p (call_text pl i v []) ≡ run s a pr false q (call_text pl i v g.text)
    there pl i v pr = g.answer pl i v pr ∙ reading_byte.answer (call_text pl i v g.text) pr (text_skips pl i v g.text)

    pub reading_done : b ≡ 58 → TextFrom s a p old out n (Ok (q + 1, n + k))
    reading_done h =
        record {
          text = g.text;
          wrote = g.wrote;
          used = omega (arith, g.size);
          short = omega (arith, g.size, g.short);
          room = omega (arith, g.size, g.room, reading_byte.found.0);
          reached = reached_behind reading_byte.found.1.stands;
          answer = λ pl i v pr. there pl i v pr ∙ here_on reading_byte.found.1 pr (call_text pl i v g.text) (calling pl (texted i v g.text)) (λ q o. refl) (text_colon pl i v g.text b h);
        }

    module _ {r' : Next} (x : Texting s a q k r') where
      pub reading_fault_2 : {f : FileFault} {u : ℕ} → r' ≡ refused f u → TextFrom s a p old out n (refused f u)
      reading_fault_2 {f} {u} i =
          let z : Texting s a q k (refused f u) = rw i at x in
          (z.0, λ pl i v pr. there pl i v pr ∙ z.1 pl i v g.text g.size pr)

      module _ {c u : ℕ} (i : r' ≡ Ok (c, u)) where
        pub reading_text : Texting s a q k (Ok (c, u))
        reading_text = rw i at x

        pub reading_on : n + k < length out → Reading s a p old (set out (n + k) c) n (u + 1) (k + 1)
        reading_on h =
            let z = reading_text in
            let f = reading_byte.found in
            let here = f.1.stands in
            let sized : n + length (reverse g.text) ≡ n + k = rw (length-reverse g.text) (omega (arith, g.size)) in
            record {
              text = c ∷ g.text;
              size = omega (arith, g.size);
              short = omega (arith, z.3);
              wrote = rw (reverse-cons c g.text) (wrote_more g.wrote (rw sized (wrote_one out (n + k) c h)));
              room = omega (arith, g.room, f.0, z.0);
              reached = (omega (arith, here.behind, z.0), omega (arith, z.1), omega (arith, z.2));
              kept = simp length-set g.kept;
              answer = λ pl i v pr. there pl i v pr ∙ z.4 pl i v g.text g.size pr;
            }

-- THE END OF A TEXT

pub padding_most : (k : ℕ) → length (padding k) ≤ 1
unfolding padding pick
padding_most k = by (eqb (k % 2) 0)
  where
    by : (x : Bool) → length {A = ℕ} (pick x [] (0 ∷ [])) ≤ 1
    by true = omega arith
    by false = omega arith

evened_padding : (t : List ℕ) → evened t ≡ t ++ padding (length t)
unfolding evened padding
evened_padding t = refl

texted_close : (si : Site) (i : ℕ) (v : Move) (t : List ℕ) (b : ℕ) → b ≡ 41 → call_byte si (texted i v t) b ≡ closed (store_text i v (reverse t))
unfolding call_byte pick
texted_close si i v t b e = simp e

texted_wrong : (si : Site) (i : ℕ) (v : Move) (t : List ℕ) (b : ℕ) → (b ≡ 41 → ⊥) → call_byte si (texted i v t) b ≡ wrong
unfolding call_byte pick
texted_wrong si i v t b e = simp (ne_eqb _ _ e)

store_fits : (k i : ℕ) (v : Move) (t : List ℕ) → number_fits k (store_text i v t) ≡ true
unfolding number_fits
store_fits k i v t = refl

store_items : (i : ℕ) (v : Move) (t : List ℕ) → call_items (store_text i v t) ≡ (72 + move_code v) ∷ i ∷ 43 ∷ length t ∷ evened t
unfolding call_items
store_items i v t = refl

over : (e n : ℕ) → n ≤ e → n + (e - n) ≡ e
over e n h = omega arith

apart : (n : ℕ) → n + 2 + 2 ≡ n + 4
apart n = omega arith

module _ (s : List ℕ) (a p : ℕ) (old mid : List ℕ) (n i m : ℕ) {r : Ended} (y : TextFrom s a p old mid (n + 4) r) where
  module _ {q e : ℕ} (j : r ≡ Ok (q, e)) where
    pub store_text_lem : TextRead s a p old mid (n + 4) q e
    store_text_lem = rw j at y

    comes : (v : Move) (si : Site) (k : ℕ) → Comes s a si k (λ pl. call_text pl i v []) p (λ pl. calling pl (texted i v store_text_lem.text)) q
    comes v si k pl u t pr = store_text_lem.answer pl i v pr

    module _ {r' : Next} (z : Calls s a q r') where
      pub store_none : {f : FileFault} {u : ℕ} → r' ≡ refused f u → StoreFrom s a p old mid n i m (refused f u)
      store_none {f} {u} g v l si k =
          ends_none s a p old mid n 4 si k (λ pl. call_text pl i v []) (texted i v store_text_lem.text) (comes v si k) (rw g at z)

      module _ {b u : ℕ} (j' : r' ≡ Ok (b, u)) where
        pub store_byte : Calls s a q (Ok (b, u))
        store_byte = rw j' at z

        pub store_wrong : (f : FileFault) → (b ≡ 41 → ⊥) → fault_of f ≡ wrong_call b → StoreFrom s a p old mid n i m (refused f u)
        store_wrong f h g v l si k =
            ends_wrong s a p old mid n 4 si k (λ pl. call_text pl i v []) (texted i v store_text_lem.text)
            (λ pl x t pr. comes v si k pl x t pr ∙ store_byte.answer (calling pl (texted i v store_text_lem.text)) pr (call_skips pl _) (space_call pl _))
            store_byte.found.1 f store_byte.found.2 (texted_wrong si i v store_text_lem.text b h) g

        at_end_lem : (v : Move) (si : Site) (k : ℕ) → Comes s a si k (λ pl. call_text pl i v []) p (λ pl. calling pl (texted i v store_text_lem.text)) u
        at_end_lem v si k pl x t pr = comes v si k pl x t pr ∙ store_byte.answer (calling pl (texted i v store_text_lem.text)) pr (call_skips pl _) (space_call pl _)

        store_done : {mid₂ mid₃ out : List ℕ} {e' : ℕ} → b ≡ 41 → n + 4 ≤ length old → n + 4 ≤ length mid₂ → n + 4 ≤ length mid₃
            → Wrote mid mid₂ e (padding (e - (n + 4))) → e' ≡ e + length (padding (e - (n + 4)))
            → Wrote mid₂ mid₃ (n + 2) (43 ∷ (e - (n + 4)) ∷ []) → Wrote mid₃ out n ((72 + m) ∷ i ∷ []) → StoreFrom s a p old out n i m (Ok (u + 1, e'))
        store_done {mid₂} {mid₃} {out} {e'} h l₀ l₂ l₃ w₁ g w₂ w₃ v c si k =
            let t = store_text_lem in
            let f = store_byte.found in
            let long : e - (n + 4) ≡ length (reverse t.text) = rw (length-reverse t.text) (omega (arith, t.used)) in
            let w₁' : Wrote mid mid₂ (n + 4 + length (reverse t.text)) (padding (length (reverse t.text))) =
            rw (← long) (rw (over e (n + 4) (omega (arith, t.used))) w₁) in
            let body : Wrote old mid₂ (n + 2 + 2) (evened (reverse t.text)) = rw (apart n, evened_padding (reverse t.text)) (wrote_more t.wrote w₁') in
            let w₂' : Wrote mid₂ mid₃ (n + 2) (43 ∷ length (reverse t.text) ∷ []) = rw long at w₂ in
            let head : Wrote old mid₃ (n + 2) (43 ∷ length (reverse t.text) ∷ evened (reverse t.text)) = wrote_before (omega arith) (omega arith) body w₂' in
            let whole : Wrote old out n ((72 + m) ∷ i ∷ 43 ∷ length (reverse t.text) ∷ evened (reverse t.text)) = wrote_before (omega arith) (omega arith) head w₃ in
            let sized : length (evened (reverse t.text)) ≡ length (reverse t.text) + length (padding (e - (n + 4))) =
            rw (evened_padding (reverse t.text), length-append, long) refl in
            ends_closed s a p old out n 4 si k (λ pl. call_text pl i v []) (texted i v t.text) (at_end_lem v si k) f.1 (store_text i v (reverse t.text))
            (texted_close si i v t.text b h) (store_fits k i v (reverse t.text))
            (rw (store_items i v (reverse t.text), ← c) whole)
            (rw (store_items i v (reverse t.text)) (omega (arith, sized, long, t.used, g)))
            (omega (arith, g, t.used, t.room, f.0, padding_most (e - (n + 4)))) (omega (arith, t.room, f.0))

        pub store_put : {out : List ℕ} {e' : ℕ} → b ≡ 41 → n + 4 ≤ length old → length mid ≡ length old → PutStore mid out n e i m e' → StoreFrom s a p old out n i m (Ok (u + 1, e'))
        store_put h l g w = store_done h l (omega (arith, w.3)) (omega (arith, w.4)) w.5 w.0 w.6 w.7

-- what is left in the lent bytes
pub store_left : {s : List ℕ} {a p : ℕ} {old : List ℕ} (mid : List ℕ) {out : List ℕ} {n i m : ℕ} (r : Ended) → StoreFrom s a p old mid n i m r → out ≡ left_by mid r → length mid ≡ length old
    → StoreRead s a p old out n i m r
store_left mid (Ok (q, e)) x o l = record { from = rw o x; zeros = tt }
store_left {s} {a} {p} {old} mid (Err d) x o l = record { from = λ v e si k. x v e si k; zeros = zeroed old mid (Err d) o l }
