-- A run of pieces, with braces inside it, and a whole pattern.
-- Assumes nothing.
use mathlib.Core.Path.{◌≡◌, refl, sym, ◌∙◌}
use mathlib.Core.Bool.{true, false}
use mathlib.Core.List.{List, [], ◌∷◌, ◌++◌, reverse, reverse-cons, append_assoc, append-nil}
use Prim.Native.Nat.{ℕ, suc, ◌+◌, ◌-◌, ◌*◌, ◌≤◌, ◌<◌}
use native.Mathlib.Omega.{arith}
use lib.ListN.{length, length-append}
use borrow.Author.Tests.{lt-ltb}
use Rattle.macros.specs.Macro.{Piece, tags, depth, elements}
use Rattle.macros.specs.Macro.Piece.{element, start, end, left, right}
use Rattle.macros.specs.Read.{Part, Prior, skips}
use Rattle.macros.specs.ReadSoFar.Joinable.{nothing}
use Rattle.macros.specs.ReadSoFar.Part.{pattern}
use Rattle.form_table.specs.Form.{piece_items, pattern_items}
use Rattle.read_scan.specs.Scan.{run, Here, Passes}
use Rattle.form_items.specs.Items.{Wrote, items_of}
use Rattle.read_pattern.specs.Pattern.{Fits, Grown, Ends, Reads, Begins, behind_left, behind_right, behind_element}
use Rattle.read_element.specs.Element.{IsElement, Pieced, Pieces}
use Rattle.std.specs.Prelude.{Ok, Err}
use Rattle.read_scan.specs.declared.ReadError.{ReadError}
use Rattle.read_scan.specs.declared.FileFault.TheVariants.{BadBrace, NoElement, MacroTooLong}
use Rattle.read_pattern.specs.declared.PatternSoFar.{PatternSoFar}
use Rattle.read_pattern.specs.declared.Inside.TheVariants.{Closed, Quote}
use Rattle.read_scan.proofs.Laws.{reached_behind}
use Rattle.form_items.proofs.Writing.{wrote_none, wrote_more}
use Rattle.read_pattern.proofs.Braces.{at_left, at_full, at_right, at_unmatched, at_unclosed, at_empty, at_quote, at_late_quote}

-- ITEMS

items_append : (qs ps : List Piece) → items_of (qs ++ ps) ≡ items_of ps ++ items_of qs
unfolding items_of
items_append [] ps = sym (append-nil (items_of ps))
items_append (q ∷ qs) ps = rw (items_append qs ps) (append_assoc (items_of ps) (items_of qs) (piece_items q))

form_append : (ps qs : List Piece) → pattern_items (ps ++ qs) ≡ pattern_items ps ++ pattern_items qs
unfolding pattern_items
form_append [] qs = refl
form_append (p ∷ ps) qs = rw (form_append ps qs) (sym (append_assoc (piece_items p) (pattern_items ps) (pattern_items qs)))

-- the form's items of the pieces that the machine keeps
pub form_items : (ps : List Piece) → pattern_items (reverse ps) ≡ items_of ps
unfolding items_of pattern_items
form_items [] = refl
form_items (p ∷ ps) = rw (reverse-cons p ps) (form_append (reverse ps) (p ∷ []) ∙ rw (form_items ps, append-nil (piece_items p)) refl)

-- PIECES GROWN

element_fits : (x : Piece) → IsElement x → (ps : List Piece) (f : PatternSoFar) (n : ℕ) → Fits ps f → Fits (x ∷ ps) (behind_element f n)
unfolding tags elements
element_fits (element u c) i ps f n h = (h.0, lt-ltb 0 (suc (elements ps)) (omega arith))
element_fits start i ps f n h = (h.0, lt-ltb 0 (suc (elements ps)) (omega arith))
element_fits end i ps f n h = (h.0, lt-ltb 0 (suc (elements ps)) (omega arith))
element_fits left i ps f n h = absurd i
element_fits right i ps f n h = absurd i

element_level : (x : Piece) → IsElement x → (ps : List Piece) → depth (x ∷ ps) ≡ depth ps
unfolding depth
element_level (element u c) i ps = refl
element_level start i ps = refl
element_level end i ps = refl
element_level left i ps = absurd i
element_level right i ps = absurd i

left_fits : (ps : List Piece) (f : PatternSoFar) → Fits ps f → Fits (left ∷ ps) (behind_left f)
unfolding tags elements
left_fits ps f h = (omega (arith, h.0), h.1)

module _ {s : List ℕ} {a : ℕ} where
  pub grown_none : (p : ℕ) (f : PatternSoFar) (o : List ℕ) → Grown s a p f p f o o
  unfolding items_of
  grown_none p f o =
      record { pieces = []; fits = λ ps h. h; level = λ ps. refl; answer = λ ps h pr. refl; wrote = wrote_none o f.used; used = omega arith }

  -- the machine is further on, with no piece more
  grown_to : {p q : ℕ} {f g : PatternSoFar} {x y : List ℕ} → Grown s a p f q g x y → (r : ℕ)
      → ((st : Part) (pr : Prior) → skips st ≡ true → run s a pr false q st ≡ run s a pr false r st) → Grown s a p f r g x y
  unfolding skips
  grown_to k r e =
      record {
        pieces = k.pieces;
        fits = k.fits;
        level = k.level;
        answer = λ ps h pr. k.answer ps h pr ∙ e (pattern nothing (k.pieces ++ ps)) pr refl;
        wrote = k.wrote;
        used = k.used;
      }

  grown_then : {p q r : ℕ} {f g h : PatternSoFar} {x y z : List ℕ} → Grown s a p f q g x y → Grown s a q g r h y z → Grown s a p f r h x z
  grown_then k l =
      record {
        pieces = l.pieces ++ k.pieces;
        fits = λ ps c. rw (append_assoc l.pieces k.pieces ps) (l.fits (k.pieces ++ ps) (k.fits ps c));
        level = λ ps. rw (append_assoc l.pieces k.pieces ps) (l.level (k.pieces ++ ps) ∙ k.level ps);
        answer = λ ps c pr. rw (append_assoc l.pieces k.pieces ps) (k.answer ps c pr ∙ l.answer (k.pieces ++ ps) (k.fits ps c) pr);
        wrote = rw (items_append l.pieces k.pieces) (wrote_more k.wrote (rw k.used at l.wrote));
        used = rw (items_append l.pieces k.pieces, length-append) (omega (arith, k.used, l.used));
      }

  -- an element
  grown_piece : {p q n : ℕ} {f : PatternSoFar} {x y : List ℕ} → Pieced s a p x y f.used q n → Grown s a p f q (behind_element f n) x y
  unfolding items_of
  grown_piece {n = n} {f = f} k =
      record {
        pieces = k.piece ∷ [];
        fits = λ ps h. element_fits k.piece k.counts ps f n h;
        level = λ ps. element_level k.piece k.counts ps;
        answer = λ ps h pr. k.answer ps pr;
        wrote = k.wrote;
        used = k.used;
      }

  -- a brace with what is inside
  grown_brace : {p q : ℕ} {f g : PatternSoFar} {x y z o : List ℕ} → Here s a p 123 → f.tags < 99 → Wrote x y f.used (piece_items left) → Here s a q 125
      → Grown s a (p + 1) (behind_left f) q g y z → Wrote z o g.used (piece_items right) → Grown s a p f (q + 1) (behind_right g) x o
  unfolding items_of piece_items tags elements depth
  grown_brace {f = f} {g = g} b h w d k v =
      record {
        pieces = right ∷ (k.pieces ++ (left ∷ []));
        fits = λ ps c. rw (append_assoc k.pieces (left ∷ []) ps) (k.fits (left ∷ ps) (left_fits ps f c));
        level = λ ps. rw (append_assoc k.pieces (left ∷ []) ps, k.level (left ∷ ps)) (omega arith);
        answer = λ ps c pr. rw (append_assoc k.pieces (left ∷ []) ps)
            (at_left b pr ps refl (omega (arith, c.0))
            ∙ (k.answer (left ∷ ps) (left_fits ps f c) pr
            ∙ at_right d pr (k.pieces ++ (left ∷ ps)) refl (rw (k.level (left ∷ ps)) (omega arith))));
        wrote = rw (items_append k.pieces (left ∷ [])) (wrote_more {l = 1 ∷ 0 ∷ items_of k.pieces} (wrote_more {l = 1 ∷ 0 ∷ []} w k.wrote) (rw len at v));
        used = rw (items_append k.pieces (left ∷ []), length-append) (omega (arith, len));
      }
    where
      len : g.used ≡ f.used + length (1 ∷ 0 ∷ items_of k.pieces)
      len = omega (arith, k.used)

-- READING

-- pieces read up to v, and the next byte from there on
module _ {s : List ℕ} {a p v : ℕ} {f g : PatternSoFar} {x y : List ℕ} (k : Grown s a p f v g x y) (l : p ≤ v) where
  pub reads_fault : (out : List ℕ) {h : ReadError} → Passes s a v (Err h) → Reads s a p f x out (Err h)
  unfolding skips
  reads_fault out z = record { is = (z.found, λ ps c pr. k.answer ps c pr ∙ z.answer _ pr refl) }

  module _ {b q : ℕ} (z : Passes s a v (Ok (b, q))) where
    near : Here s a q b
    near = z.found.1

    there : Grown s a p f q g x y
    there = grown_to k q z.answer

    ends : (c : ℕ) → b ≡ c → g.tags ≤ 99 → g.used ≤ f.used + 2 * (v - p) → Ends s a p f q g x y c
    ends c h t i =
        record {
          further = omega (arith, z.found.0);
          here = rw h at near;
          tagged = t;
          room = omega (arith, z.found.0);
          grown = there;
        }

    pub reads_closed : b ≡ 125 → g.tags ≤ 99 → g.used ≤ f.used + 2 * (v - p) → Reads s a p f x y (Ok (Closed q g))
    reads_closed h t i = record { is = ends 125 h t i }

    pub reads_quote : b ≡ 39 → g.tags ≤ 99 → g.used ≤ f.used + 2 * (v - p) → Reads s a p f x y (Ok (Quote q g))
    reads_quote h t i = record { is = ends 39 h t i }

    pub reads_full : (out : List ℕ) → b ≡ 123 → 99 ≤ g.tags → Reads s a p f x out (Err (record { fault = BadBrace; place = q }))
    reads_full out h t =
        record { is = (omega (arith, near.stands.there), λ ps c pr. there.answer ps c pr ∙ at_full near pr (there.pieces ++ ps) h (omega (arith, (there.fits ps c).0))) }

    -- an element
    module _ {out : List ℕ} where
      pub reads_no_piece : (fin : List ℕ) {h : ReadError} → Pieces s a q y out g.used (Err h) → Reads s a p f x fin (Err h)
      reads_no_piece fin u = record { is = (u.is.0, λ ps d pr. there.answer ps d pr ∙ u.is.1 (there.pieces ++ ps) pr) }

      pub grown_element : {m n : ℕ} → Pieces s a q y out g.used (Ok (m, n)) → Grown s a p f m (behind_element g n) x out
      grown_element u = grown_then there (grown_piece u.is)

    -- a brace, and what was read inside it
    module _ (h : b ≡ 123) (t : g.tags < 99) {mid : List ℕ} (w : Wrote y mid g.used (piece_items left)) where
      brace : Here s a q 123
      brace = rw h at near

      into : (ps : List Piece) → Fits ps f → (pr : Prior) → run s a pr false p (pattern nothing ps) ≡ run s a pr false (q + 1) (pattern nothing (left ∷ (there.pieces ++ ps)))
      into ps c pr = there.answer ps c pr ∙ at_left brace pr (there.pieces ++ ps) refl (omega (arith, (there.fits ps c).0))

      fit : (ps : List Piece) → Fits ps f → Fits (left ∷ (there.pieces ++ ps)) (behind_left g)
      fit ps c = left_fits (there.pieces ++ ps) g (there.fits ps c)

      module _ {i : PatternSoFar} (u : i ≡ behind_left g) {out : List ℕ} where
        pub inner_ends : {m : ℕ} {j : PatternSoFar} → Reads s a (q + 1) i mid out (Ok (Closed m j)) → Ends s a (q + 1) (behind_left g) m j mid out 125
        inner_ends {m} {j} d = let c : Reads s a (q + 1) (behind_left g) mid out (Ok (Closed m j)) = rw u at d in c.is

        pub grown_closed : {fin : List ℕ} {m : ℕ} {j : PatternSoFar} → Reads s a (q + 1) i mid out (Ok (Closed m j)) → Wrote out fin j.used (piece_items right)
            → Grown s a p f (m + 1) (behind_right j) x fin
        grown_closed d v = let c = inner_ends d in grown_then there (grown_brace brace t w c.here c.grown v)

        pub reads_unclosed : (fin : List ℕ) {m : ℕ} {j : PatternSoFar} → Reads s a (q + 1) i mid out (Ok (Quote m j))
            → Reads s a p f x fin (Err (record { fault = BadBrace; place = m }))
        unfolding depth
        reads_unclosed fin {m} {j} d =
            let c : Reads s a (q + 1) (behind_left g) mid out (Ok (Quote m j)) = rw u at d in
            record {
              is = (
                omega (arith, c.is.here.stands.there),
                λ ps z pr. into ps z pr ∙ (c.is.grown.answer _ (fit ps z) pr
                    ∙ at_unclosed c.is.here pr _ refl (rw (c.is.grown.level (left ∷ (there.pieces ++ ps))) (omega arith))),
              );
            }

        pub reads_inner : (fin : List ℕ) {e : ReadError} → Reads s a (q + 1) i mid out (Err e) → Reads s a p f x fin (Err e)
        reads_inner fin {e} d =
            let c : Reads s a (q + 1) (behind_left g) mid out (Err e) = rw u at d in
            record { is = (c.is.0, λ ps z pr. into ps z pr ∙ c.is.1 _ (fit ps z) pr) }

-- A WHOLE PATTERN

abbrev pub none_yet : ℕ → PatternSoFar
none_yet n = record { tags = 0; some = false; used = n }

blank : (n : ℕ) → Fits [] (none_yet n)
unfolding tags elements
blank n = (refl, refl)

module _ {s : List ℕ} {a p : ℕ} {x y : List ℕ} {n : ℕ} where
  pub whole_fault : {e : ReadError} → Reads s a p (none_yet n) x y (Err e) → Begins s a p x y n (Err e)
  whole_fault d = (d.is.0, λ pr. d.is.1 [] (blank n) pr)

  pub whole_unmatched : {q : ℕ} {g : PatternSoFar} → Reads s a p (none_yet n) x y (Ok (Closed q g)) → Begins s a p x y n (Err (record { fault = BadBrace; place = q }))
  unfolding depth
  whole_unmatched d = (omega (arith, d.is.here.stands.there), λ pr. d.is.grown.answer [] (blank n) pr ∙ at_unmatched d.is.here pr _ refl (d.is.grown.level []))

  module _ {q : ℕ} {g : PatternSoFar} (r : Reads s a p (none_yet n) x y (Ok (Quote q g))) where
    pub at_its_quote : Ends s a p (none_yet n) q g x y 39
    at_its_quote = r.is

    pub whole_empty : g.some ≡ false → Begins s a p x y n (Err (record { fault = NoElement; place = q }))
    unfolding depth
    whole_empty f =
        let d = at_its_quote in (
          omega (arith, d.here.stands.there),
          λ pr. d.grown.answer [] (blank n) pr ∙ at_empty d.here pr _ refl (d.grown.level []) ((d.grown.fits [] (blank n)).1 ∙ f),
        )

    pub whole_late : g.some ≡ true → 512 ≤ q - a → Begins s a p x y n (Err (record { fault = MacroTooLong; place = q }))
    unfolding depth
    whole_late f l =
        let d = at_its_quote in (
          omega (arith, d.here.stands.there),
          λ pr. d.grown.answer [] (blank n) pr ∙ at_late_quote d.here pr _ l refl (d.grown.level []) ((d.grown.fits [] (blank n)).1 ∙ f),
        )

    pub whole_pattern : g.some ≡ true → q - a < 512 → Begins s a p x y n (Ok (record { place = q + 1; tags = g.tags; used = g.used }))
    unfolding depth
    whole_pattern f l =
        let d = at_its_quote in
        let e = append-nil d.grown.pieces in
        record {
          pieces = d.grown.pieces ++ [];
          further = omega (arith, d.further);
          reached = reached_behind d.here.stands;
          tagged = (d.grown.fits [] (blank n)).0;
          few = d.tagged;
          answer = λ pr. d.grown.answer [] (blank n) pr ∙ at_quote d.here pr _ l refl (d.grown.level []) ((d.grown.fits [] (blank n)).1 ∙ f);
          wrote = rw (e, form_items d.grown.pieces) d.grown.wrote;
          used = rw (e, form_items d.grown.pieces) (omega (arith, d.grown.used));
          room = omega (arith, d.room, d.further);
        }
