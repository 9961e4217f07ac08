-- A pass, one moment at a time: how the moments of pass_moment make the pass of the definitions.
use Rattle.std.specs.Prelude.{Ok, Err, Option as CodeOption, None}
use Prim.Native.Nat.{ℕ, zero, suc, ◌+◌, ◌-◌, ◌≤◌, ◌<◌}
use mathlib.Core.Path.{◌≡◌, refl, sym, ap, ◌∙◌, subst}
use mathlib.Core.Bool.{Bool, true, false, ◌||◌}
use mathlib.Core.List.{List, [], ◌∷◌, ◌++◌}
use mathlib.Core.Option.{Option, none, some}
use native.Mathlib.Numerals.{add-one}
use native.Mathlib.Omega.{arith}
use borrow.Author.Tests.{ltb-true, ltb-false, lt-ltb, le-ltb, le-leb}
use lib.Dec.{ltb}
use lib.ListN.{length, get_or, take, drop, set}
use lib.Seq.{take-suc, take-suc-set}
use Rattle.macros.specs.Bounds.{most_line_bytes}
use Rattle.macros.specs.Refusals.{WorkRefusal}
use Rattle.macros.specs.Refusals.WorkRefusal.{new_line_too_long}
use Rattle.macros.specs.Macro.{Piece, Macro}
use Rattle.lines.specs.State.{State}
use Rattle.lines.specs.Matching.{Division, Divides, end_of}
use Rattle.lines.specs.Replacing.{Work, start_in, onto, unless, put, occur}
use Rattle.lines.specs.Replacing.Done.{bad, good}
use Rattle.lines.specs.Pass.{Walk, match, go_on, matched, at_end, onward, at_byte, walk, pass, outcome, occurred}
use Rattle.lines.specs.Line.{text_of}
use Rattle.lines.proofs.StepLaws.{walk_end, walk_byte, step_copy, step_match, step_empty}
use Rattle.lines.proofs.CopiedLaws.{put_text}
use Rattle.lines.proofs.CopyLaws.{ends_on, ends_inside}
use Rattle.lines.proofs.MatchLaws.{Matches, match_matches}
use Rattle.refusals.specs.Faults.{refusal_of}
use Rattle.refusals.specs.declared.WorkFault.{WorkFault}
use Rattle.refusals.specs.declared.WorkFault.TheVariants.{NewLineTooLong}
use Rattle.pass_steps.specs.Moments.{IsMoment}
use Rattle.pass_moment.specs.declared.Moment.{Moment}
use Rattle.pass_moment.specs.Moments.{past_places, moved_to, refused_at, after_of, answer_of, passed_of, Copies, StepsOver}
use Rattle.pass_one.specs.Contract.{SaysOccurred, done_of as pass_done}
use Rattle.pass_one.specs.Finding.{last_of}
use Rattle.pass_one.specs.Places.{from, match_at, Onward, MovesTo}
use Rattle.pass_one.specs.PassMoments.{CopiedTo, TriedAt, PassStarts, PassCopies, PassReplaces, PassGoesOn}

-- THE LAST MATCH

last_some : (e : ℕ) → e ≤ most_line_bytes → last_of e ≡ some e
unfolding last_of
last_some e h = rw (le-leb e 1054 h)

-- A BYTE THAT IS COPIED

put_on : (b : ℕ) (w : Work) → w.size < most_line_bytes → put b w ≡ good (record { out = b ∷ w.out; size = suc w.size; state = w.state })
unfolding put unless
put_on b w k = rw (lt-ltb w.size 1054 k)

put_full : (b : ℕ) (w : Work) → most_line_bytes ≤ w.size → put b w ≡ bad new_line_too_long w
unfolding put unless
put_full b w k = rw (le-ltb w.size 1054 k)

put_moment : (out b : List ℕ) (c n : ℕ) (w : Work) → n < most_line_bytes → length out ≡ most_line_bytes → IsMoment out b n w → (v : Work) × (put c w ≡ good v) × IsMoment (set out n c) b (n + 1) v
put_moment out b c n w h l x =
    let v : Work = record { out = c ∷ w.out; size = suc w.size; state = w.state } in
    let e : put c w ≡ good v = put_on c w (let z = x.size in omega arith) in (
      v,
      e,
      record {
        line = put_text c w v e ∙ ap (λ (s : List ℕ). s ++ (c ∷ [])) x.line ∙ sym (take-suc-set out n c (omega arith)) ∙ ap (λ (j : ℕ). take j (set out n c)) (sym (add-one n));
        size = (let z = x.size in omega arith);
        state = x.state;
      },
    )

pub below_or : (P : Type 0) (a b : ℕ) → (a < b → P) → (b ≤ a → P) → P
below_or P a b f g = by (ltb a b) refl
  where
    by : (c : Bool) → ltb a b ≡ c → P
    by true e = f (ltb-true a b e)
    by false e = g (ltb-false a b e)

pub both : (P : Moment → List ℕ → Type 0) (r x : Moment) (l y : List ℕ) → (r ≡ x) × (l ≡ y) → P x y → P r l
both P r x l y e h = subst (λ (z : Moment). P z l) (sym e.0) (subst (P x) (sym e.1) h)

-- what holds of each answer holds of the answer
pub copies_by : (P : Moment → List ℕ → Type 0) (t out out' : List ℕ) (a r : Moment) → Copies t out out' a r → (length t ≤ a.place → P (moved_to a a.size) out)
    → (a.place < length t → most_line_bytes ≤ a.size → P (refused_at NewLineTooLong a.size) out)
    → (a.place < length t → a.size < most_line_bytes → P (moved_to a (a.size + 1)) (set out a.size (get_or t a.place 0)))
    → P r out'
copies_by P t out out' a r c f g h =
    below_or (P r out') a.place (length t)
    (λ l. below_or (P r out') a.size most_line_bytes (λ k. both P r _ out' _ (c.copied l k) (h l k)) (λ k. both P r _ out' _ (c.full l k) (g l k)))
    (λ l. both P r _ out' _ (c.none l) (f l))

-- THE PASS FROM A PLACE ON

or_true : (u : Bool) → u || true ≡ true
or_true true = refl
or_true false = refl

or_false : (u : Bool) → u || false ≡ u
or_false true = refl
or_false false = refl

module _ (m : Macro) (t : List ℕ) (x : Walk) (had : Bool) (a : Moment) (w : Work) where
  goes_on : a.place ≤ length t → outcome x ≡ outcome (from m t a.last a.place w) → had || occurred x ≡ a.occurred || occurred (from m t a.last a.place w) → Onward m t x had a w
  goes_on l e f = record { on = λ k. (e, f); over = λ k. absurd (omega arith) }

  is_over : length t < a.place → outcome x ≡ pass_done (passed_of a) w → SaysOccurred (passed_of a) (had || occurred x) → Onward m t x had a w
  is_over l e f = record { on = λ k. absurd (omega arith); over = λ k. (e, f) }

  -- a pass that went well
  is_done : a.refusal ≡ None → length t < a.place → outcome x ≡ good w → a.occurred ≡ (had || occurred x) → Onward m t x had a w
  is_done e l f g =
      is_over l (f ∙ sym (ap (λ (k : CodeOption WorkFault). pass_done (answer_of k a.occurred a.size) w) e)) (subst (λ (k : CodeOption WorkFault). SaysOccurred (answer_of k a.occurred a.size) (had || occurred x)) (sym e) g)

module _ (m : Macro) (t : List ℕ) (last p : ℕ) (w : Work) where
  -- at a byte
  module _ (lt : p < length t) where
    byte_at : from m t last p w ≡ at_byte m t p (get_or t p 0) (last_of last) w (λ skip l v. walk m t skip l (suc p) v (drop (suc p) t)) (match_at m t last p w)
    byte_at = walk_byte m t (last_of last) p w lt

    byte_full : (r : WorkRefusal) → match_at m t last p w ≡ none → put (get_or t p 0) w ≡ bad r w → outcome (from m t last p w) ≡ bad r w
    unfolding at_byte go_on outcome
    byte_full r e x = ap outcome byte_at ∙ rw (e, x)

    module _ (v : Work) (d : Division) (e : match_at m t last p w ≡ some d) where
      byte_occurs : occur m t d w ≡ good v → occurred (from m t last p w) ≡ true
      unfolding at_byte matched go_on occurred
      byte_occurs o = ap occurred byte_at ∙ rw (e, o)

      byte_hits : (had : Bool) → occur m t d w ≡ good v → had || occurred (from m t last p w) ≡ true
      byte_hits had o = ap (λ (u : Bool). had || u) (byte_occurs o) ∙ or_true had

      byte_empty_full : (r : WorkRefusal) → occur m t d w ≡ good v → end_of p d ≡ p → put (get_or t p 0) v ≡ bad r v → outcome (from m t last p w) ≡ bad r v
      unfolding at_byte matched go_on onward outcome
      byte_empty_full r o z x = let n : end_of p d - p ≡ 0 = omega arith in ap outcome byte_at ∙ rw (e, o, n, x)

      byte_fails : (r : WorkRefusal) → occur m t d w ≡ bad r v → outcome (from m t last p w) ≡ bad r v
      unfolding at_byte matched go_on outcome
      byte_fails r o = ap outcome byte_at ∙ rw (e, o)

  -- at the line's length
  module _ (ge : length t ≤ p) where
    end_at : from m t last p w ≡ at_end m t p w (match_at m t last p w)
    end_at = walk_end m t (last_of last) p w ge

    end_free : match_at m t last p w ≡ none → (outcome (from m t last p w) ≡ good w) × (occurred (from m t last p w) ≡ false)
    unfolding at_end outcome occurred
    end_free e = (ap outcome end_at ∙ rw e, ap occurred end_at ∙ rw e)

    module _ (v : Work) (d : Division) (e : match_at m t last p w ≡ some d) where
      end_match : occur m t d w ≡ good v → (outcome (from m t last p w) ≡ good v) × (occurred (from m t last p w) ≡ true)
      unfolding at_end matched go_on outcome occurred
      end_match o = (ap outcome end_at ∙ rw (e, o), ap occurred end_at ∙ rw (e, o))

      end_fails : (r : WorkRefusal) → occur m t d w ≡ bad r v → outcome (from m t last p w) ≡ bad r v
      unfolding at_end matched go_on outcome
      end_fails r o = ap outcome end_at ∙ rw (e, o)

  fails : (v : Work) (d : Division) → match_at m t last p w ≡ some d → (r : WorkRefusal) → occur m t d w ≡ bad r v → outcome (from m t last p w) ≡ bad r v
  fails v d e r o = below_or _ p (length t) (λ l. byte_fails l v d e r o) (λ l. end_fails l v d e r o)

-- A PLACE IS TRIED, and the pass goes on

match_divides : (st : State) (es : List Piece) (t : List ℕ) (last : Option ℕ) (p : ℕ) (d : Division) → match st es last p (drop p t) ≡ some d → Divides st t es p d
match_divides st es t last p d e = (subst (Matches (Divides st t es p) last p) e (match_matches st es t last p)).0

module _ (m : Macro) (t b out : List ℕ) (a : Moment) (w : Work) (y : TriedAt t b out a w) where
  abbrev ahead : Walk
  ahead = from m t a.last a.place w

  -- without a match
  module _ (e : match_at m t a.last a.place w ≡ none) where
    pub free_end : length t ≤ a.place → MovesTo m t b out a w (moved_to a a.size)
    free_end l =
        let f = end_free m t a.last a.place w l e in
        (w, y.held, is_done m t ahead a.occurred (moved_to a a.size) w y.well (omega arith) f.0 (sym (ap (λ (u : Bool). a.occurred || u) f.1 ∙ or_false a.occurred)))

    pub free_full : a.place < length t → most_line_bytes ≤ a.size → MovesTo m t b out a w (refused_at NewLineTooLong a.size)
    free_full l k =
        let h = y.short in
        (w, y.held, is_over m t ahead a.occurred (refused_at NewLineTooLong a.size) w (omega arith) (byte_full m t a.last a.place w l new_line_too_long e (put_full _ w (let z = y.held.size in omega arith))) tt)

    pub free_copied : a.place < length t → a.size < most_line_bytes → MovesTo m t b (set out a.size (get_or t a.place 0)) a w (moved_to a (a.size + 1))
    free_copied l k =
        let c = put_moment out b (get_or t a.place 0) a.size w k y.room y.held in
        let z : ahead ≡ from m t a.last (a.place + 1) c.0 = step_copy m t (last_of a.last) a.place w c.0 l e c.1 ∙ rw add-one in
        (c.0, c.2, goes_on m t ahead a.occurred (moved_to a (a.size + 1)) c.0 (omega arith) (ap outcome z) (ap (λ (u : Bool). a.occurred || u) (ap occurred z)))

  -- with a match that ends at q
  module _ (d : Division) (e : match_at m t a.last a.place w ≡ some d) (q : ℕ) (z : end_of a.place d ≡ q) where
    pub match_within : (a.place ≤ q) × (q ≤ length t)
    match_within =
        let g = match_divides w.state m.pattern t (last_of a.last) a.place d e in
        let l : a.place ≤ end_of a.place d = ends_on w.state t m.pattern a.place d g in
        let k : end_of a.place d ≤ length t = ends_inside w.state t m.pattern a.place d y.place g in
        (omega arith, omega arith)

    module _ (b' out' : List ℕ) (k : ℕ) (v : Work) (x : IsMoment out' b' k v) where
      pub match_refused : (f : WorkFault) → occur m t d w ≡ bad (refusal_of f) v → MovesTo m t b' out' a w (refused_at f k)
      match_refused f o =
          let h = y.short in
          (v, x, is_over m t ahead a.occurred (refused_at f k) v (omega arith) (fails m t a.last a.place w v d e (refusal_of f) o) tt)

      module _ (o : occur m t d w ≡ good v) where
        abbrev next : Moment
        next = after_of (Ok k) q

        pub match_on : a.place < q → MovesTo m t b' out' a w next
        match_on l =
            let g = match_within in
            let h = y.short in
            let lt : a.place < length t = omega arith in
            (v, x, goes_on m t ahead a.occurred next v g.1 (step_match m t (last_of a.last) a.place w v d lt e o (omega arith) (omega arith) ∙ rw (z, last_some q (omega arith))) (byte_hits m t a.last a.place w lt v d e a.occurred o))

        module _ (n : q ≡ a.place) where
          pub empty_end : length t ≤ q → MovesTo m t b' out' a w (moved_to next k)
          empty_end l =
              let f = end_match m t a.last a.place w (omega arith) v d e o in
              (v, x, is_over m t ahead a.occurred (moved_to next k) v (omega arith) f.0 (sym (ap (λ (u : Bool). a.occurred || u) f.1 ∙ or_true a.occurred)))

          pub empty_full : q < length t → most_line_bytes ≤ k → MovesTo m t b' out' a w (refused_at NewLineTooLong k)
          empty_full l j =
              let h = y.short in
              (v, x, is_over m t ahead a.occurred (refused_at NewLineTooLong k) v (omega arith) (byte_empty_full m t a.last a.place w (omega arith) v d e new_line_too_long o (z ∙ n) (put_full _ v (let i = x.size in omega arith))) tt)

          pub empty_copied : length out' ≡ most_line_bytes → q < length t → k < most_line_bytes → MovesTo m t b' (set out' k (get_or t q 0)) a w (moved_to next (k + 1))
          empty_copied lo l j =
              let u = put_moment out' b' (get_or t q 0) k v j lo x in
              let p : put (get_or t a.place 0) v ≡ good u.0 = ap (λ (i : ℕ). put (get_or t i 0) v) (sym n) ∙ u.1 in
              let h = y.short in
              let lt : a.place < length t = omega arith in
              let f : outcome ahead ≡ outcome (walk m t 0 (some q) (suc q) u.0 (drop (suc q) t)) = step_empty m t (last_of a.last) a.place w v u.0 d lt e o (z ∙ n) p ∙ ap (λ (i : ℕ). outcome (walk m t 0 (some i) (suc i) u.0 (drop (suc i) t))) (sym n) in
              (u.0, u.2, goes_on m t ahead a.occurred (moved_to next (k + 1)) u.0 (omega arith) (f ∙ rw (add-one, last_some q (omega arith))) (byte_hits m t a.last a.place w lt v d e a.occurred o))

-- THE LAWS

-- the pass from a place before which there is no match
copied_to : (m : Macro) (t : List ℕ) (st : State) (p : ℕ) → p ≤ length t → length t ≤ most_line_bytes → ((i : ℕ) → i < p → match_at m t past_places i (start_in st) ≡ none)
    → (w : Work) × CopiedTo t st p w × (pass m t st ≡ from m t past_places p w)
unfolding pass last_of text_of onto
copied_to m t st zero h l f = (start_in st, record { line = refl; size = refl; state = refl }, refl)
copied_to m t st (suc p) h l f =
    let u = copied_to m t st p (omega arith) l (λ i k. f i (omega arith)) in
    let z = u.1.size in
    let v : Work = record { out = get_or t p 0 ∷ u.0.out; size = suc u.0.size; state = u.0.state } in
    let e : put (get_or t p 0) u.0 ≡ good v = put_on (get_or t p 0) u.0 (omega arith) in
    let g : match_at m t past_places p u.0 ≡ none = ap (λ (x : State). match x m.pattern (last_of past_places) p (drop p t)) u.1.state ∙ f p (omega arith) in (
      v,
      record {
        line = put_text (get_or t p 0) u.0 v e ∙ ap (λ (x : List ℕ). x ++ (get_or t p 0 ∷ [])) u.1.line ∙ sym (take-suc t p 0 (omega arith));
        size = ap suc z;
        state = u.1.state;
      },
      u.2 ∙ step_copy m t (last_of past_places) p u.0 v (omega arith) g e,
    )

pub pass_starts : PassStarts
pass_starts m t st p h l f =
    let u = copied_to m t st p h l f in
    (u.0, u.1, record { on = λ k. (ap outcome u.2, ap occurred u.2); over = λ k. absurd (omega arith) })

-- no match at any place
pub pass_none : (m : Macro) (t : List ℕ) (st : State) → length t ≤ most_line_bytes → ((i : ℕ) → i ≤ length t → match_at m t past_places i (start_in st) ≡ none)
    → (w : Work) × CopiedTo t st (length t) w × (outcome (pass m t st) ≡ good w) × (occurred (pass m t st) ≡ false)
pass_none m t st l f =
    let u = copied_to m t st (length t) (omega arith) l (λ i k. f i (omega arith)) in
    let g : match_at m t past_places (length t) u.0 ≡ none = ap (λ (x : State). match x m.pattern (last_of past_places) (length t) (drop (length t) t)) u.1.state ∙ f (length t) (omega arith) in
    let e = end_free m t past_places (length t) u.0 (omega arith) g in
    (u.0, u.1, ap outcome u.2 ∙ e.0, ap occurred u.2 ∙ e.1)

-- a pass that had an occurrence had one
pub steps_occurred : (t out l : List ℕ) (p : ℕ) (a z : Moment) → StepsOver t out l p a z → a.occurred ≡ true → z.occurred ≡ true
steps_occurred t out l p a z k o =
    below_or (z.occurred ≡ true) p a.place
    (λ g. ap (λ (x : Moment). x.occurred) (k.further g).0 ∙ o)
    (λ g. copies_by (λ (x : Moment) (y : List ℕ). x.occurred ≡ true) t out l a z (k.still g) (λ i. o) (λ i j. refl) (λ i j. o))

pub pass_copies : PassCopies
pass_copies m t b out out' a r w y e s =
    copies_by (λ (z : Moment) (l : List ℕ). MovesTo m t b l a w z) t out out' a r (s.still (omega arith)) (free_end m t b out a w y e) (free_full m t b out a w y e) (free_copied m t b out a w y e)

pub pass_replaces : PassReplaces
pass_replaces m t b b' out out' out'' a r w v d (Err e') y e o x lo s =
    let h = y.short in
    let p = y.place in
    both (λ (z : Moment) (l : List ℕ). MovesTo m t b' l a w z) r _ out'' _ (s.further (omega arith)) (match_refused m t b out a w y d e (end_of a.place d) refl b' out' e'.size v x e'.fault o)
pass_replaces m t b b' out out' out'' a r w v d (Ok k) y e o x lo s =
    let q = end_of a.place d in
    let i = match_within m t b out a w y d e q refl in
    below_or (MovesTo m t b' out'' a w r) a.place q
    (λ g. both (λ (z : Moment) (l : List ℕ). MovesTo m t b' l a w z) r _ out'' _ (s.further g) (match_on m t b out a w y d e q refl b' out' k v x o g))
    (λ g.
    let n : q ≡ a.place = omega arith in
    copies_by (λ (z : Moment) (l : List ℕ). MovesTo m t b' l a w z) t out' out'' (after_of (Ok k) q) r (s.still g)
    (empty_end m t b out a w y d e q refl b' out' k v x o n)
    (empty_full m t b out a w y d e q refl b' out' k v x o n)
    (empty_copied m t b out a w y d e q refl b' out' k v x o n lo))

pub pass_goes_on : PassGoesOn
pass_goes_on m t x had a r w v u le z =
    let o = u.on le in
    record {
      on = λ l. (o.0 ∙ (z.on l).0, o.1 ∙ (z.on l).1);
      over = λ l. (o.0 ∙ (z.over l).0, subst (SaysOccurred (passed_of r)) (sym o.1) (z.over l).1);
    }
