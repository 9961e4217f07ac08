-- A pass, one place at a time, as the code takes it.
use Rattle.std.specs.Prelude.{Option as CodeOption, Some, None, Result, Ok, Err}
use Prim.Native.Nat.{ℕ, ◌+◌, ◌-◌, ◌*◌, ◌≤◌, ◌<◌}
use mathlib.Core.Path.{◌≡◌, refl, ap, ◌∙◌, subst}
use mathlib.Core.Bool.{Bool, true}
use mathlib.Core.List.{List}
use mathlib.Core.Option.{Option, none, some}
use native.Mathlib.Omega.{arith}
use lib.ListN.{length, get_or, drop, set}
use lib.Seq.{drop-set-lt, drop-drop}
use Rattle.macros.specs.Bounds.{most_line_bytes}
use Rattle.macros.specs.Macro.{Piece, Macro}
use Rattle.lines.specs.Matching.{Division, end_of, stops}
use Rattle.lines.specs.Replacing.{Work}
use Rattle.form_state.specs.Access.{IsState}
use Rattle.refusals.specs.declared.WorkFault.TheVariants.{NewLineTooLong}
use Rattle.refusals.specs.declared.WorkError.{WorkError}
use Rattle.pass_replace.specs.Contract.{EndsFrom, IsSlot, IsDivided, Lent, Occurs}
use Rattle.pass_steps.specs.Moments.{IsMoment, done_of, size_of}
use Rattle.pass_moment.specs.declared.Moment.{Moment}
use Rattle.pass_one.specs.Finding.{Ready, FoundAt, counted_of, Finds, Differs}
use Rattle.pass_one.specs.Trying.{Tried}
use Rattle.pass_one.specs.Seen.{Seen, Renewing, Renewed}
use Rattle.pass_moment.specs.Moments.{moved_to, refused_at, after_of, Copies, StepsOver}
use Rattle.pass_one.specs.Places.{match_at, AtPlace, Makes, MovesTo, Goes, GoesBy}
use Rattle.pass_one.specs.PassMoments.{TriedAt}
use Rattle.pass_one.proofs.FindLaws.{find_counted, find_differs}
use Rattle.pass_one.proofs.MomentLaws.{below_or, both, copies_by, free_end, free_full, free_copied, match_within, match_refused, match_on, empty_end, empty_full, empty_copied}
use Rattle.pass_one.proofs.GrowLaws.{Grown, occur_grown}

-- A PLACE IS TRIED

-- what stays the same behind a place stays the same behind a later one
pub drop_on : (a b : List ℕ) (i j : ℕ) → drop i a ≡ drop i b → i ≤ j → drop j a ≡ drop j b
drop_on a b i j e h =
    let q : i + (j - i) ≡ j = omega arith in
    let r : drop (j - i) (drop i a) ≡ drop (j - i) (drop i b) = ap (drop (j - i)) e in
    rw (drop-drop, drop-drop, q) at r

after_occurred : (o : Result ℕ WorkError) (q : ℕ) → (after_of o q).occurred ≡ true
after_occurred (Ok k) q = refl
after_occurred (Err e) q = refl

found_none : (a : Option Division) (p : ℕ) (es : List Piece) (ends : List ℕ) → FoundAt a p es ends None → a ≡ none
found_none none p es ends h = refl
found_none (some d) p es ends h = absurd h

found_some : (a : Option Division) (p q : ℕ) (es : List Piece) (ends : List ℕ) → FoundAt a p es ends (Some q) → (d : Division) × (a ≡ some d) × (end_of p d ≡ q) × EndsFrom ends 0 es (stops d)
found_some none p q es ends h = absurd h
found_some (some d) p q es ends h = (d, refl, h.0, h.1)

pub ready : (s items kinds t b out marks ends : List ℕ) (a : Moment) → AtPlace s items kinds t b out marks ends a → Ready items kinds b t a.place marks ends
ready s items kinds t b out marks ends a y =
    let m = y.macro.0 in
    record {
      pattern = (m.pattern, y.pattern.pattern m y.macro.1);
      fits = y.pattern.fits;
      table = y.table;
      state = (y.moment.0.state, y.moment.1.state);
      short = y.short;
      place = y.place;
      size = y.rows;
      count = y.count;
      inside = y.inside;
      sound = y.sound;
    }

pub finds : (s items kinds t b out marks ends : List ℕ) (a : Moment) → AtPlace s items kinds t b out marks ends a → (marks' ends' : List ℕ) (f r : CodeOption ℕ) → Tried items b t 0 a.place marks marks' ends' f → r ≡ counted_of f a.last a.place → Finds items b t a.last a.place marks marks' ends' r
finds s items kinds t b out marks ends a y marks' ends' f r k e = find_counted items b t a.last a.place marks marks' ends' (let p = y.place in let l = y.short in omega arith) f r k e

pub finds_none : (s items kinds t b out marks ends : List ℕ) (a : Moment) → AtPlace s items kinds t b out marks ends a → (x : Bool) → Differs items t a.place x → x ≡ true → Finds items b t a.last a.place marks marks ends None
finds_none s items kinds t b out marks ends a y x d e = find_differs items b t a.last a.place marks marks ends kinds ends (ready s items kinds t b out marks ends a y) x d e

module _ (s items kinds t b out marks ends : List ℕ) (a : Moment) (y : AtPlace s items kinds t b out marks ends a) (seen : List ℕ) (sn : Seen items seen b) (r : CodeOption ℕ) (marks' ends' : List ℕ) (fi : Finds items b t a.last a.place marks marks' ends' r) where
  abbrev found : Macro → Work → Option Division
  found m w = match_at m t a.last a.place w

  tried : (w : Work) → IsMoment out b a.size w → TriedAt t b out a w
  tried w x = record { short = y.short; place = y.place; well = y.well; room = y.room; held = x }

  -- without a match
  module _ (e : r ≡ None) where
    abbrev Went : Moment → List ℕ → Type 0
    Went z l = Goes s items t b b out l marks marks' seen ends' a z

    none_here : (m : Macro) → IsSlot s m → (w : Work) → IsMoment out b a.size w → found m w ≡ none
    none_here m i w x = found_none (found m w) a.place m.pattern ends' (subst (FoundAt (found m w) a.place m.pattern ends') e (fi.found m.pattern (y.pattern.pattern m i) w.state x.state))

    went : (z : Moment) (l : List ℕ) → ((m : Macro) → IsSlot s m → (w : Work) → IsMoment out b a.size w → MovesTo m t b l a w z) → drop z.size l ≡ drop z.size out → z.size ≤ most_line_bytes → a.size ≤ z.size → a.place < z.place → (z.place ≤ length t → z.refusal ≡ None) → Went z l
    went z l c p n g f h = record { comes = c; past = p; size = n; grows = g; further = f; well = h; sound = fi.sound; sees = sn; outside = fi.outside; inside = fi.inside }

    free_end_here : length t ≤ a.place → Went (moved_to a a.size) out
    free_end_here l =
        went (moved_to a a.size) out (λ m i w x. free_end m t b out a w (tried w x) (none_here m i w x) l) refl y.size (omega arith) (omega arith) (λ k. y.well)

    free_full_here : a.place < length t → most_line_bytes ≤ a.size → Went (refused_at NewLineTooLong a.size) out
    free_full_here l k =
        let h = y.short in
        went (refused_at NewLineTooLong a.size) out
        (λ m i w x. free_full m t b out a w (tried w x) (none_here m i w x) l k)
        refl
        y.size
        (omega arith)
        (omega arith)
        (λ k. absurd (omega arith))

    free_copied_here : a.place < length t → a.size < most_line_bytes → Went (moved_to a (a.size + 1)) (set out a.size (get_or t a.place 0))
    free_copied_here l k =
        went (moved_to a (a.size + 1)) (set out a.size (get_or t a.place 0))
        (λ m i w x. free_copied m t b out a w (tried w x) (none_here m i w x) l k)
        (drop-set-lt (a.size + 1) out a.size (get_or t a.place 0) (omega arith))
        (omega arith)
        (omega arith)
        (omega arith)
        (λ k. y.well)

    go_free : (z : Moment) (l : List ℕ) → Copies t out l a z → Went z l
    go_free z l c = copies_by Went t out l a z c free_end_here free_full_here free_copied_here

    pub goes_free : GoesBy s items t b b out out marks marks' seen ends' a a
    goes_free = record { copied = λ z l k. go_free z l (k.still (omega arith)); stays = λ o. o }

  -- with a match that ends at q
  module _ (q : ℕ) (e : r ≡ Some q) where
    divided : (m : Macro) → IsSlot s m → (w : Work) → IsMoment out b a.size w → (d : Division) × (found m w ≡ some d) × (end_of a.place d ≡ q) × IsDivided s ends' m d
    divided m i w x =
        let f = found_some (found m w) a.place q m.pattern ends' (subst (FoundAt (found m w) a.place m.pattern ends') e (fi.found m.pattern (y.pattern.pattern m i) w.state x.state)) in
        (f.0, f.1, f.2, record { macro = i; spans = f.3 })

    within : (a.place ≤ q) × (q ≤ length t)
    within =
        let m = y.macro.0 in
        let w = y.moment.0 in
        let f = divided m y.macro.1 w y.moment.1 in
        match_within m t b out a w (tried w y.moment.1) f.0 f.1 q f.2

    held : IsState b
    held = (y.moment.0.state, y.moment.1.state)

    pub occurring : length ends' ≡ length ends → Lent s ends' t b out a.size
    occurring le =
        let m = y.macro.0 in
        let f = divided m y.macro.1 y.moment.0 y.moment.1 in
        record { divided = (m, f.0, f.3); count = le ∙ y.count; inside = fi.inside; bytes = y.bytes; short = y.short; state = held; room = y.room; sized = y.size }

    pub renewing : length marks' ≡ length marks → (b' out' : List ℕ) (o : Result ℕ WorkError) → Occurs s ends' t b b' out out' a.size o → Renewing items b' seen marks'
    renewing lm b' out' o oc =
        let m = y.macro.0 in
        let f = divided m y.macro.1 y.moment.0 y.moment.1 in
        let c = oc.comes m f.0 f.3 y.moment.0 y.moment.1 in
        record { pattern = (m.pattern, y.pattern.pattern m y.macro.1); fits = y.pattern.fits; state = (c.0.state, c.2.state); old = sn.state; size = lm ∙ y.rows }

    module _ (b' out' marks'' seen' : List ℕ) (rn : Renewed items b' seen seen' marks' marks'') where
      abbrev Acted : Moment → List ℕ → Type 0
      Acted z l = Goes s items t b b' out l marks marks'' seen' ends' a z

      acted : (z : Moment) (l : List ℕ) → ((m : Macro) → IsSlot s m → (w : Work) → IsMoment out b a.size w → MovesTo m t b' l a w z) → drop z.size l ≡ drop z.size out → z.size ≤ most_line_bytes → a.size ≤ z.size → a.place < z.place → (z.place ≤ length t → z.refusal ≡ None) → Acted z l
      acted z l c p n g f h =
          record {
            comes = c;
            past = p;
            size = n;
            grows = g;
            further = f;
            well = h;
            sound = rn.sound b t held sn fi.sound;
            sees = rn.sees b sn;
            outside = rn.outside ∙ fi.outside;
            inside = fi.inside;
          }

      grows : (o : Result ℕ WorkError) → Occurs s ends' t b b' out out' a.size o → a.size ≤ size_of o
      grows o oc =
          let m = y.macro.0 in
          let w = y.moment.0 in
          let f = divided m y.macro.1 w y.moment.1 in
          let c = oc.comes m f.0 f.3 w y.moment.1 in
          let z = y.moment.1.size in
          grown o c.0 (subst (Grown a.size) c.1 (occur_grown a.size m t f.0 w (omega arith))) c.2.size
        where
          grown : (o : Result ℕ WorkError) (v : Work) → Grown a.size (done_of o v) → v.size ≡ size_of o → a.size ≤ size_of o
          grown (Ok k) v h z = omega arith
          grown (Err e) v h z = omega arith

      act_refused : (e' : WorkError) → Occurs s ends' t b b' out out' a.size (Err e') → Acted (refused_at e'.fault e'.size) out'
      act_refused e' oc =
          let h = y.short in
          let l = y.place in
          acted (refused_at e'.fault e'.size) out'
          (λ m i w x.
          let d = divided m i w x in
          let c = oc.comes m d.0 d.3 w x in
          match_refused m t b out a w (tried w x) d.0 d.1 q d.2 b' out' e'.size c.0 c.2 e'.fault c.1)
          oc.past
          oc.within
          (grows (Err e') oc)
          (omega arith)
          (λ k. absurd (omega arith))

      module _ (k : ℕ) (oc : Occurs s ends' t b b' out out' a.size (Ok k)) where
        abbrev next : Moment
        next = after_of (Ok k) q

        act_on : a.place < q → Acted next out'
        act_on l =
            acted next out'
            (λ m i w x.
            let d = divided m i w x in
            let c = oc.comes m d.0 d.3 w x in
            match_on m t b out a w (tried w x) d.0 d.1 q d.2 b' out' k c.0 c.2 c.1 l)
            oc.past
            oc.within
            (grows (Ok k) oc)
            l
            (λ j. refl)

        module _ (z : q ≡ a.place) where
          empty_end_here : length t ≤ q → Acted (moved_to next k) out'
          empty_end_here l =
              acted (moved_to next k) out'
              (λ m i w x.
              let d = divided m i w x in
              let c = oc.comes m d.0 d.3 w x in
              empty_end m t b out a w (tried w x) d.0 d.1 q d.2 b' out' k c.0 c.2 c.1 z l)
              oc.past
              oc.within
              (grows (Ok k) oc)
              (omega arith)
              (λ j. refl)

          empty_full_here : q < length t → most_line_bytes ≤ k → Acted (refused_at NewLineTooLong k) out'
          empty_full_here l j =
              let h = y.short in
              acted (refused_at NewLineTooLong k) out'
              (λ m i w x.
              let d = divided m i w x in
              let c = oc.comes m d.0 d.3 w x in
              empty_full m t b out a w (tried w x) d.0 d.1 q d.2 b' out' k c.0 c.2 c.1 z l j)
              oc.past
              oc.within
              (grows (Ok k) oc)
              (omega arith)
              (λ i. absurd (omega arith))

          empty_copied_here : length out' ≡ most_line_bytes → q < length t → k < most_line_bytes → Acted (moved_to next (k + 1)) (set out' k (get_or t q 0))
          empty_copied_here lo l n =
              let g = grows (Ok k) oc in
              acted (moved_to next (k + 1)) (set out' k (get_or t q 0))
              (λ m i w x.
              let d = divided m i w x in
              let c = oc.comes m d.0 d.3 w x in
              empty_copied m t b out a w (tried w x) d.0 d.1 q d.2 b' out' k c.0 c.2 c.1 z lo l n)
              (drop-set-lt (k + 1) out' k (get_or t q 0) (omega arith) ∙ drop_on out' out k (k + 1) oc.past (omega arith))
              (omega arith)
              (omega arith)
              (omega arith)
              (λ j. refl)

      go_made : length out' ≡ most_line_bytes → (o : Result ℕ WorkError) → Occurs s ends' t b b' out out' a.size o → (z : Moment) (l : List ℕ) → StepsOver t out' l a.place (after_of o q) z → Acted z l
      go_made lo (Err e') oc z l c = let h = y.short in let p = y.place in both Acted z _ l _ (c.further (omega arith)) (act_refused e' oc)
      go_made lo (Ok k) oc z l c =
          below_or (Acted z l) a.place q
          (λ g. both Acted z _ l _ (c.further g) (act_on k oc g))
          (λ g. let i = within in let e : q ≡ a.place = omega arith in copies_by Acted t out' l (next k oc) z (c.still g) (empty_end_here k oc e) (empty_full_here k oc e) (empty_copied_here k oc e lo))

    pub goes_acted : (b' out' marks'' seen' : List ℕ) (o : Result ℕ WorkError) → Occurs s ends' t b b' out out' a.size o → Renewed items b' seen seen' marks' marks'' → length out' ≡ most_line_bytes → (x : Moment) → x ≡ after_of o q
        → GoesBy s items t b b' out out' marks marks'' seen' ends' a x × (x.occurred ≡ true)
    goes_acted b' out' marks'' seen' o oc rn lo x h =
        let e : x.occurred ≡ true = ap (λ (u : Moment). u.occurred) h ∙ after_occurred o q in
        (record { copied = λ z l c. go_made b' out' marks'' seen' rn lo o oc z l (subst (λ (u : Moment). StepsOver t out' l a.place u z) h c); stays = λ k. e }, e)

-- WHERE A MATCH WAS FOUND

-- the memories behind the matcher
pub makes : (s items kinds t b out marks ends : List ℕ) (a : Moment) → AtPlace s items kinds t b out marks ends a → (marks' ends' : List ℕ) (q : ℕ) (r : CodeOption ℕ) → Finds items b t a.last a.place marks marks' ends' r → r ≡ Some q
    → length marks' ≡ length marks → length ends' ≡ length ends → Makes s items t b out marks' ends' a q
makes s items kinds t b out marks ends a y marks' ends' q r g e lm le =
    let f = subst (Finds items b t a.last a.place marks marks' ends') e g in
    record {
      at = record {
        macro = y.macro;
        pattern = y.pattern;
        table = refl;
        bytes = y.bytes;
        short = y.short;
        place = y.place;
        well = y.well;
        moment = y.moment;
        room = y.room;
        size = y.size;
        rows = lm ∙ y.rows;
        sound = f.sound;
        count = le ∙ y.count;
        inside = f.inside;
      };
      found = record { found = f.found; sound = f.sound; outside = refl; inside = f.inside };
    }

-- behind the matcher only the marks of the items are others
pub goes_behind : (s items t b b' out out' marks marks' marks'' seen ends : List ℕ) (a r : Moment) → drop (66 * length items) marks' ≡ drop (66 * length items) marks
    → GoesBy s items t b b' out out' marks' marks'' seen ends a r → GoesBy s items t b b' out out' marks marks'' seen ends a r
goes_behind s items t b b' out out' marks marks' marks'' seen ends a r e g =
    record {
      copied = λ z l k.
          let h = g.copied z l k in
          record {
            comes = h.comes;
            past = h.past;
            size = h.size;
            grows = h.grows;
            further = h.further;
            well = h.well;
            sound = h.sound;
            sees = h.sees;
            outside = h.outside ∙ e;
            inside = h.inside;
          };
      stays = g.stays;
    }
