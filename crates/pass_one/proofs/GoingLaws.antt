-- The walk over all places: what holds before each, and what it comes to.
use Rattle.std.specs.Prelude.{Option as CodeOption, Some, None, Result, Ok}
use Prim.Native.Nat.{ℕ, zero, suc, ◌+◌, ◌*◌, ◌≤◌, ◌<◌}
use mathlib.Core.Path.{◌≡◌, refl, sym, ap, ◌∙◌, subst}
use mathlib.Core.Bool.{Bool, true, false, false≢true}
use mathlib.Core.List.{List, ◌++◌}
use native.Mathlib.Omega.{arith}
use lib.ListN.{length, get_or, take, drop, replicate, length-replicate}
use lib.Seq.{take_at, drop_at, length-take-le}
use mathlib.Core.Option.{none}
use Rattle.macros.specs.Bounds.{most_line_bytes}
use Rattle.macros.specs.Macro.{Piece, Macro}
use Rattle.form_table.specs.Form.{body_bytes}
use Rattle.lines.specs.State.{State}
use Rattle.lines.specs.Choosing.{chosen}
use Rattle.lines.specs.Replacing.{Work, start_in}
use Rattle.lines.specs.Pass.{match, counting, pass}
use Rattle.form_state.specs.Access.{Holds}
use Rattle.refusals.specs.declared.WorkError.{WorkError}
use Rattle.pass_replace.specs.Contract.{IsSlot}
use Rattle.pass_steps.specs.Moments.{IsMoment}
use Rattle.pass_replace.proofs.Preparing.{zeros}
use Rattle.refusals.specs.declared.WorkFault.{WorkFault}
use Rattle.pass_moment.specs.declared.Passed.{Passed}
use Rattle.pass_moment.specs.declared.Moment.{Moment}
use Rattle.pass_one.specs.Marks.{rows_bytes, Sound}
use Rattle.pass_one.specs.Contract.{Lent, HeldBy, Passes, size_of}
use Rattle.pass_lack.specs.Lacking.{differs_in, flags_of, SomeAbsent}
use Rattle.pass_unit.specs.Pattern.{IsPattern}
use Rattle.pass_one.specs.Finding.{Ready, LastPlace, Finds}
use Rattle.pass_one.specs.Trying.{Tried}
use Rattle.pass_one.specs.Seen.{Seen}
use Rattle.pass_moment.specs.Moments.{past_places, start_at, Starts, StepsOver, answer_of, passed_of}
use Rattle.pass_one.specs.Places.{match_at, ItemsOf, ToTry, AtPlace, Makes, Goes, GoesBy, NoneBelow, Searches, Walking, Origin, Came, Reached, Going}
use Rattle.pass_one.proofs.MarkLaws.{sound_zero}
use Rattle.pass_lack.proofs.LackLaws.{absent_none}
use Rattle.pass_one.proofs.FindLaws.{differs_is, find_first, tried_none}
use Rattle.pass_one.proofs.MomentLaws.{below_or, pass_starts, pass_none, pass_goes_on}
use Rattle.pass_one.proofs.PlaceLaws.{drop_on, finds_none, goes_free, makes}

-- THE LOOP

-- the bytes of the new line
size_is : (f : CodeOption WorkFault) (had : Bool) (n : ℕ) → size_of (answer_of f had n) ≡ n
size_is None had n = refl
size_is (Some f) had n = refl

-- a moment past the last place, after an occurrence
held_by : (b b' out out' : List ℕ) (f : CodeOption WorkFault) (o : Bool) (n : ℕ) (v : Work) → IsMoment out' b' n v → o ≡ true → HeldBy b b' out out' (answer_of f o n) v
held_by b b' out out' None o n v x e = record { size = x.size; state = x.state; line = λ j. x.line; still = λ j. absurd (false≢true (sym j ∙ e)) }
held_by b b' out out' (Some f) o n v x e = x

-- none is found where no division begins
none_at : (items b t : List ℕ) (m : Macro) (st : State) (p i : ℕ) → NoneBelow items b t p → IsPattern items m.pattern → Holds b st → i < p → i ≤ length t → match_at m t past_places i (start_in st) ≡ none
unfolding match counting
none_at items b t m st p i f y h l k = rw (f m.pattern y st h i l k) refl

module _ (s items kinds t : List ℕ) (h : Origin) (y : Came s items kinds t h) where
  -- the moment at the first match, once the bytes before it are copied
  reached_first : (out : List ℕ) → out ≡ take h.place t ++ drop h.place h.out → (m : Macro) → IsSlot s m → (st : State) → Holds h.state st → Reached t h.state out (start_at h.place) m st
  reached_first out e m i st x =
      let f = y.first in
      let p = h.place in
      let l = f.place in
      let u = pass_starts m t st p l y.short (λ j k. none_at items h.state t m st p j f.none (y.pattern.pattern m i) x k (omega arith)) in
      record {
        work = u.0;
        moment = record {
          line = u.1.line ∙ sym (ap (take p) e ∙ take_at (take p t) (drop p h.out) p (length-take-le p t l));
          size = u.1.size;
          state = subst (Holds h.state) (sym u.1.state) x;
        };
        onward = u.2;
      }

  module _ (out : List ℕ) (a : Moment) (k : Starts t h.out out h.place a) where
    pub begin : length out ≡ length h.out → Seen items h.seen h.state → Going s items t h h.state out h.marks h.seen h.ends a
    begin lo sn =
        subst (Going s items t h h.state out h.marks h.seen h.ends) (sym k.moment)
        (record {
          size = omega (arith, y.first.place, y.short);
          state_size = refl;
          room = lo;
          rows = refl;
          seen_size = refl;
          count = y.count;
          inside = y.first.found.inside;
          sound = y.first.found.sound;
          sees = sn;
          well = λ l. refl;
          past = ap (drop h.place) k.copied ∙ drop_at (take h.place t) (drop h.place h.out) h.place (length-take-le h.place t y.first.place);
          outside = refl;
          reached = reached_first out k.copied;
        })

    pub here : a.place ≤ length t
    here = let e = ap (λ (x : Moment). x.place) k.moment in omega (arith, e, y.first.place)

    -- the first match
    pub found_there : Finds items h.state t a.last a.place h.marks h.marks h.ends (Some h.stop)
    found_there = subst (λ (x : Moment). Finds items h.state t x.last x.place h.marks h.marks h.ends (Some h.stop)) (sym k.moment) y.first.found

    pub stepped : (o l : List ℕ) (r z : Moment) → StepsOver t o l h.place r z → StepsOver t o l a.place r z
    stepped o l r z x = subst (λ (m : Moment). StepsOver t o l m.place r z) (sym k.moment) x

  module _ (b out marks seen ends : List ℕ) (a : Moment) (g : Going s items t h b out marks seen ends a) where
    module _ (le : a.place ≤ length t) where
      pub trying : AtPlace s items kinds t b out marks ends a
      trying =
          let r = g.reached y.macro.0 y.macro.1 y.state.0 y.state.1 in
          record {
            macro = y.macro;
            pattern = y.pattern;
            table = y.table;
            bytes = y.bytes;
            short = y.short;
            place = le;
            well = g.well le;
            moment = (r.work, r.moment);
            room = g.room ∙ y.room;
            size = g.size;
            rows = g.rows ∙ y.rows;
            sound = g.sound;
            count = g.count;
            inside = g.inside;
          }

      -- no match begins here
      pub skipped : (x : Bool) → x ≡ differs_in items t a.place → x ≡ true → GoesBy s items t b b out out marks marks seen ends a a
      skipped x d e = goes_free s items kinds t b out marks ends a trying seen g.sees None marks ends (finds_none s items kinds t b out marks ends a trying x (differs_is items t a.place d) e) refl

      module _ (b' out' marks' seen' ends' : List ℕ) (r : Moment) (z : Goes s items t b b' out out' marks marks' seen' ends' a r) where
        came : (m : Macro) → IsSlot s m → (st : State) → Holds h.state st → Reached t b' out' r m st
        came m i st x =
            let u = g.reached m i st x in
            let v = z.comes m i u.work u.moment in
            record { work = v.0; moment = v.1; onward = pass_goes_on m t (pass m t st) false a r u.work v.0 u.onward le v.2 }

        pub went_on : length b' ≡ length b → length out' ≡ length out → length marks' ≡ length marks → length seen' ≡ length seen → length ends' ≡ length ends → Going s items t h b' out' marks' seen' ends' r
        went_on lb lo lm ls le' =
            record {
              size = z.size;
              state_size = lb ∙ g.state_size;
              room = lo ∙ g.room;
              rows = lm ∙ g.rows;
              seen_size = ls ∙ g.seen_size;
              count = le' ∙ g.count;
              inside = z.inside;
              sound = z.sound;
              sees = z.sees;
              well = z.well;
              past = z.past ∙ drop_on out h.out a.size r.size g.past z.grows;
              outside = z.outside ∙ g.outside;
              reached = came;
            }

    -- past the last place
    pub pass_done : length t < a.place → a.occurred ≡ true → (r : Result Passed WorkError) → r ≡ passed_of a → Passes s t h.state b h.out out r
    pass_done l had r k =
        let z : size_of (passed_of a) ≡ a.size = size_is a.refusal a.occurred a.size in
        subst (Passes s t h.state b h.out out) (sym k)
        (record {
          comes = λ m i st x.
              let u = g.reached m i st x in
              let o = u.onward.over l in
              record { moment = (u.work, o.0, held_by h.state b h.out out a.refusal a.occurred a.size u.work u.moment had); says = o.1 };
          past = subst (λ (j : ℕ). drop j out ≡ drop j h.out) (sym z) g.past;
          within = subst (λ (j : ℕ). j ≤ most_line_bytes) (sym z) g.size;
        })

module _ (s items kinds t : List ℕ) (h : Origin) (y : Came s items kinds t h) (sn : Seen items h.seen h.state) (out : List ℕ) (a : Moment) (k : Starts t h.out out h.place a) (lo : length out ≡ length h.out) where
  -- the replacement of the first match can be made
  pub making : Makes s items t h.state out h.marks h.ends a h.stop
  making =
      makes s items kinds t h.state out h.marks h.ends a (trying s items kinds t h y h.state out h.marks h.seen h.ends a (begin s items kinds t h y out a k lo sn) (here s items kinds t h y out a k))
      h.marks h.ends h.stop (Some h.stop) (found_there s items kinds t h y out a k) refl refl refl

  -- and is made
  pub behind_first_lem : (b out₂ marks seen out₃ : List ℕ) (r z : Moment) → GoesBy s items t h.state b out out₂ h.marks marks seen h.ends a r → StepsOver t out₂ out₃ h.place r z
      → length b ≡ length h.state → length out₃ ≡ length out → length marks ≡ length h.marks → length seen ≡ length h.seen → Going s items t h b out₃ marks seen h.ends z
  behind_first_lem b out₂ marks seen out₃ r z f x lb lt lm ls =
      went_on s items kinds t h y h.state out h.marks h.seen h.ends a (begin s items kinds t h y out a k lo sn) (here s items kinds t h y out a k)
      b out₃ marks seen h.ends z (f.copied z out₃ (stepped s items kinds t h y out a k out₂ out₃ r z x)) lb lt lm ls refl

-- THE FIRST MATCH

-- what holds while it is looked for, before the place p is tried
pub record Searching (items b t marks₀ marks ends : List ℕ) (p : ℕ) : Type 0 where
  pub below : NoneBelow items b t p
  pub size : length marks ≡ length marks₀
  pub count : length ends ≡ body_bytes
  pub inside : (i : ℕ) → get_or ends i 0 ≤ length t
  pub sound : Sound items b t marks
  pub outside : drop (66 * length items) marks ≡ drop (66 * length items) marks₀

below_next : (items b t : List ℕ) (p : ℕ) → NoneBelow items b t p → ((es : List Piece) → IsPattern items es → (st : State) → Holds b st → chosen st es p (drop p t) ≡ none) → NoneBelow items b t (p + 1)
below_next items b t p f g es i st h j k l =
    below_or (chosen st es j (drop j t) ≡ none) j p (λ u. f es i st h j u l) (λ u. let e : p ≡ j = omega arith in subst (λ (x : ℕ). chosen st es x (drop x t) ≡ none) e (g es i st h))

module _ (items kinds t b marks ends : List ℕ) (y : Ready items kinds b t 0 marks ends) where
  pub search : Searching items b t marks marks ends 0
  search = record { below = λ es i st h j k l. absurd (omega arith); size = refl; count = y.count; inside = y.inside; sound = y.sound; outside = refl }

  module _ (marks' ends' : List ℕ) (p : ℕ) (g : Searching items b t marks marks' ends' p) where
    pub nowhere : (top : ℕ) → LastPlace items t top → top < p → Searches items b t marks marks' ends' None
    nowhere top z h = record {
      first = λ es i st x j k l. below_or (chosen st es j (drop j t) ≡ none) j p (λ u. g.below es i st x j u l) (λ u. z.none_past es i st j (omega arith) l);
      outside = g.outside;
    }

    module _ (le : p ≤ length t) where
      pub ready_here : Ready items kinds b t p marks' ends'
      ready_here = record {
        pattern = y.pattern;
        fits = y.fits;
        table = y.table;
        state = y.state;
        short = y.short;
        place = le;
        size = g.size ∙ y.size;
        count = g.count;
        inside = g.inside;
        sound = g.sound;
      }

      pub search_past : (x : Bool) → x ≡ differs_in items t p → x ≡ true → Searching items b t marks marks' ends' (p + 1)
      search_past x d e = record {
        below = below_next items b t p g.below (λ es i st h. (differs_is items t p d).none_here e es i st);
        size = g.size;
        count = g.count;
        inside = g.inside;
        sound = g.sound;
        outside = g.outside;
      }

      module _ (marks'' ends'' : List ℕ) (lm : length marks'' ≡ length marks') (ln : length ends'' ≡ length ends') (f : CodeOption ℕ) (k : Tried items b t 0 p marks' marks'' ends'' f) where
        pub search_on : f ≡ None → Searching items b t marks marks'' ends'' (p + 1)
        search_on e =
            let k₂ = subst (Tried items b t 0 p marks' marks'' ends'') e k in
            record {
              below = below_next items b t p g.below (tried_none items b t past_places p marks' marks'' ends'' k₂);
              size = lm ∙ g.size;
              count = ln ∙ g.count;
              inside = k.kept.noted.inside;
              sound = k.kept.noted.sound;
              outside = k.kept.outside ∙ g.outside;
            }

        pub found_first : (q : ℕ) → f ≡ Some q → Searches items b t marks marks'' ends'' (Some (p, q))
        found_first q e =
            let h = y.short in
            let k₂ = subst (Tried items b t 0 p marks' marks'' ends'') e k in
            let u = find_first items b t past_places p marks' marks'' ends'' q (omega arith) k₂ in
            record {
              first = record { place = le; none = g.below; found = record { found = u.found; sound = u.sound; outside = refl; inside = u.inside } };
              outside = k.kept.outside ∙ g.outside;
            }

-- A PASS

zeros_front : (n i k : ℕ) → ◌≡◌ {A = ℕ} (get_or (take k (replicate {A = ℕ} n 0)) i 0) 0
zeros_front zero i zero = refl
zeros_front zero i (suc k) = refl
zeros_front (suc n) i zero = refl
zeros_front (suc n) zero (suc k) = refl
zeros_front (suc n) (suc i) (suc k) = zeros_front n i k

-- no match at any place: nothing changes
free : (s items t b out : List ℕ) → ItemsOf s items → length t ≤ most_line_bytes → NoneBelow items b t (length t + 1) → Passes s t b b out out (Ok (record { occurred = false; size = length t }))
free s items t b out is short n =
    record {
      comes = λ m i st h.
          let u = pass_none m t st short (λ j l. none_at items b t m st (length t + 1) j n (is.pattern m i) h (omega arith) l) in
          record {
            moment = (
              u.0,
              u.2,
              record { size = u.1.size; state = subst (Holds b) (sym u.1.state) h; line = λ j. absurd (false≢true j); still = λ j. (refl, refl) },
            );
            says = sym u.3;
          };
      past = refl;
      within = short;
    }

module _ (s items kinds t b out marks : List ℕ) (y : ToTry s items kinds t b out marks) where
  pub ready_first : Ready items kinds b t 0 marks (replicate 1014 0)
  ready_first = record {
    pattern = (y.macro.0.pattern, y.pattern.pattern y.macro.0 y.macro.1);
    fits = y.pattern.fits;
    table = y.table;
    state = y.state;
    short = y.short;
    place = omega arith;
    size = y.rows;
    count = length-replicate {A = ℕ} 1014 0;
    inside = λ i. omega (arith, zeros 1014 i);
    sound = sound_zero items b t marks (λ i l. y.zero i);
  }

  module _ (marks' ends : List ℕ) (r : CodeOption (ℕ × ℕ)) (z : Searches items b t marks marks' ends r) where
    pub walking : (p q : ℕ) → r ≡ Some (p, q) → length marks' ≡ length marks → length ends ≡ body_bytes → Walking s items kinds t b out marks' ends p q
    walking p q e lm le =
        let z₂ = subst (Searches items b t marks marks' ends) e z in
        record {
          macro = y.macro;
          pattern = y.pattern;
          table = y.table;
          bytes = y.bytes;
          short = y.short;
          state = y.state;
          room = y.room;
          rows = lm ∙ y.rows;
          count = le;
          first = z₂.first;
        }

    -- nothing changes
    pub pass_free : r ≡ None → Passes s t b b out out (Ok (record { occurred = false; size = length t }))
    pass_free e = let z₂ = subst (Searches items b t marks marks' ends) e z in free s items t b out y.pattern y.short z₂.first

module _ (s kinds present t b out items : List ℕ) (y : Lent s kinds present t b out) (is : ItemsOf s items) where
  -- the marks are a part of a memory of zeros
  pub to_try : (n : ℕ) → rows_bytes items ≤ n → ToTry s items kinds t b out (take (rows_bytes items) (replicate n 0))
  to_try n l = record {
    macro = y.macro;
    pattern = is;
    table = y.table;
    bytes = y.bytes;
    short = y.short;
    state = y.state;
    room = y.room;
    rows = length-take-le (rows_bytes items) (replicate n 0) (let z = length-replicate {A = ℕ} n 0 in omega arith);
    zero = λ i. zeros_front n i (rows_bytes items);
  }

  -- the line lacks a byte that the pattern must have
  pub pass_lacks : SomeAbsent present items → Passes s t b b out out (Ok (record { occurred = false; size = length t }))
  pass_lacks a =
      free s items t b out is y.short
      (λ es i st h j k l. absent_none t y.bytes es (subst (SomeAbsent (flags_of t)) (sym i.form) (subst (λ (f : List ℕ). SomeAbsent f items) y.flags a)) st j)
