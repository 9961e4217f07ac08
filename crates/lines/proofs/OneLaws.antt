-- The law OneLine of specs/OneLine: the demand's clauses allow one history.
use mathlib.Core.Path.{◌≡◌, refl, sym, ap, ◌∙◌, subst}
use mathlib.Core.Bool.{Bool, true, false}
use mathlib.Core.Logic.{◌⊎◌, inl, inr}
use mathlib.Core.List.{List, [], ◌∷◌}
use mathlib.Core.Option.{Option, none, some}
use Prim.Native.Nat.{ℕ, zero, suc, ◌+◌, ◌-◌, ◌≤◌, ◌<◌}
use native.Mathlib.Omega.{arith}
use lib.Dec.{eqb}
use lib.ListN.{length, get_elem?}
use lib.Seq.{slice, length-slice}
use Rattle.macros.specs.Bounds.{most_line_bytes, most_trace_bytes}
use Rattle.macros.specs.Refusals.{WorkRefusal}
use Rattle.macros.specs.Refusals.WorkRefusal.{budget_used_up, trace_too_long}
use Rattle.macros.specs.Macro.{Macro, Table, pick}
use Rattle.lines.specs.State.{State}
use Rattle.lines.specs.Matching.{span, Division, Fewer, Divides}
use Rattle.lines.specs.Replacing.{Work, Done, start_in, before_acts, occur}
use Rattle.lines.specs.Replacing.Done.{bad, good}
use Rattle.lines.specs.Pass.{Occurrence, Walk, ended, occurs}
use Rattle.lines.specs.Line.{Numbered, Pass, Line, passed, refused, done, control}
use Rattle.lines.specs.Line.{Line.ended as line_ended}
use Rattle.lines.specs.Steps.{new_line, Copied, steps_before, ComesTo}
use Rattle.lines.specs.Demand.{onward_from, NoneAhead, Stands, Replaces, stop_of, next_place, behind, Fails, Full, Walks, EndsIn, FailsIn}
use Rattle.lines.specs.Demand.{NotIn, Tries, PassBegins, first, stopped, again}
use Rattle.lines.specs.Demand.{PassHolds, closed_after, since_after, Passes, pass_count, end_of_line, TraceFits, FitsIf}
use Rattle.lines.specs.Trace.{lines_of}
use Rattle.lines.specs.OneLine.{OneLine}
use Rattle.lines.proofs.LineLaws.{either}
use Rattle.lines.proofs.TellLaws.{fits_lines}
use Rattle.lines.proofs.OccurLaws.{copied_same, occur_is, calls_are}

-- MOMENTS AND DIVISIONS

fewer_not : (a b : Division) → Fewer a b → Fewer b a → ⊥
unfolding Fewer
fewer_not [] b h g = h
fewer_not (x ∷ a) [] h g = h
fewer_not (span m q ∷ a) (span n r ∷ b) (inl h) (inl g) = omega arith
fewer_not (span m q ∷ a) (span n r ∷ b) (inl h) (inr g) = omega arith
fewer_not (span m q ∷ a) (span n r ∷ b) (inr h) (inl g) = omega arith
fewer_not (span m q ∷ a) (span n r ∷ b) (inr h) (inr g) = fewer_not a b h.1 g.1

most_same : (d e : Division) → (d ≡ e) ⊎ Fewer d e → (e ≡ d) ⊎ Fewer e d → d ≡ e
most_same d e (inl p) h = p
most_same d e (inr f) (inl p) = sym p
most_same d e (inr f) (inr g) = absurd (fewer_not d e f g)

next_compare : (p q : ℕ) → (p < q) ⊎ (p ≡ q) ⊎ (q < p) → (suc p < suc q) ⊎ (suc p ≡ suc q) ⊎ (suc q < suc p)
next_compare p q (inl h) = inl (omega arith)
next_compare p q (inr (inl h)) = inr (inl (ap suc h))
next_compare p q (inr (inr h)) = inr (inr (omega arith))

compare : (p q : ℕ) → (p < q) ⊎ (p ≡ q) ⊎ (q < p)
compare zero zero = inr (inl refl)
compare zero (suc q) = inl (omega arith)
compare (suc p) zero = inr (inr (omega arith))
compare (suc p) (suc q) = next_compare p q (compare p q)

-- A PASS

-- a match that stands next, and the moment when its place is tried
record Hit (m : Macro) (t : List ℕ) (from : ℕ) (last : Option ℕ) (w : Work) : Type 0 where
  place : ℕ
  division : Division
  before : Work
  copied : Copied (slice (behind last) place t) w before
  stands : Stands m t (onward_from from last) place division before.state

module _ (m : Macro) (t : List ℕ) (from : ℕ) (last : Option ℕ) (w : Work) (begun : behind last ≤ from) where
  at_start_lem : (h : Hit m t from last w) → Stands m t (onward_from from last) h.place h.division w.state
  at_start_lem h = subst (λ (z : State). Stands m t (onward_from from last) h.place h.division z) h.copied.state h.stands

  place_same : (p q : ℕ) (d e : Division) → Stands m t (onward_from from last) p d w.state → Stands m t (onward_from from last) q e w.state → p ≡ q
  place_same p q d e h g = go (compare p q)
    where
      go : (p < q) ⊎ (p ≡ q) ⊎ (q < p) → p ≡ q
      go (inl l) = absurd (g.leftmost p h.ahead l d h.divides h.counts)
      go (inr (inl l)) = l
      go (inr (inr l)) = absurd (h.leftmost q g.ahead l e g.divides g.counts)

  record Alike (h g : Hit m t from last w) : Type 0 where
    places : h.place ≡ g.place
    divisions : h.division ≡ g.division
    befores : h.before ≡ g.before

  hits_same : (h g : Hit m t from last w) → Alike h g
  hits_same h g =
      let p : h.place ≡ g.place = place_same h.place g.place h.division g.division (at_start_lem h) (at_start_lem g) in
      let z = subst (λ (j : ℕ). Stands m t (onward_from from last) j g.division w.state) (sym p) (at_start_lem g) in
      record {
        places = p;
        divisions = most_same h.division g.division (z.most h.division (at_start_lem h).divides) ((at_start_lem h).most g.division z.divides);
        befores = copied_same (slice (behind last) h.place t) w h.before g.before h.copied (subst (λ (j : ℕ). Copied (slice (behind last) j t) w g.before) (sym p) g.copied);
      }

  acts_same : (h g : Hit m t from last w) → occur m t h.division h.before ≡ occur m t g.division g.before
  acts_same h g = let a = hits_same h g in let d = a.divisions in let b = a.befores in cc

  -- a match stands next, so the pass does not end
  hit_end : Hit m t from last w → (v : Work) → Copied (slice (behind last) (length t) t) w v → NoneAhead (onward_from from last) (suc (length t)) v.state m t → ⊥
  hit_end h v c n =
      let z = subst (λ (x : State). NoneAhead (onward_from from last) (suc (length t)) x m t) c.state n in
      let a = at_start_lem h in
      let i = a.inside in
      z h.place a.ahead (omega arith) h.division a.divides a.counts

  -- the new line is full at a place, so no later place is reached
  full_before_lem : (r : WorkRefusal) (v : Work) → (f : Full m t (onward_from from last) w r v) → (p : ℕ) (x : Work) → f.place < p → p ≤ length t → Copied (slice (behind last) p t) w x → ⊥
  full_before_lem r v f p x l i c =
      let a : length (slice (behind last) p t) ≡ p - behind last = length-slice (behind last) p t i in
      let j = f.inside in
      let b : length (slice (behind last) f.place t) ≡ f.place - behind last = length-slice (behind last) f.place t (omega arith) in
      let k = f.reached in
      let y : x.size ≤ most_line_bytes = c.room (omega arith) in
      let n = c.size in
      let o = f.copied.size in
      let q = f.full in
      omega arith

  hit_full : Hit m t from last w → (r : WorkRefusal) (v : Work) → Full m t (onward_from from last) w r v → ⊥
  hit_full h r v f = go (compare h.place (suc f.place))
    where
      a : Stands m t (onward_from from last) h.place h.division w.state
      a = at_start_lem h

      none_up : NoneAhead (onward_from from last) (suc f.place) w.state m t
      none_up = subst (λ (x : State). NoneAhead (onward_from from last) (suc f.place) x m t) f.copied.state f.no_match

      go : (h.place < suc f.place) ⊎ (h.place ≡ suc f.place) ⊎ (suc f.place < h.place) → ⊥
      go (inl l) = none_up h.place a.ahead l h.division a.divides a.counts
      go (inr (inl l)) = full_before_lem r v f h.place h.before (omega arith) a.inside h.copied
      go (inr (inr l)) = full_before_lem r v f h.place h.before (omega arith) a.inside h.copied

  end_full : (v : Work) → Copied (slice (behind last) (length t) t) w v → (r : WorkRefusal) (x : Work) → Full m t (onward_from from last) w r x → ⊥
  end_full v c r x f = full_before_lem r x f (length t) v f.inside (omega arith) c

  full_same : (r : WorkRefusal) (v : Work) (s : WorkRefusal) (x : Work) → Full m t (onward_from from last) w r v → Full m t (onward_from from last) w s x → bad r v ≡ bad s x
  full_same r v s x f g = go (compare f.place g.place)
    where
      go : (f.place < g.place) ⊎ (f.place ≡ g.place) ⊎ (g.place < f.place) → bad r v ≡ bad s x
      go (inl l) = absurd (full_before_lem r v f g.place x l (let i = g.inside in omega arith) g.copied)
      go (inr (inl l)) =
          let a : v ≡ x = copied_same (slice (behind last) f.place t) w v x f.copied (subst (λ (j : ℕ). Copied (slice (behind last) j t) w x) (sym l) g.copied) in
          let b : r ≡ s = f.number ∙ sym g.number in
          cc
      go (inr (inr l)) = absurd (full_before_lem s x g f.place v l (let i = f.inside in omega arith) f.copied)

  of_occurrence : (o : Occurrence) → Copied (slice (behind last) o.place t) w o.before → Replaces m t (onward_from from last) o → Hit m t from last w
  of_occurrence o c h = record { place = o.place; division = o.division; before = o.before; copied = c; stands = h.stands }

  of_fails : (r : WorkRefusal) (v : Work) → Fails m t (onward_from from last) w r v → Hit m t from last w
  of_fails r v f = record { place = f.place; division = f.division; before = f.before; copied = f.copied; stands = f.stands }

made : (m : Macro) (t : List ℕ) (from : ℕ) (last : Option ℕ) (o : Occurrence) → Replaces m t (onward_from from last) o → occur m t o.division o.before ≡ good o.after
made m t from last o h = occur_is m t o.division o.before (good o.after) h.acts

refusal : (m : Macro) (t : List ℕ) (from : ℕ) (last : Option ℕ) (w : Work) (r : WorkRefusal) (v : Work) (f : Fails m t (onward_from from last) w r v)
    → occur m t f.division f.before ≡ bad r v
refusal m t from last w r v f = occur_is m t f.division f.before (bad r v) f.breaks

good_not_bad : (a : Done) (v : Work) (r : WorkRefusal) (x : Work) → a ≡ good v → a ≡ bad r x → ⊥
good_not_bad a v r x e f = let z : ◌≡◌ {A = ℕ} 0 1 = cc in omega arith

-- an occurrence that ends, ends where the next place ahead is, or before it
ahead_on : (o : Occurrence) → stop_of o ≤ next_place o
unfolding pick
ahead_on o = go (eqb (stop_of o) o.place)
  where
    go : (b : Bool) → stop_of o ≤ pick b (suc (stop_of o)) (stop_of o)
    go true = omega arith
    go false = omega arith

occurrence_same : (o x : Occurrence) → o.place ≡ x.place → o.division ≡ x.division → o.before ≡ x.before → o.after ≡ x.after → o ≡ x
occurrence_same o x p d b a = λ i. record { place = p i; division = d i; before = b i; after = a i }

walk_same : (m : Macro) (t : List ℕ) (from : ℕ) (last : Option ℕ) (w : Work) → behind last ≤ from → (k j : Walk) → Walks m t (onward_from from last) w k → Walks m t (onward_from from last) w j → k ≡ j
unfolding of_fails of_occurrence
walk_same m t from last w z (occurs o k) (occurs x j) h g =
    let p = of_occurrence m t from last w z o h.0 h.1 in
    let q = of_occurrence m t from last w z x g.0 g.1 in
    let s = hits_same m t from last w z p q in
    let a = acts_same m t from last w z p q in
    let c : o.after ≡ x.after = after_same (occur m t o.division o.before) (occur m t x.division x.before) o.after x.after a (made m t from last o h.1) (made m t from last x g.1) in
    let e : o ≡ x = occurrence_same o x s.places s.divisions s.befores c in
    let i : k ≡ j =
    walk_same m t (next_place o) (some (stop_of o)) o.after (ahead_on o) k j h.2
    (subst (λ (y : Occurrence). Walks m t (onward_from (next_place y) (some (stop_of y))) y.after j) (sym e) g.2) in
    ap (λ (y : Occurrence). occurs y k) e ∙ ap (occurs x) i
  where
    after_same : (a b : Done) (v y : Work) → a ≡ b → a ≡ good v → b ≡ good y → v ≡ y
    after_same a b v y e f g = cc
walk_same m t from last w z (occurs o k) (ended (good v)) h g = absurd (hit_end m t from last w z (of_occurrence m t from last w z o h.0 h.1) v g.0 g.1)
walk_same m t from last w z (occurs o k) (ended (bad r v)) h (inl f) =
    let a = acts_same m t from last w z (of_occurrence m t from last w z o h.0 h.1) (of_fails m t from last w z r v f) in
    absurd (good_not_bad (occur m t o.division o.before) o.after r v (made m t from last o h.1) (a ∙ refusal m t from last w r v f))
walk_same m t from last w z (occurs o k) (ended (bad r v)) h (inr f) = absurd (hit_full m t from last w z (of_occurrence m t from last w z o h.0 h.1) r v f)
walk_same m t from last w z (ended (good v)) (occurs x j) h g = absurd (hit_end m t from last w z (of_occurrence m t from last w z x g.0 g.1) v h.0 h.1)
walk_same m t from last w z (ended (good v)) (ended (good y)) h g = ap (λ (x : Work). ended (good x)) (copied_same (slice (behind last) (length t) t) w v y h.0 g.0)
walk_same m t from last w z (ended (good v)) (ended (bad r y)) h (inl f) = absurd (hit_end m t from last w z (of_fails m t from last w z r y f) v h.0 h.1)
walk_same m t from last w z (ended (good v)) (ended (bad r y)) h (inr f) = absurd (end_full m t from last w z v h.0 r y f)
walk_same m t from last w z (ended (bad r v)) (occurs x j) (inl f) g =
    let a = acts_same m t from last w z (of_occurrence m t from last w z x g.0 g.1) (of_fails m t from last w z r v f) in
    absurd (good_not_bad (occur m t x.division x.before) x.after r v (made m t from last x g.1) (a ∙ refusal m t from last w r v f))
walk_same m t from last w z (ended (bad r v)) (occurs x j) (inr f) g = absurd (hit_full m t from last w z (of_occurrence m t from last w z x g.0 g.1) r v f)
walk_same m t from last w z (ended (bad r v)) (ended (good y)) (inl f) g = absurd (hit_end m t from last w z (of_fails m t from last w z r v f) y g.0 g.1)
walk_same m t from last w z (ended (bad r v)) (ended (good y)) (inr f) g = absurd (end_full m t from last w z y g.0 r v f)
walk_same m t from last w z (ended (bad r v)) (ended (bad s y)) (inl f) (inl g) =
    ap ended (sym (refusal m t from last w r v f) ∙ acts_same m t from last w z (of_fails m t from last w z r v f) (of_fails m t from last w z s y g) ∙ refusal m t from last w s y g)
walk_same m t from last w z (ended (bad r v)) (ended (bad s y)) (inl f) (inr g) = absurd (hit_full m t from last w z (of_fails m t from last w z r v f) s y g)
walk_same m t from last w z (ended (bad r v)) (ended (bad s y)) (inr f) (inl g) = absurd (hit_full m t from last w z (of_fails m t from last w z s y g) r v f)
walk_same m t from last w z (ended (bad r v)) (ended (bad s y)) (inr f) (inr g) = ap ended (full_same m t from last w z r v s y f g)

-- A LINE

ends_same : (k : Walk) (v x : Work) → EndsIn k v → EndsIn k x → v ≡ x
ends_same (ended d) v x e f = cc
ends_same (occurs o k) v x e f = ends_same k v x e f

ends_fails : (k : Walk) (v : Work) (r : WorkRefusal) (x : Work) → EndsIn k v → FailsIn k r x → ⊥
ends_fails (ended d) v r x e f = good_not_bad d v r x e f
ends_fails (occurs o k) v r x e f = ends_fails k v r x e f

fails_same : (k : Walk) (r : WorkRefusal) (v : Work) (s : WorkRefusal) (x : Work) → FailsIn k r v → FailsIn k s x → r ≡ s
fails_same (ended d) r v s x e f = cc
fails_same (occurs o k) r v s x e f = fails_same k r v s x e f

-- two passes of one macro that begin in the same state, over the same text
module _ (begun t : List ℕ) (st : State) (x y : Pass) (number : x.which.number ≡ y.which.number) (macro : x.which.macro ≡ y.which.macro) where
  -- they try place 0 in the same state, and the same happens in them
  record Equal : Type 0 where
    tried : x.tried ≡ y.tried
    events : x.events ≡ y.events

  by_tries : x.tried ≡ y.tried → Tries t x → Tries t y → Equal
  by_tries e h g = record { tried = e; events = walk_same x.which.macro t 0 none (start_in x.tried) (omega arith) x.events y.events h here }
    where
      here : Walks x.which.macro t (onward_from 0 none) (start_in x.tried) y.events
      here =
          subst (λ (m : Macro). Walks m t (onward_from 0 none) (start_in x.tried) y.events) (sym macro)
          (subst (λ (z : State). Walks y.which.macro t (onward_from 0 none) (start_in z) y.events) (sym e) g)

  -- what the calls before the pattern come to, in both
  of_first : (a : Done) → ComesTo (steps_before x.which.macro) (start_in st) a → before_acts x.which.macro (start_in st) ≡ a
  of_first a h = calls_are x.which.macro (start_in st) a h

  of_second : (a : Done) → ComesTo (steps_before y.which.macro) (start_in st) a → before_acts x.which.macro (start_in st) ≡ a
  of_second a h = ap (λ (m : Macro). before_acts m (start_in st)) macro ∙ calls_are y.which.macro (start_in st) a h

  one_moment : (v u : Work) → before_acts x.which.macro (start_in st) ≡ good v → before_acts x.which.macro (start_in st) ≡ good u → v.state ≡ u.state
  one_moment v u e f = let z : v ≡ u = cc in ap (λ (w : Work). w.state) z

  one_refusal : (r : WorkRefusal) (v : Work) (q : WorkRefusal) (u : Work) → before_acts x.which.macro (start_in st) ≡ bad r v → before_acts x.which.macro (start_in st) ≡ bad q u
      → x.tried ≡ v.state → y.tried ≡ u.state → x.events ≡ ended (bad r v) → y.events ≡ ended (bad q u) → Equal
  one_refusal r v q u e f a b c d =
      let z : v ≡ u = cc in
      let k : bad r v ≡ bad q u = sym e ∙ f in
      record { tried = a ∙ ap (λ (w : Work). w.state) z ∙ sym b; events = c ∙ ap ended k ∙ sym d }

  old_new : (NotIn x.which.number begun → ⊥) → NotIn y.which.number begun → ⊥
  old_new f n = f (subst (λ (j : ℕ). NotIn j begun) (sym number) n)

  new_old : NotIn x.which.number begun → (NotIn y.which.number begun → ⊥) → ⊥
  new_old n f = f (subst (λ (j : ℕ). NotIn j begun) number n)

  begins_same : PassBegins begun t st x → PassBegins begun t st y → Equal
  begins_same (first n v a e h) (first k u b f g) = by_tries (e ∙ one_moment v u (of_first (good v) a) (of_second (good u) b) ∙ sym f) h g
  begins_same (first n v a e h) (stopped k q u b f g) = absurd (good_not_bad (before_acts x.which.macro (start_in st)) v q u (of_first (good v) a) (of_second (bad q u) b))
  begins_same (first n v a e h) (again k f g) = absurd (new_old n k)
  begins_same (stopped n r v a e h) (first k u b f g) = absurd (good_not_bad (before_acts x.which.macro (start_in st)) u r v (of_second (good u) b) (of_first (bad r v) a))
  begins_same (stopped n r v a e h) (stopped k q u b f g) = one_refusal r v q u (of_first (bad r v) a) (of_second (bad q u) b) e f h g
  begins_same (stopped n r v a e h) (again k f g) = absurd (new_old n k)
  begins_same (again n e h) (first k u b f g) = absurd (old_new n k)
  begins_same (again n e h) (stopped k q u b f g) = absurd (old_new n k)
  begins_same (again n e h) (again k f g) = by_tries (e ∙ sym f) h g

module _ (ms : Table) (closed since begun : List ℕ) (t : List ℕ) (st : State) where
  pass_same : (x y : Pass) → PassHolds ms closed since begun t st x → PassHolds ms closed since begun t st y → x ≡ y
  pass_same x y h g =
      λ i. record { which = record { number = number i; macro = macro i }; text = text i; state = state i; tried = begun_so.tried i; events = begun_so.events i }
    where
      number : x.which.number ≡ y.which.number
      number =
          let a : y.which.number ≤ x.which.number = h.newest y.which.number y.which.macro g.due in
          let b : x.which.number ≤ y.which.number = g.newest x.which.number x.which.macro h.due in
          omega arith

      one_macro : (i j : ℕ) (m k : Macro) → i ≡ j → get_elem? ms i ≡ some m → get_elem? ms j ≡ some k → m ≡ k
      one_macro i j m k e f g = cc

      macro : x.which.macro ≡ y.which.macro
      macro = one_macro x.which.number y.which.number x.which.macro y.which.macro number h.due.0 g.due.0

      text : x.text ≡ y.text
      text = h.text ∙ sym g.text

      state : x.state ≡ y.state
      state = h.state ∙ sym g.state

      begun_so : Equal begun t st x y number macro
      begun_so = begins_same begun t st x y number macro h.begins g.begins

-- what the budget n says of a history
record Spent (n : ℕ) (l : Line) : Type 0 where
  within : pass_count l ≤ n
  used_up : end_of_line l ≡ refused budget_used_up → pass_count l ≡ n

spent_rest : (n : ℕ) (x : Pass) (l : Line) → Spent n (passed x l) → Spent (n - 1) l
spent_rest n x l h = record { within = omega (arith, h.within); used_up = λ e. omega (arith, h.used_up e) }

-- 31 says that no pass is left, so none is made
spent_all : (n : ℕ) (r : WorkRefusal) (x : Pass) (l : Line) → r ≡ budget_used_up → Spent n (line_ended (refused r)) → Spent n (passed x l) → ⊥
spent_all n r x l e h g = let a : 0 ≡ n = h.used_up (ap refused e) in let b = g.within in omega arith

-- 36 comes behind a pass only, and not where the line goes on
not_36 : (ms : Table) (closed since begun : List ℕ) (t : List ℕ) (st : State) (l : Line) → Passes ms closed since begun t st l → l ≡ line_ended (refused trace_too_long) → ⊥
not_36 ms closed since begun t st (line_ended (refused r)) h e = let a = h.0 in let z : ◌≡◌ {A = ℕ} 0 1 = cc in omega arith
not_36 ms closed since begun t st (line_ended (done s x)) h e = let z : ◌≡◌ {A = ℕ} 0 1 = cc in omega arith
not_36 ms closed since begun t st (line_ended (control s x)) h e = let z : ◌≡◌ {A = ℕ} 0 1 = cc in omega arith
not_36 ms closed since begun t st (passed x l) h e = let z : ◌≡◌ {A = ℕ} 0 1 = cc in omega arith

-- the line behind a pass goes on, so the lines of that pass fit
traces_rest : (f n : ℕ) (x : Pass) (l : Line) → (l ≡ line_ended (refused trace_too_long) → ⊥) → FitsIf f n (passed x l) → FitsIf f (n - length (lines_of x)) l
traces_rest zero n x l e h = h
traces_rest (suc f) n x l e h = either (fits_lines n x l h) (λ u. u.1) (λ u. absurd (e u.1))

-- the trace says whether 36 comes behind a pass
traces_both : (f n : ℕ) (x : Pass) (l k : Line) → (l ≡ line_ended (refused trace_too_long) → ⊥) → k ≡ line_ended (refused trace_too_long) → FitsIf f n (passed x l) → FitsIf f n (passed x k) → ⊥
traces_both zero n x l k e q h g = g (ap end_of_line q)
traces_both (suc f) n x l k e q h g =
    either (fits_lines n x k g) (λ u. subst (TraceFits (n - length (lines_of x))) q u.1 refl)
    (λ u. either (fits_lines n x l h) (λ v. let a = v.0 in let b = u.0 in omega arith) (λ v. e v.1))

-- what is left of the budget, and of the trace
record Bound (f n room : ℕ) (l : Line) : Type 0 where
  spent : Spent n l
  traces : FitsIf f room l

line_same : (ms : Table) (f n room : ℕ) (closed since begun : List ℕ) (t : List ℕ) (st : State) (l k : Line) → Passes ms closed since begun t st l → Passes ms closed since begun t st k
    → Bound f n room l → Bound f n room k → l ≡ k
line_same ms f n room closed since begun t st (line_ended (done s x)) (line_ended (done a y)) h g u v = cc
line_same ms f n room closed since begun t st (line_ended (done s x)) (line_ended (control a y)) h g u v = absurd (h.2 g.2)
line_same ms f n room closed since begun t st (line_ended (done s x)) (line_ended (refused r)) h g u v = absurd (h.3 g.2.0 g.2.1 g.2.2)
line_same ms f n room closed since begun t st (line_ended (done s x)) (passed y k) h g u v = absurd (h.3 y.which.number y.which.macro g.0.due)
line_same ms f n room closed since begun t st (line_ended (control s x)) (line_ended (done a y)) h g u v = absurd (g.2 h.2)
line_same ms f n room closed since begun t st (line_ended (control s x)) (line_ended (control a y)) h g u v = cc
line_same ms f n room closed since begun t st (line_ended (control s x)) (line_ended (refused r)) h g u v = absurd (g.1 h.2)
line_same ms f n room closed since begun t st (line_ended (control s x)) (passed y k) h g u v = absurd (g.0.plain h.2)
line_same ms f n room closed since begun t st (line_ended (refused r)) (line_ended (done a y)) h g u v = absurd (g.3 h.2.0 h.2.1 h.2.2)
line_same ms f n room closed since begun t st (line_ended (refused r)) (line_ended (control a y)) h g u v = absurd (h.1 g.2)
line_same ms f n room closed since begun t st (line_ended (refused r)) (line_ended (refused s)) h g u v = cc
line_same ms f n room closed since begun t st (line_ended (refused r)) (passed y k) h g u v = absurd (spent_all n r y k h.0 u.spent v.spent)
line_same ms f n room closed since begun t st (passed x l) (line_ended (done a y)) h g u v = absurd (g.3 x.which.number x.which.macro h.0.due)
line_same ms f n room closed since begun t st (passed x l) (line_ended (control a y)) h g u v = absurd (h.0.plain g.2)
line_same ms f n room closed since begun t st (passed x l) (line_ended (refused r)) h g u v = absurd (spent_all n r x l g.0 v.spent u.spent)
line_same ms f n room closed since begun t st (passed x l) (passed y k) h g u v =
    let e : x ≡ y = pass_same ms closed since begun t st x y h.0 g.0 in
    let z = subst (λ (a : Pass). Passes ms closed since begun t st (passed a k)) (sym e) g in
    let w : Bound f n room (passed x k) = subst (λ (a : Pass). Bound f n room (passed a k)) (sym e) v in
    let i : l ≡ k = either h.1
    (λ a.
    let no = not_36 ms (closed_after x closed) (since_after x since) (x.which.number ∷ begun) (new_line a.0) a.0.state l a.2 in
    either z.1
    (λ b.
    let p = subst (λ (c : Work). Passes ms (closed_after x closed) (since_after x since) (x.which.number ∷ begun) (new_line c) c.state k) (ends_same x.events b.0 a.0 b.1 a.1) b.2 in
    let nk = not_36 ms (closed_after x closed) (since_after x since) (x.which.number ∷ begun) (new_line a.0) a.0.state k p in
    line_same ms f (n - 1) (room - length (lines_of x)) (closed_after x closed) (since_after x since) (x.which.number ∷ begun) (new_line a.0) a.0.state l k a.2 p
    (record { spent = spent_rest n x l u.spent; traces = traces_rest f room x l no u.traces })
    (record { spent = spent_rest n x k w.spent; traces = traces_rest f room x k nk w.traces }))
    (λ b. either b (λ c. absurd (ends_fails x.events a.0 c.0 c.1 a.1 c.2))
    (λ c. absurd (traces_both f room x l k no c.2 u.traces w.traces))))
    (λ a. either a
    (λ a. either z.1 (λ b. absurd (ends_fails x.events b.0 a.0 a.1 b.1 a.2))
    (λ b. either b
    (λ b. a.3 ∙ ap (λ (r : WorkRefusal). line_ended (refused r)) (fails_same x.events a.0 a.1 b.0 b.1 a.2 b.2) ∙ sym b.3)
    (λ b. absurd (ends_fails x.events b.0 a.0 a.1 b.1 a.2))))
    (λ a. either z.1
    (λ b.
    let nk = not_36 ms (closed_after x closed) (since_after x since) (x.which.number ∷ begun) (new_line b.0) b.0.state k b.2 in
    absurd (traces_both f room x k l nk a.2 w.traces u.traces))
    (λ b. either b (λ b. absurd (ends_fails x.events a.0 b.0 b.1 a.1 b.2)) (λ b. a.2 ∙ sym b.2)))) in
    ap (λ (a : Pass). passed a l) e ∙ ap (passed y) i

-- THE LAW
pub one_line : OneLine
one_line ms st sent l k h g =
    line_same ms st.trace sent.budget most_trace_bytes [] [] [] sent.line st l k h.passes g.passes
    (record { spent = record { within = h.within; used_up = h.used_up }; traces = h.traces })
    (record { spent = record { within = g.within; used_up = g.used_up }; traces = g.traces })
