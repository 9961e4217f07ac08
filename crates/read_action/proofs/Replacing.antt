-- The parts of a replacement.
-- Assumes nothing.
use mathlib.Core.Path.{◌≡◌, refl, ap, sym, ◌∙◌}
use mathlib.Core.Bool.{Bool, true, false, ◌||◌}
use mathlib.Core.List.{List, [], ◌∷◌, ◌++◌, reverse, append_assoc, append-nil, reverse-append}
use mathlib.Core.Option.{Option, none, some}
use mathlib.Core.Logic.{⊎_elim}
use Prim.Native.Nat.{ℕ, ◌+◌, ◌-◌, ◌*◌, ◌≤◌}
use native.Mathlib.Omega.{arith}
use lib.Dec.{eqb}
use lib.ListN.{length, length-append}
use borrow.Author.Tests.{ne_eqb}
use Rattle.macros.specs.Refusals.FileRefusal.{incomplete, bad_call}
use Rattle.macros.specs.Macro.{Mark, Action, pick, among, within, digit, mark_byte, tags}
use Rattle.macros.specs.Macro.Mark.{stack, counter}
use Rattle.macros.specs.Macro.Action.{text, tag, call}
use Rattle.macros.specs.Read.{Prior, Step, Front, part_byte, skips, replacement_byte, replacement_fresh, tag_byte, tag_end, breaks, escaped, site_of, pieces_of, behind_call}
use Rattle.macros.specs.Read.{part_byte_by}
use Rattle.macros.specs.ReadSoFar.Part.{replacement, replacement_escape, tag_number, calling, commands}
use Rattle.macros.specs.ReadSoFar.CallSite.{replacement_so_far}
use Rattle.macros.specs.ReadSoFar.Site.{in_replacement}
use Rattle.macros.specs.ReadSoFar.Phase.{begun}
use Rattle.macros.specs.ReadSoFar.Step.{on, stop}
use Rattle.read_scan.specs.Scan.MacroRead.{refused_at}
use Rattle.form_table.specs.Form.{replacement_items, action_items}
use Rattle.read_scan.specs.Scan.{run, At, Here, Passes, Stays, Reached, fault_of}
use Rattle.read_number.specs.Number.{Counts, Kept, most, Unclosed, Outside}
use Rattle.form_items.specs.Items.{Wrote}
use Rattle.read_call.specs.Call.{CalledFrom, mark_of}
use Rattle.read_ends.specs.Ends.{Ended, left_by}
use Rattle.read_action.specs.Action.{Acts, ActionFrom, EscapeFrom, ReplacedFrom, ReplacementRead, IsMark, wrong_tag}
use Rattle.read_scan.specs.declared.FileFault.{FileFault}
use Rattle.read_scan.specs.declared.FileFault.TheVariants.{Incomplete, BadCall}
use Rattle.std.specs.Prelude.{Some, Ok, Err}
use Rattle.std.specs.Prelude.{Option as Maybe}
use Rattle.read_scan.specs.declared.ReadError.{ReadError}
use Rattle.read_scan.proofs.Laws.{here_on, here_stop, here_same, at_on, reached_behind, reached_at}
use Rattle.read_number.proofs.Numbers.{eats_tag}
use Rattle.form_items.proofs.Writing.{wrote_none, wrote_more}
use Rattle.read_call.proofs.Ending.{most_same, within_yes, unfit, some_same, some_none}

-- ACTIONS ONE BEHIND ANOTHER

items_append : (xs ys : List Action) → replacement_items (xs ++ ys) ≡ replacement_items xs ++ replacement_items ys
unfolding replacement_items
items_append [] ys = refl
items_append (x ∷ xs) ys = ap (λ (l : List ℕ). action_items x ++ l) (items_append xs ys) ∙ sym (append_assoc (action_items x) (replacement_items xs) (replacement_items ys))

one_items : (x : Action) → replacement_items (reverse (x ∷ [])) ≡ action_items x
unfolding replacement_items
one_items x = append-nil (action_items x)

no_items : replacement_items (reverse []) ≡ []
unfolding replacement_items
no_items = refl

pub acts_none : {s : List ℕ} {a p : ℕ} (old : List ℕ) (n k : ℕ) → Reached s a p → Acts s a p old old n k p n
acts_none old n k h =
    record {
      actions = [];
      wrote = rw no_items (wrote_none old n);
      used = rw no_items (omega arith);
      room = omega arith;
      reached = h;
      answer = λ f l u pr. refl;
    }

acts_one : {s : List ℕ} {a p : ℕ} {old out : List ℕ} {n k q e : ℕ} (x : Action) → Wrote old out n (action_items x) → e ≡ n + length (action_items x) → e ≤ n + 2 * (q - p) → Reached s a q
    → ((f : Front) (l : List Action) → tags f.pieces ≡ k → (pr : Prior) → run s a pr false p (replacement none f l) ≡ run s a pr false q (replacement none f (x ∷ l)))
    → Acts s a p old out n k q e
acts_one x w u r h g =
    record {
      actions = x ∷ [];
      wrote = rw (one_items x) w;
      used = rw (one_items x) u;
      room = r;
      reached = h;
      answer = g;
    }

pub acts_more : {s : List ℕ} {a p q z : ℕ} {old mid out : List ℕ} {n e e' k : ℕ} → p ≤ q → q ≤ z → Acts s a p old mid n k q e → Acts s a q mid out e k z e' → Acts s a p old out n k z e'
acts_more {s} {a} {p} {q} {z} {old} {mid} {out} {n} {e} {e'} {k} h i x y =
    let both : replacement_items (reverse (y.actions ++ x.actions)) ≡ replacement_items (reverse x.actions) ++ replacement_items (reverse y.actions) =
    ap replacement_items (reverse-append y.actions x.actions) ∙ items_append (reverse x.actions) (reverse y.actions) in
    let second : Wrote mid out (n + length (replacement_items (reverse x.actions))) (replacement_items (reverse y.actions)) = rw x.used at y.wrote in
    record {
      actions = y.actions ++ x.actions;
      wrote = rw both (wrote_more x.wrote second);
      used = rw (both, length-append) (omega (arith, x.used, y.used));
      room = omega (arith, x.room, y.room);
      reached = y.reached;
      answer = λ f l u pr. x.answer f l u pr ∙ rw (append_assoc y.actions x.actions l) (y.answer f (x.actions ++ l) u pr);
    }

-- BYTES

part_skips : (m : Option Mark) (f : Front) (l : List Action) → skips (replacement m f l) ≡ true
unfolding skips
part_skips m f l = refl

part_escape : (f : Front) (l : List Action) → part_byte (replacement none f l) 92 ≡ on (replacement_escape f l)
unfolding part_byte_by replacement_byte replacement_fresh pick breaks among
part_escape f l = refl

part_tag : (f : Front) (l : List Action) → part_byte (replacement none f l) 123 ≡ on (tag_number none f l)
unfolding part_byte_by replacement_byte replacement_fresh pick breaks among
part_tag f l = refl

part_mark : (m : Mark) (f : Front) (l : List Action) → part_byte (replacement none f l) (mark_byte m) ≡ on (replacement (some m) f l)
unfolding part_byte_by replacement_byte replacement_fresh pick breaks among mark_byte
part_mark stack f l = refl
part_mark counter f l = refl

part_quote : (f : Front) (l : List Action) (b : ℕ) → b ≡ 39 → part_byte (replacement none f l) b ≡ on (commands none f l [])
unfolding part_byte_by replacement_byte replacement_fresh pick
part_quote f l b e = rw e refl

part_break : (f : Front) (l : List Action) (b : ℕ) → (b ≡ 39 → ⊥) → breaks b ≡ true → part_byte (replacement none f l) b ≡ stop incomplete
unfolding part_byte_by replacement_byte replacement_fresh pick
part_break f l b e g = simp (ne_eqb _ _ e, g)

part_literal : (f : Front) (l : List Action) (b : ℕ) → (b ≡ 39 → ⊥) → breaks b ≡ false → (b ≡ 92 → ⊥) → (b ≡ 123 → ⊥) → (b ≡ 38 → ⊥) → (b ≡ 35 → ⊥)
    → part_byte (replacement none f l) b ≡ on (replacement none f (text b ∷ l))
unfolding part_byte_by replacement_byte replacement_fresh pick
part_literal f l b e g h i j k = simp (ne_eqb _ _ e, g, ne_eqb _ _ h, ne_eqb _ _ i, ne_eqb _ _ j, ne_eqb _ _ k)

mark_call : (m : Mark) (f : Front) (l : List Action) (b : ℕ) → b ≡ 40 → part_byte (replacement (some m) f l) b ≡ on (calling (replacement_so_far f l) (begun m))
unfolding part_byte_by replacement_byte pick
mark_call m f l b e = rw e refl

mark_other : (m : Mark) (f : Front) (l : List Action) (b : ℕ) → (b ≡ 40 → ⊥) → part_byte (replacement (some m) f l) b ≡ part_byte (replacement none f (text (mark_byte m) ∷ l)) b
unfolding part_byte_by replacement_byte pick
mark_other m f l b e = simp (ne_eqb _ _ e)

text_items : (b : ℕ) → action_items (text b) ≡ 40 ∷ b ∷ []
unfolding action_items
text_items b = refl

tag_items : (n : ℕ) → action_items (tag n) ≡ 41 ∷ n ∷ []
unfolding action_items
tag_items n = refl

-- A LITERAL

pub here_mark : {s : List ℕ} {a p b : ℕ} {w : Bool} → IsMark b w → w ≡ true → Here s a p b → Here s a p (mark_byte (mark_of (eqb b 35)))
here_mark {s} {a} {p} {b} {w} x e y = let z : IsMark b true = rw e at x in rw z y

pub no_mark : {b : ℕ} {w : Bool} → IsMark b w → w ≡ false → (b ≡ 38 → ⊥) × (b ≡ 35 → ⊥)
no_mark {b} {w} x e = rw e at x

module _ {s : List ℕ} {a p b : ℕ} (old out : List ℕ) (n k : ℕ) (x : Here s a p b) (e : b ≡ 39 → ⊥) where
  pub action_break : breaks b ≡ true → ActionFrom s a p old out n k (Err (record { fault = Incomplete; place = p }))
  action_break g =
      let t = x.stands in
      (omega (arith, t.there), λ f l u pr. here_stop x pr (replacement none f l) incomplete (part_break f l b e g))

  pub action_literal : breaks b ≡ false → (b ≡ 92 → ⊥) → (b ≡ 123 → ⊥) → (b ≡ 38 → ⊥) → (b ≡ 35 → ⊥) → Wrote old out n (40 ∷ b ∷ []) → ActionFrom s a p old out n k (Ok (p + 1, n + 2))
  action_literal g h i j m w = (
    omega arith,
    acts_one (text b) (rw (text_items b) w) (rw (text_items b) refl) (omega arith) (reached_behind x.stands)
        (λ f l u pr. here_on x pr (replacement none f l) (replacement none f (text b ∷ l)) (λ q o. refl) (part_literal f l b e g h i j m)),
  )

-- AN ESCAPE

escape_on : {s : List ℕ} {a p d : ℕ} → At s a p d → (f : Front) (l : List Action) (pr : Prior)
    → run s a pr false p (replacement_escape f l) ≡ run s a pr false (p + 1) (replacement none f (text (escaped d) ∷ l))
unfolding part_byte_by skips
escape_on {s} {a} {p} {d} x f l pr = at_on x pr (replacement_escape f l) (replacement none f (text (escaped d) ∷ l)) (λ q o. refl) refl refl

module _ {s : List ℕ} {a p : ℕ} (old out : List ℕ) (n : ℕ) (x : Here s a p 92) where
  pub escape_none : {e : ReadError} → Stays s a (p + 1) (Err e) → EscapeFrom s a p old out n (Err e)
  escape_none y k =
      (y.found, λ g l u pr. here_on x pr (replacement none g l) (replacement_escape g l) (λ q o. refl) (part_escape g l) ∙ y.answer (replacement_escape g l) pr)

  pub escape_done : {d q c : ℕ} → Stays s a (p + 1) (Ok (d, q)) → c ≡ escaped d → Wrote old out n (40 ∷ c ∷ []) → EscapeFrom s a p old out n (Ok (q + 1, n + 2))
  escape_done {d} {q} {c} y i w k =
      let same : q ≡ p + 1 = y.found.0 in (
        omega arith,
        acts_one (text (escaped d)) (rw (text_items (escaped d), ← i) w) (rw (text_items (escaped d)) refl) (omega arith) (rw same (reached_behind y.found.1))
            (λ f l u pr. here_on x pr (replacement none f l) (replacement_escape f l) (λ q o. refl) (part_escape f l) ∙ rw same (escape_on y.found.1 f l pr)),
      )

-- `&` AND `#`

module _ {s : List ℕ} {a p : ℕ} (old out : List ℕ) (n k : ℕ) (c : Bool) (x : Here s a p (mark_byte (mark_of c))) where
  lead : (f : Front) (l : List Action) (pr : Prior) → run s a pr false p (replacement none f l) ≡ run s a pr false (p + 1) (replacement (some (mark_of c)) f l)
  lead f l pr = here_on x pr (replacement none f l) (replacement (some (mark_of c)) f l) (λ q o. refl) (part_mark (mark_of c) f l)

  pub marked_none : {e : ReadError} → Passes s a (p + 1) (Err e) → ActionFrom s a p old out n k (Err e)
  marked_none y = (y.found, λ g l u pr. lead g l pr ∙ y.answer (replacement (some (mark_of c)) g l) pr (part_skips (some (mark_of c)) g l))

  module _ {b q : ℕ} (y : Passes s a (p + 1) (Ok (b, q))) where
    there : (f : Front) (l : List Action) (pr : Prior) → run s a pr false p (replacement none f l) ≡ run s a pr false q (replacement (some (mark_of c)) f l)
    there f l pr = lead f l pr ∙ y.answer (replacement (some (mark_of c)) f l) pr (part_skips (some (mark_of c)) f l)

    begins : b ≡ 40 → (f : Front) (l : List Action) (pr : Prior) → run s a pr false p (replacement none f l) ≡ run s a pr false (q + 1) (calling (replacement_so_far f l) (begun (mark_of c)))
    begins h f l pr = there f l pr ∙ here_on y.found.1 pr (replacement (some (mark_of c)) f l) (calling (replacement_so_far f l) (begun (mark_of c))) (λ q o. refl) (mark_call (mark_of c) f l b h)

    pub marked_call : b ≡ 40 → (w : Ended) → CalledFrom s a (q + 1) old out n (mark_of c) in_replacement k w → ActionFrom s a p old out n k w
    unfolding site_of pieces_of behind_call action_items
    marked_call h (Ok (z, e')) d = (
      omega (arith, d.further, y.found.0),
      acts_one (call d.call) d.wrote d.used (omega (arith, d.room, d.further, y.found.0)) d.reached
          (λ f l u pr. begins h f l pr ∙ d.answer (replacement_so_far f l) refl u pr),
    )
    marked_call h (Err g) d = (d.0, λ f l u pr. begins h f l pr ∙ d.1 (replacement_so_far f l) refl u pr)

    pub marked_literal : {m : ℕ} → (b ≡ 40 → ⊥) → m ≡ mark_byte (mark_of c) → Wrote old out n (40 ∷ m ∷ []) → ActionFrom s a p old out n k (Ok (q, n + 2))
    marked_literal {m} h i w = (
      omega (arith, y.found.0),
      acts_one (text (mark_byte (mark_of c))) (rw (text_items (mark_byte (mark_of c)), ← i) w) (rw (text_items (mark_byte (mark_of c))) refl)
          (omega (arith, y.found.0)) (reached_at y.found.1.stands)
          (λ f l u pr. there f l pr
          ∙ here_same y.found.1 pr (replacement (some (mark_of c)) f l) (replacement none f (text (mark_byte (mark_of c)) ∷ l)) (λ x q o. refl) (mark_other (mark_of c) f l b h)),
    )

-- `{n}`

stray : (x z : Step) (y : Bool) → pick false x (pick false z (pick y (stop incomplete) (stop bad_call))) ≡ stop (pick y incomplete bad_call)
unfolding pick
stray x z true = refl
stray x z false = refl

tag_stray : (o : Option ℕ) (f : Front) (l : List Action) (b : ℕ) → digit b ≡ false → (b ≡ 125 → ⊥) → part_byte (tag_number o f l) b ≡ stop (wrong_tag b)
unfolding part_byte_by tag_byte wrong_tag
tag_stray o f l b h e = simp (h, ne_eqb _ _ e) (stray _ (tag_end o f l) (eqb b 59 || eqb b 10))

wrong_brace : fault_of BadCall ≡ wrong_tag 125
unfolding wrong_tag pick
wrong_brace = refl

digit_brace : digit 125 ≡ false
unfolding digit within
digit_brace = refl

tag_empty : (f : Front) (l : List Action) → part_byte (tag_number none f l) 125 ≡ stop bad_call
unfolding part_byte_by tag_byte tag_end pick
tag_empty f l = simp digit_brace

tag_no : (w : ℕ) (f : Front) (l : List Action) → within 1 (tags f.pieces) w ≡ false → part_byte (tag_number (some w) f l) 125 ≡ stop bad_call
unfolding part_byte_by tag_byte tag_end pick
tag_no w f l h = simp (digit_brace, h)

tag_yes : (w : ℕ) (f : Front) (l : List Action) → within 1 (tags f.pieces) w ≡ true → part_byte (tag_number (some w) f l) 125 ≡ on (replacement none f (tag w ∷ l))
unfolding part_byte_by tag_byte tag_end pick
tag_yes w f l h = simp (digit_brace, h)

module _ (s : List ℕ) (a p : ℕ) (old out : List ℕ) (n k : ℕ) (x : Here s a p 123) where
  opens : (f : Front) (l : List Action) (pr : Prior) → run s a pr false p (replacement none f l) ≡ run s a pr false (p + 1) (tag_number none f l)
  opens f l pr = here_on x pr (replacement none f l) (tag_number none f l) (λ q o. refl) (part_tag f l)

  pub brace_none : {e : ReadError} → Counts s a (p + 1) false (Err e) → ActionFrom s a p old out n k (Err e)
  brace_none y = (y.0, λ g l u pr. opens g l pr ∙ y.1 (λ o. tag_number o g l) (eats_tag g l) pr)

  module _ {v : Maybe ℕ} {b q : ℕ} (y : Counts s a (p + 1) false (Ok (record { value = v; behind = b; place = q }))) where
    -- that the digits up to q are those of a number o
    abbrev Comes : Option ℕ → Type 0
    Comes o = (f : Front) (l : List Action) (pr : Prior) → run s a pr false p (replacement none f l) ≡ run s a pr false q (tag_number o f l)

    comes : Comes y.4.value
    comes f l pr = opens f l pr ∙ y.4.answer (λ o. tag_number o f l) (eats_tag f l) pr

    in_file : q ≤ length s
    in_file = let t = y.1.stands in omega (arith, t.there)

    brace_wrong : (f : FileFault) → (b ≡ 125 → ⊥) → fault_of f ≡ wrong_tag b → ActionFrom s a p old out n k (Err (record { fault = f; place = q }))
    brace_wrong f h i =
        (in_file, λ g l u pr. comes g l pr ∙ (here_stop y.1 pr (tag_number y.4.value g l) (wrong_tag b) (tag_stray y.4.value g l b y.2.0 h) ∙ rw i refl))

    module _ (h : b ≡ 125) where
      at_brace : Here s a q 125
      at_brace = rw h at y.1

      -- no number, or one out of range
      brace_unfit : (o : Option ℕ) → Kept o v → Outside v k → Comes o → ActionFrom s a p old out n k (Err (record { fault = BadCall; place = q }))
      brace_unfit none t z g = (in_file, λ f l u pr. g f l pr ∙ here_stop at_brace pr (tag_number none f l) bad_call (tag_empty f l))
      brace_unfit (some w) t z g =
          let c : within 1 k w ≡ false = unfit k (most w) w refl (rw t at z) in
          (in_file, λ f l u pr. g f l pr ∙ here_stop at_brace pr (tag_number (some w) f l) bad_call (tag_no w f l (rw u c)))

      -- a number in range
      brace_fits : {m : ℕ} → v ≡ Some m → 1 ≤ m → m ≤ k → k ≤ 99 → Wrote old out n (41 ∷ m ∷ []) → (o : Option ℕ) → Kept o v → Comes o → ActionFrom s a p old out n k (Ok (q + 1, n + 2))
      brace_fits j lo hi lim c none t g = absurd (some_none (sym j ∙ t))
      brace_fits {m} j lo hi lim c (some w) t g =
          let same : w ≡ m = most_same w m (some_same (sym j ∙ t)) (omega arith) in (
            omega (arith, y.0),
            acts_one (tag w) (rw (tag_items w, same) c) (rw (tag_items w) refl) (omega (arith, y.0)) (reached_behind at_brace.stands)
                (λ f l u pr. g f l pr
                ∙ here_on at_brace pr (tag_number (some w) f l) (replacement none f (tag w ∷ l)) (λ q o. refl) (tag_yes w f l (rw u (within_yes k w (omega arith) (omega arith))))),
          )

    -- the `}` of a number out of range is a wrong byte too
    late : (f : FileFault) → b ≡ 125 → fault_of f ≡ wrong_tag b → ActionFrom s a p old out n k (Err (record { fault = BadCall; place = q }))
        → ActionFrom s a p old out n k (Err (record { fault = f; place = q }))
    late f h j x = (x.0, λ g l u pr. x.1 g l u pr ∙ ap (λ d. refused_at d q) (wrong_brace ∙ (ap wrong_tag (sym h) ∙ sym j)))

    pub brace_refused : Unclosed b 125 v k true → (f : FileFault) → fault_of f ≡ wrong_tag b → ActionFrom s a p old out n k (Err (record { fault = f; place = q }))
    brace_refused z f j =
        ⊎_elim (λ h. brace_wrong f h j) (λ h. late f h.0 j (brace_unfit h.0 y.4.value y.4.kept h.1 comes)) z

    pub brace_stored : {m : ℕ} → v ≡ Some m → Unclosed b 125 v k false → k ≤ 99 → Wrote old out n (41 ∷ m ∷ []) → ActionFrom s a p old out n k (Ok (q + 1, n + 2))
    brace_stored j z lim c =
        let i = rw j at z.1 in
        brace_fits z.0 j i.0 i.1 lim c y.4.value y.4.kept comes

-- THE WHOLE REPLACEMENT

module _ (s : List ℕ) (a p : ℕ) (old out : List ℕ) (n k : ℕ) {v e : ℕ} (g : Acts s a p old out n k v e) (l : p ≤ v) where
  pub acts_fault : {w : ReadError} → Passes s a v (Err w) → ReplacedFrom s a p old out n k (Err w)
  acts_fault y = (y.found, λ h u pr. g.answer h [] u pr ∙ y.answer (replacement none h (g.actions ++ [])) pr (part_skips none h (g.actions ++ [])))

  module _ {b q : ℕ} (y : Passes s a v (Ok (b, q))) where
    pub acts_pass : Acts s a p old out n k q e
    acts_pass =
        record {
          actions = g.actions;
          wrote = g.wrote;
          used = g.used;
          room = omega (arith, g.room, y.found.0);
          reached = reached_at y.found.1.stands;
          answer = λ f t u pr. g.answer f t u pr ∙ y.answer (replacement none f (g.actions ++ t)) pr (part_skips none f (g.actions ++ t));
        }

    pub acts_quote : b ≡ 39 → ReplacedFrom s a p old out n k (Ok (q + 1, e))
    acts_quote h =
        let z = acts_pass in
        record {
          actions = z.actions;
          wrote = z.wrote;
          used = z.used;
          room = omega (arith, z.room, y.found.0);
          further = omega (arith, y.found.0);
          reached = reached_behind y.found.1.stands;
          answer = λ f u pr. rw (append-nil z.actions) at (z.answer f [] u pr)
              ∙ here_on y.found.1 pr (replacement none f z.actions) (commands none f z.actions []) (λ q o. refl) (part_quote f z.actions b h);
        }

    pub acts_fault_2 : (mid : List ℕ) (w : ReadError) → ActionFrom s a q out mid e k (Err w) → ReplacedFrom s a p old mid n k (Err w)
    acts_fault_2 mid w x = (x.0, λ h u pr. acts_pass.answer h [] u pr ∙ x.1 h (acts_pass.actions ++ []) u pr)

    pub acts_on : {mid : List ℕ} {z e' : ℕ} → ActionFrom s a q out mid e k (Ok (z, e')) → Acts s a p old mid n k z e'
    acts_on x = acts_more (omega (arith, y.found.0)) (omega (arith, x.0)) acts_pass x.1
