-- Commands, before a pattern or behind a replacement.
-- Assumes nothing.
use mathlib.Core.Path.{◌≡◌, refl, ap, sym, ◌∙◌}
use mathlib.Core.Bool.{Bool, true, false}
use mathlib.Core.List.{List, [], ◌∷◌, ◌++◌, reverse, append_assoc, append-nil, reverse-append}
use mathlib.Core.Option.{Option, none, some}
use Prim.Native.Nat.{ℕ, ◌+◌, ◌-◌, ◌*◌, ◌≤◌}
use native.Mathlib.Omega.{arith}
use lib.ListN.{length, length-append}
use borrow.Author.Tests.{ne_eqb}
use Rattle.macros.specs.Refusals.FileRefusal.{incomplete}
use Rattle.macros.specs.Macro.{Mark, Call, pick, mark_byte, tags}
use Rattle.macros.specs.Macro.Mark.{stack, counter}
use Rattle.macros.specs.Read.{Part, Prior, CallSite, part_byte, skips, calls_byte, calls_fresh, commands_byte, commands_fresh, site_of, pieces_of, behind_call}
use Rattle.macros.specs.Read.{part_byte_by}
use Rattle.macros.specs.ReadSoFar.Part.{calling}
use Rattle.macros.specs.ReadSoFar.Site.{before_pattern}
use Rattle.macros.specs.ReadSoFar.CallSite.{calls_so_far, commands_so_far}
use Rattle.macros.specs.ReadSoFar.Phase.{begun}
use Rattle.macros.specs.ReadSoFar.Step.{on, stop}
use Rattle.form_table.specs.Form.{calls_items, call_items}
use Rattle.read_scan.specs.Scan.{MacroRead, run, noted, Here, Passes, Reached}
use Rattle.form_items.specs.Items.{Wrote}
use Rattle.read_call.specs.Call.{CalledFrom, mark_of}
use Rattle.read_ends.specs.Ends.{Ended, left_by}
use Rattle.read_command.specs.Commands.{Ahead, Lists, Does, CommandFrom, ListedFrom, CommandsRead, BeforeFrom, site_by, last_byte, stray_byte, tags_ahead, listed}
use Rattle.std.specs.Prelude.{Ok, Err}
use Rattle.read_scan.specs.declared.FileFault.TheVariants.{Incomplete}
use Rattle.read_scan.specs.declared.ReadError.{ReadError}
use Rattle.read_ends.proofs.Leaving.{zeroed}
use Rattle.read_scan.proofs.Laws.{here_on, here_stop, here_same, reached_behind, reached_at}
use Rattle.form_items.proofs.Writing.{wrote_none, wrote_more}

-- COMMANDS ONE BEHIND ANOTHER

calls_append : (xs ys : List Call) → calls_items (xs ++ ys) ≡ calls_items xs ++ calls_items ys
unfolding calls_items
calls_append [] ys = refl
calls_append (x ∷ xs) ys = ap (λ (l : List ℕ). call_items x ++ l) (calls_append xs ys) ∙ sym (append_assoc (call_items x) (calls_items xs) (calls_items ys))

one_call : (x : Call) → calls_items (reverse (x ∷ [])) ≡ call_items x
unfolding calls_items
one_call x = append-nil (call_items x)

no_call : calls_items (reverse []) ≡ []
unfolding calls_items
no_call = refl

-- newest first, the items of the later calls stand behind
items_both : (xs ys : List Call) → calls_items (reverse (ys ++ xs)) ≡ calls_items (reverse xs) ++ calls_items (reverse ys)
items_both xs ys = ap calls_items (reverse-append ys xs) ∙ calls_append (reverse xs) (reverse ys)

-- a way without a call
lists_skip : {s : List ℕ} {a p : ℕ} (old : List ℕ) (n : ℕ) (d : Bool) (k q : ℕ) → Reached s a q
    → ((x : Ahead d) (cs : List Call) (pr : Prior) → run s a pr false p (listed d x none cs) ≡ run s a pr false q (listed d x none cs)) → Lists s a p old old n d k q n
lists_skip old n d k q h g =
    record {
      calls = [];
      wrote = rw no_call (wrote_none old n);
      used = rw no_call (omega arith);
      room = omega arith;
      reached = h;
      answer = λ x cs u pr. g x cs pr;
    }

pub lists_none : {s : List ℕ} {a p : ℕ} (old : List ℕ) (n : ℕ) (d : Bool) (k : ℕ) → Reached s a p → Lists s a p old old n d k p n
lists_none {s} {a} {p} old n d k h = lists_skip old n d k p h (λ x cs pr. refl)

lists_one : {s : List ℕ} {a p : ℕ} {old out : List ℕ} {n : ℕ} (d : Bool) {k q e : ℕ} (c : Call) → Wrote old out n (call_items c) → e ≡ n + length (call_items c) → e ≤ n + 2 * (q - p) → Reached s a q
    → ((x : Ahead d) (cs : List Call) → tags_ahead d x ≡ k → (pr : Prior) → run s a pr false p (listed d x none cs) ≡ run s a pr false q (listed d x none (c ∷ cs)))
    → Lists s a p old out n d k q e
lists_one d c w u r h g =
    record {
      calls = c ∷ [];
      wrote = rw (one_call c) w;
      used = rw (one_call c) u;
      room = r;
      reached = h;
      answer = g;
    }

lists_more : {s : List ℕ} {a p q z : ℕ} {old mid out : List ℕ} {n e e' : ℕ} (d : Bool) {k : ℕ} → p ≤ q → q ≤ z → Lists s a p old mid n d k q e → Lists s a q mid out e d k z e' → Lists s a p old out n d k z e'
lists_more {s} {a} {p} {q} {z} {old} {mid} {out} {n} {e} {e'} d {k} h i x y =
    let both = items_both x.calls y.calls in
    let second : Wrote mid out (n + length (calls_items (reverse x.calls))) (calls_items (reverse y.calls)) = rw x.used at y.wrote in
    record {
      calls = y.calls ++ x.calls;
      wrote = rw both (wrote_more x.wrote second);
      used = rw (both, length-append) (omega (arith, x.used, y.used));
      room = omega (arith, x.room, y.room);
      reached = y.reached;
      answer = λ f cs u pr. x.answer f cs u pr ∙ rw (append_assoc y.calls x.calls cs) (y.answer f (x.calls ++ cs) u pr);
    }

-- BYTES

command_skips : (d : Bool) (x : Ahead d) (m : Option Mark) (cs : List Call) → skips (listed d x m cs) ≡ true
unfolding skips
command_skips true x m cs = refl
command_skips false x m cs = refl

-- none of them ends a pattern
noted_listed : (d : Bool) (x : Ahead d) (m : Option Mark) (cs : List Call) (st : Part) (q : ℕ) (o : MacroRead) → noted (listed d x m cs) st q o ≡ o
noted_listed true x m cs st q o = refl
noted_listed false x m cs st q o = refl

command_stray : (d : Bool) (x : Ahead d) (cs : List Call) (b : ℕ) → b ≡ stray_byte d → part_byte (listed d x none cs) b ≡ stop incomplete
unfolding part_byte_by calls_byte calls_fresh commands_byte commands_fresh pick
command_stray true x cs b e = rw e refl
command_stray false x cs b e = rw e refl

command_mark : (d : Bool) (m : Mark) (x : Ahead d) (cs : List Call) → part_byte (listed d x none cs) (mark_byte m) ≡ on (listed d x (some m) cs)
unfolding part_byte_by calls_byte calls_fresh commands_byte commands_fresh pick mark_byte
command_mark true stack x cs = refl
command_mark true counter x cs = refl
command_mark false stack x cs = refl
command_mark false counter x cs = refl

command_other : (d : Bool) (x : Ahead d) (cs : List Call) (b : ℕ) → (b ≡ last_byte d → ⊥) → (b ≡ stray_byte d → ⊥) → (b ≡ 38 → ⊥) → (b ≡ 35 → ⊥)
    → part_byte (listed d x none cs) b ≡ on (listed d x none cs)
unfolding part_byte_by calls_byte calls_fresh commands_byte commands_fresh pick
command_other true x cs b e g h i = simp (ne_eqb _ _ e, ne_eqb _ _ g, ne_eqb _ _ h, ne_eqb _ _ i)
command_other false x cs b e g h i = simp (ne_eqb _ _ e, ne_eqb _ _ g, ne_eqb _ _ h, ne_eqb _ _ i)

-- where a call begins
abbrev sited : (d : Bool) → Ahead d → List Call → CallSite
sited true x cs = calls_so_far cs
sited false x cs = commands_so_far x.0 x.1 cs

sited_site : (d : Bool) (x : Ahead d) (cs : List Call) → site_of (sited d x cs) ≡ site_by d
unfolding site_of
sited_site true x cs = refl
sited_site false x cs = refl

sited_tags : (d : Bool) (x : Ahead d) (cs : List Call) → tags (pieces_of (sited d x cs)) ≡ tags_ahead d x
unfolding pieces_of tags
sited_tags true x cs = refl
sited_tags false x cs = refl

sited_behind : (d : Bool) (x : Ahead d) (cs : List Call) (c : Call) → behind_call (sited d x cs) c ≡ listed d x none (c ∷ cs)
unfolding behind_call
sited_behind true x cs c = refl
sited_behind false x cs c = refl

mark_call : (d : Bool) (m : Mark) (x : Ahead d) (cs : List Call) (b : ℕ) → b ≡ 40 → part_byte (listed d x (some m) cs) b ≡ on (calling (sited d x cs) (begun m))
unfolding part_byte_by calls_byte commands_byte pick
mark_call true m x cs b e = rw e refl
mark_call false m x cs b e = rw e refl

mark_other : (d : Bool) (m : Mark) (x : Ahead d) (cs : List Call) (b : ℕ) → (b ≡ 40 → ⊥) → part_byte (listed d x (some m) cs) b ≡ part_byte (listed d x none cs) b
unfolding part_byte_by calls_byte commands_byte pick
mark_other true m x cs b e = simp (ne_eqb _ _ e)
mark_other false m x cs b e = simp (ne_eqb _ _ e)

-- ONE COMMAND

module _ {s : List ℕ} {a p b : ℕ} (old : List ℕ) (n : ℕ) (d : Bool) (k : ℕ) (x : Here s a p b) where
  pub command_out : {w : ℕ} → w ≡ stray_byte d → b ≡ w → CommandFrom s a p old old n d k (Err (record { fault = Incomplete; place = p }))
  command_out h e =
      let t = x.stands in
      (omega (arith, t.there), λ f cs u pr. here_stop x pr (listed d f none cs) incomplete (command_stray d f cs b (e ∙ h)))

  pub command_text : {w : ℕ} → w ≡ stray_byte d → (b ≡ last_byte d → ⊥) → (b ≡ w → ⊥) → (b ≡ 38 → ⊥) → (b ≡ 35 → ⊥) → CommandFrom s a p old old n d k (Ok (p + 1, n))
  command_text j e g h i = (
    omega arith,
    lists_skip old n d k (p + 1) (reached_behind x.stands)
        (λ f cs pr. here_on x pr (listed d f none cs) (listed d f none cs) (noted_listed d f none cs (listed d f none cs)) (command_other d f cs b e (λ l. g (l ∙ sym j)) h i)),
  )

module _ {s : List ℕ} {a p : ℕ} (old out : List ℕ) (n : ℕ) (d : Bool) (k : ℕ) (c : Bool) (x : Here s a p (mark_byte (mark_of c))) where
  lead : (f : Ahead d) (cs : List Call) (pr : Prior) → run s a pr false p (listed d f none cs) ≡ run s a pr false (p + 1) (listed d f (some (mark_of c)) cs)
  lead f cs pr =
      here_on x pr (listed d f none cs) (listed d f (some (mark_of c)) cs) (noted_listed d f none cs (listed d f (some (mark_of c)) cs)) (command_mark d (mark_of c) f cs)

  pub command_none : {e : ReadError} → Passes s a (p + 1) (Err e) → CommandFrom s a p old out n d k (Err e)
  command_none y = (y.found, λ g cs u pr. lead g cs pr ∙ y.answer (listed d g (some (mark_of c)) cs) pr (command_skips d g (some (mark_of c)) cs))

  module _ {b q : ℕ} (y : Passes s a (p + 1) (Ok (b, q))) where
    there : (f : Ahead d) (cs : List Call) (pr : Prior) → run s a pr false p (listed d f none cs) ≡ run s a pr false q (listed d f (some (mark_of c)) cs)
    there f cs pr = lead f cs pr ∙ y.answer (listed d f (some (mark_of c)) cs) pr (command_skips d f (some (mark_of c)) cs)

    begins : b ≡ 40 → (f : Ahead d) (cs : List Call) (pr : Prior) → run s a pr false p (listed d f none cs) ≡ run s a pr false (q + 1) (calling (sited d f cs) (begun (mark_of c)))
    begins h f cs pr =
        there f cs pr
        ∙ here_on y.found.1 pr (listed d f (some (mark_of c)) cs) (calling (sited d f cs) (begun (mark_of c)))
        (noted_listed d f (some (mark_of c)) cs (calling (sited d f cs) (begun (mark_of c)))) (mark_call d (mark_of c) f cs b h)

    pub command_call : b ≡ 40 → (w : Ended) → CalledFrom s a (q + 1) old out n (mark_of c) (site_by d) k w → CommandFrom s a p old out n d k w
    command_call h (Ok (z, e')) y' = (
      omega (arith, y'.further, y.found.0),
      lists_one d y'.call y'.wrote y'.used (omega (arith, y'.room, y'.further, y.found.0)) y'.reached
          (λ f cs u pr. begins h f cs pr ∙ (y'.answer (sited d f cs) (sited_site d f cs) (sited_tags d f cs ∙ u) pr ∙ ap (λ (st : Part). run s a pr false z st) (sited_behind d f cs y'.call))),
    )
    command_call h (Err g) y' = (y'.0, λ f cs u pr. begins h f cs pr ∙ y'.1 (sited d f cs) (sited_site d f cs) (sited_tags d f cs ∙ u) pr)

    pub command_plain : (b ≡ 40 → ⊥) → CommandFrom s a p old old n d k (Ok (q, n))
    command_plain h = (
      omega (arith, y.found.0),
      lists_skip old n d k q (reached_at y.found.1.stands)
          (λ f cs pr. there f cs pr
          ∙ here_same y.found.1 pr (listed d f (some (mark_of c)) cs) (listed d f none cs)
          (λ x q o. noted_listed d f (some (mark_of c)) cs x q o ∙ sym (noted_listed d f none cs x q o)) (mark_other d (mark_of c) f cs b h)),
    )

-- ALL OF THEM

module _ (s : List ℕ) (a p : ℕ) (old out : List ℕ) (n : ℕ) (d : Bool) (k : ℕ) {v e : ℕ} (g : Lists s a p old out n d k v e) (l : p ≤ v) where
  pub lists_fault : {w : ReadError} → Passes s a v (Err w) → ListedFrom s a p old out n d k (Err w)
  lists_fault y = (y.found, λ h cs u pr. g.answer h cs u pr ∙ y.answer (listed d h none (g.calls ++ cs)) pr (command_skips d h none (g.calls ++ cs)))

  module _ {b q : ℕ} (y : Passes s a v (Ok (b, q))) where
    lists_pass : Lists s a p old out n d k q e
    lists_pass =
        record {
          calls = g.calls;
          wrote = g.wrote;
          used = g.used;
          room = omega (arith, g.room, y.found.0);
          reached = reached_at y.found.1.stands;
          answer = λ f cs u pr. g.answer f cs u pr ∙ y.answer (listed d f none (g.calls ++ cs)) pr (command_skips d f none (g.calls ++ cs));
        }

    pub lists_end : {w : ℕ} → w ≡ last_byte d → b ≡ w → ListedFrom s a p old out n d k (Ok (q, e))
    lists_end j h = (omega (arith, y.found.0), rw (h ∙ j) at y.found.1, lists_pass)

    pub lists_fault_2 : (mid : List ℕ) (w : ReadError) → CommandFrom s a q out mid e d k (Err w) → ListedFrom s a p old mid n d k (Err w)
    lists_fault_2 mid w x = (x.0, λ h cs u pr. lists_pass.answer h cs u pr ∙ x.1 h (lists_pass.calls ++ cs) u pr)

    pub lists_on : {mid : List ℕ} {z e' : ℕ} → CommandFrom s a q out mid e d k (Ok (z, e')) → Lists s a p old mid n d k z e'
    lists_on x = lists_more d (omega (arith, y.found.0)) (omega (arith, x.0)) lists_pass x.1

-- BEHIND A REPLACEMENT, with all lent bytes

does_all : {s : List ℕ} {a p : ℕ} {old out : List ℕ} {n k q e : ℕ} → Lists s a p old out n false k q e → Does s a p old out n k q e
does_all y =
    record {
      calls = y.calls;
      wrote = y.wrote;
      used = y.used;
      room = y.room;
      reached = y.reached;
      answer = λ f l cs u pr. y.answer (f, l) cs u pr;
    }

pub commands_left : {s : List ℕ} {a p : ℕ} {old : List ℕ} (mid : List ℕ) {out : List ℕ} {n k : ℕ} (r : Ended) → ListedFrom s a p old mid n false k r → out ≡ left_by mid r → length mid ≡ length old
    → CommandsRead s a p old out n k r
commands_left mid (Ok (q, e)) x o l = record { from = rw o (x.0, x.1, does_all x.2); zeros = tt }
commands_left {s} {a} {p} {old} mid (Err e) x o l = record { from = (x.0, λ g t cs u pr. x.1 (g, t) cs u pr); zeros = zeroed old mid (Err e) o l }

-- BEFORE A PATTERN

module _ (s : List ℕ) (a p : ℕ) (old mid : List ℕ) (n : ℕ) (c : Bool) where
  pub before_none : (e : ReadError) → CalledFrom s a p old mid n (mark_of c) before_pattern 0 (Err e) → BeforeFrom s a p old mid n c (Err e)
  unfolding site_of pieces_of tags
  before_none e x = (x.0, λ pr. x.1 (calls_so_far []) refl refl pr)

  module _ {z e : ℕ} (t : CalledFrom s a p old mid n (mark_of c) before_pattern 0 (Ok (z, e))) where
    first_answer_lem : (pr : Prior) → run s a pr false p (calling (calls_so_far []) (begun (mark_of c))) ≡ run s a pr false z (listed true tt none (t.call ∷ []))
    unfolding site_of pieces_of tags behind_call
    first_answer_lem pr = t.answer (calls_so_far []) refl refl pr

    pub before_all : (out : List ℕ) (r : Ended) → ListedFrom s a z mid out e true 0 r → BeforeFrom s a p old out n c r
    before_all out (Ok (q, e')) y =
        let both : calls_items (reverse (y.2.calls ++ (t.call ∷ []))) ≡ call_items t.call ++ calls_items (reverse y.2.calls) =
        items_both (t.call ∷ []) y.2.calls ∙ ap (λ (l : List ℕ). l ++ calls_items (reverse y.2.calls)) (one_call t.call) in
        let second : Wrote mid out (n + length (call_items t.call)) (calls_items (reverse y.2.calls)) = rw t.used at y.2.wrote in (
          omega (arith, t.further, y.0),
          y.1,
          record {
            calls = y.2.calls ++ (t.call ∷ []);
            wrote = rw both (wrote_more t.wrote second);
            used = rw (both, length-append) (omega (arith, t.used, y.2.used));
            room = omega (arith, t.room, t.further, y.2.room, y.0);
            reached = y.2.reached;
            answer = λ pr. first_answer_lem pr ∙ y.2.answer tt (t.call ∷ []) refl pr;
          },
        )
    before_all out (Err f) y = (y.0, λ pr. first_answer_lem pr ∙ y.1 tt (t.call ∷ []) refl pr)
