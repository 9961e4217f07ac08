-- A macro from where it begins to its `;`.
-- Assumes nothing.
use mathlib.Core.Path.{◌≡◌, refl, ap, sym, ◌∙◌}
use mathlib.Core.Bool.{false}
use mathlib.Core.List.{List, [], ◌∷◌, ◌++◌, reverse, append-nil}
use mathlib.Core.Option.{none}
use Prim.Native.Nat.{ℕ, suc, ◌+◌, ◌-◌, ◌≤◌, ◌<◌}
use native.Mathlib.Omega.{arith}
use native.Mathlib.Numerals.{add-one}
use lib.Dec.{eqb}
use lib.ListN.{length, get_or, drop, length-append}
use borrow.Author.Tests.{lt-ltb, le-ltb, ne_eqb}
use Rattle.macros.specs.Refusals.FileRefusal.{macro_too_long}
use Rattle.macros.specs.Macro.{Macro, Action, Call, pick, tags}
use Rattle.macros.specs.Read.{Front, Prior, Reader, step, skips, part_byte, taken, count, macro_of, no_calls, calls_byte, calls_fresh, commands_byte, commands_fresh}
use Rattle.macros.specs.Read.{step_by, part_byte_by}
use Rattle.macros.specs.ReadSoFar.CallSite.{calls_so_far}
use Rattle.macros.specs.ReadSoFar.Phase.{begun}
use Rattle.macros.specs.ReadSoFar.Part.{calls, calling, await_symbol, replacement, commands}
use Rattle.macros.specs.ReadSoFar.Step.{opens, done}
use Rattle.macros.specs.ReadFile.Pending.{clear}
use Rattle.macros.specs.ReadFile.Reader.{between, inside}
use Rattle.macros.specs.ReadFile.Next.{go, refuse}
use Rattle.read_scan.specs.Scan.MacroRead.{refused_at, pattern_to, macro_to}
use Rattle.form_table.specs.Form.{pattern_items, replacement_items, calls_items, symbol_code, header, body}
use Rattle.form_table.proofs.Order.{tags_reverse}
use Rattle.read_scan.specs.Scan.{MacroRead, read_macro, run, Here, Reached}
use Rattle.form_items.specs.Items.{Wrote}
use Rattle.read_pattern.specs.Pattern.{Begins, Patterned}
use Rattle.read_call.specs.Call.{mark_of}
use Rattle.read_action.specs.Action.{FrontAt, Replaced, symbol_of}
use Rattle.read_command.specs.Commands.{CommandsFrom, BeforeFrom}
use Rattle.read_macro.specs.OneMacro.{ended, macro_at, Preceded, PrecededBy, MacroFrom, PartsFrom}
use Rattle.read_start.specs.Start.{first_part, started}
use Rattle.read_scan.specs.declared.FileFault.TheVariants.{MacroTooLong}
use Rattle.std.specs.Prelude.{Result, Ok, Err}
use Rattle.read_scan.specs.declared.ReadError.{ReadError}
use Rattle.read_macro.specs.declared.Built.{Built}
use Rattle.read_scan.proofs.Laws.{out_of, macro_refuse, run_here, here_opens, reached_behind}
use Rattle.form_items.proofs.Writing.{wrote_none, wrote_behind}

-- AT THE `;`

done_byte : (f : Front) (l : List Action) (cs : List Call) → part_byte (commands none f l cs) 59 ≡ done f l cs
unfolding part_byte_by commands_byte commands_fresh pick
done_byte f l cs = refl

done_step : (n : ℕ) (f : Front) (l : List Action) (cs : List Call) (pr : Prior) → step (inside false n (commands none f l cs) pr) 59 ≡ count n (between false clear (macro_of pr.calls f l cs ∷ pr.macros))
unfolding step_by pick skips taken
done_step n f l cs pr = rw (done_byte f l cs) refl

count_go : (n : ℕ) (r : Reader) → n < 512 → count n r ≡ go r
unfolding count pick
count_go n r h = simp (lt-ltb _ _ h)

count_late : (n : ℕ) (r : Reader) → 512 ≤ n → count n r ≡ refuse macro_too_long
unfolding count pick
count_late n r h = simp (le-ltb _ _ h)

module _ {s : List ℕ} {a q : ℕ} (x : Here s a q 59) (f : Front) (l : List Action) (cs : List Call) (pr : Prior) where
  first : run s a pr false q (commands none f l cs) ≡ read_macro pr q false (q - a) (commands none f l cs) (59 ∷ drop (suc q) s)
  first = let t = x.stands in run_here s a pr false q (commands none f l cs) t.there (omega (arith, t.counted)) ∙ rw t.byte refl

  -- the macro is done
  pub done_go : q - a < 512 → run s a pr false q (commands none f l cs) ≡ macro_to (suc q) (macro_of pr.calls f l cs)
  done_go h = first ∙ out_of pr q (q - a) false (commands none f l cs) 59 _ false clear (macro_of pr.calls f l cs) pr.macros (done_step (q - a) f l cs pr ∙ count_go (q - a) _ h)

  -- the `;` is its 513th byte
  pub done_late : 512 ≤ q - a → run s a pr false q (commands none f l cs) ≡ refused_at macro_too_long q
  done_late h = first ∙ macro_refuse pr q (q - a) false (commands none f l cs) 59 _ macro_too_long (done_step (q - a) f l cs pr ∙ count_late (q - a) _ h)

-- REPLACEMENT AND COMMANDS

module _ (s : List ℕ) (a p : ℕ) (o₁ : List ℕ) (b n i t : ℕ) (o₂ : List ℕ) where
  module _ {g j : ℕ} (w : Replaced s a p o₁ o₂ i t g j) (o₃ : List ℕ) where
    module _ {q k : ℕ} (d : CommandsFrom s a g o₂ o₃ j t (Ok (q, k))) where
      abbrev its_calls : List Call
      its_calls = d.2.calls

      to_end : (f : Front) → tags f.pieces ≡ t → (pr : Prior) → run s a pr false p (replacement none f []) ≡ run s a pr false q (commands none f w.actions its_calls)
      to_end f u pr = w.answer f u pr ∙ rw append-nil at (d.2.answer f w.actions [] u pr)

      pub parts_late : 512 ≤ q - a → PartsFrom s a p o₁ o₃ b n i t (Err (record { fault = MacroTooLong; place = q }))
      parts_late l =
          let x = d.1.stands in
          (omega (arith, x.there), λ f u pr. to_end f u pr ∙ done_late d.1 f w.actions its_calls pr l)

      pub parts_order : (i ≤ j) × (j ≤ k) × (a ≤ q) × (q < length s)
      parts_order =
          let x = d.1.stands in
          (omega (arith, w.used), omega (arith, d.2.used), x.behind, x.there)

      its_wrote : Wrote o₁ o₃ i (replacement_items (reverse w.actions) ++ calls_items (reverse its_calls))
      its_wrote = wrote_behind w.wrote w.used d.2.wrote

      pub parts_made : {y : ℕ} → y ≡ symbol_code (symbol_of b) → q - a < 512
          → PartsFrom s a p o₁ o₃ b n i t (Ok (record { place = q + 1; head = record { symbol = y; tags = t; before = n; pattern = i - n; replacement = j - i; commands = k - j } }))
      parts_made e l =
          let x = d.1.stands in
          record {
            actions = w.actions;
            calls = its_calls;
            symbol = e;
            tagged = refl;
            first = refl;
            second = refl;
            third = omega (arith, w.used);
            fourth = omega (arith, d.2.used);
            wrote = its_wrote;
            room = omega (arith, w.room, w.further, d.2.room, d.0, w.used, d.2.used);
            further = omega (arith, w.further, d.0);
            reached = omega (arith, x.there);
            counted = omega (arith, x.behind);
            answer = λ f u pr. rw add-one (to_end f u pr ∙ done_go d.1 f w.actions its_calls pr l);
          }

-- THE CALLS BEFORE THE PATTERN

opens_byte : (cs : List Call) → part_byte (calls none cs) 39 ≡ opens cs
unfolding part_byte_by calls_byte calls_fresh pick
opens_byte cs = refl

module _ (s : List ℕ) (a p : ℕ) (old : List ℕ) where
  -- there are none
  pub first_quote : get_or s a 0 ≡ 39 → Reached s a p → PrecededBy s a p old old (Ok (p, 0))
  unfolding first_part pick calls_items
  first_quote e h =
      record { calls = []; wrote = wrote_none old 0; used = refl; room = omega arith; further = omega arith; reached = h; answer = λ ms. rw e refl }

  its_first : (get_or s a 0 ≡ 39 → ⊥) → first_part (get_or s a 0) ≡ calling (calls_so_far []) (begun (mark_of (eqb (get_or s a 0) 35)))
  unfolding first_part pick
  its_first e = simp (ne_eqb _ _ e)

  module _ (e : get_or s a 0 ≡ 39 → ⊥) (o₁ : List ℕ) where
    pub first_fault : (x : ReadError) → BeforeFrom s a p old o₁ 0 (eqb (get_or s a 0) 35) (Err x) → PrecededBy s a p old o₁ (Err x)
    first_fault x y = (y.0, λ ms. rw (its_first e) (y.1 (no_calls ms)))

    pub first_calls : {q n : ℕ} → BeforeFrom s a p old o₁ 0 (eqb (get_or s a 0) 35) (Ok (q, n)) → PrecededBy s a p old o₁ (Ok (q + 1, n))
    first_calls y =
        let z = y.2 in
        record {
          calls = z.calls;
          wrote = z.wrote;
          used = omega (arith, z.used);
          room = omega (arith, z.room, y.0);
          further = omega (arith, y.0);
          reached = reached_behind y.1.stands;
          answer = λ ms. rw (its_first e) (z.answer (no_calls ms)) ∙ here_opens y.1 (no_calls ms) (calls none z.calls) z.calls (λ q o. refl) (opens_byte z.calls);
        }

-- THE WHOLE MACRO

module _ (s : List ℕ) (a p : ℕ) where
  -- the `(` of its first call stands behind the 513th byte
  pub macro_late : (old : List ℕ) → 512 < p - a → p ≤ length s → MacroFrom s a p old old (Err (record { fault = MacroTooLong; place = a + 512 }))
  unfolding macro_at started ended pick
  macro_late old h l = (omega arith, λ ms. rw (lt-ltb _ _ h) refl)

  module _ (h : p - a ≤ 512) where
    -- what the macro comes to, by what the machine comes to
    macro_by : (ms : List Macro) {o : MacroRead} → run s a (no_calls ms) false p (first_part (get_or s a 0)) ≡ o → macro_at s a p ms ≡ ended o
    unfolding macro_at started pick
    macro_by ms e = rw (le-ltb _ _ h) (ap ended e)

    module _ (old o₁ : List ℕ) where
      pub macro_calls_fault : (e : ReadError) → PrecededBy s a p old o₁ (Err e) → MacroFrom s a p old o₁ (Err e)
      unfolding ended
      macro_calls_fault e z = (z.0, λ ms. macro_by ms (z.1 ms))

      module _ {v n : ℕ} (y : Preceded s a p old o₁ v n) where
        -- what was read before the pattern, behind the macros ms
        abbrev prior : List Macro → Prior
        prior ms = record { calls = y.calls; macros = ms }

        module _ (o₂ : List ℕ) where
          pub macro_pattern_fault : (e : ReadError) → Begins s a v o₁ o₂ n (Err e) → MacroFrom s a p old o₂ (Err e)
          unfolding ended
          macro_pattern_fault e z = (z.0, λ ms. macro_by ms (y.answer ms ∙ z.1 (prior ms)))

          module _ {g t i : ℕ} (z : Patterned s a v g t o₁ o₂ n i) where
            -- what follows the pattern
            behind_it : (ms : List Macro) {o : MacroRead} → run s a (prior ms) false g (await_symbol z.pieces) ≡ o → macro_at s a p ms ≡ ended o
            unfolding ended
            behind_it ms f = macro_by ms (y.answer ms ∙ (z.answer (prior ms) ∙ ap (pattern_to g z.pieces) f))

            pub macro_front_fault : (e : ReadError) → FrontAt s a g (Err e) → MacroFrom s a p old o₂ (Err e)
            unfolding ended
            macro_front_fault e u = (u.0, λ ms. behind_it ms (u.1 z.pieces (prior ms)))

            module _ (b c : ℕ) (u : FrontAt s a g (Ok (b, c))) where
              abbrev front : Front
              front = record { pieces = z.pieces; symbol = symbol_of b }

              to_replacement : (ms : List Macro) → run s a (prior ms) false g (await_symbol z.pieces) ≡ run s a (prior ms) false (c + 1) (replacement none front [])
              to_replacement ms = u.2 z.pieces (prior ms)

              pub macro_whole : a < p → (o₃ : List ℕ) (w : Result Built ReadError) → PartsFrom s a (c + 1) o₂ o₃ b n i t w → MacroFrom s a p old o₃ w
              unfolding header body ended macro_of
              macro_whole l o₃ (Ok w) x =
                  let d = w.head in
                  let first : length (calls_items (reverse y.calls)) ≡ d.before = sym y.used ∙ sym x.first in
                  let second : length (pattern_items (reverse z.pieces)) ≡ d.pattern = omega (arith, z.used, x.second) in
                  record {
                    itself = macro_of y.calls front x.actions x.calls;
                    head = rw (first, second, ← x.third, ← x.fourth, tags_reverse z.pieces, z.tagged, ← x.tagged, ← x.symbol) refl;
                    size = rw (length-append, length-append, length-append, first, second, ← x.third, ← x.fourth) (omega arith);
                    few = omega (arith, z.few, x.tagged);
                    fits = omega (arith, y.room, y.further, z.room, z.further, z.used, x.room, x.further, x.first, x.second, x.counted, u.0);
                    wrote = wrote_behind y.wrote (omega (arith, y.used)) (wrote_behind z.wrote z.used x.wrote);
                    further = omega (arith, x.further, u.0, z.further, y.further);
                    reached = x.reached;
                    exact = λ ms. behind_it ms (to_replacement ms ∙ x.answer front z.tagged (prior ms));
                  }
              macro_whole l o₃ (Err e) x = (x.0, λ ms. behind_it ms (to_replacement ms ∙ x.1 front z.tagged (prior ms)))
