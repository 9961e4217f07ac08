-- Spelled numbers, calls, replacements and commands read back.
use mathlib.Core.Path.{ap, refl, ◌∙◌, ◌≡◌}
use mathlib.Core.Bool.{◌&&◌, Bool, and-false, false, true, ◌||◌}
use mathlib.Core.List.{◌++◌, List, [], append_assoc, reverse, reverse-reverse, reverse_aux, ◌∷◌}
use mathlib.Core.Option.{Option, none, some}
use Prim.Native.Nat.{◌%◌, ◌+◌, ◌/◌, ◌<◌, suc, zero, ℕ, ◌≤◌}
use native.Mathlib.Omega.{arith}
use lib.ListN.{length}
use lib.Dec.{eqb, ltb}
use borrow.Author.Tests.{eqb-true, le-leb, lt-leb, lt-ltb, ltb-false, ltb-true, ne_eqb}
use Rattle.macros.specs.Bounds.{most_entry_bytes}
use Rattle.macros.specs.Macro.{Action, Call, Mark, Move, Sign, among, digit, ascii_lower, mark_byte, pick, tags, within}
use Rattle.macros.specs.Macro.Mark.{counter, stack}
use Rattle.macros.specs.Macro.Sign.{minus, plus}
use Rattle.macros.specs.Macro.Move.{after, before, still}
use Rattle.macros.specs.Macro.Call.{divide, insert, set_increment, set_to, store_tag, store_text}
use Rattle.macros.specs.Macro.Action.{call, tag, text}
use Rattle.macros.specs.Formed.{Commands, FormedAction, FormedCall, FormedCommands, FormedReplacement, Letter, number_fits}
use Rattle.macros.specs.Read.{Front, Part, Phase, CallSite, and_digit, breaks, call_byte, calls_byte, calls_fresh, commands_byte, commands_fresh, is_sign, is_still, may_insert, may_store_tag, number_end, part_byte, pieces_of, behind_call, replacement_byte, replacement_fresh, sign, sign_of, site_of, skips, tag_byte, tag_end, text_byte_by, turned}
use Rattle.macros.specs.Read.{part_byte_by}
use Rattle.macros.specs.ReadSoFar.Phase.{begun, comma, divisor, equals, increment, named, signed, tag_named, tag_signed, tagged, texted}
use Rattle.macros.specs.ReadSoFar.CallSite.{calls_so_far, commands_so_far, replacement_so_far}
use Rattle.macros.specs.ReadSoFar.Part.{call_text, call_text_escape, calling, calls, commands, replacement, tag_number}
use Rattle.macros.specs.ReadSoFar.Step.{on}
use Rattle.macros.specs.ReadCalls.Turn.{closed, into}
use Rattle.macros.specs.Write.{byte, call_bytes, commands_bytes, digits, digits_by, inner_bytes, mark_of, name_bytes, sign_byte}
use Rattle.macros.specs.Spell.{is_mark, mark_in, needs_text}
use Rattle.macros.specs.Spell.{text_signs, call_text_signs}
use Rattle.macros.proofs.Tests.{absent, clash, no_break, or_left, or_right, spares, within_left, within_right}
use Rattle.macros.proofs.Styles.{Fair, Style, action_bytes, action_leaves, replacement_bytes, text_bytes}
use Rattle.macros.proofs.Readings.{Reads, escaped_escape, move, then, with_mark}
use Rattle.macros.proofs.Readings.Reads.{next, stay}

-- NUMBERS

module _ (S : Option ℕ → Part) (skipping : (o : Option ℕ) → skips (S o) ≡ true)
    (takes : (o : Option ℕ) (b : ℕ) → digit b ≡ true → part_byte (S o) b ≡ on (S (some (and_digit o b)))) where
  read_digit : (o : Option ℕ) (d n : ℕ) → d < 10 → and_digit o (48 + d) ≡ n → Reads (S o) ((48 + d) ∷ []) (S (some n))
  unfolding digit within
  read_digit o d n h e =
      move (S o) (48 + d) (S (some n)) (rw (skipping o) (ne_eqb (48 + d) 47 (omega arith)))
      (takes o (48 + d) (rw (le-leb 48 (48 + d) (omega arith), le-leb (48 + d) 57 (omega arith)) refl) ∙ rw e) stay

  read_digits_by : (k n : ℕ) → n ≤ k → Reads (S none) (digits_by k n) (S (some n))
  unfolding digits_by and_digit pick
  read_digits_by zero n h = read_digit none n n (omega arith) (omega arith)
  read_digits_by (suc k) n h = by (ltb n 10) refl (λ g. read_digits_by k (n / 10) g)
    where
      by : (p : Bool) → ltb n 10 ≡ p → (n / 10 ≤ k → Reads (S none) (digits_by k (n / 10)) (S (some (n / 10))))
          → Reads (S none) (pick p ((48 + n) ∷ []) (digits_by k (n / 10) ++ ((48 + n % 10) ∷ []))) (S (some n))
      by true e ih = read_digit none n n (ltb-true n 10 e) (omega arith)
      by false e ih =
          let g : 10 ≤ n = ltb-false n 10 e in
          then (ih (omega arith)) (read_digit (some (n / 10)) (n % 10) n (omega arith) (omega arith))

  read_digits : (n : ℕ) → Reads (S none) (digits n) (S (some n))
  unfolding digits
  read_digits n = read_digits_by n n (omega arith)

-- CALLS

call_into : (pl : CallSite) (ph ph' : Phase) (b : ℕ) → eqb b 47 ≡ false → call_byte (site_of pl) ph b ≡ into ph' → Reads (calling pl ph) (b ∷ []) (calling pl ph')
unfolding skips part_byte_by turned
call_into pl ph ph' b s e = move (calling pl ph) b (calling pl ph') s (rw e) stay

call_closed : (pl : CallSite) (ph : Phase) (c : Call) (b : ℕ) → eqb b 47 ≡ false → call_byte (site_of pl) ph b ≡ closed c → number_fits (tags (pieces_of pl)) c ≡ true
    → Reads (calling pl ph) (b ∷ []) (behind_call pl c)
unfolding skips part_byte_by turned pick
call_closed pl ph c b s e r = move (calling pl ph) b (behind_call pl c) s (rw (e, r)) stay

-- a lower case letter is nothing else
pub record Lowercase (i : ℕ) : Type 0 where
  pub slash : eqb i 47 ≡ false
  pub low : ascii_lower i ≡ true
  pub figure : digit i ≡ false
  pub sign : is_sign i ≡ false

lowercase : (i : ℕ) → Letter i → Lowercase i
unfolding ascii_lower digit within is_sign sign_of
lowercase i g =
    record {
      slash = ne_eqb i 47 (omega arith);
      low = rw (le-leb 97 i g.0, le-leb i 122 g.1) refl;
      figure = simp (lt-leb i 57 (omega arith), and-false);
      sign = simp (ne_eqb i 43 (omega arith), ne_eqb i 45 (omega arith));
    }

module _ (pl : CallSite) (i : ℕ) (g : Letter i) where
  name_still : (m : Mark) → Reads (calling pl (begun m)) (i ∷ []) (calling pl (named m i still))
  unfolding call_byte pick
  name_still stack = let l = lowercase i g in call_into pl (begun stack) (named stack i still) i l.slash (simp (l.figure, l.sign, l.low))
  name_still counter = let l = lowercase i g in call_into pl (begun counter) (named counter i still) i l.slash (simp (l.sign, l.low))

  name_signed : (m : Mark) (s : Sign) → Reads (calling pl (signed m s)) (i ∷ []) (calling pl (named m i (before s)))
  unfolding call_byte pick
  name_signed m s = let l = lowercase i g in call_into pl (signed m s) (named m i (before s)) i l.slash (simp l.low)

  -- a stack's name, with its sign
  name_stack : (h : Move) → Reads (calling pl (begun stack)) (name_bytes i h) (calling pl (named stack i h))
  unfolding name_bytes sign_byte call_byte pick is_sign sign_of digit within is_still
  name_stack still = name_still stack
  name_stack (before plus) = then (call_into pl (begun stack) (signed stack plus) 43 refl refl) (name_signed stack plus)
  name_stack (before minus) = then (call_into pl (begun stack) (signed stack minus) 45 refl refl) (name_signed stack minus)
  name_stack (after plus) = then (name_still stack) (call_into pl (named stack i still) (named stack i (after plus)) 43 refl refl)
  name_stack (after minus) = then (name_still stack) (call_into pl (named stack i still) (named stack i (after minus)) 45 refl refl)

  name_counter : may_insert (site_of pl) ≡ true → (h : Move) → Reads (calling pl (begun counter)) (name_bytes i h) (calling pl (named counter i h))
  unfolding name_bytes sign_byte call_byte pick is_sign sign_of digit within is_still
  name_counter c still = name_still counter
  name_counter c (before plus) = then (call_into pl (begun counter) (signed counter plus) 43 refl (rw c)) (name_signed counter plus)
  name_counter c (before minus) = then (call_into pl (begun counter) (signed counter minus) 45 refl (rw c)) (name_signed counter minus)
  name_counter c (after plus) = then (name_still counter) (call_into pl (named counter i still) (named counter i (after plus)) 43 refl (rw c))
  name_counter c (after minus) = then (name_still counter) (call_into pl (named counter i still) (named counter i (after minus)) 45 refl (rw c))

  -- a name behind a tag's number
  name_tag : (n : ℕ) (h : Move) → Reads (calling pl (comma n)) (name_bytes i h) (calling pl (tag_named n i h))
  unfolding name_bytes sign_byte call_byte pick is_sign sign_of is_still
  name_tag n still = let l = lowercase i g in call_into pl (comma n) (tag_named n i still) i l.slash (simp (l.sign, l.low))
  name_tag n (before plus) =
      let l = lowercase i g in
      then (call_into pl (comma n) (tag_signed n plus) 43 refl refl) (call_into pl (tag_signed n plus) (tag_named n i (before plus)) i l.slash (simp l.low))
  name_tag n (before minus) =
      let l = lowercase i g in
      then (call_into pl (comma n) (tag_signed n minus) 45 refl refl) (call_into pl (tag_signed n minus) (tag_named n i (before minus)) i l.slash (simp l.low))
  name_tag n (after plus) =
      let l = lowercase i g in
      then (call_into pl (comma n) (tag_named n i still) i l.slash (simp (l.sign, l.low))) (call_into pl (tag_named n i still) (tag_named n i (after plus)) 43 refl refl)
  name_tag n (after minus) =
      let l = lowercase i g in
      then (call_into pl (comma n) (tag_named n i still) i l.slash (simp (l.sign, l.low))) (call_into pl (tag_named n i still) (tag_named n i (after minus)) 45 refl refl)

  set_to_lem : (m : Mark) (n : ℕ) → number_fits (tags (pieces_of pl)) (set_to m i n) ≡ true → Reads (calling pl (begun m)) (i ∷ 61 ∷ (digits n ++ (41 ∷ []))) (behind_call pl (set_to m i n))
  unfolding call_byte pick is_still digit within number_end is_sign sign_of turned part_byte_by skips
  set_to_lem m n r =
      then (name_still m)
      (then (to_equals m)
      (then (read_digits (λ o. calling pl (equals m i o)) (λ o. refl) (λ o b e. rw e) n)
      (call_closed pl (equals m i (some n)) (set_to m i n) 41 refl refl r)))
    where
      to_equals : (m : Mark) → Reads (calling pl (named m i still)) (61 ∷ []) (calling pl (equals m i none))
      to_equals stack = call_into pl (named stack i still) (equals stack i none) 61 refl refl
      to_equals counter = call_into pl (named counter i still) (equals counter i none) 61 refl refl

  set_increment_lem : (n : ℕ) → number_fits (tags (pieces_of pl)) (set_increment i n) ≡ true
      → Reads (calling pl (begun counter)) (i ∷ 44 ∷ (digits n ++ (41 ∷ []))) (behind_call pl (set_increment i n))
  unfolding call_byte pick is_still digit within number_end is_sign sign_of turned part_byte_by skips
  set_increment_lem n r =
      then (name_still counter)
      (then (call_into pl (named counter i still) (increment i none) 44 refl refl)
      (then (read_digits (λ o. calling pl (increment i o)) (λ o. refl) (λ o b e. rw e) n)
      (call_closed pl (increment i (some n)) (set_increment i n) 41 refl refl r)))

  divide_by : may_insert (site_of pl) ≡ true → (n : ℕ) → number_fits (tags (pieces_of pl)) (divide i n) ≡ true
      → Reads (calling pl (begun counter)) (i ∷ 58 ∷ (digits n ++ (41 ∷ []))) (behind_call pl (divide i n))
  unfolding call_byte pick is_still digit within number_end is_sign sign_of turned part_byte_by skips
  divide_by c n r =
      then (name_still counter)
      (then (call_into pl (named counter i still) (divisor i none) 58 refl (rw c))
      (then (read_digits (λ o. calling pl (divisor i o)) (λ o. refl) (λ o b e. rw e) n)
      (call_closed pl (divisor i (some n)) (divide i n) 41 refl refl r)))

-- where the reader stands in a call that begins with a tag's number
tag_part : CallSite → Option ℕ → Part
tag_part pl none = calling pl (begun stack)
tag_part pl (some n) = calling pl (tagged n)

tag_digits : (pl : CallSite) (n : ℕ) → may_store_tag (site_of pl) ≡ true → Reads (calling pl (begun stack)) (digits n) (calling pl (tagged n))
unfolding tag_part call_byte turned part_byte_by skips pick and_digit
tag_digits pl n t = read_digits (tag_part pl) skipping takes n
  where
    skipping : (o : Option ℕ) → skips (tag_part pl o) ≡ true
    skipping none = refl
    skipping (some n) = refl

    takes : (o : Option ℕ) (b : ℕ) → digit b ≡ true → part_byte (tag_part pl o) b ≡ on (tag_part pl (some (and_digit o b)))
    takes none b e = simp (e, t)
    takes (some n) b e = rw e

-- a call that is no command stands where it may insert
may_insert_lem : (p : Bool) → (p ≡ false → ⊥) → p ≡ true
may_insert_lem true k = refl
may_insert_lem false k = absurd (k refl)

-- before a pattern there is no tag that a call could store
may_store : (pl : CallSite) (n : ℕ) → within 1 (tags (pieces_of pl)) n ≡ true → may_store_tag (site_of pl) ≡ true
unfolding pieces_of site_of may_store_tag tags
may_store (calls_so_far cs) n e = absurd (omega (arith, within_left 1 0 n e, within_right 1 0 n e))
may_store (replacement_so_far f ps) n e = refl
may_store (commands_so_far f ps cs) n e = refl

module _ (y : Style) (fair : Fair y) (pl : CallSite) where
  read_call_text_byte : (i : ℕ) (h : Move) (acc : List ℕ) (b : ℕ) (p q : Bool) → length acc < most_entry_bytes → y.text_too b ≡ p → among call_text_signs b ≡ q
      → Reads (call_text pl i h acc) (byte (p || q) b) (call_text pl i h (b ∷ acc))
  unfolding byte skips part_byte_by text_byte_by breaks among pick
  read_call_text_byte i h acc b false false l e n =
      move (call_text pl i h acc) b (call_text pl i h (b ∷ acc)) (absent call_text_signs b 47 n refl)
      (simp (absent call_text_signs b 58 n refl, no_break call_text_signs b n refl refl refl, lt-ltb (length acc) most_entry_bytes l, absent call_text_signs b 92 n refl)) stay
  read_call_text_byte i h acc b true q l e n =
      move (call_text pl i h acc) 92 (call_text_escape pl i h acc) refl (rw (lt-ltb (length acc) most_entry_bytes l))
      (next refl (ap (λ (c : ℕ). on (call_text pl i h (c ∷ acc)))
      (escaped_escape b (spares (λ c. y.text_too c) b 110 fair.text_n e) (spares (λ c. y.text_too c) b 116 fair.text_t e))) stay)
  read_call_text_byte i h acc b false true l e n =
      move (call_text pl i h acc) 92 (call_text_escape pl i h acc) refl (rw (lt-ltb (length acc) most_entry_bytes l))
      (next refl (ap (λ (c : ℕ). on (call_text pl i h (c ∷ acc)))
      (escaped_escape b (spares (among call_text_signs) b 110 refl n) (spares (among call_text_signs) b 116 refl n))) stay)

  read_call_text : (t : List ℕ) (i : ℕ) (h : Move) (acc : List ℕ) → length t + length acc ≤ most_entry_bytes
      → Reads (call_text pl i h acc) (text_bytes y t) (call_text pl i h (reverse_aux t acc))
  unfolding text_bytes
  read_call_text [] i h acc l = stay
  read_call_text (b ∷ t) i h acc l =
      then (read_call_text_byte i h acc b (y.text_too b) (among call_text_signs b) (omega arith) refl refl) (read_call_text t i h (b ∷ acc) (omega arith))

  read_inner : (c : Call) → FormedCall (tags (pieces_of pl)) c → (may_insert (site_of pl) ≡ false → Commands c) → Reads (calling pl (begun (mark_of c))) (inner_bytes (text_bytes y) c) (behind_call pl c)
  unfolding inner_bytes mark_of call_byte pick turned part_byte_by skips text_byte_by is_sign sign_of
  read_inner (insert stack i h) g k =
      let c : may_insert (site_of pl) ≡ true = may_insert_lem (may_insert (site_of pl)) k in
      then (name_stack pl i g.names h) (call_closed pl (named stack i h) (insert stack i h) 41 refl (rw c) g.numbers)
  read_inner (insert counter i h) g k =
      let c : may_insert (site_of pl) ≡ true = may_insert_lem (may_insert (site_of pl)) k in
      then (name_counter pl i g.names c h) (call_closed pl (named counter i h) (insert counter i h) 41 refl (rw c) g.numbers)
  read_inner (store_tag n i h) g k =
      then (tag_digits pl n (may_store pl n (unfold number_fits in g.numbers)))
      (then (call_into pl (tagged n) (comma n) 44 refl (unfold digit within in refl))
      (then (name_tag pl i g.names n h) (call_closed pl (tag_named n i h) (store_tag n i h) 41 refl refl g.numbers)))
  read_inner (set_to m i n) g k = set_to_lem pl i g.names m n g.numbers
  read_inner (store_text i h t) g k =
      then (name_stack pl i g.names.0 h)
      (next refl refl
      (then (read_call_text t i h [] (omega (arith, g.names.2)))
      (next refl refl
      (rw (reverse-reverse t) at (call_closed pl (texted i h (reverse t)) (store_text i h (reverse (reverse t))) 41 refl refl (unfold number_fits in refl))))))
  read_inner (set_increment i n) g k = set_increment_lem pl i g.names n g.numbers
  read_inner (divide i n) g k = divide_by pl i g.names (may_insert_lem (may_insert (site_of pl)) k) n g.numbers

-- REPLACEMENT

settles_text : (a : Option Mark) (f : Front) (ps : List Action) (b : ℕ) → (eqb b 40 && is_mark a) ≡ false → replacement_byte a f ps b ≡ replacement_fresh f (with_mark a ps) b
unfolding replacement_byte with_mark is_mark pick
settles_text none f ps b e = refl
settles_text (some m) f ps b e = rw (by (eqb b 40) e)
  where
    by : (p : Bool) → (p && true) ≡ false → p ≡ false
    by true e = e
    by false e = e

before_action : Option Mark → Action → List Action → List Action
before_action (some m) p ps = ps
before_action none p ps = p ∷ ps

-- the mark that a byte is, by cases
mark_by : (P : Option Mark → Type 0) (b : ℕ) → ((m : Mark) → b ≡ mark_byte m → P (some m)) → P none → P (mark_in b)
unfolding mark_in pick mark_byte
mark_by P b f g = by (eqb b 38) (eqb b 35) refl refl
  where
    by : (x z : Bool) → eqb b 38 ≡ x → eqb b 35 ≡ z → P (pick x (some stack) (pick z (some counter) none))
    by true z e h = f stack (eqb-true b 38 e)
    by false true e h = f counter (eqb-true b 35 h)
    by false false e h = g

settled_action : (y : Style) (p : Action) (ps : List Action) → with_mark (action_leaves y p) (before_action (action_leaves y p) p ps) ≡ p ∷ ps
unfolding action_leaves before_action with_mark pick
settled_action y (text b) ps = by (y.text_too b)
  where
    by : (q : Bool) → with_mark (pick q none (mark_in b)) (before_action (pick q none (mark_in b)) (text b) ps) ≡ text b ∷ ps
    by true = refl
    by false = mark_by (λ (a : Option Mark). with_mark a (before_action a (text b) ps) ≡ text b ∷ ps) b (λ m e. rw e) refl
settled_action y (tag n) ps = refl
settled_action y (call c) ps = refl

fresh_text : (f : Front) (ps : List Action) (b : ℕ) → among text_signs b ≡ false
    → replacement_fresh f ps b ≡ on (replacement (mark_in b) f (before_action (mark_in b) (text b) ps))
unfolding replacement_fresh among pick before_action mark_in
fresh_text f ps b m =
    simp (absent text_signs b 39 m refl, no_break text_signs b m refl refl refl, absent text_signs b 92 m refl, absent text_signs b 123 m refl) (by (eqb b 38) (eqb b 35))
  where
    by : (p q : Bool) → pick p (on (replacement (some stack) f ps)) (pick q (on (replacement (some counter) f ps)) (on (replacement none f (text b ∷ ps))))
        ≡ on (replacement (pick p (some stack) (pick q (some counter) none)) f (before_action (pick p (some stack) (pick q (some counter) none)) (text b) ps))
    by true q = refl
    by false true = refl
    by false false = refl

settles_commands : (a : Option Mark) (f : Front) (ps : List Action) (cs : List Call) (b : ℕ) → eqb b 40 ≡ false → commands_byte a f ps cs b ≡ commands_fresh f ps cs b
unfolding commands_byte pick
settles_commands none f ps cs b e = refl
settles_commands (some m) f ps cs b e = rw e

module _ (y : Style) (fair : Fair y) where
  -- a byte that needs its `\` is no mark
  unmarked : (a : Option Mark) (b : ℕ) → needs_text a b ≡ true → mark_in b ≡ none
  unfolding needs_text among mark_in pick
  unmarked a b n = simp (spares (needs_text a) b 38 refl n, spares (needs_text a) b 35 refl n)

  read_text_by : (a : Option Mark) (f : Front) (ps : List Action) (b : ℕ) (p q : Bool) → y.text_too b ≡ p → needs_text a b ≡ q
      → Reads (replacement a f ps) (byte (p || q) b) (replacement (pick p none (mark_in b)) f (before_action (pick p none (mark_in b)) (text b) (with_mark a ps)))
  unfolding byte skips part_byte_by replacement_fresh breaks among pick needs_text before_action
  read_text_by a f ps b false false e n =
      let m = or_left (among text_signs b) (eqb b 40 && is_mark a) n in
      move (replacement a f ps) b (replacement (mark_in b) f (before_action (mark_in b) (text b) (with_mark a ps))) (absent text_signs b 47 m refl)
      (settles_text a f ps b (or_right (among text_signs b) (eqb b 40 && is_mark a) n) ∙ fresh_text f (with_mark a ps) b m) stay
  read_text_by a f ps b true q e n =
      next refl (settles_text a f ps 92 refl)
      (next refl (ap (λ (c : ℕ). on (replacement none f (text c ∷ with_mark a ps)))
      (escaped_escape b (spares (λ c. y.text_too c) b 110 fair.text_n e) (spares (λ c. y.text_too c) b 116 fair.text_t e))) stay)
  read_text_by a f ps b false true e n =
      rw (unmarked a b n)
      (next refl (settles_text a f ps 92 refl)
      (next refl (ap (λ (c : ℕ). on (replacement none f (text c ∷ with_mark a ps)))
      (escaped_escape b (spares (needs_text a) b 110 refl n) (spares (needs_text a) b 116 refl n))) stay))

  -- `&(` or `#(` in a replacement, and behind one
  read_open : (m : Mark) (a : Option Mark) (f : Front) (ps : List Action) → Reads (replacement a f ps) (mark_byte m ∷ 40 ∷ []) (calling (replacement_so_far f (with_mark a ps)) (begun m))
  unfolding mark_byte skips part_byte_by replacement_fresh replacement_byte breaks among pick
  read_open stack a f ps = next refl (settles_text a f ps 38 refl) (next refl refl stay)
  read_open counter a f ps = next refl (settles_text a f ps 35 refl) (next refl refl stay)

  command_open : (m : Mark) (a : Option Mark) (f : Front) (ps : List Action) (cs : List Call) → Reads (commands a f ps cs) (mark_byte m ∷ 40 ∷ []) (calling (commands_so_far f ps cs) (begun m))
  unfolding mark_byte skips part_byte_by commands_fresh commands_byte pick
  command_open stack a f ps cs = next refl (settles_commands a f ps cs 38 refl) (next refl refl stay)
  command_open counter a f ps cs = next refl (settles_commands a f ps cs 35 refl) (next refl refl stay)

  read_action : (a : Option Mark) (f : Front) (ps : List Action) (p : Action) → FormedAction (tags f.pieces) p
      → Reads (replacement a f ps) (action_bytes y a p) (replacement (action_leaves y p) f (before_action (action_leaves y p) p (with_mark a ps)))
  unfolding action_bytes call_bytes action_leaves before_action skips part_byte_by replacement_fresh tag_byte breaks among pick digit within tag_end site_of may_insert pieces_of behind_call
  read_action a f ps (text b) g = read_text_by a f ps b (y.text_too b) (needs_text a b) refl refl
  read_action a f ps (tag n) g =
      next refl (settles_text a f ps 123 refl)
      (then (read_digits (λ o. tag_number o f (with_mark a ps)) (λ o. refl) (λ o b e. rw e) n)
      (move (tag_number (some n) f (with_mark a ps)) 125 (replacement none f (tag n ∷ with_mark a ps)) refl (rw (le-leb 1 n g.0, le-leb n (tags f.pieces) g.1)) stay))
  read_action a f ps (call c) g =
      then (read_open (mark_of c) a f ps) (read_inner y fair (replacement_so_far f (with_mark a ps)) c g (λ e. clash refl e))

  pub read_replacement : (l : List Action) (a : Option Mark) (f : Front) (ps : List Action) → FormedReplacement (tags f.pieces) l
      → Reads (replacement a f ps) (replacement_bytes y a l ++ (39 ∷ [])) (commands none f (reverse_aux l (with_mark a ps)) [])
  unfolding replacement_bytes skips part_byte_by replacement_fresh breaks among pick
  read_replacement [] a f ps g = next refl (settles_text a f ps 39 refl) stay
  read_replacement (p ∷ l) a f ps g =
      let e = settled_action y p (with_mark a ps) in
      let r : Reads (replacement (action_leaves y p) f (before_action (action_leaves y p) p (with_mark a ps))) (replacement_bytes y (action_leaves y p) l ++ (39 ∷ [])) (commands none f (reverse_aux l (p ∷ with_mark a ps)) []) =
      rw e at (read_replacement l (action_leaves y p) f (before_action (action_leaves y p) p (with_mark a ps)) g.1) in
      rw append_assoc (then (read_action a f ps p g.0) r)

  pub read_commands : (l : List Call) (f : Front) (ps : List Action) (cs : List Call) → FormedCommands (tags f.pieces) l
      → Reads (commands none f ps cs) (commands_bytes (text_bytes y) l) (commands none f ps (reverse_aux l cs))
  unfolding commands_bytes call_bytes site_of may_insert pieces_of behind_call
  read_commands [] f ps cs g = stay
  read_commands (c ∷ l) f ps cs g =
      then (command_open (mark_of c) none f ps cs)
      (then (read_inner y fair (commands_so_far f ps cs) c g.0.1 (λ e. g.0.0)) (read_commands l f ps (c ∷ cs) g.1))

  -- CALLS BEFORE A PATTERN

  calls_open : (m : Mark) (cs : List Call) → Reads (calls none cs) (mark_byte m ∷ 40 ∷ []) (calling (calls_so_far cs) (begun m))
  unfolding mark_byte skips part_byte_by calls_fresh calls_byte pick
  calls_open stack cs = next refl refl (next refl refl stay)
  calls_open counter cs = next refl refl (next refl refl stay)

  -- behind `&(` or `#(`
  pub read_call_before : (c : Call) (cs : List Call) → Commands c × FormedCall 0 c
      → Reads (calling (calls_so_far cs) (begun (mark_of c))) (inner_bytes (text_bytes y) c) (calls none (c ∷ cs))
  unfolding site_of may_insert pieces_of behind_call tags
  read_call_before c cs g = read_inner y fair (calls_so_far cs) c g.1 (λ e. g.0)

  pub read_calls_before : (l cs : List Call) → FormedCommands 0 l → Reads (calls none cs) (commands_bytes (text_bytes y) l) (calls none (reverse_aux l cs))
  unfolding commands_bytes call_bytes
  read_calls_before [] cs g = stay
  read_calls_before (c ∷ l) cs g = then (calls_open (mark_of c) cs) (then (read_call_before c cs g.0) (read_calls_before l (c ∷ cs) g.1))
