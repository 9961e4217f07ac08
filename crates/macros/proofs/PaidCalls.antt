-- A byte of a call, a replacement or a command, or among the calls before a pattern: what has been read is paid for, and stays well formed.
use mathlib.Core.Path.{refl, ◌∙◌, ◌≡◌}
use mathlib.Core.Bool.{◌&&◌, Bool, and-false, false, true}
use mathlib.Core.List.{◌++◌, List, [], reverse, reverse-reverse, reverse_aux, ◌∷◌}
use mathlib.Core.Option.{Option, none, some}
use Prim.Native.Nat.{◌%◌, ◌*◌, ◌+◌, ◌-◌, ◌/◌, ◌<◌, suc, zero, ℕ, ◌≤◌}
use native.Mathlib.Omega.{arith}
use lib.ListN.{length, length-append, length-reverse}
use lib.Dec.{eqb, ltb}
use borrow.Author.Tests.{eqb-true, lt-ltb, ltb-false, ltb-true}
use Rattle.macros.specs.Bounds.{most_entry_bytes}
use Rattle.macros.specs.Macro.{Action, Call, Mark, Move, among, digit, ascii_lower, mark_byte, pick, tags}
use Rattle.macros.specs.Macro.Mark.{counter, stack}
use Rattle.macros.specs.Macro.Move.{after, before, still}
use Rattle.macros.specs.Macro.Call.{divide, insert, set_increment, set_to, store_tag, store_text}
use Rattle.macros.specs.Macro.Action.{call, tag, text}
use Rattle.macros.specs.Formed.{Byte, Bytes, Commands, Formed, FormedCall, FormedCommands, FormedReplacement, Letter, Named}
use Rattle.macros.specs.Read.{Front, Part, Phase, Site, CallSite, Turn, and_digit, behind_call, breaks, call_byte, calls_byte, calls_fresh, commands_byte, commands_fresh, is_still, macro_of, may_insert, may_store_tag, number_end, otherwise, pieces_of, replacement_byte, replacement_fresh, site_of, tag_end, text_byte, turned}
use Rattle.macros.specs.Read.{text_byte_by}
use Rattle.macros.specs.ReadSoFar.Phase.{begun, comma, divisor, equals, increment, named, signed, tag_named, tag_signed, tagged, texted}
use Rattle.macros.specs.ReadSoFar.CallSite.{calls_so_far, commands_so_far, replacement_so_far}
use Rattle.macros.specs.ReadSoFar.Part.{call_text, calling, calls, commands, replacement, tag_number}
use Rattle.macros.specs.ReadSoFar.Step.{on}
use Rattle.macros.specs.ReadCalls.Turn.{closed, into, text_of, wrong}
use Rattle.macros.specs.Write.{byte, call_bytes, commands_bytes, digits, digits_by, inner_bytes, name_bytes}
use Rattle.macros.specs.Spell.{is_mark, leaves_mark, mark_in, needs_text, shortest, spell_action, spell_replacement, spell_text}
use Rattle.macros.specs.Spell.{text_signs, call_text_signs}
use Rattle.macros.proofs.Tests.{and_left, and_right, clash, unbroken, within_left, within_right}
use Rattle.macros.proofs.Readings.{with_mark}
use Rattle.macros.proofs.Whole.{mark_byte_lem}
use Rattle.macros.proofs.Costs.{Done, Fit, FitPhase, FitPlace, Good, base, byte_most, cost, cost_actions, cost_body, cost_calls, cost_text, either, figures, gap_mark, load, load_call, moves, pieces_cost, slack_mark, top_mark}
use Rattle.macros.proofs.Costs.Good.{fault, fine, opening, whole}

-- NUMBERS AND TEXTS

digits_fuel : (j k n : ℕ) → n ≤ j → n ≤ k → digits_by j n ≡ digits_by k n
unfolding digits_by pick
digits_fuel zero zero n h l = refl
digits_fuel zero (suc k) n h l = rw (lt-ltb n 10 (omega arith))
digits_fuel (suc j) zero n h l = rw (lt-ltb n 10 (omega arith))
digits_fuel (suc j) (suc k) n h l = by (ltb n 10) refl (λ x y. digits_fuel j k (n / 10) x y)
  where
    by : (p : Bool) → ltb n 10 ≡ p → (n / 10 ≤ j → n / 10 ≤ k → digits_by j (n / 10) ≡ digits_by k (n / 10))
        → pick p ((48 + n) ∷ []) (digits_by j (n / 10) ++ ((48 + n % 10) ∷ [])) ≡ pick p ((48 + n) ∷ []) (digits_by k (n / 10) ++ ((48 + n % 10) ∷ []))
    by true e ih = refl
    by false e ih = let g : 10 ≤ n = ltb-false n 10 e in rw (ih (omega arith) (omega arith))

digits_one : (k n : ℕ) → n < 10 → length (digits_by k n) ≡ 1
unfolding digits_by pick
digits_one zero n h = refl
digits_one (suc k) n h = rw (lt-ltb n 10 h)

digits_more : (k n d : ℕ) → d < 10 → n * 10 + d ≤ k → length (digits_by k (n * 10 + d)) ≤ suc (length (digits n))
unfolding digits_by digits pick
digits_more zero n d h l = omega (arith, digits_one zero (n * 10 + d) (omega arith))
digits_more (suc k) n d h l = by (ltb (n * 10 + d) 10) refl
  where
    by : (p : Bool) → ltb (n * 10 + d) 10 ≡ p
        → length (pick p ((48 + (n * 10 + d)) ∷ []) (digits_by k ((n * 10 + d) / 10) ++ ((48 + (n * 10 + d) % 10) ∷ []))) ≤ suc (length (digits_by n n))
    by true e = omega arith
    by false e =
        let g : 10 ≤ n * 10 + d = ltb-false (n * 10 + d) 10 e in
        let q : (n * 10 + d) / 10 ≡ n = omega arith in
        rw (length-append (digits_by k ((n * 10 + d) / 10)) ((48 + (n * 10 + d) % 10) ∷ []), q, digits_fuel k n n (omega arith) (omega arith)) (omega arith)

pub figures_more : (o : Option ℕ) (b : ℕ) → digit b ≡ true → figures (some (and_digit o b)) ≤ suc (figures o)
unfolding figures and_digit digits digit
figures_more none b e =
    omega (arith, digits_one (b - 48) (b - 48) (omega (arith, within_left 48 57 b e, within_right 48 57 b e)))
figures_more (some n) b e =
    digits_more (n * 10 + (b - 48)) n (b - 48) (omega (arith, within_left 48 57 b e, within_right 48 57 b e)) (omega arith)

text_onto_cost : (t l : List ℕ) → length (spell_text (reverse_aux t l)) ≡ cost_text t + length (spell_text l)
unfolding cost_text spell_text
text_onto_cost [] l = omega arith
text_onto_cost (b ∷ t) l = text_onto_cost t (b ∷ l) ∙ omega (arith, length-append (byte (among call_text_signs b) b) (spell_text l))

text_cost_lem : (t : List ℕ) → length (spell_text (reverse t)) ≡ cost_text t
unfolding spell_text
text_cost_lem t = text_onto_cost t [] ∙ omega arith

bytes_onto : (t l : List ℕ) → Bytes t → Bytes l → Bytes (reverse_aux t l)
bytes_onto [] l f g = g
bytes_onto (b ∷ t) l f g = bytes_onto t (b ∷ l) f.1 (f.0, g)

-- CALLS

name_length : (i : ℕ) (h : Move) → length (name_bytes i h) ≡ suc (moves h)
unfolding name_bytes moves
name_length i still = refl
name_length i (before s) = refl
name_length i (after s) = refl

module _ (i : ℕ) where
  insert_length : (m : Mark) (h : Move) → length (call_bytes spell_text (insert m i h)) ≡ 4 + moves h
  unfolding call_bytes inner_bytes
  insert_length m h = omega (arith, length-append (name_bytes i h) (41 ∷ []), name_length i h)

  store_tag_length : (n : ℕ) (h : Move) → length (call_bytes spell_text (store_tag n i h)) ≡ 5 + figures (some n) + moves h
  unfolding call_bytes inner_bytes figures
  store_tag_length n h =
      omega (arith, length-append (digits n) (44 ∷ (name_bytes i h ++ (41 ∷ []))), length-append (name_bytes i h) (41 ∷ []), name_length i h)

  set_to_length : (m : Mark) (n : ℕ) → length (call_bytes spell_text (set_to m i n)) ≡ 5 + figures (some n)
  unfolding call_bytes inner_bytes figures
  set_to_length m n = omega (arith, length-append (digits n) (41 ∷ []))

  set_increment_length : (n : ℕ) → length (call_bytes spell_text (set_increment i n)) ≡ 5 + figures (some n)
  unfolding call_bytes inner_bytes figures
  set_increment_length n = omega (arith, length-append (digits n) (41 ∷ []))

  divide_length : (n : ℕ) → length (call_bytes spell_text (divide i n)) ≡ 5 + figures (some n)
  unfolding call_bytes inner_bytes figures
  divide_length n = omega (arith, length-append (digits n) (41 ∷ []))

  store_text_length : (h : Move) (t : List ℕ) → length (call_bytes spell_text (store_text i h (reverse t))) ≡ 6 + moves h + cost_text t
  unfolding call_bytes inner_bytes
  store_text_length h t =
      omega (
        arith,
        length-append (name_bytes i h) (58 ∷ (spell_text (reverse t) ++ (58 ∷ 41 ∷ []))),
        name_length i h,
        length-append (spell_text (reverse t)) (58 ∷ 41 ∷ []),
        text_cost_lem t,
      )

-- a turn from a phase that n bytes of the call have paid for
pub data GoodTurn (si : Site) (n : ℕ) : Turn → Type 0 where
  onward : {ph : Phase} → load_call ph ≤ suc n → FitPhase si ph → GoodTurn si n (into ph)
  worded : {i : ℕ} {h : Move} → 4 + moves h ≤ suc n → Letter i → GoodTurn si n (text_of i h)
  ended : {c : Call} → length (call_bytes spell_text c) ≤ suc n → Named c → (may_insert si ≡ false → Commands c) → GoodTurn si n (closed c)
  astray : GoodTurn si n wrong

whether : {si : Site} {n : ℕ} {c : Bool} {x y : Turn} → (c ≡ true → GoodTurn si n x) → (c ≡ false → GoodTurn si n y) → GoodTurn si n (pick c x y)
unfolding pick
whether {c = true} f g = f refl
whether {c = false} f g = g refl

pub low_name : (b : ℕ) → ascii_lower b ≡ true → Letter b
unfolding ascii_lower
low_name b e = (within_left 97 122 b e, within_right 97 122 b e)

number_good : (si : Site) (n : ℕ) (c : ℕ → Call) (o : Option ℕ) → ((k : ℕ) → length (call_bytes spell_text (c k)) ≡ 5 + figures (some k)) → 4 + figures o ≤ n
    → ((k : ℕ) → Named (c k)) → ((k : ℕ) → may_insert si ≡ false → Commands (c k)) → GoodTurn si n (number_end c o)
unfolding number_end
number_good si n c none l h f g = astray
number_good si n c (some k) l h f g = ended {c = c k} (omega (arith, l k)) (f k) (g k)

pub call_good : (si : Site) (ph : Phase) (b n : ℕ) → load_call ph ≤ n → FitPhase si ph → GoodTurn si n (call_byte si ph b)
unfolding call_byte load_call FitPhase moves figures and_digit
call_good si (begun stack) b n h f =
    whether (λ e. onward (omega (arith, figures_more none b (and_left (digit b) (may_store_tag si) e))) tt)
    (λ d. whether (λ e. onward (omega arith) tt) (λ k. whether (λ e. onward (omega arith) (low_name b e)) (λ e. astray)))
call_good si (begun counter) b n h f =
    whether (λ e. onward (omega arith) tt) (λ k. whether (λ e. onward (omega arith) (low_name b e)) (λ e. astray))
call_good si (signed m s) b n h f = whether (λ e. onward (omega arith) (low_name b e)) (λ e. astray)
call_good si (named stack i j) b n h f =
    whether (λ e. ended (omega (arith, insert_length i stack j)) f (clash (and_right (eqb b 41) (may_insert si) e)))
    (λ e. whether (λ e. worded (omega arith) f)
    (λ e. whether (λ e. onward (omega arith) f) (λ e. whether (λ e. onward (omega arith) f) (λ e. astray))))
call_good si (named counter i j) b n h f =
    whether (λ e. ended (omega (arith, insert_length i counter j)) f (clash (and_right (eqb b 41) (may_insert si) e)))
    (λ e. whether (λ e. onward (omega arith) f)
    (λ e. whether (λ e. onward (omega arith) f)
    (λ e. whether (λ e. onward (omega arith) (f, and_right (is_still j) (may_insert si) (and_right (eqb b 58) (is_still j && may_insert si) e)))
    (λ e. whether (λ e. onward (omega arith) f) (λ e. astray)))))
call_good si (equals m i o) b n h f =
    whether (λ e. onward (omega (arith, figures_more o b e)) f)
    (λ d. whether (λ e. number_good si n (set_to m i) o (set_to_length i m) h (λ k. f) (λ k e. tt)) (λ e. astray))
call_good si (increment i o) b n h f =
    whether (λ e. onward (omega (arith, figures_more o b e)) f)
    (λ d. whether (λ e. number_good si n (set_increment i) o (set_increment_length i) h (λ k. f) (λ k e. tt)) (λ e. astray))
call_good si (divisor i o) b n h f =
    whether (λ e. onward (omega (arith, figures_more o b e)) f)
    (λ d. whether (λ e. number_good si n (divide i) o (divide_length i) h (λ k. f.0) (λ k. clash f.1)) (λ e. astray))
call_good si (tagged k) b n h f =
    whether (λ e. onward (omega (arith, figures_more (some k) b e)) tt) (λ d. whether (λ e. onward (omega arith) tt) (λ e. astray))
call_good si (comma k) b n h f =
    whether (λ e. onward (omega arith) tt) (λ d. whether (λ e. onward (omega arith) (low_name b e)) (λ e. astray))
call_good si (tag_signed k s) b n h f = whether (λ e. onward (omega arith) (low_name b e)) (λ e. astray)
call_good si (tag_named k i j) b n h f =
    whether (λ e. ended (omega (arith, store_tag_length i k j)) f (λ e. tt)) (λ d. whether (λ e. onward (omega arith) f) (λ e. astray))
call_good si (texted i j t) b n h f =
    whether (λ e. ended (omega (arith, store_text_length i j t)) (f.0, bytes_onto t [] f.1 tt, rw (length-reverse t) f.2) (λ e. tt)) (λ e. astray)

-- a space in a call, or a fault
pub otherwise_good : (n : ℕ) (st : Part) (b : ℕ) → load st ≤ n → Fit st → Good n (otherwise st b)
unfolding otherwise
otherwise_good n st b h f = either (λ e. fine (omega arith) f) (λ e. either (λ k. fault tt) (λ k. fault tt))

-- behind a call
placed_good : (n : ℕ) (pl : CallSite) (c : Call) → base pl + length (call_bytes spell_text c) ≤ suc n → FitPlace pl → FormedCall (tags (pieces_of pl)) c
    → (may_insert (site_of pl) ≡ false → Commands c) → Good n (on (behind_call pl c))
unfolding base FitPlace behind_call pieces_of tags site_of may_insert load Fit with_mark slack_mark cost_actions cost_body cost_calls spell_action top_mark leaves_mark gap_mark Done
placed_good n (calls_so_far cs) c h d g k = fine {st = calls none (c ∷ cs)} (omega arith) ((k refl, g), d)
placed_good n (replacement_so_far f ps) c h d g k = fine {st = replacement none f (call c ∷ ps)} (omega arith) (d.0, (g, d.1))
placed_good n (commands_so_far f ps cs) c h d g k = fine {st = commands none f ps (c ∷ cs)} (omega arith) (d.0, ((k refl, g), d.1))

pub turned_good : (n : ℕ) (pl : CallSite) (ph : Phase) (b : ℕ) (x : Turn) → GoodTurn (site_of pl) (load_call ph) x → base pl + load_call ph ≤ n → FitPlace pl → FitPhase (site_of pl) ph
    → Good n (turned pl ph b x)
unfolding turned load Fit cost_text
turned_good n pl ph b (into q) (onward l f) h d e = fine {st = calling pl q} (omega arith) (d, f)
turned_good n pl ph b (text_of i j) (worded l f) h d e = fine {st = call_text pl i j []} (omega arith) (d, f, tt, omega arith)
turned_good n pl ph b (closed c) (ended l f k) h d e =
    either (λ r. placed_good n pl c (omega arith) d (record { names = f; numbers = r }) k) (λ r. fault tt)
turned_good n pl ph b wrong astray h d e = otherwise_good n (calling pl ph) b h (d, e)

no_call_text_sign : (b : ℕ) → eqb b 47 ≡ false → eqb b 58 ≡ false → breaks b ≡ false → eqb b 92 ≡ false → among call_text_signs b ≡ false
unfolding breaks among
no_call_text_sign b s c f h =
    let u = unbroken b f in
    simp (s, c, u.0, u.1, u.2, h)

pub call_text_good : (n b : ℕ) → Byte b → (pl : CallSite) (i : ℕ) (j : Move) (t : List ℕ) → eqb b 47 ≡ false → load (call_text pl i j t) ≤ n → Fit (call_text pl i j t)
    → Good n (text_byte pl i j t b)
unfolding text_byte_by load Fit FitPhase load_call cost_text
call_text_good n b g pl i j t s l h =
    either (λ e. fine (omega arith) (h.0, (h.1, h.2, h.3)))
    (λ c. either (λ e. fault tt)
    (λ k. either
    (λ r. either (λ e. fine (omega arith) (h.0, h.1, h.2, ltb-true (length t) most_entry_bytes r))
    (λ e. fine (omega (arith, one_byte (no_call_text_sign b s c k e))) (h.0, h.1, (g, h.2), ltb-true (length t) most_entry_bytes r)))
    (λ r. fault tt)))
  where
    one_byte : among call_text_signs b ≡ false → length (byte (among call_text_signs b) b) ≡ 1
    one_byte e = rw e (unfold byte in refl)

-- REPLACEMENT

actions_onto_cost : (ps l : List Action) → length (spell_replacement none (reverse_aux ps l)) ≡ cost_actions ps + length (spell_replacement (top_mark ps) l)
unfolding cost_actions top_mark spell_replacement
actions_onto_cost [] l = omega arith
actions_onto_cost (p ∷ ps) l = actions_onto_cost ps (p ∷ l) ∙ omega (arith, length-append (spell_action (top_mark ps) p) (spell_replacement (leaves_mark p) l))

actions_cost : (ps : List Action) → length (spell_replacement none (reverse ps)) ≡ cost_actions ps
unfolding spell_replacement
actions_cost ps = actions_onto_cost ps [] ∙ omega arith

calls_onto_cost : (cs l : List Call) → length (commands_bytes spell_text (reverse_aux cs l)) ≡ cost_calls cs + length (commands_bytes spell_text l)
unfolding cost_calls commands_bytes
calls_onto_cost [] l = omega arith
calls_onto_cost (c ∷ cs) l = calls_onto_cost cs (c ∷ l) ∙ omega (arith, length-append (call_bytes spell_text c) (commands_bytes spell_text l))

calls_cost : (cs : List Call) → length (commands_bytes spell_text (reverse cs)) ≡ cost_calls cs
unfolding commands_bytes
calls_cost cs = calls_onto_cost cs [] ∙ omega arith

replacement_onto : (k : ℕ) (ps l : List Action) → FormedReplacement k ps → FormedReplacement k l → FormedReplacement k (reverse_aux ps l)
replacement_onto k [] l f g = g
replacement_onto k (p ∷ ps) l f g = replacement_onto k ps (p ∷ l) f.1 (f.0, g)

commands_onto : (k : ℕ) (cs l : List Call) → FormedCommands k cs → FormedCommands k l → FormedCommands k (reverse_aux cs l)
commands_onto k [] l f g = g
commands_onto k (c ∷ cs) l f g = commands_onto k cs (c ∷ l) f.1 (f.0, g)

module _ (ps : List Action) where
  pub cost_text_lem : (b : ℕ) → cost_actions (text b ∷ ps) ≡ cost_actions ps + length (byte (needs_text (top_mark ps) b) b)
  unfolding cost_actions spell_action
  cost_text_lem b = refl

  cost_mark : (m : Mark) → cost_actions (text (mark_byte m) ∷ ps) ≡ suc (cost_actions ps)
  unfolding cost_actions spell_action needs_text among byte mark_byte
  cost_mark stack = omega arith
  cost_mark counter = omega arith

  cost_tag : (n : ℕ) → cost_actions (tag n ∷ ps) ≡ cost_actions ps + 2 + length (digits n)
  unfolding cost_actions spell_action
  cost_tag n = omega (arith, length-append (digits n) (125 ∷ []))

  gap_text : (b : ℕ) → eqb b 38 ≡ false → eqb b 35 ≡ false → gap_mark (top_mark (text b ∷ ps)) ≡ 0
  unfolding gap_mark top_mark leaves_mark mark_in pick
  gap_text b e f = simp (e, f)

raw_text_tight : (a : Option Mark) (b : ℕ) → among text_signs b ≡ false → (eqb b 40 && is_mark a) ≡ false → length (byte (needs_text a b) b) ≡ 1
unfolding needs_text byte
raw_text_tight a b m j = simp (m, j)

raw_text_gap : (a : Option Mark) (b : ℕ) → among text_signs b ≡ false → length (byte (needs_text a b) b) ≤ suc (gap_mark a)
unfolding gap_mark is_mark
raw_text_gap (some k) b m = byte_most _ b
raw_text_gap none b m = omega (arith, raw_text_tight none b m (and-false (eqb b 40)))

pub escaped_text_load : (c : ℕ) (ps : List Action) → length (byte (needs_text (top_mark ps) c) c) + gap_mark (top_mark (text c ∷ ps)) ≤ 2
unfolding top_mark leaves_mark gap_mark mark_in pick
escaped_text_load c ps = by (eqb c 38) (eqb c 35) refl refl
  where
    by : (x z : Bool) → eqb c 38 ≡ x → eqb c 35 ≡ z → length (byte (needs_text (top_mark ps) c) c) + gap_mark (pick x (some stack) (pick z (some counter) none)) ≤ 2
    by true z e f = rw (eqb-true c 38 e) (unfold needs_text among byte in omega arith)
    by false true e f = rw (eqb-true c 35 f) (unfold needs_text among byte in omega arith)
    by false false e f = omega (arith, byte_most (needs_text (top_mark ps) c) c)

no_text_sign : (b : ℕ) → eqb b 47 ≡ false → breaks b ≡ false → eqb b 92 ≡ false → eqb b 123 ≡ false → among text_signs b ≡ false
unfolding breaks among
no_text_sign b s f h k =
    let u = unbroken b f in
    simp (s, u.0, u.1, u.2, h, k)

joins_top : (m : Mark) (ps : List Action) (b : ℕ) → eqb b 40 ≡ false → (eqb b 40 && is_mark (top_mark (text (mark_byte m) ∷ ps))) ≡ false
joins_top m ps b e = rw e refl

module _ (n b : ℕ) (g : Byte b) (f : Front) where
  text_good : (ps : List Action) → eqb b 47 ≡ false → cost f.pieces + 4 + cost_actions ps ≤ n
      → (among text_signs b ≡ false → cost f.pieces + 4 + cost_actions ps + length (byte (needs_text (top_mark ps) b) b) ≤ suc n) → Done f ps → Good n (replacement_fresh f ps b)
  unfolding replacement_fresh load Fit Done figures with_mark slack_mark cost_body cost_calls gap_mark
  text_good ps s h k d =
      either (λ e. fine (omega arith) (d, tt))
      (λ q. either (λ e. fault tt)
      (λ r. either (λ e. fine (omega arith) d)
      (λ x. either (λ e. fine (omega arith) d)
      (λ y. either (λ e. fine (omega (arith, cost_mark ps stack)) (d.0, (mark_byte_lem stack, d.1)))
      (λ z. either (λ e. fine (omega (arith, cost_mark ps counter)) (d.0, (mark_byte_lem counter, d.1)))
      (λ w. fine (omega (arith, k (no_text_sign b s r x y), cost_text_lem ps b, gap_text ps b z w)) (d.0, (g, d.1))))))))

  pub replacement_good : (a : Option Mark) (ps : List Action) → eqb b 47 ≡ false → load (replacement a f ps) ≤ n → Done f (with_mark a ps) → Good n (replacement_byte a f ps b)
  unfolding replacement_byte load Fit Done with_mark slack_mark base load_call FitPlace FitPhase
  replacement_good none ps s h d = text_good ps s (omega arith) (λ m. omega (arith, raw_text_gap (top_mark ps) b m)) d
  replacement_good (some k) ps s h d =
      either (λ e. fine (omega (arith, cost_mark ps k)) ((d.0, d.1.1), tt))
      (λ e. text_good (text (mark_byte k) ∷ ps) s (omega arith) (λ m. omega (arith, raw_text_tight (top_mark (text (mark_byte k) ∷ ps)) b m (joins_top k ps b e))) d)

pub tag_good : (n : ℕ) (o : Option ℕ) (f : Front) (ps : List Action) → load (tag_number o f ps) ≤ n → Done f ps → Good n (tag_end o f ps)
unfolding tag_end load Fit Done with_mark slack_mark top_mark leaves_mark gap_mark figures
tag_good n none f ps h d = fault tt
tag_good n (some k) f ps h d =
    either (λ e. fine (omega (arith, cost_tag ps k)) (d.0, ((within_left 1 (tags f.pieces) k e, within_right 1 (tags f.pieces) k e), d.1))) (λ e. fault tt)

-- COMMANDS

commands_fresh_lem : (n b : ℕ) (f : Front) (ps : List Action) (cs : List Call) → cost_body f ps cs ≤ n → Done f ps → FormedCommands (tags f.pieces) cs
    → Good n (commands_fresh f ps cs b)
unfolding commands_fresh load Fit gap_mark
commands_fresh_lem n b f ps cs h d c =
    either (λ e. whole h d c)
    (λ e. either (λ k. fault tt)
    (λ k. either (λ e. fine (omega arith) (d, c)) (λ k. either (λ e. fine (omega arith) (d, c)) (λ e. fine (omega arith) (d, c)))))

pub commands_good : (n b : ℕ) (a : Option Mark) (f : Front) (ps : List Action) (cs : List Call) → load (commands a f ps cs) ≤ n → Done f ps → FormedCommands (tags f.pieces) cs
    → Good n (commands_byte a f ps cs b)
unfolding commands_byte load Fit gap_mark base load_call FitPlace FitPhase
commands_good n b none f ps cs h d c = commands_fresh_lem n b f ps cs (omega arith) d c
commands_good n b (some m) f ps cs h d c =
    either (λ e. fine (omega arith) ((d, c), tt)) (λ e. commands_fresh_lem n b f ps cs (omega arith) d c)

-- CALLS BEFORE A PATTERN

calls_fresh_lem : (n b : ℕ) (cs : List Call) → cost_calls cs ≤ n → FormedCommands 0 cs → Good n (calls_fresh cs b)
unfolding calls_fresh load Fit gap_mark
calls_fresh_lem n b cs h c =
    either (λ e. opening h c)
    (λ e. either (λ k. fault tt)
    (λ k. either (λ e. fine (omega arith) c) (λ k. either (λ e. fine (omega arith) c) (λ e. fine (omega arith) c))))

pub calls_good : (n b : ℕ) (a : Option Mark) (cs : List Call) → load (calls a cs) ≤ n → FormedCommands 0 cs → Good n (calls_byte a cs b)
unfolding calls_byte load Fit gap_mark base load_call FitPlace FitPhase
calls_good n b none cs h c = calls_fresh_lem n b cs (omega arith) c
calls_good n b (some m) cs h c = either (λ e. fine (omega arith) (c, tt)) (λ e. calls_fresh_lem n b cs (omega arith) c)

-- A WHOLE MACRO, of parts that stand newest first

module _ (ds : List Call) (f : Front) (ps : List Action) (cs : List Call) where
  pub macro_formed : FormedCommands 0 ds → Done f ps → FormedCommands (tags f.pieces) cs → Formed (macro_of ds f ps cs)
  unfolding macro_of Done
  macro_formed b d c =
      record {
        before = commands_onto 0 ds [] b tt;
        pattern = rw (reverse-reverse f.pieces) d.0;
        replacement = rw (reverse-reverse f.pieces) (replacement_onto (tags f.pieces) ps [] d.1 tt);
        commands = rw (reverse-reverse f.pieces) (commands_onto (tags f.pieces) cs [] c tt);
      }

  pub macro_cost : length (shortest (macro_of ds f ps cs)) ≡ cost_calls ds + suc (cost_body f ps cs)
  unfolding macro_of shortest cost_body
  macro_cost = simp length-append (omega (arith, calls_cost ds, pieces_cost f.pieces, actions_cost ps, calls_cost cs))
