-- How the parts of reading a line make the line.
use Prim.Native.Nat.{ℕ, zero, suc, ◌+◌, ◌-◌, ◌≤◌, ◌<◌, min}
use mathlib.Core.Path.{◌≡◌, refl, sym, ap, subst, ◌∙◌}
use mathlib.Core.Bool.{Bool, true, false, ◌||◌, true≢false}
use mathlib.Core.List.{List, [], ◌∷◌, ◌++◌, append_assoc, append-nil}
use native.Mathlib.Omega.{arith}
use native.Mathlib.Numerals.{add-one}
use borrow.Author.Tests.{ne_eqb, eqb-true, ltb-false, not-true}
use lib.ListN.{length, take, drop, get_or, length-append, length-take}
use lib.Seq.{slice-cons, drop-cons, drop-drop, get_or-take}
use Rattle.std.specs.Prelude.{Some, None, eqb, ltb, not}
use Rattle.std.specs.List.{position, position_or_len}
use Rattle.std.proofs.lemmas.List.{drop-take, take-append-drop}
use Rattle.std.proofs.lemmas.List.Sums.{prefix_len_passes}
use Rattle.std.proofs.lemmas.Option.{none-some}
use Rattle.std.proofs.lemmas.List.Quantifiers.{position-Some}
use Rattle.program_in.specs.declared.Reading.{Reading}
use Rattle.program_in.specs.declared.Turn.{Turn}
use Rattle.program_in.specs.Reading.{coming, ahead, line_of, over, has_byte, LineRead}
use Rattle.program_in.specs.Turns.{NoFeed, Kept, Keeps, Stops, Part, Filled}
use Rattle.program_in.specs.Turns.Stops.{fed, used}

-- THE LINE'S MEMORY

pub over_length : (s m : List ℕ) → length (over s m) ≡ length m
unfolding over
over_length [] m = refl
over_length (b ∷ s) [] = refl
over_length (b ∷ s) (x ∷ m) = ap suc (over_length s m)

-- a text goes over a memory, as far as there is room
over_text : (s m : List ℕ) (k : ℕ) → k ≡ min (length m) (length s) → take k s ++ drop k m ≡ over s m
unfolding over
over_text [] m zero h = refl
over_text [] m (suc k) h = absurd (omega (arith, h))
over_text (b ∷ s) [] zero h = refl
over_text (b ∷ s) [] (suc k) h = absurd (omega (arith, h))
over_text (b ∷ s) (x ∷ m) zero h = absurd (omega (arith, h))
over_text (b ∷ s) (x ∷ m) (suc k) h = ap (λ (t : List ℕ). b ∷ t) (over_text s m k (omega (arith, h)))

-- and behind another
over_behind : (t m s : List ℕ) (h k : ℕ) → h ≡ min (length t) (length m) → h + k ≡ min (length m) (h + length s) → take h (over t m) ++ (take k s ++ drop (h + k) (over t m)) ≡ over (t ++ s) m
unfolding over
over_behind [] m s zero k e f = let z : 0 + k ≡ k = omega arith in rw z (over_text s m k (omega (arith, f)))
over_behind [] m s (suc h) k e f = absurd (omega (arith, e))
over_behind (a ∷ t) [] s zero zero e f = refl
over_behind (a ∷ t) [] s zero (suc k) e f = absurd (omega (arith, f))
over_behind (a ∷ t) [] s (suc h) k e f = absurd (omega (arith, e))
over_behind (a ∷ t) (x ∷ m) s zero k e f = absurd (omega (arith, e))
over_behind (a ∷ t) (x ∷ m) s (suc h) k e f =
    let z : suc h + k ≡ suc (h + k) = omega arith in
    rw z (ap (λ (u : List ℕ). a ∷ u) (over_behind t m s h k (omega (arith, e)) (omega (arith, f))))

module _ (line s : List ℕ) (held end : ℕ) (h : held ≤ length line) (e : end ≡ min (length line) (held + length s)) where
  kept_behind : (m t : List ℕ) → Kept m t line held → Kept m (t ++ s) (take held line ++ (take (end - held) s ++ drop (end - held) (drop held line))) end
  kept_behind m t g =
      let l : length line ≡ length m = ap length g.memory ∙ over_length t m in
      let n : length (t ++ s) ≡ length t + length s = length-append t s in
      record {
        memory = rw (drop-drop (end - held) held line, g.memory) (over_behind t m s held (end - held) g.count (omega (arith, e, h, l)));
        count = omega (arith, l, n, e, g.count);
      }

  pub keeps_behind : Keeps line held s (take held line ++ (take (end - held) s ++ drop (end - held) (drop held line))) end
  keeps_behind = record { goes = kept_behind }

  -- by its parts: before the bytes, the bytes, and behind them
  pub keeps_parts : {t : List ℕ} → take held t ≡ take held line → take (end - held) (drop held t) ≡ take (end - held) s → drop end t ≡ drop end line → Keeps line held s t end
  keeps_parts {t = t} f g b =
      let n : held + (end - held) ≡ end = omega (arith, h, e) in
      let d : drop (end - held) (drop held t) ≡ drop (end - held) (drop held line) = rw (drop-drop (end - held) held t, drop-drop (end - held) held line, n) b in
      let a : t ≡ take held t ++ drop held t = sym (take-append-drop held t) in
      let c : drop held t ≡ take (end - held) (drop held t) ++ drop (end - held) (drop held t) = sym (take-append-drop (end - held) (drop held t)) in
      let r : t ≡ take held line ++ (take (end - held) s ++ drop (end - held) (drop held line)) = cc in
      rw r keeps_behind

pub keeps_none : {line : List ℕ} {held : ℕ} → Keeps line held [] line held
keeps_none = record { goes = λ m t k. rw (append-nil t) k }

pub keeps_both : {l l1 l2 s t : List ℕ} {h h1 h2 : ℕ} → Keeps l h s l1 h1 → Keeps l1 h1 t l2 h2 → Keeps l h (s ++ t) l2 h2
keeps_both {s = s} {t = t} f g = record { goes = λ m u k. rw (← append_assoc u s t) (g.goes m (u ++ s) (f.goes m u k)) }

-- LINE FEEDS

no_feed_both : (s t : List ℕ) → NoFeed s → NoFeed t → NoFeed (s ++ t)
unfolding NoFeed
no_feed_both [] t f g = g
no_feed_both (b ∷ s) t f g = (f.0, no_feed_both s t f.1 g)

no_feed_ahead : (s t : List ℕ) → NoFeed s → line_of (s ++ t) ≡ ahead s (line_of t)
unfolding NoFeed line_of ahead
no_feed_ahead [] t f = refl
no_feed_ahead (b ∷ s) t f = rw (ne_eqb b 10 f.0, no_feed_ahead s t f.1)

has_byte_both : (s t : List ℕ) → has_byte (s ++ t) ≡ has_byte s || has_byte t
unfolding has_byte
has_byte_both [] t = refl
has_byte_both (b ∷ s) t = refl

or_true : (b : Bool) → b || true ≡ true
or_true true = refl
or_true false = refl

or_both : (a b c : Bool) → (a || b) || c ≡ a || (b || c)
or_both true b c = refl
or_both false b c = refl

or_false : (b : Bool) → b || false ≡ b
or_false true = refl
or_false false = refl

-- WHAT IS TO COME

drop_all : (n : ℕ) (l : List ℕ) → length l ≤ n → drop n l ≡ []
drop_all zero [] h = refl
drop_all zero (x ∷ l) h = absurd (omega arith)
drop_all (suc n) [] h = refl
drop_all (suc n) (x ∷ l) h = drop_all n l (omega arith)

none_come : (at size : ℕ) (block : List ℕ) → size ≤ at → drop at (take size block) ≡ []
none_come at size block h = drop_all at (take size block) (omega (arith, length-take size block))

next_comes : (at size : ℕ) (block : List ℕ) → at < size → size ≤ length block → drop at (take size block) ≡ get_or block at 0 ∷ drop (at + 1) (take size block)
next_comes at size block h k = rw add-one (slice-cons at size block 0 h k)

-- TAKING BYTES

-- a line feed is the first one: none stands before it
no_feed_before : (s : List ℕ) → ((k : ℕ) → k < length s → eqb (get_or s k 0) 10 ≡ false) → NoFeed s
unfolding NoFeed
no_feed_before [] f = tt
no_feed_before (b ∷ s) f = (λ e. true≢false (sym (rw e refl) ∙ f 0 (omega arith)), no_feed_before s (λ k h. f (suc k) (omega (arith, h))))

-- and where there is none, no byte is one
none_found : (p : ℕ → Bool) (s : List ℕ) → position p s ≡ None → (k : ℕ) → k < length s → p (get_or s k 0) ≡ false
none_found p s e k h = by (ltb (position_or_len p s) (length s)) refl
  where
    by : (y : Bool) → ltb (position_or_len p s) (length s) ≡ y → p (get_or s k 0) ≡ false
    by true f = absurd (none-some (position_or_len p s) (sym (rw f at e)))
    by false f = not-true _ (prefix_len_passes (λ x. not (p x)) s k 0 (omega (arith, h, ltb-false _ _ f)))

module _ (from : Reading) (block line : List ℕ) (h : from.at < from.size) (i : from.size ≤ length block) where
  -- what the code looks at
  pub looked : take (from.size - from.at) (drop from.at block) ≡ coming from block
  unfolding coming
  looked =
      let e : from.at + (from.size - from.at) ≡ from.size = omega (arith, h) in
      sym (drop-take from.at (from.size - from.at) block) ∙ ap (λ (n : ℕ). drop from.at (take n block)) e

  -- bytes have come
  begins : (b : Bool) → b || has_byte (coming from block ++ []) ≡ true
  unfolding coming has_byte
  begins b = rw (append-nil (drop from.at (take from.size block)), next_comes from.at from.size block h i) (or_true b)

  -- the line feed, and what is behind it
  fed_at : {n : ℕ} → n < length (coming from block) → get_or (coming from block) n 0 ≡ 10 → drop n (coming from block) ≡ 10 ∷ drop (from.at + n + 1) (take from.size block)
  unfolding coming
  fed_at {n} g e =
      let s : drop (n + 1) (drop from.at (take from.size block)) ≡ drop (from.at + n + 1) (take from.size block) = drop-drop (n + 1) from.at (take from.size block) ∙ ap (λ (k : ℕ). drop k (take from.size block)) (omega arith) in
      drop-cons (coming from block) n 0 g ∙ rw (e, ← add-one n, s) refl

  -- up to a line feed
  pub taken_fed : {line' : List ℕ} {n held : ℕ} → position (λ b. eqb b 10) (coming from block) ≡ Some n → Keeps line from.held (take n (coming from block)) line' held
      → Part from block line (record { reading = record { at = from.at + n + 1; size = from.size; held = held; begun = true }; ended = true }) block line'
  unfolding coming
  taken_fed {n = n} e k =
      let p = position-Some (λ b. eqb b 10) (coming from block) n 0 e in
      record {
        given = [];
        bytes = take n (coming from block);
        no_feed = no_feed_before (take n (coming from block)) (λ j f. rw (get_or-take n (coming from block) j 0 (omega (arith, f, length-take n (coming from block)))) (p.2 j (omega (arith, f, length-take n (coming from block)))));
        stops = fed (append-nil (coming from block) ∙ sym (take-append-drop n (coming from block)) ∙ ap (λ (t : List ℕ). take n (coming from block) ++ t) (fed_at p.0 (eqb-true _ _ p.1)));
        begun = sym (begins from.begun);
        keeps = k;
        within = i;
      }

  -- all of it
  pub taken_used : {line' : List ℕ} {held : ℕ} → position (λ b. eqb b 10) (coming from block) ≡ None → Keeps line from.held (coming from block) line' held
      → Part from block line (record { reading = record { at = from.size; size = from.size; held = held; begun = true }; ended = false }) block line'
  unfolding coming
  taken_used e k =
      record {
        given = [];
        bytes = coming from block;
        no_feed = no_feed_before (coming from block) (none_found (λ b. eqb b 10) (coming from block) e);
        stops = used false (append-nil (coming from block)) (none_come from.size from.size block (omega arith));
        begun = sym (begins from.begun);
        keeps = k;
        within = i;
      }

-- A TURN

-- one read gives the bytes at the block's front
pub filled_read : (from : Reading) (block block' : List ℕ) (size : ℕ) → from.size ≤ from.at → size ≤ length block'
    → Filled from block (record { at = 0; size = size; held = from.held; begun = from.begun }) block'
unfolding coming
filled_read from block block' size h i =
    record { given = take size block'; come = rw (none_come from.at from.size block h); begun = refl; held = refl; within = i }

pub filled_none : (from : Reading) (block : List ℕ) → from.size ≤ length block → Filled from block from block
filled_none from block h = record { given = []; come = append-nil (coming from block); begun = refl; held = refl; within = h }

module _ {from r : Reading} {block block' line : List ℕ} (f : Filled from block r block') where
  pub turn_part : {line' : List ℕ} {t : Turn} → Part r block' line t block' line' → Part from block line t block' line'
  turn_part p =
      let e : coming r block' ++ p.given ≡ coming from block ++ (f.given ++ p.given) = ap (λ (s : List ℕ). s ++ p.given) (sym f.come) ∙ append_assoc (coming from block) f.given p.given in
      record {
        given = f.given ++ p.given;
        bytes = p.bytes;
        no_feed = p.no_feed;
        stops = rw (← e) p.stops;
        begun = rw (← e, ← f.begun) p.begun;
        keeps = rw (← f.held) p.keeps;
        within = p.within;
      }

  pub turn_ended : r.size ≤ r.at → Part from block line (record { reading = r; ended = true }) block' line
  unfolding coming has_byte NoFeed
  turn_ended h =
      let n : drop r.at (take r.size block') ≡ [] = none_come r.at r.size block' h in
      let e : drop from.at (take from.size block) ++ f.given ≡ [] = f.come ∙ n in
      record {
        given = f.given;
        bytes = [];
        no_feed = tt;
        stops = used true e n;
        begun = f.begun ∙ sym (or_false from.begun) ∙ ap (λ (s : List ℕ). from.begun || has_byte s) (sym e);
        keeps = rw f.held keeps_none;
        within = f.within;
      }

-- ALL TURNS

-- what n turns have read that did not end the line; before the first one nothing
pub data Going (r₀ : Reading) (block₀ line₀ : List ℕ) (n : ℕ) (r : Reading) (block line : List ℕ) : Type 0 where
  first : n ≡ 0 → r ≡ r₀ → block ≡ block₀ → line ≡ line₀ → Going r₀ block₀ line₀ n r block line
  later : (t : Turn) → t.reading ≡ r → t.ended ≡ false → Part r₀ block₀ line₀ t block line → Going r₀ block₀ line₀ n r block line

stops_false : {all bytes rest : List ℕ} {ended : Bool} → Stops all bytes rest ended → ended ≡ false → (all ≡ bytes) × (rest ≡ [])
stops_false (fed e) g = absurd (true≢false g)
stops_false (used ended e f) g = (e, f)

-- bytes behind those that stopped without a line feed
stops_both : {all bytes more rest : List ℕ} {ended : Bool} → (s : List ℕ) → Stops more bytes rest ended → all ≡ s ++ more → Stops all (s ++ bytes) rest ended
stops_both {bytes = bytes} {rest = rest} s (fed e) g = fed (g ∙ ap (λ (t : List ℕ). s ++ t) e ∙ sym (append_assoc s bytes (10 ∷ rest)))
stops_both s (used ended e f) g = used ended (g ∙ ap (λ (t : List ℕ). s ++ t) e) f

part_both : {r₀ : Reading} {b₀ l₀ b₁ l₁ b₂ l₂ : List ℕ} {t u : Turn} → Part r₀ b₀ l₀ t b₁ l₁ → t.ended ≡ false → Part t.reading b₁ l₁ u b₂ l₂ → Part r₀ b₀ l₀ u b₂ l₂
part_both {r₀ = r₀} {b₀ = b₀} {b₁ = b₁} {t = t} p e q =
    let s : (coming r₀ b₀ ++ p.given ≡ p.bytes) × (coming t.reading b₁ ≡ []) = stops_false p.stops e in
    let n : coming t.reading b₁ ++ q.given ≡ q.given = ap (λ (x : List ℕ). x ++ q.given) s.1 in
    let a : coming r₀ b₀ ++ (p.given ++ q.given) ≡ (coming r₀ b₀ ++ p.given) ++ q.given = sym (append_assoc (coming r₀ b₀) p.given q.given) in
    record {
      given = p.given ++ q.given;
      bytes = p.bytes ++ q.bytes;
      no_feed = no_feed_both p.bytes q.bytes p.no_feed q.no_feed;
      stops = stops_both p.bytes q.stops (a ∙ ap (λ (x : List ℕ). x ++ q.given) s.0 ∙ ap (λ (x : List ℕ). p.bytes ++ x) (sym n));
      begun =
          q.begun
          ∙ ap (λ (x : Bool). x || has_byte (coming t.reading b₁ ++ q.given)) p.begun
          ∙ or_both r₀.begun (has_byte (coming r₀ b₀ ++ p.given)) (has_byte (coming t.reading b₁ ++ q.given))
          ∙ ap (λ (x : List ℕ). r₀.begun || (has_byte (coming r₀ b₀ ++ p.given) || has_byte x)) n
          ∙ ap (λ (x : Bool). r₀.begun || x) (sym (has_byte_both (coming r₀ b₀ ++ p.given) q.given) ∙ ap has_byte (sym a));
      keeps = keeps_both p.keeps q.keeps;
      within = q.within;
    }

pub going_on : {n : ℕ} {r₀ r : Reading} {b₀ l₀ b₁ l₁ b₂ l₂ : List ℕ} {u : Turn} → Going r₀ b₀ l₀ n r b₁ l₁ → Part r b₁ l₁ u b₂ l₂ → Part r₀ b₀ l₀ u b₂ l₂
going_on (first _ e f g) q = rw (← e, ← f, ← g) q
going_on {b₁ = b₁} {l₁ = l₁} {b₂ = b₂} {l₂ = l₂} {u = u} (later t e f p) q = part_both p f (subst (λ (x : Reading). Part x b₁ l₁ u b₂ l₂) (sym e) q)

line_stops : {all bytes rest : List ℕ} {ended : Bool} → NoFeed bytes → Stops all bytes rest ended → line_of all ≡ record { bytes = bytes; rest = rest }
unfolding line_of ahead
line_stops {bytes = bytes} {rest = rest} f (fed e) = ap line_of e ∙ no_feed_ahead bytes (10 ∷ rest) f ∙ ap (λ (s : List ℕ). record { bytes = s; rest = rest }) (append-nil bytes)
line_stops {bytes = bytes} f (used ended e g) = rw (e, g) (ap line_of (sym (append-nil bytes)) ∙ no_feed_ahead bytes [] f ∙ ap (λ (s : List ℕ). record { bytes = s; rest = [] }) (append-nil bytes))

-- from the line's start
kept_start : (m : List ℕ) → Kept m [] m 0
unfolding over
kept_start m = record { memory = refl; count = omega arith }

module _ {from r₀ : Reading} {block line : List ℕ} (s : r₀ ≡ record { at = from.at; size = from.size; held = 0; begun = false }) where
  pub line_read : {t : Turn} {block' line' : List ℕ} → Part r₀ block line t block' line' → LineRead from block line t.reading block' line'
  unfolding coming
  line_read p =
      let e = line_stops p.no_feed p.stops in
      let k = p.keeps.goes line [] (rw (ap (λ (r : Reading). r.held) s) (kept_start line)) in
      record {
        given = p.given;
        all = coming r₀ block ++ p.given;
        whole = rw s refl;
        begun = p.begun ∙ ap (λ (r : Reading). r.begun || has_byte (coming r₀ block ++ p.given)) s;
        held = rw e k.count;
        memory = rw e k.memory;
        rest = rw e refl;
        within = p.within;
      }

  pub going_read : {n : ℕ} {r : Reading} {block' line' : List ℕ} → Going r₀ block line n r block' line' → 0 < n → LineRead from block line r block' line'
  going_read (first e _ _ _) h = absurd (omega (arith, e, h))
  going_read {block' = block'} {line' = line'} (later t e _ p) h = subst (λ (x : Reading). LineRead from block line x block' line') e (line_read p)

-- no more is held than there is room for
pub part_room : {r₀ : Reading} {t : Turn} {block line block' line' : List ℕ} → r₀.held ≡ 0 → Part r₀ block line t block' line' → t.reading.held ≤ length line'
part_room {line = line} e p =
    let k = p.keeps.goes line [] (rw e (kept_start line)) in
    omega (arith, k.count, ap length k.memory ∙ over_length p.bytes line)
