-- A spelled macro reads back, a written file reads back, and no two macros are written alike.
use mathlib.Core.Path.{ap, refl, ◌∙◌, ◌≡◌}
use mathlib.Core.Bool.{◌&&◌, Bool, false, true}
use mathlib.Core.List.{◌++◌, List, [], append_assoc, append-nil, reverse, reverse-reverse, reverse_aux, ◌∷◌}
use mathlib.Core.Option.{none}
use Prim.Native.Nat.{◌+◌, ◌-◌, ◌<◌, suc, ℕ, ◌≤◌}
use native.Mathlib.Nat.{add-suc, add-zero, suc-add}
use native.Mathlib.Omega.{arith}
use lib.ListN.{length, length-append}
use lib.Dec.{eqb, leb, ltb}
use borrow.Author.Tests.{le-ltb, leb-false, lt-ltb, ltb-false, ltb-true, ne_eqb}
use Rattle.macros.specs.Bounds.{most_file_bytes, most_macro_bytes, most_macros}
use Rattle.macros.specs.Refusals.{FileRefusal}
use Rattle.macros.specs.Macro.{Call, Macro, Mark, Piece, Symbol, mark_byte, pick}
use Rattle.macros.specs.Macro.Mark.{counter, stack}
use Rattle.macros.specs.Macro.Symbol.{equal, less}
use Rattle.macros.specs.Formed.{Bytes, Formed, FormedCommands}
use Rattle.macros.specs.Read.{Front, Part, Prior, Reader, at_end, calls_byte, calls_fresh, commands_byte, commands_fresh, count, first_call, first_zero, macro_of, no_calls, outside, outside_fresh, part_byte, quote_byte, read_file, read_from, read_onto_by, skips, step, symbol_byte, taken}
use Rattle.macros.specs.Read.{part_byte_by, read_file_by, read_from_by, step_by}
use Rattle.macros.specs.ReadSoFar.Joinable.{nothing}
use Rattle.macros.specs.ReadSoFar.CallSite.{calls_so_far}
use Rattle.macros.specs.ReadSoFar.Phase.{begun}
use Rattle.macros.specs.ReadSoFar.Part.{await_symbol, calling, calls, commands, pattern, replacement}
use Rattle.macros.specs.ReadSoFar.Step.{done, on}
use Rattle.macros.specs.ReadFile.Pending.{at_mark, clear}
use Rattle.macros.specs.ReadFile.Reader.{between, inside}
use Rattle.macros.specs.ReadFile.Next.{go, refuse, refuse_before}
use Rattle.macros.specs.ReadFile.Read.{refused_at, table}
use Rattle.macros.specs.Write.{Written, call_bytes, commands_bytes, inner_bytes, mark_of, symbol_sign, write_from, written}
use Rattle.macros.specs.Write.Written.{file, refused}
use Rattle.macros.specs.Accepted.{Each, Spellable}
use Rattle.macros.proofs.Tests.{same_start}
use Rattle.macros.proofs.Styles.{Fair, Style, fair_full, full, pattern_bytes, replacement_bytes, spelled, text_bytes}
use Rattle.macros.proofs.Full.{written_full}
use Rattle.macros.proofs.Readings.{Reads, one_end, one_stop, settled, then, with_mark}
use Rattle.macros.proofs.Readings.Reads.{next, stay}
use Rattle.macros.proofs.BackPattern.{read_pattern}
use Rattle.macros.proofs.BackCalls.{read_call_before, read_calls_before, read_commands, read_replacement}
use Rattle.macros.proofs.Whole.{whole_append, whole_spelled}

-- READING ON

pub read_go : (p : ℕ) (r r' : Reader) (b : ℕ) (bs : List ℕ) → step r b ≡ go r' → read_from p r (b ∷ bs) ≡ read_from (suc p) r' bs
unfolding read_from_by
read_go p r r' b bs e = rw (e, read_from_by)

pub read_refuse : (p : ℕ) (k : FileRefusal) (r : Reader) (b : ℕ) (bs : List ℕ) → step r b ≡ refuse k → read_from p r (b ∷ bs) ≡ refused_at k p
unfolding read_from_by
read_refuse p k r b bs e = rw (e, read_from_by)

-- a fault that shows later than its place
pub read_refuse_before : (p : ℕ) (k : FileRefusal) (n : ℕ) (r : Reader) (b : ℕ) (bs : List ℕ) → step r b ≡ refuse_before k n → read_from p r (b ∷ bs) ≡ refused_at k (p - n)
unfolding read_from_by
read_refuse_before p k n r b bs e = rw (e, read_from_by)

step_on : (n : ℕ) (st st' : Part) (pr : Prior) (b : ℕ) → (skips st && eqb b 47) ≡ false → part_byte st b ≡ on st' → n < most_macro_bytes
    → step (inside false n st pr) b ≡ go (inside false (suc n) st' pr)
unfolding step_by taken count pick
step_on n st st' pr b f e h = simp (f, e, lt-ltb n 512 h)

-- in a macro, as long as its bytes are no more than 512
run : (st : Part) (w : List ℕ) (t : Part) → Reads st w t → (p n : ℕ) (pr : Prior) (rest : List ℕ) → n + length w ≤ most_macro_bytes
    → read_from p (inside false n st pr) (w ++ rest) ≡ read_from (p + length w) (inside false (n + length w) t pr) rest
run st w t stay p n pr rest h = simp add-zero
run st w t (next {st = s} {st' = u} {b = b} {w = v} f e r) p n pr rest h =
    read_go p (inside false n s pr) (inside false (suc n) u pr) b (v ++ rest) (step_on n s u pr b f e (omega arith))
    ∙ (run u v t r (suc p) (suc n) pr rest (omega arith) ∙ simp (suc-add, add-suc))

-- A MACRO

front : Macro → Front
front m = record { pieces = reverse m.pattern; symbol = m.symbol }

-- where the reader stands before the `;`
last_part : Macro → Part
last_part m = commands none (front m) (reverse m.replacement) (reverse m.commands)

-- what was read when its pattern is open, the calls before it among it
prior : List Call → List Macro → Prior
prior cs ms = record { calls = reverse cs; macros = ms }

-- the macro that the reader makes of its parts
macro_of_lem : (m : Macro) → macro_of (reverse m.before) (front m) (reverse m.replacement) (reverse m.commands) ≡ m
unfolding macro_of front
macro_of_lem m = rw (reverse-reverse m.before, reverse-reverse m.pattern, reverse-reverse m.replacement, reverse-reverse m.commands)

last_byte : (m : Macro) → part_byte (last_part m) 59 ≡ done (front m) (reverse m.replacement) (reverse m.commands)
unfolding last_part part_byte_by commands_byte commands_fresh pick
last_byte m = refl

final : (n : ℕ) (m : Macro) (ms : List Macro) → n < most_macro_bytes → step (inside false n (last_part m) (prior m.before ms)) 59 ≡ go (between false clear (m ∷ ms))
unfolding step_by taken count pick prior
final n m ms h =
    let e = last_byte m in
    let f = macro_of_lem m in
    unfold last_part skips in simp (e, f, lt-ltb n 512 h)

first_quote : (ms : List Macro) → length ms < most_macros → step (between false clear ms) 39 ≡ go (inside false 1 (pattern nothing []) (no_calls ms))
unfolding step_by outside outside_fresh pick
first_quote ms h = rw (lt-ltb (length ms) 96 h)

-- the `&` or `#` of a macro's first call, and its `(`
first_mark : (m : Mark) (ms : List Macro) → step (between false clear ms) (mark_byte m) ≡ go (between false (at_mark m 1) ms)
unfolding step_by outside outside_fresh mark_byte pick
first_mark stack ms = refl
first_mark counter ms = refl

first_open : (m : Mark) (ms : List Macro) → length ms < most_macros → step (between false (at_mark m 1) ms) 40 ≡ go (inside false 2 (calling (calls_so_far []) (begun m)) (no_calls ms))
unfolding step_by outside first_call pick
first_open m ms h = simp (lt-ltb (length ms) 96 h)

-- the quote behind the calls
opens_pattern_lem : (n : ℕ) (cs : List Call) (ms : List Macro) → n < most_macro_bytes
    → step (inside false n (calls none (reverse cs)) (no_calls ms)) 39 ≡ go (inside false (suc n) (pattern nothing []) (prior cs ms))
unfolding step_by skips part_byte_by calls_byte calls_fresh taken count pick prior
opens_pattern_lem n cs ms h = simp (lt-ltb n 512 h)

-- so that quote ends what stands before the pattern
quote_ends : (cs : List Call) (s : Part) → part_byte (calls none cs) 39 ≡ on s → ⊥
unfolding part_byte_by calls_byte calls_fresh pick
quote_ends cs s e = let z : ◌≡◌ {A = ℕ} 0 1 = cc in omega arith

-- a macro is known by where the reader stands before its pattern and before its `;`
same_parts : (m n : Macro) → calls none (reverse m.before) ≡ calls none (reverse n.before) → last_part m ≡ last_part n → m ≡ n
unfolding last_part front
same_parts m n e f = cc (macro_of_lem m, macro_of_lem n)

read_symbol : (ps : List Piece) (a : Symbol) → Reads (await_symbol ps) (symbol_sign a ∷ 39 ∷ []) (replacement none (record { pieces = ps; symbol = a }) [])
unfolding symbol_sign skips part_byte_by symbol_byte quote_byte pick
read_symbol ps equal = next refl refl (next refl refl stay)
read_symbol ps less = next refl refl (next refl refl stay)

module _ (y : Style) (fair : Fair y) where
  -- between the first quote and the `;`
  body : Macro → List ℕ
  body m =
      (pattern_bytes y nothing m.pattern ++ (39 ∷ []))
      ++ (symbol_sign m.symbol ∷ 39 ∷ ((replacement_bytes y none m.replacement ++ (39 ∷ [])) ++ commands_bytes (text_bytes y) m.commands))

  spelled_body : (m : Macro) → spelled y m ≡ commands_bytes (text_bytes y) m.before ++ (39 ∷ (body m ++ (59 ∷ [])))
  unfolding spelled body
  spelled_body m = simp append_assoc

  -- up to the quote that opens the pattern, from between macros: there may be calls before it
  read_first : (cs : List Call) → FormedCommands 0 cs → (p : ℕ) (ms : List Macro) (rest : List ℕ) → length (commands_bytes (text_bytes y) cs) < most_macro_bytes → length ms < most_macros
      → read_from p (between false clear ms) (commands_bytes (text_bytes y) cs ++ (39 ∷ rest))
      ≡ read_from (p + suc (length (commands_bytes (text_bytes y) cs))) (inside false (suc (length (commands_bytes (text_bytes y) cs))) (pattern nothing []) (prior cs ms)) rest
  unfolding commands_bytes call_bytes prior
  read_first [] g p ms rest l h = read_go p (between false clear ms) (inside false 1 (pattern nothing []) (no_calls ms)) 39 rest (first_quote ms h) ∙ rw (add-suc p 0, add-zero p)
  read_first (c ∷ cs) g p ms rest l h =
      let w : List ℕ = inner_bytes (text_bytes y) c ++ commands_bytes (text_bytes y) cs in
      let m : Mark = mark_of c in
      let q : p + suc (suc (suc (length w))) ≡ suc (suc (suc p) + length w) = omega arith in
      let z : 2 + length w ≡ suc (suc (length w)) = omega arith in
      rw (q, ← z)
      (read_go p (between false clear ms) (between false (at_mark m 1) ms) (mark_byte m) (40 ∷ (w ++ (39 ∷ rest))) (first_mark m ms)
      ∙ (read_go (suc p) (between false (at_mark m 1) ms) (inside false 2 (calling (calls_so_far []) (begun m)) (no_calls ms)) 40 (w ++ (39 ∷ rest)) (first_open m ms h)
      ∙ (run (calling (calls_so_far []) (begun m)) w (calls none (reverse (c ∷ cs))) (then (read_call_before y fair c [] g.0) (read_calls_before y fair cs (c ∷ []) g.1))
      (suc (suc p)) 2 (no_calls ms) (39 ∷ rest) (omega arith)
      ∙ read_go (suc (suc p) + length w) _ (inside false (suc (2 + length w)) (pattern nothing []) (prior (c ∷ cs) ms)) 39 rest (opens_pattern_lem (2 + length w) (c ∷ cs) ms (omega arith)))))

  read_body : (m : Macro) → Formed m → Reads (pattern nothing []) (body m) (last_part m)
  unfolding body last_part front settled with_mark
  read_body m g =
      then (read_pattern y fair m.pattern nothing [] g.pattern)
      (then (read_symbol (reverse m.pattern) m.symbol)
      (then (read_replacement y fair m.replacement none (front m) [] g.replacement)
      (read_commands y fair m.commands (front m) (reverse m.replacement) [] g.commands)))

  pub read_macro_lem : (m : Macro) → Formed m → length (spelled y m) ≤ most_macro_bytes → (p : ℕ) (ms : List Macro) (rest : List ℕ) → length ms < most_macros
      → read_from p (between false clear ms) (spelled y m ++ rest) ≡ read_from (p + length (spelled y m)) (between false clear (m ∷ ms)) rest
  read_macro_lem m g l p ms rest h =
      let e = spelled_body m in
      let c : List ℕ = commands_bytes (text_bytes y) m.before in
      let k : length (spelled y m) ≡ length c + suc (length (body m) + 1) = rw e (simp length-append) in
      let q : p + length (spelled y m) ≡ suc ((p + suc (length c)) + length (body m)) = omega arith in
      rw (q, e, append_assoc c (39 ∷ (body m ++ (59 ∷ []))) rest, append_assoc (body m) (59 ∷ []) rest)
      (read_first m.before g.before p ms (body m ++ (59 ∷ rest)) (omega arith) h
      ∙ (run (pattern nothing []) (body m) (last_part m) (read_body m g) (p + suc (length c)) (suc (length c)) (prior m.before ms) (59 ∷ rest) (omega arith)
      ∙ read_go ((p + suc (length c)) + length (body m)) _ (between false clear (m ∷ ms)) 59 rest (final (suc (length c) + length (body m)) m ms (omega arith))))

  -- two macros that are spelled alike are the same
  pub same_macro : (m n : Macro) → Formed m → Formed n → spelled y m ≡ spelled y n → m ≡ n
  same_macro m n g h e =
      let c = read_calls_before y fair m.before [] g.before in
      let d = read_calls_before y fair n.before [] h.before in
      let a = one_stop 39 39 (body m ++ (59 ∷ [])) (body n ++ (59 ∷ [])) c d (quote_ends (reverse m.before)) (quote_ends (reverse n.before)) (cc (spelled_body m, spelled_body n)) in
      let b : body m ≡ body n = same_start (body m) (body n) 59 a.1 in
      let z : last_part m ≡ last_part n = one_end (read_body m g) (rw (← b) at (read_body n h)) in
      same_parts m n a.0 z

-- A FILE

pub no_zero : (p : ℕ) (s : List ℕ) → Bytes s → first_zero p s ≡ none
unfolding first_zero pick
no_zero p [] w = refl
no_zero p (b ∷ s) w = rw (ne_eqb b 0 (omega (arith, w.0.0))) (no_zero (suc p) s w.1)

pub read_whole : (s : List ℕ) → Bytes s → length s ≤ most_file_bytes → read_file s ≡ read_from 0 (between false clear []) s
unfolding read_file_by read_onto_by pick
read_whole s w h = simp (le-ltb 32768 (length s) h, no_zero 0 s w)

read_written : (m : Macro) → Formed m → length (written m) ≤ most_macro_bytes → (p : ℕ) (ms : List Macro) (rest : List ℕ) → length ms < most_macros
    → read_from p (between false clear ms) (written m ++ rest) ≡ read_from (p + length (written m)) (between false clear (m ∷ ms)) rest
read_written m g = rw (written_full m) (read_macro_lem full fair_full m g)

whole_written : (m : Macro) → Formed m → Bytes (written m)
whole_written m g = rw (written_full m) (whole_spelled full m g)

pub lines : List Macro → List ℕ
lines [] = []
lines (m ∷ ms) = (written m ++ (10 ∷ [])) ++ lines ms

abbrev Short : Macro → Type 0
Short m = (length (written m) ≤ most_macro_bytes)

not_file : {A : Type 0} {n : FileRefusal} {p : ℕ} {t : List ℕ} → refused n p ≡ file t → A
not_file e = let z : ◌≡◌ {A = ℕ} 0 1 = cc in absurd (omega arith)

line_feed : (ms : List Macro) → step (between false clear ms) 10 ≡ go (between false clear ms)
unfolding step_by outside outside_fresh pick
line_feed ms = refl

-- a macro's line is written where it and the file are short enough
write_line : (s : List ℕ) (m : Macro) (w : Written) (t : List ℕ) (u v : FileRefusal) (x y : ℕ) (p q r : Bool)
    → ltb most_macro_bytes (length (written m)) ≡ p → leb (length s + most_macro_bytes) most_file_bytes ≡ q → ltb most_file_bytes (length s + suc (length (written m))) ≡ r
    → pick (p && q) (refused u x) (pick r (refused v y) w) ≡ file t
    → (w ≡ file t) × Short m × (length s + suc (length (written m)) ≤ most_file_bytes)
unfolding pick
write_line s m w t u v x y true true r a b c e = not_file e
write_line s m w t u v x y true false true a b c e = not_file e
write_line s m w t u v x y true false false a b c e =
    let f : most_macro_bytes < length (written m) = ltb-true _ _ a in
    let g : most_file_bytes < length s + most_macro_bytes = leb-false _ _ b in
    let h : length s + suc (length (written m)) ≤ most_file_bytes = ltb-false _ _ c in
    absurd (omega arith)
write_line s m w t u v x y false q true a b c e = not_file e
write_line s m w t u v x y false q false a b c e = (e, ltb-false _ _ a, ltb-false _ _ c)

pub write_more : (ms : List Macro) (s t : List ℕ) → length s ≤ most_file_bytes → write_from s ms ≡ file t
    → (t ≡ s ++ lines ms) × (length t ≤ most_file_bytes) × Each Short ms
unfolding write_from lines
write_more [] s t h e =
    let q : s ≡ t = cc in
    (cc (append-nil s), rw (← q) h, tt)
write_more (m ∷ ms) s t h e =
    let l = write_line s m (write_from (s ++ (written m ++ (10 ∷ []))) ms) t _ _ _ _ _ _ _ refl refl refl e in
    let r = write_more ms (s ++ (written m ++ (10 ∷ []))) t (simp length-append (omega arith)) l.0 in
    (r.0 ∙ append_assoc s (written m ++ (10 ∷ [])) (lines ms), r.1, (l.1, r.2))

pub read_lines : (ms : List Macro) (p : ℕ) (acc : List Macro) → Each Spellable ms → Each Short ms → length ms + length acc ≤ most_macros
    → read_from p (between false clear acc) (lines ms) ≡ table (reverse (reverse_aux ms acc))
unfolding lines read_from_by at_end pick
read_lines [] p acc g k h = refl
read_lines (m ∷ ms) p acc g k h =
    ap (read_from p (between false clear acc)) (append_assoc (written m) (10 ∷ []) (lines ms))
    ∙ (read_written m g.0.0 k.0 p acc (10 ∷ lines ms) (omega arith)
    ∙ (read_go _ (between false clear (m ∷ acc)) (between false clear (m ∷ acc)) 10 (lines ms) (line_feed (m ∷ acc))
    ∙ read_lines ms _ (m ∷ acc) g.1 k.1 (omega arith)))

pub whole_lines : (ms : List Macro) → Each Spellable ms → Bytes (lines ms)
unfolding lines
whole_lines [] g = tt
whole_lines (m ∷ ms) g =
    whole_append (written m ++ (10 ∷ [])) (lines ms) (whole_append (written m) (10 ∷ []) (whole_written m g.0.0) (omega arith, tt)) (whole_lines ms g.1)
