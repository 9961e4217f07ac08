-- The calls of a pattern, and the marks that hold as long as these stand for the same texts.
use Prim.Native.Nat.{ℕ, ◌+◌, ◌*◌, ◌≤◌, ◌<◌}
use mathlib.Core.Path.{◌≡◌, refl, sym, ap, ◌∙◌, subst}
use mathlib.Core.Bool.{true, false}
use mathlib.Core.List.{List, [], ◌∷◌, ◌++◌, reverse, reverse_aux}
use native.Mathlib.Nat.{zero-add}
use native.Mathlib.Omega.{arith}
use lib.ListN.{length, get_or, take, drop, set}
use Rattle.macros.specs.Macro.{Member, Piece}
use Rattle.macros.specs.Macro.Member.{single, range}
use Rattle.macros.specs.Macro.Mark.{stack, counter}
use Rattle.macros.specs.Macro.PatternUnit.{literal, kind, class, call_of}
use Rattle.macros.specs.Macro.Piece.{element, start, end, left, right}
use Rattle.macros.specs.Formed.{FormedPieces}
use Rattle.macros.specs.Write.{digits}
use Rattle.form_table.specs.Form.{unit_code, unit_operand, member_items, members_items, unit_rest, piece_items, pattern_items}
use Rattle.form_table.proofs.Octet.{closure_code_lem}
use Rattle.form_table.proofs.Order.{oldest}
use Rattle.lines.specs.State.{State, contents}
use Rattle.form_state.specs.Access.{IsState, replaced}
use Rattle.form_state.proofs.Decode.{one_state_form}
use Rattle.form_state.proofs.Replaced.{text_more, text_end, replaced_whole}
use Rattle.pass_marks.specs.Marks.{cleared}
use Rattle.pass_marks.proofs.MarkLaws.{cleared_zero, cleared_rest}
use Rattle.pass_one.specs.Marks.{Sound, Agree}
use Rattle.pass_unit.specs.Pattern.{FormedUnits, IsPattern}
use Rattle.pass_lack.specs.Twos.{Pairs, LetterIn}
use Rattle.pass_one.specs.Seen.{NoCall, SameAt, Alike, Seen, Renewed}
use Rattle.pass_one.proofs.MarkLaws.{sound_zero, sound_agree}
use Rattle.pass_lack.proofs.PairLaws.{pairs_map, pairs_both}

-- ITEMS OF PIECES

-- a well formed pattern has well formed units
units : (ps qs : List Piece) → FormedPieces (reverse_aux ps qs) → FormedUnits ps
units [] qs f = tt
units (element u c ∷ ps) qs f = ((oldest ps (element u c ∷ qs) f).0, units ps (element u c ∷ qs) f)
units (start ∷ ps) qs f = units ps (start ∷ qs) f
units (end ∷ ps) qs f = units ps (end ∷ qs) f
units (left ∷ ps) qs f = units ps (left ∷ qs) f
units (right ∷ ps) qs f = units ps (right ∷ qs) f

pub formed_units : (ps : List Piece) → FormedPieces (reverse ps) → FormedUnits ps
formed_units ps f = units ps [] f

-- a class's members are no calls
module _ (P : ℕ → ℕ → Type 0) where
  members : ((c i : ℕ) → 32 ≤ c → P c i) → (ms : List Member) (l : List ℕ) → Pairs P l → Pairs P (members_items ms ++ l)
  unfolding members_items member_items
  members f [] l h = (f 35 0 (omega arith), h)
  members f (single c ∷ ms) l h = (f 32 c (omega arith), members f ms l h)
  members f (range a z ∷ ms) l h = (f 33 a (omega arith), (f 34 z (omega arith), members f ms l h))

  behind_members : (ms : List Member) (l : List ℕ) → Pairs P (members_items ms ++ l) → Pairs P l
  unfolding members_items member_items
  behind_members [] l h = h.1
  behind_members (single c ∷ ms) l h = behind_members ms l h.1
  behind_members (range a z ∷ ms) l h = behind_members ms l h.1.1

pub letters : (es : List Piece) → FormedUnits es → Pairs LetterIn (pattern_items es)
unfolding pattern_items piece_items unit_code unit_operand unit_rest
letters [] f = tt
letters (element (literal b) c ∷ es) f = (λ x y. absurd (omega (arith, closure_code_lem c)), letters es f.1)
letters (element (kind n) c ∷ es) f = (λ x y. absurd (omega (arith, closure_code_lem c)), letters es f.1)
letters (element (call_of stack i) c ∷ es) f = (λ x y. f.0, letters es f.1)
letters (element (call_of counter i) c ∷ es) f = (λ x y. f.0, letters es f.1)
letters (element (class false ms) c ∷ es) f = (λ x y. absurd (omega arith), members LetterIn (λ d i h x y. absurd (omega arith)) ms (pattern_items es) (letters es f.1))
letters (element (class true ms) c ∷ es) f = (λ x y. absurd (omega arith), members LetterIn (λ d i h x y. absurd (omega arith)) ms (pattern_items es) (letters es f.1))
letters (start ∷ es) f = (λ x y. absurd (omega arith), letters es f)
letters (end ∷ es) f = (λ x y. absurd (omega arith), letters es f)
letters (left ∷ es) f = (λ x y. absurd (omega arith), letters es f)
letters (right ∷ es) f = (λ x y. absurd (omega arith), letters es f)

pub pattern_letters : (items : List ℕ) (es : List Piece) → IsPattern items es → Pairs LetterIn items
pattern_letters items es p = subst (Pairs LetterIn) p.form (letters es p.formed)

-- what is the same of every item is the same of every call
agrees : (st st' : State) (es : List Piece) → Pairs (SameAt st st') (pattern_items es) → Agree st st' es
unfolding pattern_items piece_items unit_code unit_operand unit_rest contents
agrees st st' [] h = tt
agrees st st' (element (literal b) c ∷ es) h = agrees st st' es h.1
agrees st st' (element (kind n) c ∷ es) h = agrees st st' es h.1
agrees st st' (element (call_of stack i) c ∷ es) h = (h.0.stack (omega arith) (omega (arith, closure_code_lem c)), agrees st st' es h.1)
agrees st st' (element (call_of counter i) c ∷ es) h = (ap digits (h.0.counter (omega arith) (omega (arith, closure_code_lem c))), agrees st st' es h.1)
agrees st st' (element (class false ms) c ∷ es) h = agrees st st' es (behind_members (SameAt st st') ms (pattern_items es) h.1)
agrees st st' (element (class true ms) c ∷ es) h = agrees st st' es (behind_members (SameAt st st') ms (pattern_items es) h.1)
agrees st st' (start ∷ es) h = agrees st st' es h.1
agrees st st' (end ∷ es) h = agrees st st' es h.1
agrees st st' (left ∷ es) h = agrees st st' es h.1
agrees st st' (right ∷ es) h = agrees st st' es h.1

-- ALIKE

none_same : (st st' : State) (c i : ℕ) → NoCall c i → SameAt st st' c i
none_same st st' c i h = record { stack = λ x y. absurd (h x (omega arith)); counter = λ x y. absurd (h (omega arith) y) }

no_calls_alike : (items b b' : List ℕ) → Pairs NoCall items → Alike items b b'
no_calls_alike items b b' h st st' x y = pairs_map NoCall (SameAt st st') (none_same st st') items h

same_self : (st st' : State) (c i : ℕ) → st ≡ st' → SameAt st st' c i
same_self st st' c i e = subst (λ (x : State). SameAt st x c i) e (record { stack = λ x y. refl; counter = λ x y. refl })

alike_self : (items b : List ℕ) → Pairs LetterIn items → Alike items b b
alike_self items b h st st' x y =
    pairs_map LetterIn (SameAt st st') (λ c i l. same_self st st' c i (one_state_form st st' x.in_range y.in_range (x.form ∙ sym y.form))) items h

alike_both : (items seen b b' : List ℕ) → IsState seen → Alike items seen b → Alike items seen b' → Alike items b b'
alike_both items seen b b' s h g st st' x y =
    pairs_both (SameAt s.0 st) (SameAt s.0 st') (SameAt st st')
    (λ c i u v. record { stack = λ j k. sym (u.stack j k) ∙ v.stack j k; counter = λ j k. sym (u.counter j k) ∙ v.counter j k })
    items (h s.0 st s.1 x) (g s.0 st' s.1 y)

-- marks go over to another state
sound_alike : (items b b' t marks : List ℕ) → Alike items b b' → IsState b → (es : List Piece) → IsPattern items es → Sound items b t marks → Sound items b' t marks
sound_alike items b b' t marks h s es p k =
    sound_agree items b b' t marks (λ fs q st st' x y. agrees st st' fs (subst (Pairs (SameAt st st')) (sym q.form) (h st st' x y))) s es p k

-- WHAT IS SEEN

pub seen_none : (items b : List ℕ) → Pairs NoCall items → Seen items [] b
seen_none items b h = record { none = λ x. h; state = λ x. absurd (omega arith); same = λ x. absurd (omega arith) }

pub seen_self : (items b seen : List ℕ) (es : List Piece) → IsPattern items es → IsState b → 0 < length seen → seen ≡ b → Seen items seen b
seen_self items b seen es p s l e =
    record {
      none = λ x. absurd (omega arith);
      state = λ x. subst IsState (sym e) s;
      same = λ x. subst (λ (y : List ℕ). Alike items y b) (sym e) (alike_self items b (pattern_letters items es p));
    }

module _ (items b : List ℕ) (es : List Piece) (p : IsPattern items es) (s : IsState b) where
  -- no call
  pub renew_none : (seen marks : List ℕ) → length seen < 1 → Renewed items b seen seen marks marks
  renew_none seen marks l =
      let z : length seen ≡ 0 = omega arith in
      record {
        sound = λ before t x y k. sound_alike items before b t marks (no_calls_alike items before b (y.none z)) x es p k;
        sees = λ before y. record { none = y.none; state = y.state; same = λ x. absurd (omega arith) };
        outside = refl;
      }

  -- all calls are the same
  pub renew_same : (seen marks : List ℕ) → 1 ≤ length seen → Alike items seen b → Renewed items b seen seen marks marks
  renew_same seen marks l h =
      record {
        sound = λ before t x y k. sound_alike items before b t marks (alike_both items seen before b (y.state l) (y.same l) h) x es p k;
        sees = λ before y. record { none = y.none; state = y.state; same = λ x. h };
        outside = refl;
      }

  -- some differs
  pub renew_all : (seen seen' marks marks' : List ℕ) → 1 ≤ length seen → length seen' ≡ length seen → seen' ≡ b → marks' ≡ cleared marks (66 * length items) → Renewed items b seen seen' marks marks'
  renew_all seen seen' marks marks' l k e f =
      record {
        sound = λ before t x y z. sound_zero items b t marks' (λ i h. ap (λ (x : List ℕ). get_or x i 0) f ∙ cleared_zero marks (66 * length items) i h);
        sees = λ before y. seen_self items b seen' es p s (omega arith) e;
        outside = ap (drop (66 * length items)) f ∙ cleared_rest marks (66 * length items);
      }

-- BYTES THAT ARE COPIED

pub copy_more : (b s t : List ℕ) (i : ℕ) → i < length t → length t ≡ length b → s ≡ replaced b 0 (take i t) → set s i (get_or t i 0) ≡ replaced b 0 (take (i + 1) t)
copy_more b s t i h l e = ap (λ (j : ℕ). set s j (get_or t i 0)) (sym (zero-add i)) ∙ text_more b s t 0 i h (omega arith) e

pub copy_done : (b s t : List ℕ) (i : ℕ) → length t ≤ i → length t ≡ length b → s ≡ replaced b 0 (take i t) → s ≡ t
copy_done b s t i h l e = text_end b s t 0 i h e ∙ replaced_whole b t (sym l)
