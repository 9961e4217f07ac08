-- Items say what they are the items of: a pattern, a replacement and commands from their items.
use mathlib.Core.Path.{◌≡◌, refl, sym, ap, ◌∙◌}
use mathlib.Core.List.{List, [], ◌∷◌, ◌++◌, append_assoc, append_cancel_left, reverse, reverse_aux}
use mathlib.Core.Option.{Option, none, some}
use Prim.Native.Nat.{ℕ, ◌+◌, ◌*◌, ◌/◌, ◌%◌}
use native.Mathlib.Omega.{arith}
use lib.Dec.{eqb, ltb}
use lib.ListN.{get_or, take, drop}
use lib.Seq.{take-append_seam}
use borrow.Author.Tests.{ne_eqb, le-ltb}
use Rattle.macros.specs.Macro.{Closure, Member, PatternUnit, Piece, Move, Call, Action, pick}
use Rattle.macros.specs.Macro.Closure.{once}
use Rattle.macros.specs.Macro.Member.{single, range}
use Rattle.macros.specs.Macro.Mark.{stack}
use Rattle.macros.specs.Macro.PatternUnit.{literal, kind, class, call_of}
use Rattle.macros.specs.Macro.Piece.{element, start, end, left, right}
use Rattle.macros.specs.Macro.Move.{still}
use Rattle.macros.specs.Macro.Call.{insert, store_tag, set_to, store_text, set_increment, divide}
use Rattle.macros.specs.Macro.Action.{text, tag, call}
use Rattle.macros.specs.Formed.{FormedPieces}
use Rattle.form_bytes.specs.Fours.{four, number_at}
use Rattle.form_bytes.proofs.Laws.{four_there}
use Rattle.form_table.specs.Form.{closure_code, unit_code, member_items, members_items, unit_rest, piece_items, pattern_items, move_code, evened, calls_items, action_items, replacement_items}
use Rattle.form_table.specs.PatternWalk.{closure_of, unit_of}
use Rattle.form_table.specs.ActionWalk.{move_of, call_as}
use Rattle.form_table.proofs.Order.{oldest}
use Rattle.form_table.proofs.Octet.{unit_code_lem}
use Rattle.form_table.proofs.PatternCodes.{head, unit_of_lem, closure_of_lem, code_unit_lem, code_closure_lem}
use Rattle.form_table.proofs.ActionCodes.{move_of_lem, code_of, move_in, head_call, rest_of, call_split, call_as_lem, code_call, code_move, code_range}
use Rattle.form_table.proofs.Commands.{actions, actions_items}

cons_nil : {A : Type 0} {x : A} {l : List A} {P : Type 0} → x ∷ l ≡ [] → P
cons_nil e = let z : ◌≡◌ {A = ℕ} 0 1 = cc in absurd (omega arith)

-- PATTERN

-- the members of a class, up to its end
members_in : List ℕ → List Member
members_in [] = []
members_in (c ∷ []) = []
members_in (c ∷ o ∷ l) = pick (eqb c 32) (single o ∷ members_in l) (pick (eqb c 33) (range o (get_or l 1 0) ∷ members_in l) (pick (eqb c 34) (members_in l) []))

members_in_lem : (ms : List Member) (l : List ℕ) → members_in (members_items ms ++ l) ≡ ms
unfolding members_in members_items member_items pick
members_in_lem [] l = refl
members_in_lem (single c ∷ ms) l = ap (λ (ns : List Member). single c ∷ ns) (members_in_lem ms l)
members_in_lem (range a z ∷ ms) l = ap (λ (ns : List Member). range a z ∷ ns) (members_in_lem ms l)

-- a unit by its first item and what follows
unit_in : Option PatternUnit → List ℕ → PatternUnit
unit_in none l = literal 0
unit_in (some (literal b)) l = literal b
unit_in (some (kind n)) l = kind n
unit_in (some (call_of m i)) l = call_of m i
unit_in (some (class neg ms)) l = class neg (members_in l)

unit_in_lem : (u : PatternUnit) (l : List ℕ) → unit_in (some (head u)) (unit_rest u ++ l) ≡ u
unfolding unit_in unit_rest
unit_in_lem (literal b) l = refl
unit_in_lem (kind n) l = refl
unit_in_lem (call_of m i) l = refl
unit_in_lem (class neg ms) l = ap (class neg) (members_in_lem ms l)

closure_in : Option Closure → Closure
closure_in none = once
closure_in (some k) = k

-- the first piece of some items
piece_in : List ℕ → Piece
piece_in [] = left
piece_in (c ∷ []) = left
piece_in (c ∷ o ∷ l) =
    pick (ltb c 8) (pick (eqb c 1) left (pick (eqb c 2) right (pick (eqb c 3) start end)))
    (element (unit_in (unit_of (c / 4) o) l) (closure_in (closure_of (c % 4))))

piece_in_lem : (p : Piece) (ps : List Piece) (l : List ℕ) → FormedPieces (p ∷ ps) → piece_in (piece_items p ++ l) ≡ p
unfolding piece_in piece_items pick closure_in
piece_in_lem left ps l f = refl
piece_in_lem right ps l f = refl
piece_in_lem start ps l f = refl
piece_in_lem end ps l f = refl
piece_in_lem (element u k) ps l f =
    rw (le-ltb (4 * unit_code u + closure_code k) 8 (omega (arith, unit_code_lem u)), code_unit_lem u k, code_closure_lem u k, unit_of_lem u f.0, closure_of_lem k)
    (ap (λ (v : PatternUnit). element v k) (unit_in_lem u l))

no_items : (p : Piece) (l : List ℕ) {P : Type 0} → piece_items p ++ l ≡ [] → P
unfolding piece_items
no_items left l e = cons_nil e
no_items right l e = cons_nil e
no_items start l e = cons_nil e
no_items end l e = cons_nil e
no_items (element u k) l e = cons_nil e

same_pieces : (ps qs ps₀ qs₀ : List Piece) → FormedPieces (reverse_aux ps ps₀) → FormedPieces (reverse_aux qs qs₀) → pattern_items ps ≡ pattern_items qs → ps ≡ qs
unfolding pattern_items
same_pieces [] [] ps₀ qs₀ f g e = refl
same_pieces [] (q ∷ qs) ps₀ qs₀ f g e = no_items q (pattern_items qs) (sym e)
same_pieces (p ∷ ps) [] ps₀ qs₀ f g e = no_items p (pattern_items ps) e
same_pieces (p ∷ ps) (q ∷ qs) ps₀ qs₀ f g e =
    let h : p ≡ q = sym (piece_in_lem p ps₀ (pattern_items ps) (oldest ps (p ∷ ps₀) f)) ∙ (ap piece_in e ∙ piece_in_lem q qs₀ (pattern_items qs) (oldest qs (q ∷ qs₀) g)) in
    let t : ps ≡ qs = same_pieces ps qs (p ∷ ps₀) (q ∷ qs₀) f g (append_cancel_left (piece_items p) (pattern_items ps) (pattern_items qs) (e ∙ rw h)) in
    cc

pub one_pattern : (ps qs : List Piece) → FormedPieces (reverse ps) → FormedPieces (reverse qs) → pattern_items ps ≡ pattern_items qs → ps ≡ qs
one_pattern ps qs f g e = same_pieces ps qs [] [] f g e

-- REPLACEMENT AND COMMANDS

number_in : (n : ℕ) (l : List ℕ) → number_at (four n ++ l) 0 ≡ n
unfolding four
number_in n l = four_there n

-- a call by its first item and what follows
call_in : Option Call → List ℕ → Call
call_in none l = insert stack 0 still
call_in (some (insert m i v)) l = insert m i v
call_in (some (store_tag n i v)) l = store_tag (get_or l 1 0) i v
call_in (some (store_text i v t)) l = store_text i v (take (get_or l 1 0) (drop 2 l))
call_in (some (set_to m i n)) l = set_to m i (number_at l 0)
call_in (some (set_increment i n)) l = set_increment i (number_at l 0)
call_in (some (divide i n)) l = divide i (number_at l 0)

call_in_lem : (c : Call) (l : List ℕ) → call_in (some (head_call c)) (rest_of c ++ l) ≡ c
unfolding call_in evened
call_in_lem (insert m i v) l = refl
call_in_lem (store_tag n i v) l = refl
call_in_lem (store_text i v t) l = ap (store_text i v) (rw append_assoc (take-append_seam t _))
call_in_lem (set_to m i n) l = ap (set_to m i) (number_in n l)
call_in_lem (set_increment i n) l = ap (set_increment i) (number_in n l)
call_in_lem (divide i n) l = ap (divide i) (number_in n l)

moved : ℕ → ℕ → Option Move → Option Call
moved c o none = none
moved c o (some v) = call_as c o v

-- the first action of some items
action_in : List ℕ → Action
action_in [] = text 0
action_in (c ∷ []) = text 0
action_in (c ∷ o ∷ l) = pick (eqb c 40) (text o) (pick (eqb c 41) (tag o) (call (call_in (moved (c / 8) o (move_of (c % 8))) l)))

action_in_lem : (x : Action) (l : List ℕ) → action_in (action_items x ++ l) ≡ x
unfolding action_in action_items pick moved
action_in_lem (text b) l = refl
action_in_lem (tag n) l = refl
action_in_lem (call c) l =
    rw (
      call_split c,
      ne_eqb (8 * code_of c + move_code (move_in c)) 40 (omega (arith, code_range c)),
      ne_eqb (8 * code_of c + move_code (move_in c)) 41 (omega (arith, code_range c)),
      code_call (code_of c) (move_in c),
      code_move (code_of c) (move_in c),
      move_of_lem (move_in c),
      call_as_lem c,
    ) (ap call (call_in_lem c l))

no_action : (x : Action) (l : List ℕ) {P : Type 0} → action_items x ++ l ≡ [] → P
unfolding action_items
no_action (text b) l e = cons_nil e
no_action (tag n) l e = cons_nil e
no_action (call c) l e = cons_nil (rw call_split at e)

pub one_replacement : (xs ys : List Action) → replacement_items xs ≡ replacement_items ys → xs ≡ ys
unfolding replacement_items
one_replacement [] [] e = refl
one_replacement [] (y ∷ ys) e = no_action y (replacement_items ys) (sym e)
one_replacement (x ∷ xs) [] e = no_action x (replacement_items xs) e
one_replacement (x ∷ xs) (y ∷ ys) e =
    let h : x ≡ y = sym (action_in_lem x (replacement_items xs)) ∙ (ap action_in e ∙ action_in_lem y (replacement_items ys)) in
    let t : xs ≡ ys = one_replacement xs ys (append_cancel_left (action_items x) (replacement_items xs) (replacement_items ys) (e ∙ rw h)) in
    cc

actions_same : (cs ds : List Call) → actions cs ≡ actions ds → cs ≡ ds
actions_same [] [] e = refl
actions_same [] (d ∷ ds) e = cons_nil (sym e)
actions_same (c ∷ cs) [] e = cons_nil e
actions_same (c ∷ cs) (d ∷ ds) e =
    let h : c ≡ d = cc in
    let g : actions cs ≡ actions ds = cc in
    let t : cs ≡ ds = actions_same cs ds g in
    cc

pub one_commands : (cs ds : List Call) → calls_items cs ≡ calls_items ds → cs ≡ ds
one_commands cs ds e = actions_same cs ds (one_replacement (actions cs) (actions ds) (actions_items cs ∙ (e ∙ sym (actions_items ds))))
