-- What the actions of a replacement, of the commands or of the calls before a pattern are written out as, one by one; t begins with an action.
use Rattle.std.specs.Prelude.{ℕ, zero, suc, ◌-◌, ◌%◌, ◌<◌, List, [], ◌∷◌, ◌++◌, ltb, eqb, length, get_or, drop}
use Rattle.macros.specs.Macro.{pick, among}
use Rattle.macros.specs.Write.{text_marks, byte, digits, write_text}
use Rattle.form_table.specs.Actions.{number_in, text_in, action_size, Held}

-- a letter with the sign that the call's code asks for
unfoldable pub name_text : ℕ → ℕ → List ℕ
name_text c i =
    pick (eqb (c % 8) 0) (i ∷ [])
    (pick (eqb (c % 8) 1) (43 ∷ i ∷ [])
    (pick (eqb (c % 8) 2) (45 ∷ i ∷ [])
    (pick (eqb (c % 8) 3) (i ∷ 43 ∷ []) (i ∷ 45 ∷ []))))

-- `&` or `#`
unfoldable pub call_byte : ℕ → ℕ
call_byte c = pick (ltb c 56) 38 (pick (ltb c 64) 35 (pick (ltb c 88) 38 35))

-- what stands between a letter and its number: `=`, `,` or `:`
unfoldable pub number_sign : ℕ → ℕ
number_sign c = pick (ltb c 96) 61 (pick (ltb c 104) 44 58)

-- the tag's number and `,`; or the name and `:`; or the letter and `=`, `,` or `:`
unfoldable pub first_text : ℕ → ℕ → ℕ → List ℕ
first_text c i n =
    pick (ltb c 72) (digits n ++ (44 ∷ []))
    (pick (ltb c 80) (name_text c i ++ (58 ∷ [])) (i ∷ number_sign c ∷ []))

-- nothing, the text or the number
unfoldable pub middle_text : List ℕ → List ℕ
middle_text t = pick (ltb (get_or t 0 0) 72) [] (pick (ltb (get_or t 0 0) 80) (write_text (text_in t)) (digits (number_in t)))

-- the name and `)`, `:)` or `)`
unfoldable pub last_text : ℕ → ℕ → List ℕ
last_text c i = pick (ltb c 72) (name_text c i ++ (41 ∷ [])) (pick (ltb c 80) (58 ∷ 41 ∷ []) (41 ∷ []))

-- what stands behind the `(` of a call that stores, sets or divides
unfoldable pub call_text : List ℕ → List ℕ
call_text t = first_text (get_or t 0 0) (get_or t 1 0) (get_or t 3 0) ++ (middle_text t ++ last_text (get_or t 0 0) (get_or t 1 0))

-- a literal byte, `{`, `&(` or `#(`
unfoldable pub open_text : ℕ → ℕ → List ℕ
open_text c b = pick (eqb c 40) (byte (among text_marks b) b) (pick (eqb c 41) (123 ∷ []) (call_byte c ∷ 40 ∷ []))

-- what follows in an action of two bytes: nothing, `n}`, or the name and `)`
unfoldable pub end_text : ℕ → ℕ → List ℕ
end_text c b = pick (eqb c 40) [] (pick (eqb c 41) (digits b ++ (125 ∷ [])) (name_text c b ++ (41 ∷ [])))

-- a literal byte, `{n}` or a call
unfoldable pub action_text : List ℕ → List ℕ
action_text t = open_text (get_or t 0 0) (get_or t 1 0) ++ pick (ltb (get_or t 0 0) 64) (end_text (get_or t 0 0) (get_or t 1 0)) (call_text t)

-- the actions, behind some bytes that are passed over
unfoldable pub actions_text : ℕ → List ℕ → List ℕ
actions_text skip [] = []
actions_text zero (x ∷ l) = action_text (x ∷ l) ++ actions_text (action_size (x ∷ l) - 1) l
actions_text (suc skip) (x ∷ l) = actions_text skip l

-- nothing but whole actions
pub data Whole : List ℕ → Type 0 where
  none : Whole []
  next : {t : List ℕ} → 0 < length t → Held t → Whole (drop (action_size t) t) → Whole t
