-- What an action does (01, part 4), from its items: t begins with one.
-- The text of its tag is taken from the line, the pattern's items and the ends.
use Rattle.std.specs.Prelude.{ℕ, zero, suc, ◌-◌, ◌<◌, List, [], ◌∷◌, eqb, ltb, length, get_or, drop}
use Rattle.macros.specs.Macro.{pick, within}
use Rattle.lines.specs.State.{counter_of}
use Rattle.lines.specs.Dividing.{divided_text}
use Rattle.lines.specs.Replacing.{Work, Done, ◌>>=◌, puts, stores}
use Rattle.lines.specs.Replacing.Done.{good}
use Rattle.form_table.specs.Actions.{number_in, text_in, action_size}
use Rattle.pass_replace.specs.Tags.{tag_in}
use Rattle.pass_texts.specs.Inserting.{inserts_in, Fit}
use Rattle.pass_call.specs.Moving.{moves_in, sets_in}

-- the text of the tag that an action takes: `{n}` or `&(n,i)`; any other takes none
unfoldable pub tagged_in : (line pat ends t : List ℕ) → List ℕ
tagged_in line pat ends t =
    pick (eqb (get_or t 0 0) 41) (tag_in line (get_or t 1 0 - 1) pat ends)
    (pick (within 64 71 (get_or t 0 0)) (tag_in line (get_or t 3 0 - 1) pat ends) [])

-- the actions of some items, each of which does what f says, behind some bytes that are passed over
unfoldable pub act_in : (List ℕ → Work → Done) → ℕ → List ℕ → Work → Done
act_in f skip [] w = good w
act_in f zero (x ∷ l) w = f (x ∷ l) w >>= act_in f (action_size (x ∷ l) - 1) l
act_in f (suc skip) (x ∷ l) w = act_in f skip l w

-- what is stored: a tag's text, or the call's own
unfoldable pub stored_in : (tag t : List ℕ) → List ℕ
stored_in tag t = pick (ltb (get_or t 0 0) 72) tag (text_in t)

-- quotient and remainder of a value are inserted
unfoldable pub divides_in : (i n : ℕ) → Work → Done
divides_in i n w = puts (divided_text (counter_of w.state i).value n) w

-- an action without its moves: it inserts, stores, sets or divides
unfoldable pub access_in : (tag t : List ℕ) → Work → Done
access_in tag t w =
    pick (ltb (get_or t 0 0) 64) (inserts_in tag t w)
    (pick (ltb (get_or t 0 0) 80) (stores (get_or t 1 0) (stored_in tag t) w)
    (pick (ltb (get_or t 0 0) 104) (sets_in (get_or t 0 0) (get_or t 1 0) (number_in t) w) (divides_in (get_or t 1 0) (number_in t) w)))

-- an action with its moves: the one before, the access, the one after
unfoldable pub action_in : (tag t : List ℕ) → Work → Done
action_in tag t w = moves_in 1 (get_or t 0 0) (get_or t 1 0) w >>= access_in tag t >>= moves_in 3 (get_or t 0 0) (get_or t 1 0)

-- any action of an occurrence, with the text of its tag
unfoldable pub acts_in : (line pat ends t : List ℕ) → Work → Done
acts_in line pat ends t = action_in (tagged_in line pat ends t) t

-- nothing but such actions
pub data Fits : List ℕ → Type 0 where
  none : Fits []
  next : {t : List ℕ} → 0 < length t → Fit t → Fits (drop (action_size t) t) → Fits t
