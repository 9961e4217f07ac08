-- The answers of m7_words, by what looking up comes to.
-- Assumes nothing.
use mathlib.Core.Path.{◌≡◌, refl, ap, ◌∙◌}
use Prim.Native.Nat.{ℕ}
use mathlib.Core.List.{List}
use mathlib.Core.Logic.{◌⊎◌, inl, inr}
use Rattle.std.specs.Prelude.{Result, Ok, Err}
use Rattle.macros.specs.Refusals.{line_number}
use Rattle.words.specs.Refusal.{word_number}
use Rattle.words.specs.Look.{look_up, looked_number, looked_words, looked_place}
use Rattle.word_find.specs.Contract.{looked_of}
use Rattle.word_find.specs.declared.Found.{Found}
use Rattle.word_find.specs.declared.WordFault.{WordFault}
use Rattle.word_find.specs.declared.WordFault.TheVariants.{LineTooLong, BadByte, BadPattern}
use Rattle.line_answer.specs.declared.Answer.{Answer}
use Rattle.line_answer.specs.Replies.{reply}
use Rattle.m7.specs.Words.{words_reply, looks_up}

-- a fault's number is one of three
pub fault_numbers : (w : WordFault) → (looked_number (looked_of (Err w)) ≡ 21) ⊎ ((looked_number (looked_of (Err w)) ≡ 22) ⊎ (looked_number (looked_of (Err w)) ≡ 41))
unfolding looked_number line_number word_number
fault_numbers LineTooLong = inl refl
fault_numbers BadByte = inr (inl refl)
fault_numbers BadPattern = inr (inr refl)

module _ (t p : List ℕ) where
  looked : (x : Result Found WordFault) → looked_of x ≡ look_up t p → words_reply (looked_of x) ≡ looks_up t p
  unfolding looks_up
  looked x e = ap words_reply e

  fault_alone : (w : WordFault) → reply (looked_number (looked_of (Err w))) 0 0 ≡ words_reply (looked_of (Err w))
  unfolding words_reply looked_words looked_place
  fault_alone LineTooLong = refl
  fault_alone BadByte = refl
  fault_alone BadPattern = refl

  pub words_refused : (w : WordFault) → looked_of (Err w) ≡ look_up t p → {n : ℕ} → n ≡ looked_number (looked_of (Err w)) → {r : Answer} → r ≡ reply n 0 0 → r ≡ looks_up t p
  words_refused w e f g = g ∙ (ap (λ (k : ℕ). reply k 0 0) f ∙ (fault_alone w ∙ looked (Err w) e))

  pub words_found : (f : Found) → looked_of (Ok f) ≡ look_up t p → {r : Answer} → r ≡ reply 0 f.first f.words → r ≡ looks_up t p
  unfolding words_reply looked_number looked_words looked_place
  words_found f e g = g ∙ looked (Ok f) e
