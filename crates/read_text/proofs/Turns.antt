-- One byte of a call.
-- Assumes nothing.
use mathlib.Core.Path.{◌≡◌, refl, ◌∙◌}
use mathlib.Core.Bool.{true, false}
use mathlib.Core.List.{List, []}
use Prim.Native.Nat.{ℕ, ◌+◌}
use Rattle.macros.specs.Refusals.FileRefusal.{bad_call}
use Rattle.macros.specs.Macro.{Move, Call, pick, tags}
use Rattle.macros.specs.Formed.{number_fits}
use Rattle.macros.specs.Read.{Prior, CallSite, Phase, part_byte, skips, turned, call_byte, site_of, pieces_of, behind_call, part_byte_by}
use Rattle.macros.specs.ReadSoFar.Part.{calling, call_text}
use Rattle.macros.specs.ReadSoFar.Step.{on, stop}
use Rattle.macros.specs.ReadCalls.Turn.{into, text_of, closed, wrong}
use Rattle.read_scan.specs.Scan.MacroRead.{refused_at}
use Rattle.read_scan.specs.Scan.{run, Here, Calls, fault_of, wrong_call}
use Rattle.std.specs.Prelude.{Ok}
use Rattle.read_scan.specs.Bytes.{refused}
use Rattle.read_scan.specs.declared.FileFault.{FileFault}
use Rattle.read_scan.proofs.Laws.{here_on, here_stop}
use Rattle.read_text.proofs.Phases.{space_call, wrong_call_lem}

pub turn_on : (pl : CallSite) (ph ph' : Phase) (b : ℕ) → call_byte (site_of pl) ph b ≡ into ph' → part_byte (calling pl ph) b ≡ on (calling pl ph')
unfolding part_byte_by turned
turn_on pl ph ph' b e = rw e refl

pub turn_text : (pl : CallSite) (ph : Phase) (i : ℕ) (v : Move) (b : ℕ) → call_byte (site_of pl) ph b ≡ text_of i v → part_byte (calling pl ph) b ≡ on (call_text pl i v [])
unfolding part_byte_by turned
turn_text pl ph i v b e = rw e refl

pub turn_closed : (pl : CallSite) (ph : Phase) (c : Call) (b : ℕ) → call_byte (site_of pl) ph b ≡ closed c → number_fits (tags (pieces_of pl)) c ≡ true
    → part_byte (calling pl ph) b ≡ on (behind_call pl c)
unfolding part_byte_by turned pick
turn_closed pl ph c b e f = rw e (rw f refl)

pub turn_unfit : (pl : CallSite) (ph : Phase) (c : Call) (b : ℕ) → call_byte (site_of pl) ph b ≡ closed c → number_fits (tags (pieces_of pl)) c ≡ false
    → part_byte (calling pl ph) b ≡ stop bad_call
unfolding part_byte_by turned pick
turn_unfit pl ph c b e f = rw e (rw f refl)

pub call_skips : (pl : CallSite) (ph : Phase) → skips (calling pl ph) ≡ true
unfolding skips
call_skips pl ph = refl

module _ {s : List ℕ} {a p : ℕ} (pl : CallSite) (ph : Phase) (pr : Prior) where
  -- to the next byte of a call
  pub call_next : {c q : ℕ} → Calls s a p (Ok (c, q)) → run s a pr false p (calling pl ph) ≡ run s a pr false q (calling pl ph)
  call_next y = y.answer (calling pl ph) pr (call_skips pl ph) (space_call pl ph)

  pub call_none : {f : FileFault} {q : ℕ} → Calls s a p (refused f q) → run s a pr false p (calling pl ph) ≡ refused_at (fault_of f) q
  call_none y = y.answer (calling pl ph) pr (call_skips pl ph) (space_call pl ph)

  module _ {b : ℕ} (x : Here s a p b) where
    pub here_wrong : (f : FileFault) → (b ≡ 32 → ⊥) → call_byte (site_of pl) ph b ≡ wrong → fault_of f ≡ wrong_call b → run s a pr false p (calling pl ph) ≡ refused_at (fault_of f) p
    here_wrong f g e h = here_stop x pr (calling pl ph) _ (wrong_call_lem pl ph b e g) ∙ rw h refl

    pub here_into : (ph' : Phase) → call_byte (site_of pl) ph b ≡ into ph' → run s a pr false p (calling pl ph) ≡ run s a pr false (p + 1) (calling pl ph')
    here_into ph' e = here_on x pr (calling pl ph) (calling pl ph') (λ q o. refl) (turn_on pl ph ph' b e)
