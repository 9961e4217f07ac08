-- The lines of a pass and the trace of a line, by their definitions, are those of the demand, which leaves no other.
use Prim.Native.Nat.{ℕ, suc, ◌-◌, ◌≤◌, ◌<◌}
use mathlib.Core.Path.{◌≡◌, refl, sym, ap, ◌∙◌, subst}
use mathlib.Core.Bool.{Bool, true, false, false≢true}
use mathlib.Core.Logic.{◌⊎◌, inl, inr}
use mathlib.Core.List.{List, [], ◌∷◌, ◌++◌, append_assoc}
use lib.ListN.{length}
use Rattle.macros.specs.Refusals.{WorkRefusal}
use Rattle.macros.specs.Refusals.WorkRefusal.{trace_too_long}
use Rattle.macros.specs.Write.{digits}
use Rattle.lines.specs.Replacing.{Work, Done}
use Rattle.lines.specs.Replacing.Done.{bad, good}
use Rattle.lines.specs.Pass.{Walk, ended, occurs, occurred, outcome}
use Rattle.lines.specs.Line.{Pass, Line, passed, refused, text_of, passes_of}
use Rattle.lines.specs.Line.{Line.ended as line_ended}
use Rattle.lines.specs.Trace.{trace_line, three_lines, lines_if, lines_of, trace_of}
use Rattle.lines.specs.Feeding.{bytes}
use Rattle.lines.specs.Steps.{new_line}
use Rattle.lines.specs.Demand.{EndsIn, FailsIn, Tells, TraceFits, TraceIs}
use Rattle.lines.proofs.CopiedLaws.{text_of_lem}
use Rattle.lines.proofs.PassLaws.{ends_in, fails_in}

-- THE LINES OF A PASS

joined : (a b c d e f g : List ℕ) → a ++ b ++ c ++ d ++ e ++ f ++ g ≡ a ++ (b ++ (c ++ (d ++ (e ++ (f ++ g)))))
joined a b c d e f g =
    append_assoc (a ++ b ++ c ++ d ++ e) f g
    ∙ append_assoc (a ++ b ++ c ++ d) e (f ++ g)
    ∙ append_assoc (a ++ b ++ c) d (e ++ (f ++ g))
    ∙ append_assoc (a ++ b) c (d ++ (e ++ (f ++ g)))
    ∙ append_assoc a b (c ++ (d ++ (e ++ (f ++ g))))

-- a line of a trace, and what stands behind it
line_on : (a t s : List ℕ) → (a ++ (t ++ (10 ∷ []))) ++ s ≡ a ++ (t ++ (10 ∷ s))
line_on a t s = append_assoc a (t ++ (10 ∷ [])) s ∙ ap (λ (x : List ℕ). a ++ x) (append_assoc t (10 ∷ []) s)

three_lines_lem : (t : List ℕ) (n : ℕ) (u : List ℕ)
    → three_lines t n u ≡ bytes "oldline:" ++ t ++ bytes "\nmacro #:" ++ digits n ++ bytes "\nnewline:" ++ u ++ bytes "\n"
unfolding three_lines trace_line
three_lines_lem t n u =
    line_on (bytes "oldline:") t (trace_line "macro #:" (digits n) ++ trace_line "newline:" u)
    ∙ ap (λ (x : List ℕ). bytes "oldline:" ++ (t ++ (10 ∷ x))) (line_on (bytes "macro #:") (digits n) (trace_line "newline:" u))
    ∙ sym (joined (bytes "oldline:") t (bytes "\nmacro #:") (digits n) (bytes "\nnewline:") u (bytes "\n"))

-- a walk ends, or is refused
data Ended (k : Walk) : Type 0 where
  well : (v : Work) → EndsIn k v → Ended k
  ill : (r : WorkRefusal) (v : Work) → FailsIn k r v → Ended k

ended_so : (k : Walk) → Ended k
ended_so k = go (outcome k) refl
  where
    go : (d : Done) → outcome k ≡ d → Ended k
    go (good v) e = well v ((ends_in k v).0 e)
    go (bad r v) e = ill r v (fails_in k r v e)

fails_out : (k : Walk) (r : WorkRefusal) (v : Work) → FailsIn k r v → outcome k ≡ bad r v
unfolding outcome
fails_out (ended d) r v e = e
fails_out (occurs o k) r v e = fails_out k r v e

-- the lines that the definition makes
pub tells_lines : (x : Pass) → Tells x (lines_of x)
unfolding lines_of lines_if
tells_lines x =
    record {
      three =
          λ v o e.
          ap (λ (b : Bool). lines_if b x (outcome x.events)) o ∙ ap (lines_if true x) ((ends_in x.events v).1 e)
          ∙ ap (three_lines x.text (suc x.which.number)) (text_of_lem v) ∙ three_lines_lem x.text (suc x.which.number) (new_line v);
      without = λ o. ap (λ (b : Bool). lines_if b x (outcome x.events)) o;
      refused = λ r v e. ap (lines_if (occurred x.events) x) (fails_out x.events r v e) ∙ none_of r v (occurred x.events);
    }
  where
    none_of : (r : WorkRefusal) (v : Work) (b : Bool) → lines_if b x (bad r v) ≡ []
    none_of r v true = refl
    none_of r v false = refl

-- and no other
pub tells_same : (x : Pass) (s t : List ℕ) → Tells x s → Tells x t → s ≡ t
tells_same x s t h g = go (occurred x.events) refl (ended_so x.events)
  where
    go : (b : Bool) → occurred x.events ≡ b → Ended x.events → s ≡ t
    go false e k = h.without e ∙ sym (g.without e)
    go true e (well v k) = h.three v e k ∙ sym (g.three v e k)
    go true e (ill r v k) = h.refused r v k ∙ sym (g.refused r v k)

-- THE TRACE OF A LINE

pub trace_told : (l : Line) → TraceIs l (trace_of (passes_of l))
unfolding passes_of trace_of
trace_told (line_ended e) = refl
trace_told (passed x l) = (lines_of x, trace_of (passes_of l), tells_lines x, trace_told l, refl)

pub trace_same : (l : Line) (t : List ℕ) → TraceIs l t → t ≡ trace_of (passes_of l)
unfolding passes_of trace_of
trace_same (line_ended e) t h = h
trace_same (passed x l) t h =
    let a : h.0 ≡ lines_of x = tells_same x h.0 (lines_of x) h.2 (tells_lines x) in
    let b : h.1 ≡ trace_of (passes_of l) = trace_same l h.1 h.3 in
    h.4 ∙ ap (λ (s : List ℕ). s ++ h.1) a ∙ ap (λ (s : List ℕ). lines_of x ++ s) b

-- whether the lines of a pass fit, by the definition's lines
abbrev LinesFit : ℕ → Pass → Line → List ℕ → Type 0
LinesFit room x l s = ((length s ≤ room) × TraceFits (room - length s) l) ⊎ ((room < length s) × (l ≡ line_ended (refused trace_too_long)))

pub fits_lines : (room : ℕ) (x : Pass) (l : Line) → TraceFits room (passed x l) → LinesFit room x l (lines_of x)
fits_lines room x l h = subst (LinesFit room x l) (tells_same x h.0 (lines_of x) h.1 (tells_lines x)) h.2

pub lines_fit : (room : ℕ) (x : Pass) (l : Line) → LinesFit room x l (lines_of x) → TraceFits room (passed x l)
lines_fit room x l h = (lines_of x, tells_lines x, h)
