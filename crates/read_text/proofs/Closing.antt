-- The end of a call, whatever was read of it before.
-- Assumes nothing.
use mathlib.Core.Path.{◌≡◌, refl, ◌∙◌}
use mathlib.Core.Bool.{true, false}
use mathlib.Core.List.{List}
use Prim.Native.Nat.{ℕ, ◌+◌, ◌-◌, ◌*◌, ◌≤◌}
use native.Mathlib.Omega.{arith}
use lib.ListN.{length}
use Rattle.macros.specs.Refusals.FileRefusal.{bad_call}
use Rattle.macros.specs.Macro.{Call}
use Rattle.macros.specs.Formed.{number_fits}
use Rattle.macros.specs.Read.{Part, Site, CallSite, Phase, call_byte, behind_call}
use Rattle.macros.specs.ReadSoFar.Part.{calling}
use Rattle.macros.specs.ReadCalls.Turn.{closed, wrong}
use Rattle.form_table.specs.Form.{call_items}
use Rattle.read_scan.specs.Scan.{Here, Calls, fault_of, wrong_call}
use Rattle.form_items.specs.Items.{Wrote}
use Rattle.read_text.specs.Text.{Comes, Ends}
use Rattle.std.specs.Prelude.{Ok, Err}
use Rattle.read_scan.specs.Bytes.{refused}
use Rattle.read_ends.specs.Ends.{Ended}
use Rattle.read_scan.specs.declared.FileFault.{FileFault}
use Rattle.read_scan.specs.declared.FileFault.TheVariants.{BadCall}
use Rattle.read_scan.proofs.Laws.{here_on, here_stop, reached_behind}
use Rattle.read_text.proofs.Turns.{turn_closed, turn_unfit, call_none, here_wrong}

-- a call read further
pub ends_from : (s : List ℕ) (a p p' : ℕ) (old out : List ℕ) (n x x' : ℕ) (si : Site) (k : ℕ) (F G : CallSite → Part) (r : Ended)
    → p ≤ p' → x' ≤ x + 2 * (p' - p) → Comes s a si k F p G p' → Ends s a p' old out n x' si k G r → Ends s a p old out n x si k F r
ends_from s a p p' old out n x x' si k F G (Ok (q, e)) h j g y =
    record {
      call = y.call;
      wrote = y.wrote;
      used = y.used;
      room = omega (arith, y.room, y.further);
      further = omega (arith, y.further);
      reached = y.reached;
      answer = λ pl u v pr. g pl u v pr ∙ y.answer pl u v pr;
    }
ends_from s a p p' old out n x x' si k F G (Err d) h j g y = (y.0, λ pl u v pr. g pl u v pr ∙ y.1 pl u v pr)

module _ (s : List ℕ) (a p : ℕ) (old out : List ℕ) (n x : ℕ) (si : Site) (k : ℕ) (F : CallSite → Part) {q : ℕ} (ph : Phase) (g : Comes s a si k F p (λ pl. calling pl ph) q) where
  -- no byte more
  pub ends_none : {f : FileFault} {v : ℕ} → Calls s a q (refused f v) → Ends s a p old out n x si k F (refused f v)
  ends_none z = (z.found, λ pl u t pr. g pl u t pr ∙ call_none pl ph pr z)

  module _ {c : ℕ} (y : Here s a q c) where
    -- a byte that cannot be
    pub ends_wrong : (f : FileFault) → (c ≡ 32 → ⊥) → call_byte si ph c ≡ wrong → fault_of f ≡ wrong_call c → Ends s a p old out n x si k F (refused f q)
    ends_wrong f h e i =
        let t = y.stands in
        (omega (arith, t.there), λ pl u v pr. g pl u v pr ∙ here_wrong pl ph pr y f h (rw u e) i)

    -- a number out of range
    pub ends_unfit : (d : Call) → call_byte si ph c ≡ closed d → number_fits k d ≡ false → Ends s a p old out n x si k F (refused BadCall q)
    ends_unfit d e h =
        let t = y.stands in
        (omega (arith, t.there), λ pl u v pr. g pl u v pr ∙ here_stop y pr (calling pl ph) bad_call (turn_unfit pl ph d c (rw u e) (rw v h)))

    pub ends_closed : (d : Call) {e : ℕ} → call_byte si ph c ≡ closed d → number_fits k d ≡ true → Wrote old out n (call_items d) → e ≡ n + length (call_items d)
        → e ≤ n + x + 2 * (q + 1 - p) → p ≤ q → Ends s a p old out n x si k F (Ok (q + 1, e))
    ends_closed d e h w l m j =
        record {
          call = d;
          wrote = w;
          used = l;
          room = m;
          further = omega arith;
          reached = reached_behind y.stands;
          answer = λ pl u v pr. g pl u v pr ∙ here_on y pr (calling pl ph) (behind_call pl d) (λ q o. refl) (turn_closed pl ph d c (rw u e) (rw v h));
        }
