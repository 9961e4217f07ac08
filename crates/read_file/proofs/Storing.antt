-- A macro in its slot.
-- Assumes nothing.
use mathlib.Core.Path.{◌≡◌, ap, ◌∙◌}
use mathlib.Core.List.{List, [], ◌∷◌}
use Prim.Native.Nat.{ℕ, ◌+◌, ◌-◌, ◌≤◌}
use native.Mathlib.Omega.{arith}
use lib.ListN.{length, take, drop, replicate, length-append, length-drop}
use lib.Seq.{length-take-le}
use borrow.Rule.Slice.PartMut.{put_mid}
use Rattle.form_table.specs.Form.{two}
use Rattle.form_items.specs.Items.{Wrote}
use Rattle.read_file.specs.File.{slot_of}
use Rattle.read_macro.specs.OneMacro.{head_bytes, used_bytes}
use Rattle.read_macro.specs.declared.Head.{Head}
use Rattle.form_items.proofs.Writing.{wrote_behind, wrote_mid, wrote_fill}

-- a part laid out anew
pub mid_length : (a ys : List ℕ) (n k : ℕ) → length ys ≡ k → n + k ≤ length a → length (put_mid n k a ys) ≡ length a
mid_length a ys n k e h = let t = length-take-le n a (omega arith) in simp (length-append, length-drop) (omega arith)

pub headed : {t₀ t₁ t₂ t₃ t₄ t₅ : List ℕ} {n : ℕ} (h : Head)
    → Wrote t₀ t₁ n (h.symbol ∷ h.tags ∷ []) → Wrote t₁ t₂ (n + 2) (two h.before) → Wrote t₂ t₃ (n + 4) (two h.pattern)
    → Wrote t₃ t₄ (n + 6) (two h.replacement) → Wrote t₄ t₅ (n + 8) (two h.commands) → Wrote t₀ t₅ n (head_bytes h)
unfolding two
headed {n = n} h w₀ w₁ w₂ w₃ w₄ =
    let x₁ = wrote_behind w₀ (omega arith) w₁ in
    let x₂ = wrote_behind x₁ (omega arith) w₂ in
    let x₃ = wrote_behind x₂ (omega arith) w₃ in
    wrote_behind x₃ (omega arith) w₄

-- head, items and zeros
pub stored : {t₀ t₁ ys zs : List ℕ} {n k m : ℕ} (h : Head) (b : List ℕ) → used_bytes h ≤ length b → used_bytes h ≤ 1014 → n + 1024 ≤ length t₁
    → Wrote t₀ t₁ n (head_bytes h) → ys ≡ take (used_bytes h) b → k ≡ used_bytes h → m ≡ 1014 - used_bytes h
    → zs ≡ replicate (length (take m (drop (n + 10 + used_bytes h) (put_mid (n + 10) k t₁ ys)))) 0
    → Wrote t₀ (put_mid (n + 10 + used_bytes h) m (put_mid (n + 10) k t₁ ys) zs) n (slot_of h b)
unfolding two
stored {t₁ = t₁} {ys = ys} {zs = zs} {n = n} {k = k} {m = m} h b l f r w₀ e i j z =
    let d = length-take-le (used_bytes h) b l in
    let g : length ys ≡ used_bytes h = ap length e ∙ d in
    let w₁ = wrote_mid t₁ ys (take (used_bytes h) b) (n + 10) k e (omega arith) (omega arith) in
    let p : length (put_mid (n + 10) k t₁ ys) ≡ length t₁ = mid_length t₁ ys (n + 10) k (omega arith) (omega arith) in
    let w₂ = wrote_fill (put_mid (n + 10) k t₁ ys) zs (n + 10 + used_bytes h) (1014 - used_bytes h) m 0 j (omega arith) z in
    let x₁ = wrote_behind w₀ (omega arith) w₁ in
    wrote_behind x₁ (omega arith) w₂
