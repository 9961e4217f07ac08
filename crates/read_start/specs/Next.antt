-- THE NEXT MACRO OF A FILE: what reading comes to, from a place between macros up to the end of the macro that comes next.
use Rattle.std.specs.Prelude.{ℕ, suc, ◌-◌, false, List, [], ◌∷◌, drop}
use Rattle.macros.specs.Refusals.{FileRefusal}
use Rattle.macros.specs.Refusals.FileRefusal.{incomplete}
use Rattle.macros.specs.Macro.{Macro, pick}
use Rattle.macros.specs.Read.{Reader, Next, step}
use Rattle.macros.specs.ReadFile.Pending.{clear}
use Rattle.macros.specs.ReadFile.Reader.{between, inside}
use Rattle.macros.specs.ReadFile.Next.{go, refuse, refuse_before}

-- the macro, and the place behind its `;`; a refusal with its place; or the file's end
pub data Coming : Type 0 where
  macro_to : ℕ → Macro → Coming
  refused_at : FileRefusal → ℕ → Coming
  no_more : Coming

-- the file's end, at place p: 12 in a macro or a skip
unfoldable pub ends_at : ℕ → Reader → Coming
ends_at p (between skip a ms) = pick skip (refused_at incomplete p) no_more
ends_at p (inside skip n st pr) = refused_at incomplete p

-- behind the byte at place p, read by some reader: a macro is complete where reading comes out of it; else f reads on
abbrev pub onward : Reader → (p : ℕ) → (f : Reader → Coming) → Next → Coming
onward (between k a ms) p f (go r) = f r
onward (between k a ms) p f (refuse c) = refused_at c p
onward (between k a ms) p f (refuse_before c n) = refused_at c (p - n)
onward (inside k n st pr) p f (go (inside k' n' st' pr')) = f (inside k' n' st' pr')
onward (inside k n st pr) p f (go (between k' a [])) = refused_at incomplete p
onward (inside k n st pr) p f (go (between k' a (m ∷ ms))) = macro_to (suc p) m
onward (inside k n st pr) p f (refuse c) = refused_at c p
onward (inside k n st pr) p f (refuse_before c j) = refused_at c (p - j)

-- the bytes from place p on
unfoldable pub next_by : ℕ → Reader → List ℕ → Coming
next_by p r [] = ends_at p r
next_by p r (b ∷ bs) = onward r p (λ r'. next_by (suc p) r' bs) (step r b)

-- from place p of the file s on, behind the macros ms, newest first
unfoldable pub next_from : (s : List ℕ) → (p : ℕ) → (ms : List Macro) → Coming
next_from s p ms = next_by p (between false clear ms) (drop p s)
