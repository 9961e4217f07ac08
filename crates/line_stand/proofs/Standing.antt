-- What follows a pass with an occurrence.
-- Assumes nothing.
use Prim.Native.Nat.{ℕ, ◌+◌, ◌*◌}
use mathlib.Core.Path.{◌≡◌, refl, ap, sym, ◌∙◌}
use mathlib.Core.Bool.{Bool, true, false}
use mathlib.Core.Logic.{inl}
use mathlib.Core.List.{List, ◌++◌}
use native.Mathlib.Omega.{arith}
use lib.ListN.{length, get_or, take}
use lib.Seq.{length-take-le}
use Rattle.std.specs.Prelude.{Option, Some, Ok}
use Rattle.pass_lack.specs.Lacking.{flags_of}
use Rattle.line_memory.specs.Memory.{padded}
use Rattle.line_trace.specs.Tracing.{TracesIf, Traces}
use Rattle.line_trace.proofs.Laws.{puts_behind}
use Rattle.line_stand.specs.Closed.{closed_flags}
use Rattle.line_stand.specs.Standing.{Texts, lines_here, Followed, Follows}
use Rattle.line_stand.specs.declared.Stand.{Stand}

module _ {tb : List ℕ} {m : Texts} {nw : List ℕ} {traced : Bool} {n : ℕ} {on : Stand} (y : Followed tb m nw traced n on) where
  module _ {trace' : List ℕ} {r : Option ℕ} (x : Traces traced m.trace on.written (take on.size m.text) (on.due + 1) (take n nw) trace' r) where
    pub after_fits : {w : ℕ} → r ≡ Some w → {count : ℕ} {tx' fl' : List ℕ} → tx' ≡ padded (take n nw) (length m.text) → {pr' : List ℕ} → pr' ≡ flags_of (take n nw) → fl' ≡ closed_flags m.flags (get_or tb (1024 * on.due) 0) on.due
        → Follows tb count m (record { text = tx'; present = pr'; flags = fl'; trace = trace' }) nw traced (Ok (record { occurred = true; size = n })) on (Ok (record { size = n; occurred = true; due = count; begun = on.begun; written = w }))
    after_fits {w} e {count} {tx'} {fl'} d x₂ f =
        record {
          by = inl (record {
            written = w;
            next = refl;
            line = d;
            present = x₂;
            closed = f;
            traces = λ t.
                let b : TracesIf true m.trace on.written (lines_here m nw n on) trace' (Some w) = rw (e, t) at x.by in
                let o = y.trace t in
                let z : m.trace ≡ padded (take on.written m.trace) (length m.trace) = o.zeros ∙ ap (padded (take on.written m.trace)) (sym o.size) in (
                  b.next,
                  omega (arith, b.next, b.room, o.size),
                  puts_behind b (take on.written m.trace) (length-take-le on.written m.trace (omega (arith, o.inside, o.size))) z ∙ ap (padded (take on.written m.trace ++ lines_here m nw n on)) o.size,
                );
            untraced = λ t.
                let b : TracesIf false m.trace on.written (lines_here m nw n on) trace' (Some w) = rw (e, t) at x.by in
                (b.same, let q = b.next in let k : w ≡ on.written = cc in k);
          });
        }
