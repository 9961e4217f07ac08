use lib.ListN.{replicate, length-replicate}
use Prim.Native.Nat.{ℕ}
use mathlib.Core.Path.{sym}
use native.Mathlib.Omega.{arith}
use lib.Seq.{length-take-le}
use Rattle.program.proofs.Held.{sound_lent, sound_kept}
use Rattle.program.proofs.answer_line.Goals as goal

pub slice_bounds-feed_line-end-3 : goal.slice_bounds-feed_line-end-3
slice_bounds-feed_line-end-3 g c = sym (length-take-le _ _ (omega arith))

pub feed_line-answer-requires : goal.feed_line-answer-requires
feed_line-answer-requires g c = sound_lent c.requires.0 (length-replicate {A = ℕ} 1054 0) c.requires.3

pub shape_of-trace : goal.shape_of-trace
shape_of-trace g c = c.feed_line-answer.auto.trace

pub returns : goal.returns
returns g c =
    let pre = c.requires in
    let feed = c.feed_line-answer in
    let sized = length-replicate {A = ℕ} 1054 0 in
    record {
      answered =
          record {
            output = replicate {A = ℕ} 1054 0;
            output' = feed.new.output;
            trace = c.args.trace.now;
            trace' = feed.new.trace;
            answer = feed.result;
            sized = sized;
            trace_sized = pre.3;
            fed = feed.ensures;
            said = c.put_said.ensures.put;
          };
      upper_bound = c.put_said.ensures.upper_bound;
      sound = sound_kept (sound_lent pre.0 sized pre.3) feed.ensures;
    }
