-- Nothing that was passed is a NUL, and what is left to look at begins there.
use Rattle.std.proofs.Common.{◌≡◌, drop}
use Rattle.std.specs.Slice.Iter.{chunks_exact_rest, chunks_exact_size}
use Rattle.run.specs.Area.{Passed}
use Rattle.run.proofs.past_blocks.Given as goal

abbrev pub invariant-loop-block : goal.invariant-loop-block
invariant-loop-block l = record {
  passed : Passed l.bytes l.at;
  left : chunks_exact_rest l.block-iterator ≡ drop l.at l.bytes;
  size : chunks_exact_size l.block-iterator ≡ l.size;
}
