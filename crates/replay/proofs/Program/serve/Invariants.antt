-- `replay::Program::serve`: what is left is still to be served, and what was is the records of the model's program so far.
use Rattle.std.proofs.Common.{length}
use Rattle.replay.specs.declared.TheConstants.{BUFFER}
use Rattle.replay.proofs.Records.{Serving}
use Rattle.replay.proofs.Program.serve.Given as goal

abbrev pub invariant-loop-slice : goal.invariant-loop-slice
invariant-loop-slice l = Serving l.fn.input BUFFER l.fn.self.table l.fn.self.lines l.self.table l.self.lines l.left

abbrev pub decreases-loop-slice : goal.decreases-loop-slice
decreases-loop-slice l = length l.left
