-- `replay::Program::feed`: what is left is still to be handed on, and what was is the calls of the model's program so far.
use Rattle.std.proofs.Common.{length}
use Rattle.replay.specs.declared.TheConstants.{BUFFER}
use Rattle.replay.proofs.Fed.{Feeding}
use Rattle.replay.proofs.Program.feed.Given as goal

abbrev pub invariant-loop-left : goal.invariant-loop-left
invariant-loop-left l = Feeding l.session l.fn.bytes BUFFER l.fn.self.table l.fn.self.lines l.self.table l.self.lines l.left

abbrev pub decreases-loop-left : goal.decreases-loop-left
decreases-loop-left l = length l.left
