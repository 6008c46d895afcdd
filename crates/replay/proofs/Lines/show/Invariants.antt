-- `replay::Lines::show`: the lines so far, and those of the records that are left.
use Rattle.std.proofs.Common.{◌≡◌, ◌++◌, ◌+◌, ◌≤◌, length}
use Rattle.model.specs.Program.{printed}
use Rattle.replay.specs.Lines.{lines_in}
use Rattle.replay.proofs.Lines.show.Given as goal

abbrev pub invariant-loop-slice : goal.invariant-loop-slice
invariant-loop-slice l =
    (l.self ++ printed (lines_in l.left) ≡ l.fn.self ++ printed (lines_in l.fn.output))
    × (length l.self + length l.left ≤ length l.fn.self + length l.fn.output)

abbrev pub decreases-loop-slice : goal.decreases-loop-slice
decreases-loop-slice l = length l.left
