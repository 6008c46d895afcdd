-- `replay::shown`: the bytes before the index are shown, and the others are as they were.
use Rattle.std.proofs.Common.{◌≡◌}
use Rattle.replay.proofs.Printed.{shown_up_to}
use Rattle.replay.proofs.shown.Given as goal

abbrev pub invariant-loop-i : goal.invariant-loop-i
invariant-loop-i l = l.out ≡ shown_up_to l.i l.fn.frame l.fn.out
