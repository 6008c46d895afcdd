-- The invariant: the sessions so far are closed.
use Rattle.table.proofs.Starts.{Closed}
use Rattle.table.proofs.start.Given as goal

abbrev pub invariant-loop-s : goal.invariant-loop-s
invariant-loop-s l = Closed l.initial.table l.table l.s
