-- `frame::put_unreported`: one field more in each round.
use Rattle.frame.specs.Layout.{FixedPut, unreported_rows}
use Rattle.frame.proofs.put_unreported.Given as goal

abbrev pub invariant-loop-i : goal.invariant-loop-i
invariant-loop-i l = FixedPut l.field (unreported_rows l.i l.width) l.initial.out l.initial.at l.at l.out
