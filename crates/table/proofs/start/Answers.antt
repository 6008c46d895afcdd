-- `table::start` meets its contract.
use Rattle.table.proofs.Starts.{closed_next, closed_all}
use Rattle.table.proofs.start.Goals as goal

pub loop-s-preserved : goal.loop-s-preserved
loop-s-preserved c =
    rw c.range_of.ensures (closed_next c.requires.0 c.loop-s.invariant c.loop-s-test.true c.start.ensures.0 c.start.ensures.1)

pub returns : goal.returns
returns c = closed_all c.requires.0 c.loop-s.invariant c.loop-s-test.false c.start-2.ensures
