-- `table::tick` meets its contract.
use Rattle.model.specs.World.{ticks}
use Rattle.table.proofs.Alone.{went_one}
use Rattle.table.proofs.Turns.{turns_next, turns_all}
use Rattle.table.proofs.tick.Goals as goal

pub loop-session-preserved : goal.loop-session-preserved
loop-session-preserved c =
    let t = c.tick_session-at.ensures in
    turns_next c.loop-session.invariant c.loop-session-test.true t.within t.went

pub returns : goal.returns
returns c =
    let e = turns_all c.loop-session.invariant c.loop-session-test.false in
    record { within = e.0; went = went_one {m = ticks} e.1 e.2 }
