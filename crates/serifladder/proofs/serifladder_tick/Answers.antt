-- `serifladder::serifladder_tick`: what it makes is a tick.
use Rattle.std.proofs.Common.{rules}
use Rattle.model.specs.Calls.{one_tick}
use Rattle.serifladder.proofs.serifladder_tick.Goals as goal

pub returns : goal.returns
returns c = c.answered.ensures one_tick (search rules)
