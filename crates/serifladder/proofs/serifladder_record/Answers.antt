-- `serifladder::serifladder_record`: what it makes is a tool record.
use Rattle.std.proofs.Common.{rules}
use Rattle.model.specs.Calls.{tool}
use Rattle.serifladder.proofs.serifladder_record.Goals as goal

pub returns : goal.returns
returns c = c.answered.ensures (tool c.args.slice.now) (search rules)
