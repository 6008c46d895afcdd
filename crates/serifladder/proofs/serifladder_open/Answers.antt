-- `serifladder::serifladder_open`: what it makes is an opening.
use Rattle.std.proofs.Common.{rules}
use Rattle.model.specs.Calls.{open_session}
use Rattle.serifladder.proofs.serifladder_open.Goals as goal

pub returns : goal.returns
returns c = c.answered.ensures (open_session c.args.session) (search rules)
