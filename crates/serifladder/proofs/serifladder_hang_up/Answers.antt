-- `serifladder::serifladder_hang_up`: what it makes is a hang-up.
use Rattle.std.proofs.Common.{rules}
use Rattle.model.specs.Calls.{hang_up_session}
use Rattle.serifladder.proofs.serifladder_hang_up.Goals as goal

pub returns : goal.returns
returns c = c.answered.ensures (hang_up_session c.args.session) (search rules)
