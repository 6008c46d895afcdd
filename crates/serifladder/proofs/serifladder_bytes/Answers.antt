-- `serifladder::serifladder_bytes`: what it makes is received bytes.
use Rattle.std.proofs.Common.{rules}
use Rattle.model.specs.Calls.{bytes}
use Rattle.serifladder.proofs.serifladder_bytes.Goals as goal

pub returns : goal.returns
returns c = c.answered.ensures (bytes c.args.session c.args.bytes.now) (search rules)
