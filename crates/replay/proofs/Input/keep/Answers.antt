-- `replay::Input::keep`: what waits on is the end of what waited.
use Rattle.std.proofs.Common.{arith}
use Rattle.replay.proofs.Lists.{kept}
use Rattle.replay.proofs.Input.keep.Goals as goal

pub returns : goal.returns
returns c = kept c.self.inside.bytes c.self.view_is (omega arith) c.requires c.copy_within.ensures.after
