-- `replay::Input::fill`: what was read stands behind what waited.
use Rattle.std.proofs.Common.{arith, rules}
use Rattle.replay.proofs.Pieces.{filled}
use Rattle.replay.proofs.Input.fill.Goals as goal

pub returns : goal.returns
returns c = filled c.self.inside.bytes c.read.new.buf _ c.self.view_is (omega arith) (search rules)
