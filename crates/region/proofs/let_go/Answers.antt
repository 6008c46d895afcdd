-- `region::let_go`, by whether it begins.
use Rattle.region.proofs.Areas.{unchanged, lanes_cleared}
use Rattle.region.proofs.let_go.Goals as goal

pub returns-then-begins : goal.returns-then-begins
returns-then-begins c = λ read. rw c.if-begins.true (lanes_cleared read c.requires c.clear_lanes.ensures)

pub returns-else-begins : goal.returns-else-begins
returns-else-begins c = λ read. rw c.if-begins.false (unchanged read _ c.requires)
