-- What is left to be done to the lanes from a kind on, over what was done, is all of it.
use Rattle.model.specs.Notices.{beats}
use Rattle.lane.specs.Lane.{Reading}
use Rattle.region.proofs.Walks.{Dealing}
use Rattle.region.proofs.beat.Given as goal

abbrev pub invariant-loop-kind : goal.invariant-loop-kind
invariant-loop-kind l = (read : Reading) → Dealing read (λ kind. beats) l.initial.region l.region l.due l.kind-index
