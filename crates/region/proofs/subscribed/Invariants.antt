-- What is told so far, and what is left to tell, is all of it.
use Rattle.lane.specs.Lane.{Reading}
use Rattle.region.proofs.Walks.{Telling}
use Rattle.region.proofs.subscribed.Given as goal

abbrev pub invariant-loop-kind : goal.invariant-loop-kind
invariant-loop-kind l = (read : Reading) → Telling read l.region l.known l.kind-index
