-- The lanes of the kinds so far are cleared.
use Rattle.region.proofs.Walks.{Clearing}
use Rattle.region.proofs.clear_lanes.Given as goal

abbrev pub invariant-loop-kind : goal.invariant-loop-kind
invariant-loop-kind l = Clearing l.initial.region l.region l.kind-index
