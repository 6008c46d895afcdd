-- The kind is the one of that place.
use Rattle.std.proofs.Common.{rules}
use Rattle.region.proofs.Walks.{in_order, clearing_next}
use Rattle.region.proofs.clear_lanes.Goals as goal

pub loop-kind-preserved : goal.loop-kind-preserved
loop-kind-preserved c = search (rules, in_order, clearing_next)
