-- `region::start`: a phase, an empty run and cleared lanes make it well formed.
use Rattle.std.proofs.Common.{◌∙◌}
use Rattle.region.proofs.Ends.{started_there}
use Rattle.region.proofs.start.Goals as goal

pub returns : goal.returns
returns c =
    started_there c.args.region.now c.requires (c.store.ensures.0 ∙ c.cleared.ensures) c.store.ensures.1 c.clear.ensures.area
    c.clear_lanes.ensures
