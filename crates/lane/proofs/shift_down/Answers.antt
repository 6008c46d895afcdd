-- `lane::shift_down`: the first is gone.
use Rattle.lane.proofs.Lanes.{is_shifted}
use Rattle.lane.proofs.shift_down.Goals as goal

pub returns : goal.returns
returns c = is_shifted _ _ _ c.requires _ c.slot_size-size.ensures c.copy_within.ensures.after
