-- `lane::put`: the notice first, and then the control before it.
use Rattle.lane.proofs.Events.{push_storing, pushes}
use Rattle.lane.proofs.put.Goals as goal

pub store-requires : goal.store-requires
store-requires c = push_storing _ _ _ _ _ c.requires _ c.slot_size.ensures _ c.replace.ensures

pub returns : goal.returns
returns c = pushes _ _ _ _ _ c.requires _ c.slot_size.ensures _ c.replace.ensures c.store.ensures
