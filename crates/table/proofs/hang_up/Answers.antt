-- `table::hang_up` meets its contract.
use Rattle.model.specs.Local.{hang_up}
use Rattle.table.proofs.Regions.{part_good}
use Rattle.table.proofs.Alone.{became_alone}
use Rattle.table.proofs.hang_up.Goals as goal

pub hang_up-requires : goal.hang_up-requires
hang_up-requires c = rw c.range_of.ensures (part_good _ _ c.requires.0 c.requires.1)

pub returns : goal.returns
returns c =
    rw c.range_of.ensures
    (became_alone _ _ hang_up c.requires.0 c.requires.1 _ c.hang_up.ensures.0 (c.hang_up.ensures.1 _))
