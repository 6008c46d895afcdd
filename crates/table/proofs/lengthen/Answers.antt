-- `table::lengthen` meets its contract.
use Rattle.table.specs.Table.{reading_in}
use Rattle.table.proofs.Regions.{part_good}
use Rattle.table.proofs.Receives.{lengthened}
use Rattle.table.proofs.lengthen.Goals as goal

pub lengthen-requires : goal.lengthen-requires
lengthen-requires c = rw c.range_of.ensures (part_good _ _ c.requires.0 c.requires.1)

pub returns : goal.returns
returns c =
    rw c.range_of.ensures
    (lengthened _ _ _ c.requires.0 c.requires.1 (rw c.range_of.ensures at c.lengthen.ensures (reading_in c.args.table.now)))
