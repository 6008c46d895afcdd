-- `table::region_of` meets its contract.
use Rattle.table.proofs.Regions.{part_in}
use Rattle.table.proofs.region_of.Goals as goal

pub returns-clause-bytes : goal.returns-clause-bytes
returns-clause-bytes c = rw c.range_of.ensures (part_in c.args.table.now c.args.s)
