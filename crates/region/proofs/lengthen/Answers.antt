-- `region::lengthen`: the bytes of the run are replaced.
use Rattle.std.proofs.Common.{rules}
use Rattle.region.proofs.Areas.{run_there, run_replaced}
use Rattle.region.proofs.lengthen.Goals as goal

pub lengthen-requires : goal.lengthen-requires
lengthen-requires c = run_there _ c.requires

pub returns : goal.returns
returns c = λ read. search (rules, run_replaced)
