-- `region::store`: the bytes in front are replaced.
use Rattle.std.proofs.Common.{rules}
use Rattle.region.proofs.Areas.{head_replaced}
use Rattle.region.proofs.store.Goals as goal

pub returns : goal.returns
returns c = λ read. search (rules, head_replaced)
