-- `region::clear_run`: the bytes of the run are replaced, and stand as they stood.
use Rattle.std.proofs.Common.{rules}
use Rattle.region.proofs.Areas.{run_replaced, run_over}
use Rattle.region.proofs.clear_run.Goals as goal

pub returns : goal.returns
returns c = λ read. record { becomes = search (rules, run_replaced); bytes = search (rules, run_over) }
