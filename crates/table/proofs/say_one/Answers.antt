-- `table::say_one` meets its contract.
use Rattle.model.proofs.Named.{place_within}
use Rattle.table.proofs.Says.{first_lent, first_said}
use Rattle.table.proofs.say_one.Goals as goal

pub put_copy-requires : goal.put_copy-requires
put_copy-requires c = first_lent (place_within _) c.requires c.open_notice.ensures

pub returns : goal.returns
returns c = first_said (place_within _) c.requires c.open_notice.ensures c.put_copy.ensures
