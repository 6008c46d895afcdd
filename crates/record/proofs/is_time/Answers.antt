-- `record::is_time` meets its contract: what is so of every byte is what the model asks of a time.
use Rattle.std.proofs.Common.{rules}
use Rattle.record.proofs.Times.{by_places}
use Rattle.record.proofs.is_time.Goals as goal

pub returns : goal.returns
returns c = by_places c.args.s.now c.all.result (search rules)
