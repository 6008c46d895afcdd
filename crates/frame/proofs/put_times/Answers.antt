-- `frame::put_times`: two texts.
use borrow.Author.Rules.{rules}
use Rattle.frame.proofs.Fields.{fields}
use Rattle.frame.proofs.put_times.Goals as goal

pub returns : goal.returns
returns g c = search (rules, fields)
