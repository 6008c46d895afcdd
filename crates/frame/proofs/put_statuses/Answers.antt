-- `frame::put_statuses`: three numbers.
use borrow.Author.Rules.{rules}
use Rattle.frame.proofs.Fields.{fields}
use Rattle.frame.proofs.put_statuses.Goals as goal

pub returns : goal.returns
returns g c = search (rules, fields)
