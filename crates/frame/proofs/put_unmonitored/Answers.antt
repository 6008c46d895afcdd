-- `frame::put_unmonitored`: all of it is not reported.
use borrow.Author.Rules.{rules}
use Rattle.frame.proofs.Fields.{fixed_fields}
use Rattle.frame.proofs.put_unmonitored.Goals as goal

pub returns : goal.returns
returns c = search (rules, fixed_fields)
