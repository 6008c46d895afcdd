-- `frame::put_end`: two numbers.
use borrow.Author.Rules.{rules}
use Rattle.frame.proofs.Fields.{fields}
use Rattle.frame.proofs.put_end.Goals as goal

pub returns : goal.returns
returns c = search (rules, fields)
