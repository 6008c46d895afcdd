-- `frame::put_kept_end`: two numbers, a text and a number.
use borrow.Author.Rules.{rules}
use Rattle.frame.proofs.Fields.{fields}
use Rattle.frame.proofs.put_kept_end.Goals as goal

pub returns : goal.returns
returns c = search (rules, fields)
