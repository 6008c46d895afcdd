-- `frame::put_kept_batch`: a number, a text and two numbers.
use borrow.Author.Rules.{rules}
use Rattle.frame.proofs.Fields.{fields}
use Rattle.frame.proofs.put_kept_batch.Goals as goal

pub returns : goal.returns
returns c = search (rules, fields)
