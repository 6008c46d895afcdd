-- `frame::put_numbers`: a number, and what is not reported.
use borrow.Author.Rules.{rules}
use Rattle.frame.proofs.Fields.{later_fields}
use Rattle.frame.proofs.put_numbers.Goals as goal

pub returns : goal.returns
returns c = search (rules, later_fields)
