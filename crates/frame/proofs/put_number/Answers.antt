-- `frame::put_number`: its number, and behind it the digits.
use borrow.Author.Rules.{rules}
use Rattle.frame.proofs.Fields.{field_put}
use Rattle.frame.proofs.put_number.Goals as goal

pub returns : goal.returns
returns c = search (rules, field_put)
