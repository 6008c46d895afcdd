-- `frame::put_filled`: its number, and behind it the bytes.
use borrow.Author.Rules.{rules}
use Rattle.frame.proofs.Fields.{field_put}
use Rattle.frame.proofs.put_filled.Goals as goal

pub returns : goal.returns
returns c = search (rules, field_put)
