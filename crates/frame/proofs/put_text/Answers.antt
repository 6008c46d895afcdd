-- `frame::put_text`: its number, and behind it the text.
use borrow.Author.Rules.{rules}
use Rattle.frame.proofs.Fields.{field_put}
use Rattle.frame.proofs.put_text.Goals as goal

pub returns : goal.returns
returns c = search (rules, field_put)
