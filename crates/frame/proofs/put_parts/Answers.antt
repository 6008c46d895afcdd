-- `frame::put_parts`: a text and three blanks.
use borrow.Author.Rules.{rules}
use Rattle.frame.proofs.Fields.{fields}
use Rattle.frame.proofs.put_parts.Goals as goal

pub returns : goal.returns
returns c = search (rules, fields)
