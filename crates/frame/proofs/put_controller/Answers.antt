-- `frame::put_controller`: two numbers and a text.
use borrow.Author.Rules.{rules}
use Rattle.frame.proofs.Fields.{fields}
use Rattle.frame.proofs.put_controller.Goals as goal

pub returns : goal.returns
returns c = search (rules, fields)
