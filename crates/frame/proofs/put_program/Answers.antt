-- `frame::put_program`: a text and two numbers.
use borrow.Author.Rules.{rules}
use Rattle.frame.proofs.Fields.{fields}
use Rattle.frame.proofs.put_program.Goals as goal

pub returns : goal.returns
returns g c = search (rules, fields)
