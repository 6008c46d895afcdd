-- `frame::put_torques`: three limits and a number.
use borrow.Author.Rules.{rules}
use Rattle.frame.proofs.Fields.{fields}
use Rattle.frame.proofs.put_torques.Goals as goal

pub returns : goal.returns
returns g c = search (rules, fields)
