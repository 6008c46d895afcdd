-- `frame::put_alarm`: two numbers between two texts.
use borrow.Author.Rules.{rules}
use Rattle.frame.proofs.Fields.{fields}
use Rattle.frame.proofs.put_alarm.Goals as goal

pub returns : goal.returns
returns c = search (rules, fields)
