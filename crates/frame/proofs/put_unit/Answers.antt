-- `frame::put_unit`: the unit between two fields that are not reported.
use borrow.Author.Rules.{rules}
use Rattle.frame.proofs.Fields.{fixed_fields}
use Rattle.frame.proofs.put_unit.Goals as goal

pub returns : goal.returns
returns c = search (rules, fixed_fields)
