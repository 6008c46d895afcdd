-- `frame::put_later_statuses`: four numbers, and what is not reported.
use borrow.Author.Rules.{rules}
use Rattle.frame.proofs.Fields.{later_fields}
use Rattle.frame.proofs.put_later_statuses.Goals as goal

pub returns : goal.returns
returns c = search (rules, later_fields) depth 9
