-- `frame::put_added`: each revision has what the one before has, and more behind it.
use borrow.Author.Rules.{rules}
use native.Mathlib.Omega.{arith}
use Rattle.frame.proofs.Fields.{fixed_fields}
use Rattle.frame.proofs.Contents.{added_of, added_newest}
use Rattle.frame.proofs.put_added.Goals as goal

pub returns-then-revision-lt3 : goal.returns-then-revision-lt3
returns-then-revision-lt3 c = added_of c.args.revision 2 (omega arith) (search (rules, fixed_fields))

pub returns-then-revision-lt4 : goal.returns-then-revision-lt4
returns-then-revision-lt4 c = added_of c.args.revision 3 (omega arith) (search (rules, fixed_fields))

pub returns-then-revision-lt5 : goal.returns-then-revision-lt5
returns-then-revision-lt5 c = added_of c.args.revision 4 (omega arith) (search (rules, fixed_fields))

pub returns-then-revision-lt6 : goal.returns-then-revision-lt6
returns-then-revision-lt6 c = added_of c.args.revision 5 (omega arith) (search (rules, fixed_fields))

pub returns : goal.returns
returns c = added_newest c.args.revision (omega arith) (search (rules, fixed_fields))
