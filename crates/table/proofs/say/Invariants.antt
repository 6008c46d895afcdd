-- The invariant: what is left to say, over what was said, is all of it.
use Rattle.table.proofs.Says.{Saying}
use Rattle.table.proofs.say.Given as goal

abbrev pub invariant-loop-kind : goal.invariant-loop-kind
invariant-loop-kind l = Saying l.table l.initial.out l.to l.due l.out l.at l.kind-index
