-- The invariant: what the sessions come to that are left is what all come to, and the room that is left.
use Rattle.model.specs.Kinds.{kinds, copies_most}
use Rattle.model.specs.Local.{tick}
use Rattle.table.proofs.Turns.{Turns}
use Rattle.table.proofs.tick.Given as goal

abbrev pub invariant-loop-session : goal.invariant-loop-session
invariant-loop-session l = Turns (copies_most kinds) tick l.initial.table l.initial.out l.initial.at l.table l.out l.at l.session
