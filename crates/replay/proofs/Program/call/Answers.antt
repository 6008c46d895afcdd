-- `replay::Program::call`: a start is lent no output.
use Rattle.replay.proofs.Turns.{started}
use Rattle.replay.proofs.Program.call.Goals as goal

pub returns-in-3-clause-outcome : goal.returns-in-3-clause-outcome
returns-in-3-clause-outcome c = started _ _ c.in-3.is c.start.ensures
