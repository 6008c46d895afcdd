-- `replay::Program::run`: what was read so far was served, and what waits of it begins with no whole record.
use Rattle.std.proofs.Common.{◌≡◌, []}
use Rattle.replay.specs.States.{Turned}
use Rattle.replay.proofs.Program.run.Given as goal

abbrev pub invariant-loop : goal.invariant-loop
invariant-loop l = Turned l.fn.self.table [] l.self.table l.input × (l.self.lines ≡ [])
