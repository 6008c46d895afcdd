-- `replay::Program::run`: one turn after another.
use Rattle.std.proofs.Common.{sym, arith}
use Rattle.replay.proofs.Sizes.{size_cut}
use Rattle.replay.proofs.Pieces.{turned_none, turned_then, turned_cut}
use Rattle.replay.proofs.Program.run.Goals as goal

pub loop-init : goal.loop-init
loop-init c = (turned_none c.new-input.ensures (sym (size_cut _ (omega arith))), c.requires)

pub turn-requires-clause-cut : goal.turn-requires-clause-cut
turn-requires-clause-cut c = turned_cut c.loop.invariant.0

pub loop-preserved : goal.loop-preserved
loop-preserved c = (turned_then c.loop.invariant.0 c.turn.ensures.turned.turned, c.turn.ensures.no_lines)

pub returns-then-not-turn : goal.returns-then-not-turn
returns-then-not-turn c =
    record { waiting = c.turn.new.input; turned = turned_then c.loop.invariant.0 c.turn.ensures.turned.turned }
