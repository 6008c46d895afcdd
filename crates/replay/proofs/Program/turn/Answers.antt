-- `replay::Program::turn`: where nothing was read nothing happens; else what was read is served behind what waited.
use Rattle.std.proofs.Common.{not, ap, ◌∙◌, arith, length}
use Rattle.replay.specs.Whole.{too_long}
use Rattle.replay.proofs.Pieces.{waits_few, one_turn_none, one_turn}
use Rattle.replay.proofs.Program.turn.Goals as goal

pub returns-then-not-fill-clause-turned : goal.returns-then-not-fill-clause-turned
returns-then-not-fill-clause-turned c = one_turn_none c.if-not-fill.ensures c.requires.cut

pub keep-requires : goal.keep-requires
keep-requires c =
    let few = waits_few c.waiting.result.now in
    omega (arith, ap length c.serve-left.ensures.left, ap length c.waiting.ensures)

pub returns-clause-turned : goal.returns-clause-turned
returns-clause-turned c =
    let s = c.serve-left.ensures in
    let on = ap not c.is_too_long.ensures ∙ ap (λ l. not (too_long l)) c.waiting-2.ensures in
    one_turn c.if-not-fill.ensures c.waiting.ensures c.requires.no_lines s.follows s.left c.keep.ensures on
