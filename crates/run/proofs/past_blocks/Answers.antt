-- A block is passed whose lowest byte is no NUL.
use Rattle.std.proofs.Common.{sym, ◌∙◌}
use Rattle.run.proofs.Pieces.{passed_block}
use Rattle.run.proofs.past_blocks.Goals as goal

pub loop-block-preserved : goal.loop-block-preserved
loop-block-preserved c =
    let step = c.in-Some.ensures.steps in
    let before = c.loop-block.invariant in
    let passed =
    passed_block c.args.bytes.now c.in-Some.block.now _ c.loop-block.at c.args.size before.passed (sym before.left ∙ step.1.0)
    (step.1.1 ∙ before.size) (λ z. c.if-lowest-eq0.false (c.lowest.ensures ∙ z)) in
    record { passed = passed.0; left = passed.1; size = step.0 ∙ before.size }
