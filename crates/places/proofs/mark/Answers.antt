-- One mark more is made.
use Rattle.std.proofs.Common.{sym, ◌∙◌}
use Rattle.places.proofs.Marks.{mark_next}
use Rattle.places.proofs.mark.Goals as goal

pub loop-p-preserved : goal.loop-p-preserved
loop-p-preserved c =
    let l = c.loop-p in
    rw c.from.ensures (sym (mark_next l.used c.args.held.now l.p-index c.loop-p-test.true) ∙ l.invariant)
