-- `replay::Program::feed`: a call leads on as the model's program does, and consumes something where it is done.
use Rattle.std.proofs.Common.{◌≡◌, false, not, ◌&&◌, eqb, length, arith, sym}
use Rattle.replay.proofs.Turns.{used_up}
use Rattle.replay.proofs.Fed.{feeding_begins, feeding_on, feeding_ends, on_left, off_refused, off_none_left}
use Rattle.replay.proofs.Program.feed.Goals as goal
use Rattle.replay.proofs.Program.feed.Goals.{then-answer-ne0-via-then-answer-ne0, then-answer-ne0-via-else-answer-ne0+then-is_empty}

pub loop-left-init : goal.loop-left-init
loop-left-init c = feeding_begins _ _ _ _ _

pub loop-left-smaller : goal.loop-left-smaller
loop-left-smaller c =
    let on = on_left c.bytes-answer.result.number (length c.rest-left.result.now) c.if-answer-ne0.false c.if-is_empty.ensures in
    used_up c.loop-left.left.now c.rest-left.ensures c.bytes-answer.ensures (sym on)

pub loop-left-preserved : goal.loop-left-preserved
loop-left-preserved c =
    let on = on_left c.bytes-answer.result.number (length c.rest-left.result.now) c.if-answer-ne0.false c.if-is_empty.ensures in
    feeding_on c.loop-left.invariant c.bytes-answer.ensures (omega arith) (omega arith) c.print.ensures c.rest-left.ensures on

pub returns-then-answer-ne0 : goal.returns-then-answer-ne0
returns-then-answer-ne0 c =
    let number = c.bytes-answer.result.number in
    let n = length c.rest-left.result.now in
    let off : false ≡ (eqb number 0 && not (eqb n 0)) =
    elim c.then-answer-ne0.branch [
      | then-answer-ne0-via-then-answer-ne0 w ↦ off_refused number n w.if-answer-ne0.true
      | then-answer-ne0-via-else-answer-ne0+then-is_empty w ↦ off_none_left number n w.if-answer-ne0.false w.if-is_empty.ensures
    ]
    in
    feeding_ends c.loop-left.invariant c.bytes-answer.ensures (omega arith) (omega arith) c.print.ensures c.rest-left.ensures off
