-- `frame::put_unreported`: one field more in each round.
use Rattle.std.proofs.Common.{arith}
use Rattle.model.specs.Frames.{nothing}
use Rattle.text.proofs.Puts.{put_length}
use Rattle.frame.proofs.Fields.{fixed, of_each, fixed_none, one_more, room_left}
use Rattle.frame.proofs.put_unreported.Goals as goal

pub loop-i-init : goal.loop-i-init
loop-i-init c = fixed_none _

pub put_filled-at-requires : goal.put_filled-at-requires
put_filled-at-requires c =
    let l = c.loop-i in
    let left = room_left l.i c.args.count c.args.width (omega arith) in
    omega (arith, left, put_length (l.invariant.put nothing), l.invariant.place)

pub loop-i-preserved : goal.loop-i-preserved
loop-i-preserved c =
    of_each (λ x. one_more x c.args.field c.loop-i.i c.args.width (fixed c.loop-i.invariant x) c.put_filled-at.ensures)
