-- The payload, the count and the number are written, one after the other.
use Rattle.std.proofs.Common.{arith}
use Rattle.shared.proofs.Areas.{remember_put}
use Rattle.shared.proofs.remember.Goals as goal

pub returns : goal.returns
returns c =
    rw (c.put_little-2.ensures.1.output, c.put_little.ensures.1.output, c.copy.ensures.output, c.place_at.ensures)
    (remember_put c.args.area.now c.args.res.now c.little-number.result c.min-many.result c.requires c.little-number.ensures.0
    (omega (arith, c.little-number.ensures.1)) (omega (arith, c.min-many.ensures, c.count.ensures.0)))
