-- `controller::tick` meets its contract.
use Rattle.std.proofs.Common.{refl, arith}
use Rattle.controller.proofs.Calls.{refuse, finish}
use Rattle.controller.proofs.tick.Goals as goal

pub returns-in-Err : goal.returns-in-Err
returns-in-Err c = refuse _ _ _ c.in-Err.why c.in-Err.ensures.number c.refused.ensures

pub returns : goal.returns
returns c =
    finish _ _ _ c.in_default.ensures.number refl refl c.tick-at.ensures.went (omega (arith, c.tick-at.ensures.within))
