-- `controller::bytes` meets its contract.
use Rattle.std.proofs.Common.{refl, arith}
use Rattle.refusal.proofs.Numbers.{bytes_refused}
use Rattle.controller.proofs.Calls.{refuse, finish}
use Rattle.controller.proofs.bytes.Goals as goal

pub returns-in-Err : goal.returns-in-Err
returns-in-Err c = refuse _ _ _ c.in-Err.why (bytes_refused _ _ _ _ c.in-Err.ensures.number) c.refused.ensures

pub returns : goal.returns
returns c =
    finish _ _ _ (bytes_refused _ _ _ _ c.in_default.ensures.number) c.consumed.ensures refl c.receive-at.ensures.went
    (omega (arith, c.receive-at.ensures.within))
