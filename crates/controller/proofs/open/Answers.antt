-- `controller::open` meets its contract.
use Rattle.std.proofs.Common.{refl, arith}
use Rattle.controller.proofs.Calls.{refuse, finish, opened_quietly}
use Rattle.controller.proofs.open.Goals as goal

pub returns-in-Err : goal.returns-in-Err
returns-in-Err c = refuse _ _ _ c.in-Err.why c.in-Err.ensures.number c.refused.ensures

pub returns : goal.returns
returns c =
    finish _ _ _ c.in_default.ensures.number refl refl (opened_quietly _ _ _ c.open-2.ensures) (omega arith)
