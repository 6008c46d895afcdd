-- `controller::hang_up` meets its contract.
use Rattle.std.proofs.Common.{refl, arith}
use Rattle.controller.proofs.Calls.{refuse, finish, hung_up_quietly}
use Rattle.controller.proofs.hang_up.Goals as goal

pub returns-in-Err : goal.returns-in-Err
returns-in-Err c = refuse _ _ _ c.in-Err.why c.in-Err.ensures.number c.refused.ensures

pub returns : goal.returns
returns c =
    finish _ _ _ c.in_default.ensures.number refl refl (hung_up_quietly _ _ _ c.hang_up-2.ensures) (omega arith)
