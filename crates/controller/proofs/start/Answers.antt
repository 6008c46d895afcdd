-- `controller::start` meets its contract.
use Rattle.std.proofs.Common.{refl, [], arith}
use Rattle.controller.proofs.Calls.{refuse, finish, started_quietly}
use Rattle.controller.proofs.start.Goals as goal

pub returns-in-Err : goal.returns-in-Err
returns-in-Err c = refuse _ _ _ c.in-Err.why c.in-Err.ensures.number c.refused.ensures

pub returns : goal.returns
returns c =
    finish _ _ [] c.in_default.ensures.number refl refl
    (started_quietly _ [] _ c.in_default.ensures.ready.reads (rw c.payload.ensures at c.start-2.ensures)) (omega arith)
