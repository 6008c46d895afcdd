-- `controller::tool_record` meets its contract.
use Rattle.std.proofs.Common.{refl, arith}
use Rattle.refusal.proofs.Numbers.{tool_refused}
use Rattle.controller.proofs.Calls.{refuse, finish}
use Rattle.controller.proofs.tool_record.Goals as goal

pub returns-in-Err : goal.returns-in-Err
returns-in-Err c =
    let n = tool_refused _ _ _ _ c.in-Err.ensures.number c.tool_record_kind-found.ensures.read in
    refuse _ _ _ c.in-Err.why n c.refused.ensures

pub returns-in-Ok : goal.returns-in-Ok
returns-in-Ok c =
    let n = tool_refused _ _ _ _ c.in-Ok.ensures.number c.tool_record_kind-found.ensures.read in
    finish _ _ _ n refl c.report-told.ensures.taken c.report-told.ensures.went (omega (arith, c.report-told.ensures.within))
