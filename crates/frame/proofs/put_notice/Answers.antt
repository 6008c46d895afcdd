-- `frame::put_notice`: by kind and revision, what was written is the notice's data.
use native.Mathlib.Omega.{arith}
use Rattle.frame.specs.Layout.{payloads}
use Rattle.frame.proofs.Contents.{identifier_alone, identifier_parts, result_fields, revised_fields, alarm_fields}
use Rattle.frame.proofs.put_notice.Goals as goal

pub returns-in-Identifiers : goal.returns-in-Identifiers
returns-in-Identifiers c =
    let a = c.args in
    identifier_alone (payloads a.settings.now a.told.now) a.asked c.in-Identifiers.is (omega arith) c.requires.whole.1 c.copy.ensures

pub returns-in-Identifiers-2 : goal.returns-in-Identifiers-2
returns-in-Identifiers-2 c =
    let a = c.args in
    identifier_parts (payloads a.settings.now a.told.now) a.asked c.in-Identifiers.is (omega arith) c.put_parts.ensures

pub returns-in-Tightenings : goal.returns-in-Tightenings
returns-in-Tightenings c =
    let a = c.args in
    result_fields (payloads a.settings.now a.told.now) a.asked c.in-Tightenings.is (omega arith) c.put_result.ensures

pub returns-in-Tightenings-2 : goal.returns-in-Tightenings-2
returns-in-Tightenings-2 c =
    let a = c.args in
    revised_fields (payloads a.settings.now a.told.now) a.asked c.in-Tightenings.is (omega arith) c.put_later-at.ensures
    c.put_added.ensures

pub returns-in-Alarms : goal.returns-in-Alarms
returns-in-Alarms c =
    let a = c.args in
    alarm_fields (payloads a.settings.now a.told.now) a.asked c.in-Alarms.is c.put_alarm.ensures
