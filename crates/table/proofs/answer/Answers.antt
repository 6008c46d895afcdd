-- `table::answer` meets its contract.
use Rattle.table.proofs.Receives.{run_is, reply_lent, answered, due_said, none_said}
use Rattle.table.proofs.answer.Goals as goal

pub put_reply-at-requires : goal.put_reply-at-requires
put_reply-at-requires c =
    reply_lent c.requires c.settings.ensures.1
    (run_is c.requires c.region_of.ensures.bytes c.run_bytes-kept.ensures c.ended_in-run.ensures) c.told_by-told.ensures

pub returns-in-Some : goal.returns-in-Some
returns-in-Some c =
    answered c.requires c.settings.ensures.0
    (run_is c.requires c.region_of.ensures.bytes c.run_bytes-kept.ensures c.ended_in-run.ensures)
    c.told_by-told.ensures c.put_reply-at.ensures.within c.put_reply-at.ensures.put
    (due_said c.requires c.in-Some.is c.say_one.ensures)

pub returns-in-None : goal.returns-in-None
returns-in-None c =
    answered c.requires c.settings.ensures.0
    (run_is c.requires c.region_of.ensures.bytes c.run_bytes-kept.ensures c.ended_in-run.ensures)
    c.told_by-told.ensures c.put_reply-at.ensures.within c.put_reply-at.ensures.put
    (none_said c.requires c.in-None.is)
