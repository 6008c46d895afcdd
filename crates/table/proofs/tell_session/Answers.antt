-- `table::tell_session` meets its contract, by whether it is sent.
use Rattle.std.proofs.Common.{sym, ◌∙◌}
use Rattle.table.proofs.Passes.{told_nothing, told_copy}
use Rattle.table.proofs.tell_session.Goals as goal
use Rattle.table.proofs.tell_session.Goals.{then-is_told, else-is_told}

pub returns : goal.returns
returns c =
    elim c.if-is_told.branch [
      | then-is_told w ↦
          rw (w.out-is, w.next-is, c.is_taken.ensures)
          (told_copy c.args.kind c.requires c.keep-take.ensures (sym c.is_told.ensures ∙ w.if-is_told.true) w.asked_by-asked.ensures
          w.put_event-next.ensures)
      | else-is_told w ↦
          rw (w.out-is, w.next-is, c.is_taken.ensures)
          (told_nothing c.args.kind c.requires c.keep-take.ensures (sym c.is_told.ensures ∙ w.if-is_told.false))
    ]
