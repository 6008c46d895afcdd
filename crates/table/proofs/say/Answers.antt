-- `table::say` meets its contract: the kind is the one of that place.
use Rattle.region.proofs.Walks.{in_order}
use Rattle.table.proofs.Says.{open_lent, saying_due, saying_none_due}
use Rattle.table.proofs.say.Goals as goal
use Rattle.table.proofs.say.Goals.{then-due-place, else-due-place}

pub say_one-at-requires : goal.say_one-at-requires
say_one-at-requires c =
    let few = c.loop-kind-test.true in
    let there = in_order c.loop-kind.kind-index few in
    let due = rw (c.place.ensures, there) at c.if-due-place.true in
    rw there (open_lent c.requires c.loop-kind.invariant few due)

pub loop-kind-preserved : goal.loop-kind-preserved
loop-kind-preserved c =
    let few = c.loop-kind-test.true in
    let there = in_order c.loop-kind.kind-index few in
    elim c.if-due-place.branch [
      | then-due-place w ↦
          let due = rw (c.place.ensures, there) at w.if-due-place.true in
          let said = rw there at w.say_one-at.ensures in
          rw (w.out-is, w.at-is) (saying_due c.requires c.loop-kind.invariant few due said)
      | else-due-place w ↦
          let due = rw (c.place.ensures, there) at w.if-due-place.false in
          rw (w.out-is, w.at-is) (saying_none_due c.requires c.loop-kind.invariant few due)
    ]
