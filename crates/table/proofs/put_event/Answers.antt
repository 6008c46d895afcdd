-- `table::put_event` meets its contract, by whether the last copy was asked for alike.
use Rattle.table.proofs.Again.{alike, again_lent, copied_again}
use Rattle.table.proofs.put_event.Goals as goal

pub put_again-requires : goal.put_again-requires
put_again-requires c = let last = rw c.in-Some.is at c.requires.last in again_lent c.requires last

pub returns-then-eq : goal.returns-then-eq
returns-then-eq c =
    let last = rw c.in-Some.is at c.requires.last in
    copied_again c.requires last (alike c.if-eq.ensures) c.put_again.ensures
