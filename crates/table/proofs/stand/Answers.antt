-- `table::stand` meets its contract, by whether it stands already.
use Rattle.table.proofs.Places.{put_there, stands_there}
use Rattle.table.proofs.stand.Goals as goal

pub returns-in-Some : goal.returns-in-Some
returns-in-Some c =
    let stands = rw c.in-Some.is at c.requires.stands in
    rw c.in-Some.is (stands_there _ c.requires.table stands)

pub returns-in-None : goal.returns-in-None
returns-in-None c =
    rw c.in-None.is (put_there _ c.requires.table c.free_place-free.ensures.0 c.free_place-free.ensures.1 c.put.ensures)
