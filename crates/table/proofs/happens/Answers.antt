-- `table::happens` meets its contract.
use Rattle.model.specs.Named.{place_of}
use Rattle.model.specs.World.{World}
use Rattle.frame.specs.Places.{event_in}
use Rattle.table.specs.Table.{noted}
use Rattle.table.proofs.Alone.{went_one}
use Rattle.table.proofs.Events.{takers_below, becomes_then}
use Rattle.table.proofs.Places.{copied_then}
use Rattle.table.proofs.happens.Goals as goal

pub returns : goal.returns
returns c =
    let kind = place_of c.args.kind in
    let e = c.tell-told.ensures in
    record {
      within = e.within;
      went = went_one
          (becomes_then (λ (w : World). noted w (event_in kind c.args.notice.now)) e.becomes c.note.ensures.becomes) e.bytes;
      taken = e.taken;
      few = rw e.taken (takers_below kind c.args.table.now);
      one_copy = copied_then _ _ e.one_copy c.note.ensures;
    }
