-- `table::open_notice` meets its contract, by whether the slot is a place.
use Rattle.std.proofs.Common.{ap}
use Rattle.model.specs.Named.{place_of}
use Rattle.model.proofs.Named.{place_within}
use Rattle.table.proofs.Regions.{length_places}
use Rattle.table.proofs.Says.{slot_place, placed}
use Rattle.table.proofs.open_notice.Goals as goal

pub at-requires : goal.at-requires
at-requires c =
    let kind = ap place_of (placed _ c.if-eq.ensures) in (
      length_places c.args.table.now c.requires.table.size,
      rw (c.from.ensures, c.first-slot.ensures, c.lane.ensures.bytes, c.region_of.ensures.bytes)
          (slot_place (place_within c.args.kind) c.requires kind),
    )
