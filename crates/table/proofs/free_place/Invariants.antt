-- The invariant: the marks that are left to make, over those that are made, are all of them.
use Rattle.std.proofs.Common.{◌≡◌}
use lib.ListN.{length, drop, replicate}
use Rattle.places.specs.Places.{place_count}
use Rattle.places.specs.Free.{marked_by_all}
use Rattle.table.proofs.Places.{each_holds}
use Rattle.table.proofs.free_place.Given as goal

abbrev pub invariant-loop-s : goal.invariant-loop-s
invariant-loop-s l =
    (length l.used ≡ place_count)
    × (marked_by_all l.used (drop l.s (each_holds l.table)) ≡ marked_by_all (replicate place_count 0) (each_holds l.table))
