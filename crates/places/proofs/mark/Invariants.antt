-- The marks that are left to make, over those that are made, are all of them.
use Rattle.std.proofs.Common.{◌≡◌, drop}
use Rattle.places.specs.Free.{marked}
use Rattle.places.proofs.mark.Given as goal

abbrev pub invariant-loop-p : goal.invariant-loop-p
invariant-loop-p l = marked l.used (drop l.p-index l.held) ≡ marked l.fn.used l.held
