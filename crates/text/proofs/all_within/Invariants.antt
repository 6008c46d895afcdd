-- The test of the bytes that are left is the test of all.
use Rattle.std.proofs.Common.{◌≡◌, drop}
use Rattle.model.specs.Bytes.{within, all}
use Rattle.text.proofs.all_within.Given as goal

abbrev pub invariant-loop-b : goal.invariant-loop-b
invariant-loop-b l = all (within l.least l.greatest) (drop l.b-index l.s) ≡ all (within l.least l.greatest) l.s
