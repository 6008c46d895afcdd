-- The invariant: the test of the regions that are left is the test of all.
use Rattle.std.proofs.Common.{ℕ}
use Rattle.model.specs.Limits.{session_count}
use Rattle.text.proofs.Areas.{Passing}
use Rattle.region.specs.Region.{region_size, region_formed}
use Rattle.table.specs.Table.{region_at}
use Rattle.table.proofs.is_formed.Given as goal

abbrev pub invariant-loop-s : goal.invariant-loop-s
invariant-loop-s l = Passing (λ (s : ℕ). region_formed) region_at (λ (s : ℕ). region_size) session_count l.table l.s
