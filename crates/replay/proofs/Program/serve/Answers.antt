-- `replay::Program::serve`: a record is served as the model's program does; at the end no whole one is left.
use Rattle.replay.proofs.Records.{serving_begins, serving_on, serving_ends}
use Rattle.replay.proofs.Program.serve.Goals as goal

pub loop-slice-init : goal.loop-slice-init
loop-slice-init c = serving_begins _ _ _ _

pub loop-slice-preserved : goal.loop-slice-preserved
loop-slice-preserved c = serving_on c.loop-slice.invariant c.in-Some.ensures c.given.ensures

pub returns : goal.returns
returns c = let s = serving_ends c.loop-slice.invariant c.in_default.ensures in record { follows = s.0; left = s.1 }
