-- `replay::whole`: the record is cut off where it is whole.
use Rattle.replay.proofs.Sizes.{parted}
use Rattle.replay.proofs.whole.Goals as goal

pub returns : goal.returns
returns c = parted _ _ c.in_ok-payload.ensures c.if-payload-gt-PAYLOAD_LONGEST.false _ c.split_at_checked.ensures.cases
