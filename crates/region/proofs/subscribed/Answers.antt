-- `region::subscribed`: the kind is the one of that place.
use Rattle.std.proofs.Common.{◌∙◌, ap, refl}
use Rattle.model.specs.Notices.{is_subscribed}
use Rattle.lane.specs.Lane.{lane_of}
use Rattle.region.proofs.Walks.{in_order, telling_none, telling_next, all_told}
use Rattle.region.proofs.subscribed.Goals as goal

pub loop-kind-init : goal.loop-kind-init
loop-kind-init c = λ read. telling_none read _ _ refl

pub loop-kind-preserved : goal.loop-kind-preserved
loop-kind-preserved c = λ read.
    rw c.place.ensures
    (telling_next read _ (c.loop-kind.invariant read) c.loop-kind-test.true (in_order _ c.loop-kind-test.true)
    (c.is_subscribed.ensures (read _) _ ∙ ap is_subscribed (ap (lane_of read _) c.lane.ensures.bytes)))

pub returns : goal.returns
returns c = λ read. all_told read _ (c.loop-kind.invariant read) c.loop-kind-test.false
