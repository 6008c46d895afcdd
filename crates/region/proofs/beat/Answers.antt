-- `region::beat`: the kind is the one of that place.
use Rattle.std.proofs.Common.{rules, refl}
use Rattle.model.specs.Notices.{beats}
use Rattle.model.proofs.Named.{place_within}
use Rattle.frame.specs.Places.{notice_in}
use Rattle.region.proofs.Areas.{lane_lent}
use Rattle.region.proofs.Walks.{in_order, dealing_none, dealing_next, dealt_to, dealt_to_all}
use Rattle.region.proofs.beat.Goals as goal

pub loop-kind-init : goal.loop-kind-init
loop-kind-init c = λ read. dealing_none read (λ kind. beats) _ _ refl c.requires

pub beat-requires : goal.beat-requires
beat-requires c = let good = (c.loop-kind.invariant notice_in).changes.becomes.good in search (rules, lane_lent, place_within)

pub loop-kind-preserved : goal.loop-kind-preserved
loop-kind-preserved c = λ read.
    let w = c.loop-kind.invariant read in
    let few = place_within _ in
    rw c.place.ensures
    (dealing_next read (λ kind. beats) w c.loop-kind-test.true (in_order _ c.loop-kind-test.true)
    (dealt_to read few w.changes.becomes.good c.range_of.ensures (c.beat.ensures (read _))))

pub returns : goal.returns
returns c = λ read. dealt_to_all read (λ kind. beats) (c.loop-kind.invariant read) c.loop-kind-test.false
