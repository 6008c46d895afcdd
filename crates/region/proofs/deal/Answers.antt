-- `region::deal`: what the deed does to the lane it does to the region.
use Rattle.model.specs.Named.{place_of}
use Rattle.model.proofs.Named.{place_within}
use Rattle.region.proofs.Walks.{dealt_to}
use Rattle.region.proofs.deal.Goals as goal

pub returns : goal.returns
returns c = λ read.
    let kind = place_of c.args.kind in
    dealt_to read (place_within c.args.kind) c.requires c.range_of.ensures (c.deal.ensures (read kind))
