-- The result was copied to the place.
use Rattle.places.proofs.Areas.{is_put}
use Rattle.places.proofs.put.Goals as goal

pub returns : goal.returns
returns c = is_put c.args.p c.args.res.now c.args.area.now c.requires c.copy.ensures
