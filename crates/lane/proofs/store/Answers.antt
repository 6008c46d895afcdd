-- `lane::store`: three bytes, and the revision.
use borrow.Author.Rules.{rules}
use native.Mathlib.Omega.{arith}
use Rattle.model.specs.Named.{place_of}
use Rattle.lane.proofs.Controls.{stores}
use Rattle.lane.proofs.store.Goals as goal

pub returns : goal.returns
returns c =
    rw (c.put_little.ensures.1.output, c.copy_from_slice.ensures.after)
    (stores (place_of c.args.kind) c.args.lane.now c.args.x _ c.requires.size c.requires.control c.requires.formed
    (search rules) (search rules) (omega arith))
