-- `table::open` meets its contract.
use Rattle.std.proofs.Common.{sym, ap, ◌∙◌}
use Rattle.model.specs.Session.{is_closed}
use Rattle.model.specs.Local.{opening}
use Rattle.region.specs.Region.{session_of}
use Rattle.table.specs.Table.{reading_in, decode}
use Rattle.table.proofs.Regions.{part, part_good, part_is}
use Rattle.table.proofs.Alone.{became_alone, opened_fresh}
use Rattle.table.proofs.open.Goals as goal

pub open-requires : goal.open-requires
open-requires c = rw c.range_of.ensures (part_good _ _ c.requires.table c.requires.session)

pub returns : goal.returns
returns c =
    let t = c.args.table.now in
    let s = c.args.s in
    rw c.range_of.ensures
    (became_alone t s opening c.requires.table c.requires.session _ c.«open».ensures.0 (c.«open».ensures.1 (reading_in t)
    ∙ opened_fresh (decode t).shared (session_of (reading_in t) (part t s))
    (ap is_closed (sym (part_is t s c.requires.session)) ∙ c.requires.closed)))
