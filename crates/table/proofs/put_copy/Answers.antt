-- `table::put_copy` meets its contract.
use Rattle.text.proofs.Puts.{put_as}
use Rattle.table.specs.Table.{region_in, reading_in, settings_in}
use Rattle.table.proofs.Says.{asked_said}
use Rattle.table.proofs.put_copy.Goals as goal

pub returns : goal.returns
returns c =
    let to = c.args.to in
    let t = c.args.table.now in
    let w = rw (c.asked_by-asked.ensures, c.settings.ensures.0) at c.put_copy.ensures in
    record {
      within = w.within;
      bytes = put_as (asked_said (reading_in t) (settings_in t) to.session c.args.kind (region_in to.session t) c.args.notice.now
          c.requires.subscribed) w.put;
    }
