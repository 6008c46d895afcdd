-- `frame::put_copy`: whatever the kind.
use mathlib.Core.Path.{ap}
use native.Mathlib.Omega.{arith}
use Rattle.model.specs.Frames.{frame_record}
use Rattle.text.proofs.Puts.{put_as}
use Rattle.frame.proofs.Built.{copy_short, is_copy}
use Rattle.frame.proofs.put_copy.Goals as goal

pub returns : goal.returns
returns c =
    let a = c.args in
    let short = copy_short a.asked in
    let w = c.put_frame.ensures in
    let e = w.place in
    record {
      within = omega arith;
      put = put_as (ap (frame_record a.to.session) (is_copy a.settings.now a.place.now a.asked c.requires.place)) w.put;
    }
