-- `frame::put_0065`: the frame is the model's.
use mathlib.Core.Path.{ap}
use native.Mathlib.Omega.{arith}
use Rattle.model.specs.Frames.{frame_record}
use Rattle.text.proofs.Puts.{put_as}
use Rattle.frame.proofs.Built.{is_0065}
use Rattle.frame.proofs.put_0065.Goals as goal

pub returns : goal.returns
returns c =
    let w = c.put_frame.ensures in
    let e = w.place in
    record { within = omega arith; put = put_as (ap (frame_record _) (is_0065 _ _)) w.put }
