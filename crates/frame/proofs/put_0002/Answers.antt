-- `frame::put_0002`: the frame is the model's.
use mathlib.Core.Path.{ap}
use Rattle.model.specs.Frames.{frame_record}
use Rattle.text.proofs.Puts.{put_as}
use Rattle.frame.proofs.Built.{is_0002}
use Rattle.frame.proofs.put_0002.Goals as goal

pub returns : goal.returns
returns c =
    let w = c.put_frame.ensures in
    record { place = w.place; put = put_as (ap (frame_record _) (is_0002 _)) w.put }
