-- `frame::put_record`: two writes before what stands there.
use Rattle.std.proofs.Common.{arith, refl}
use Rattle.text.proofs.Puts.{put_then}
use Rattle.frame.proofs.put_record.Goals as goal

pub returns : goal.returns
returns c =
    let w = put_then c.put_little-at.ensures.1 c.put_little.ensures.1 in
    let g = w.place in
    record { ends = refl; head = record { place = refl; put = record { output = w.output; place = omega arith } } }
