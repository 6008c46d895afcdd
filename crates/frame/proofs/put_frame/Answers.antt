-- `frame::put_frame`: data and NUL, then the header and the head before them.
use native.Mathlib.Omega.{arith}
use Rattle.model.specs.Frames.{frame_record}
use Rattle.frame.proofs.Built.{recorded, wrote_frame}
use Rattle.frame.proofs.put_frame.Goals as goal

pub returns : goal.returns
unfolding frame_record
returns c =
    let w = wrote_frame c.args.content _ (omega arith) c.put_data-nul.ensures c.fill-end.ensures c.put_header.ensures in
    let e = w.0 in
    let f = c.put_record.ensures.ends in
    record { place = omega arith; put = recorded c.args.to _ w.1 c.put_record.ensures }
