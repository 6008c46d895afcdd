-- `frame::put_9999`: the header as it came, in an output record.
use Rattle.std.proofs.Common.{arith}
use Rattle.model.specs.Frames.{frame_record}
use Rattle.text.proofs.Puts.{put_then}
use Rattle.frame.proofs.Built.{recorded}
use Rattle.frame.proofs.Fields.{front_length}
use Rattle.frame.proofs.put_9999.Goals as goal

pub returns : goal.returns
unfolding frame_record
returns c =
    let l = front_length c.args.run.now _ c.requires.1 in
    record {
      place = omega arith;
      put = recorded c.args.to _ (put_then c.copy-at.ensures c.fill-end.ensures.1) c.put_record.ensures;
    }
