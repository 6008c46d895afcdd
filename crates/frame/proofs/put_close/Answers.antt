-- `frame::put_close`: a record's head, and nothing behind it.
use Rattle.model.specs.Frames.{close_record}
use Rattle.text.proofs.Puts.{put_nothing}
use Rattle.frame.proofs.Built.{recorded}
use Rattle.frame.proofs.put_close.Goals as goal

pub returns : goal.returns
unfolding close_record
returns c = record {
  place = c.put_record.ensures.ends;
  put = recorded c.args.to _ (put_nothing _ _) c.put_record.ensures;
}
