-- `frame::put_heading`: five writes.
use Rattle.std.proofs.Common.{arith}
use mathlib.Core.List.{append_assoc}
use Rattle.model.specs.Frames.{header}
use Rattle.text.proofs.Puts.{put_then, put_as}
use Rattle.frame.proofs.put_heading.Goals as goal

pub returns : goal.returns
unfolding header
returns c = record {
  place = omega arith;
  put =
      put_as (simp append_assoc)
      (put_then (put_then (put_then (put_then c.put_digits-at.ensures.1 c.put_digits-at-2.ensures.1) c.put_digits-at-3.ensures.1)
      c.fill-at.ensures.1) c.fill.ensures.1);
}
