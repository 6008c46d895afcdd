-- `frame::put_again`: the record once more, and the kind over the one in its head.
use Rattle.std.proofs.Common.{arith, ◌-◌, drop, length-drop}
use Rattle.frame.proofs.Built.{repeated}
use Rattle.frame.proofs.Fields.{front_length}
use Rattle.frame.proofs.put_again.Goals as goal

pub returns : goal.returns
returns c =
    let a = c.args in
    let n = front_length (drop a.from a.out.now) (a.to.at - a.from) (rw length-drop (omega arith)) in
    let e = c.repeat-end.ensures.place in
    record { place = omega arith; put = λ bs w. repeated a.to.session w c.repeat-end.ensures c.put_little.ensures.1 }
