-- `serifladder::serifladder_start`: what it makes is a start, and an output of no bytes stays one.
use Rattle.std.proofs.Common.{rules}
use Rattle.std.proofs.lemmas.List.{nil_from_length}
use Rattle.model.specs.Calls.{start}
use Rattle.serifladder.proofs.serifladder_start.Goals as goal

pub returns : goal.returns
returns c =
    let none = nil_from_length c.answered.new.output c.answered.auto.output in
    rw none at (c.answered.ensures (start c.args.settings.now) (search rules))
