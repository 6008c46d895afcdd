-- `table::receive` meets its contract, by whether a run ends.
use Rattle.table.proofs.Receives.{piece_is, goes_on_so}
use Rattle.table.proofs.receive.Goals as goal

pub returns-then-end-bytes : goal.returns-then-end-bytes
returns-then-end-bytes c = rw (piece_is _ _ c.requires.1 c.if-end-bytes.true) at c.end_run.ensures

pub returns : goal.returns
returns c = goes_on_so c.requires.0 c.requires.1 c.if-end-bytes.false c.lengthen.ensures
