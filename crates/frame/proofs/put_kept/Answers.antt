-- `frame::put_kept`: the statuses between the others.
use lib.ListN.{drop}
use Rattle.model.specs.Records.{tightening_items}
use Rattle.model.specs.Layouts.{kept_rows}
use Rattle.frame.specs.Layout.{told_values, results, kept_first, kept_last}
use Rattle.frame.proofs.Fields.{fields_then}
use Rattle.frame.proofs.put_kept.Goals as goal

pub returns : goal.returns
returns c =
    let x = told_values tightening_items c.args.told.now in
    fields_then x 1 (kept_first c.args.number) (drop 3 kept_rows) c.put_kept_batch-at.ensures
    (fields_then x 5 (results 9 3) kept_last c.put_statuses-at.ensures c.put_kept_end.ensures)
