-- `frame::put_later`: the controller's fields, and those of a result.
use Rattle.model.specs.Records.{result_items}
use Rattle.model.specs.Layouts.{controller_rows, torque_rows, angle_rows, time_rows, characters, data_from}
use Rattle.frame.specs.Layout.{payloads, held, results, later, program_rows}
use Rattle.frame.proofs.Fields.{fixed, fields_then}
use Rattle.frame.proofs.put_later.Goals as goal

pub returns : goal.returns
unfolding data_from characters
returns c =
    let x = held result_items (payloads c.args.settings.now c.args.told.now) in
    fields_then x 1 controller_rows (later 4 43) c.put_controller-at.ensures
    (fields_then x 4 (program_rows 4) (later 7 40) c.put_program-at.ensures
    (fields_then x 7 (later 7 2) (later 9 38) (fixed c.put_strategy-at.ensures x)
    (fields_then x 9 (results 7 2) (later 11 36) c.put_batch-at.ensures
    (fields_then x 11 (later 11 10) (later 21 26) c.put_later_statuses-at.ensures
    (fields_then x 21 torque_rows (later 25 22) c.put_torques-at.ensures
    (fields_then x 25 angle_rows (later 29 18) c.put_angles-at.ensures
    (fields_then x 29 (later 29 12) (later 41 6) (fixed c.put_unmonitored-at.ensures x)
    (fields_then x 41 (later 41 4) time_rows c.put_numbers-at.ensures c.put_times.ensures))))))))
