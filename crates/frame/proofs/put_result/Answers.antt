-- `frame::put_result`: the controller's fields, and those of a result.
use Rattle.model.specs.Records.{result_items}
use Rattle.model.specs.Layouts.{controller_rows, torque_rows, angle_rows, time_rows, characters, data_from}
use Rattle.frame.specs.Layout.{payloads, held, results, program_rows}
use Rattle.frame.proofs.Fields.{fields_then}
use Rattle.frame.proofs.put_result.Goals as goal

pub returns : goal.returns
unfolding data_from characters
returns c =
    let x = held result_items (payloads c.args.settings.now c.args.told.now) in
    fields_then x 1 controller_rows (results 4 20) c.put_controller-at.ensures
    (fields_then x 4 (program_rows 2) (results 7 17) c.put_program-at.ensures
    (fields_then x 7 (results 7 2) (results 9 15) c.put_batch-at.ensures
    (fields_then x 9 (results 9 3) (results 12 12) c.put_statuses-at.ensures
    (fields_then x 12 torque_rows (results 16 8) c.put_torques-at.ensures
    (fields_then x 16 angle_rows (results 20 4) c.put_angles-at.ensures
    (fields_then x 20 time_rows (results 22 2) c.put_times-at.ensures c.put_end.ensures))))))
