-- `frame::put_data`: the numbers of a reply that has no field numbers.
use Rattle.frame.specs.Layout.{payloads}
use Rattle.frame.proofs.Contents.{data_as, refused, accepted}
use Rattle.frame.proofs.put_data.Goals as goal

pub returns-in-Refused : goal.returns-in-Refused
returns-in-Refused c =
    let b = payloads c.args.settings.now c.args.told.now in
    data_as b c.in-Refused.is (refused b _ _ c.put_refused.ensures)

pub returns-in-Accepted : goal.returns-in-Accepted
returns-in-Accepted c =
    let b = payloads c.args.settings.now c.args.told.now in
    data_as b c.in-Accepted.is (accepted b _ c.put_digits.ensures)
