-- `lane::deal`: the step is carried out, and is the model's.
use Rattle.model.specs.Named.{place_of}
use Rattle.lane.specs.Lane.{Shifts}
use Rattle.lane.proofs.Lanes.{shifting, storing, deals, not_shifted}
use Rattle.lane.proofs.deal.Goals as goal
use Rattle.lane.proofs.deal.Goals.{then-step, else-step}

pub shift_down-requires : goal.shift_down-requires
shift_down-requires c = shifting _ _ _ _ _ c.requires c.load-x.ensures c.dealt-step.ensures c.if-step.true

pub store-requires : goal.store-requires
store-requires c =
    let s : Shifts (place_of c.args.kind) c.load-x.result.held c.dealt-step.result.shift c.args.lane.now c.if-step.lane =
    elim c.if-step.branch [
      | then-step w ↦ rw (w.if-step.true, w.lane-is) w.shift_down.ensures
      | else-step w ↦ rw (w.if-step.false, w.lane-is) (not_shifted _ _ _ c.requires.size)
    ] in
    storing _ _ _ _ _ c.requires c.load-x.ensures c.dealt-step.ensures s

pub returns : goal.returns
returns c =
    let s : Shifts (place_of c.args.kind) c.load-x.result.held c.dealt-step.result.shift c.args.lane.now c.if-step.lane =
    elim c.if-step.branch [
      | then-step w ↦ rw (w.if-step.true, w.lane-is) w.shift_down.ensures
      | else-step w ↦ rw (w.if-step.false, w.lane-is) (not_shifted _ _ _ c.requires.size)
    ] in
    deals _ _ _ _ _ c.requires c.load-x.ensures c.dealt-step.ensures s c.store.ensures
