-- `table::note` meets its contract, by the kind.
use Rattle.std.proofs.Common.{refl, ap, ◌∙◌}
use Rattle.model.specs.Named.{place_of}
use Rattle.frame.specs.Places.{place_size}
use Rattle.table.proofs.Regions.{shared_good, front_region}
use Rattle.table.proofs.Events.{noted_identifier, comes_next, noted_tightening, noted_alarm}
use Rattle.table.proofs.note.Goals as goal

pub put_in_force-requires : goal.put_in_force-requires
put_in_force-requires c =
    let kind = ap place_of c.in-Identifiers.is in (shared_good _ c.requires.table, c.requires.place ∙ ap place_size kind)

pub returns-in-Identifiers : goal.returns-in-Identifiers
returns-in-Identifiers c =
    let p = c.requires in
    record {
      becomes = noted_identifier _ _ _ _ p (ap place_of c.in-Identifiers.is) c.put_in_force.ensures;
      regions = front_region c.args.table.now c.put_in_force.new.area p.table.size c.put_in_force.ensures.area.size;
    }

pub remember-requires : goal.remember-requires
remember-requires c = comes_next c.requires (ap place_of c.in-Tightenings.is)

pub returns-in-Tightenings : goal.returns-in-Tightenings
returns-in-Tightenings c =
    let p = c.requires in
    record {
      becomes = noted_tightening _ _ _ _ p (ap place_of c.in-Tightenings.is) c.remember.ensures;
      regions = front_region c.args.table.now c.remember.new.area p.table.size c.remember.ensures.area.size;
    }

pub returns-in-Alarms : goal.returns-in-Alarms
returns-in-Alarms c = record { becomes = noted_alarm c.requires (ap place_of c.in-Alarms.is); regions = λ s. refl }
