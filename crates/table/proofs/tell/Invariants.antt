-- The invariant: what the sessions come to that are left is what all come to, and what is left to add up of those that take the event; and
-- the copy that was written last stands before the place, and a result that is held in its place.
use Rattle.std.proofs.Common.{◌≡◌, IfSome}
use Rattle.model.specs.Named.{place_of}
use Rattle.model.specs.Kinds.{tightenings, kind_at, copy_most}
use Rattle.model.specs.Local.{event}
use Rattle.frame.specs.Places.{event_in}
use Rattle.table.specs.Table.{settings_in}
use Rattle.table.specs.Passes.{Last, Stands}
use Rattle.table.proofs.Turns.{Turns}
use Rattle.table.proofs.Events.{Summing}
use Rattle.table.proofs.Places.{Copying}
use Rattle.table.proofs.tell.Given as goal

abbrev pub invariant-loop-session : goal.invariant-loop-session
invariant-loop-session l =
    let kind = place_of l.kind in
    record {
      turns : Turns (copy_most (kind_at kind)) (event (event_in kind l.notice)) l.initial.table l.initial.out l.at l.table l.out
          l.next.to.at l.session;
      sums : Summing kind l.initial.table l.table l.session l.taken;
      last : IfSome l.next.copied (Last (settings_in l.table) kind l.notice l.next.to.at l.out);
      stands : kind ≡ tightenings → IfSome l.next.place (Stands l.table l.notice);
      one_copy : Copying kind l.initial.table l.table l.next.place l.session;
    }
