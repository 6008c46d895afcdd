-- `lane::take`: the notice is held, or not, and what is said of it is the model's.
use mathlib.Core.Path.{ap}
use mathlib.Core.Logic.{inl, inr}
use Rattle.model.proofs.Named.{place_within}
use Rattle.lane.specs.Lane.{is_held}
use Rattle.lane.proofs.Events.{unheld_takes, held_pushing, held_takes}
use Rattle.lane.proofs.take.Goals as goal

pub put-requires : goal.put-requires
put-requires c = rw c.in-Opens.is at (held_pushing (place_within c.args.kind) c.requires (ap is_held c.in-Opens.is))

pub put-requires-in-Waits : goal.put-requires-in-Waits
put-requires-in-Waits c = rw c.in-Waits.is at (held_pushing (place_within c.args.kind) c.requires (ap is_held c.in-Waits.is))

pub returns-in-Not : goal.returns-in-Not
returns-in-Not c =
    unheld_takes (place_within c.args.kind) c.requires (elim c.in-Not.is [ inl e ↦ ap is_held e | inr e ↦ ap is_held e ])

pub returns-in-Opens : goal.returns-in-Opens
returns-in-Opens c = held_takes (place_within c.args.kind) c.requires (ap is_held c.in-Opens.is) (rw c.in-Opens.is c.put.ensures)

pub returns-in-Waits : goal.returns-in-Waits
returns-in-Waits c = held_takes (place_within c.args.kind) c.requires (ap is_held c.in-Waits.is) (rw c.in-Waits.is c.put-in-Waits.ensures)
