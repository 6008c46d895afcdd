-- Event numbers are for speaking of histories only: no answer and no byte shows them, and a program need not keep them. Here they are
-- forgotten: each notice is numbered 0, and so is the count of events.
use Rattle.std.specs.Prelude.{ℕ, List, [], ◌∷◌, map}
use Rattle.model.specs.Events.{Notice}
use Rattle.model.specs.Sharing.{unnumbered}
use Rattle.model.specs.Notices.{empty, busy, Subscription, unsubscribed, plain, acked}
use Rattle.model.specs.Session.{Session, closed, opened, started, Emission}
use Rattle.model.specs.Row.{Tagged}
use Rattle.model.specs.World.{World}
use Rattle.model.specs.Calls.{output, Answer}

abbrev pub erase : Notice → Notice
erase n = record { id = 0; event = n.event }

abbrev pub erase_sub : Subscription → Subscription
erase_sub unsubscribed = unsubscribed
erase_sub (plain revision) = plain revision
erase_sub (acked revision empty) = acked revision empty
erase_sub (acked revision (busy x clock waiting)) = acked revision (busy (erase x) clock (map erase waiting))

abbrev pub erase_session : Session → Session
erase_session closed = closed
erase_session (opened idle run) = opened idle run
erase_session (started idle run subs) = started idle run (map erase_sub subs)

abbrev pub erase_world : World → World
erase_world w = record { shared = unnumbered w.shared; sessions = map erase_session w.sessions }

-- what is seen of a run: its answers and its bytes
abbrev pub observed : List (Answer × List (Tagged Emission)) → List (Answer × List ℕ)
observed [] = []
observed (r ∷ rs) = (r.0, output r.1) ∷ observed rs
