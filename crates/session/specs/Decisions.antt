-- 01, "What a message does": what a run does to a session, decided over values. proofs/ ties it to the model.
use Rattle.std.specs.Prelude.{ℕ, Bool, true, false, cond, List, eqb, Option, Some, None}
use Rattle.std.proofs.Math.Option.{Option as Maybe, none, some}
use Rattle.model.specs.declared.Kind.{Kind}
use Rattle.model.specs.Named.{named}
use Rattle.model.specs.Messages as model
use Rattle.model.specs.Messages.{starts, stops, identifies, subscribes, unsubscribes, acknowledges, fetches, mirrors}
use Rattle.model.specs.Messages.{number_asked, entry_of, error_of}
use Rattle.message.specs.Meaning.{effect_listed, answered, meant, standing_of, error_number}
use Rattle.message.specs.declared.Standing.{Standing}
use Rattle.frame.specs.declared.Header.{Header}
use Rattle.session.specs.Control.{session, fresh}
use Rattle.session.specs.declared.Phase.{Phase}
use Rattle.session.specs.declared.Phase.TheVariants.{Closed, Opened, Started}
use Rattle.session.specs.declared.Session.{Session}
use Rattle.session.specs.declared.Deed.{Deed}
use Rattle.session.specs.declared.Deed.TheVariants as deed
use Rattle.session.specs.declared.Reply.{Reply}
use Rattle.session.specs.declared.Reply.TheVariants as reply
use Rattle.session.specs.declared.Decision.{Decision}

abbrev pub is_started : Phase → Bool
is_started Closed = false
is_started Opened = false
is_started Started = true

-- a session that is started, and not idle
abbrev pub begun : Session
begun = session Started 0

-- ==== decisions

-- that reply, and nothing besides but that the session is then `next`
abbrev pub replied : Option Reply → Session → Decision
replied r next = record { reply = r; next = next; begins = false; deed = None; identifies = false }

-- an accepted 0001
abbrev pub start : Decision
start = record { reply = Some reply.Started; next = begun; begins = true; deed = None; identifies = false }

-- an accepted 0050
abbrev pub identify : ℕ → Decision
identify mid = record { reply = Some (reply.Accepted mid); next = begun; begins = false; deed = None; identifies = true }

-- that reply, and a deed to the notices of one kind
abbrev pub deal : Option Reply → Kind → Deed → Decision
deal r kind d = record { reply = r; next = begun; begins = false; deed = Some (kind, d); identifies = false }

-- ==== the decision on a message

abbrev pub no_error : Maybe model.Error → Bool
no_error none = true
no_error (some error) = false

-- a message that is never answered has no other effect than that it came
abbrev pub refused : ℕ → Maybe model.Effect → Maybe model.Error → Decision
refused mid effect error = replied (cond (answered effect) (Some (reply.Error mid (error_number error))) None) begun

-- (02, P2: the number is that of the tightening that is asked for)
abbrev pub accepted : ℕ → ℕ → Bool → ℕ → Maybe model.Effect → Decision
accepted mid revision no_acknowledge number none = replied None begun
accepted mid revision no_acknowledge number (some starts) = replied None begun
accepted mid revision no_acknowledge number (some stops) = replied (Some (reply.Accepted mid)) fresh
accepted mid revision no_acknowledge number (some (identifies n)) = identify mid
accepted mid revision no_acknowledge number (some (subscribes kind n)) =
    deal (Some (reply.Accepted mid)) (named kind) (deed.Asks revision no_acknowledge)
accepted mid revision no_acknowledge number (some (unsubscribes kind n)) = deal (Some (reply.Accepted mid)) (named kind) deed.Drops
accepted mid revision no_acknowledge number (some (acknowledges kind)) = deal None (named kind) deed.Acks
accepted mid revision no_acknowledge number (some (fetches n)) = replied (Some (reply.Kept number)) begun
accepted mid revision no_acknowledge number (some mirrors) = replied (Some reply.Mirrored) begun

-- to one that is started: by the message's effect and its error
abbrev pub decided_started : ℕ → ℕ → Bool → ℕ → Maybe model.Effect → Maybe model.Error → Decision
decided_started mid revision no_acknowledge number effect error =
    cond (no_error error) (accepted mid revision no_acknowledge number effect) (refused mid effect error)

-- to one that is not: 0001 alone counts, and one with an error changes nothing
abbrev pub decided_opened : Session → ℕ → Maybe model.Error → Decision
decided_opened x mid error =
    cond (eqb mid 0001) (cond (no_error error) start (replied (Some (reply.Error mid (error_number error))) x)) (replied None x)

abbrev pub decided : Phase → Session → ℕ → ℕ → Bool → ℕ → Maybe model.Error → Decision
decided Closed x mid revision no_acknowledge number error = replied None x
decided Opened x mid revision no_acknowledge number error = decided_opened x mid error
decided Started x mid revision no_acknowledge number error =
    decided_started mid revision no_acknowledge number (effect_listed (entry_of mid)) error

-- of a run with that header, if it is a message, and that data field, by what the tests look at besides; what is dropped changes nothing
unfoldable pub decision : Session → Standing → Option Header → List ℕ → Decision
decision x standing None bs = replied None x
decision x standing (Some h) bs =
    decided x.phase x h.mid h.revision h.no_acknowledge (meant standing.common (number_asked bs))
    (error_of (standing_of standing) h.mid h.size h.revision bs)
