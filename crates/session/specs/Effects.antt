-- What this crate's answers come to for a whole session, in the model's terms, whatever subscriptions it has.
use Rattle.std.specs.Prelude.{ℕ, ◌≤◌, ◌≡◌, Bool, true, false, cond, List, [], ◌∷◌, ◌++◌, map, length, take, drop, Option, Some, None}
use Rattle.std.proofs.Math.Option.{Option as Maybe, none, some}
use Rattle.model.specs.declared.Kind.{Kind}
use Rattle.model.specs.Named.{place_of}
use Rattle.model.specs.Limits.{header_length, identifier_length}
use Rattle.model.specs.Bytes.{padded}
use Rattle.model.specs.Records.{Settings, settings_length, tightening_length}
use Rattle.model.specs.Runs.{Run, empty_run}
use Rattle.model.specs.Kinds.{reply_most}
use Rattle.model.specs.Messages as messages
use Rattle.model.specs.Frames.{frame_0002, frame_0004, frame_0005, frame_0065}
use Rattle.model.specs.Events.{result_as}
use Rattle.model.specs.Memory.{numbered, is_kept}
use Rattle.model.specs.Sharing.{Shared}
use Rattle.model.specs.Hearing.{fetched}
use Rattle.model.specs.Notices.{Subscription, nothing, beats}
use Rattle.model.specs.Notices as notices
use Rattle.model.specs.Session as model
use Rattle.model.specs.Session.{closed, opened, subscribed_to, no_subscriptions, Emission, reply, copy, close, deal, dealt, only}
use Rattle.model.specs.Row.{tag, row, said}
use Rattle.model.specs.Calls.{output}
use Rattle.message.specs.declared.Standing.{Standing}
use Rattle.frame.specs.Header.{header_of}
use Rattle.frame.specs.Output.{Writable}
use Rattle.frame.specs.declared.To.{To}
use Rattle.session.specs.Meaning.{session_as, deed_of}
use Rattle.session.specs.Decisions.{is_started, decision}
use Rattle.session.specs.declared.Phase.{Phase}
use Rattle.session.specs.declared.Phase.TheVariants.{Closed, Opened, Started}
use Rattle.session.specs.declared.Session.{Session}
use Rattle.session.specs.declared.Deed.{Deed}
use Rattle.session.specs.declared.Reply.{Reply}
use Rattle.session.specs.declared.Reply.TheVariants as by_value
use Rattle.session.specs.declared.Decision.{Decision}

-- ==== 01, "Notices and the clock": a tick

-- to one that stays, with that idle count: of one that is started, to every subscription
abbrev pub ticked_in : Phase → Settings → ℕ → Run → List Subscription → model.Session × List Emission
ticked_in Closed st idle run subs = (closed, [])
ticked_in Opened st idle run subs = (opened idle run, [])
ticked_in Started st idle run subs = dealt st idle run (λ kind. beats) subs

-- by what becomes of the idle count: the time-out, and nothing besides; or what a tick does
abbrev pub ticked_so : Settings → Run → List Subscription → Option Session → model.Session × List Emission
ticked_so st run subs None = (closed, close ∷ [])
ticked_so st run subs (Some x) = ticked_in x.phase st x.idle run subs

-- ==== 01, "What a message does": what a decision does to a session, and what goes out

-- what the tests look at, of a session with those subscriptions
abbrev pub standing_in : Shared → Phase → List Subscription → messages.Standing
standing_in g phase subs = record {
  started = is_started phase;
  granted = g.settings.granted;
  subscribed = subscribed_to subs;
  kept = is_kept g.kept;
}

-- the decision on a run that is at its end
abbrev pub decision_on : Session → Standing → Run → Decision
decision_on x standing r = decision x standing (header_of r.kept r.count) (drop header_length r.kept)

-- what it does to the notices of each kind: the deed, if there is one, to those of its kind, and nothing to the others
abbrev pub deeds_of : Option (Kind × Deed) → ℕ → notices.Deed
deeds_of None = λ kind. nothing
deeds_of (Some d) = only (place_of d.0) (deed_of d.1)

-- the session after it, and the copies that it sends: one that begins is subscribed to nothing
abbrev pub dealt_by : Settings → Decision → List Subscription → model.Session × List Emission
dealt_by st d subs =
    let held = cond d.begins no_subscriptions subs in
    let deeds = deeds_of d.deed in
    (session_as d.next.phase d.next.idle empty_run (row (deal st deeds) 0 held), map copy (said (deal st deeds) 0 held))

-- the reply, if there is one; the header is the message's own
abbrev pub replies : Shared → List ℕ → Option Reply → List Emission
replies g header None = []
replies g header (Some by_value.Started) = reply (frame_0002 g.settings) ∷ []
replies g header (Some (by_value.Accepted mid)) = reply (frame_0005 mid) ∷ []
replies g header (Some (by_value.Error mid code)) = reply (frame_0004 mid code) ∷ []
replies g header (Some (by_value.Kept number)) = fetched (numbered number g.kept)
replies g header (Some by_value.Mirrored) = reply header ∷ []

-- the reply comes first
abbrev pub carried_out : Shared → List ℕ → Decision → List Subscription → model.Session × List Emission
carried_out g header d subs = let c = dealt_by g.settings d subs in (c.0, replies g header d.reply ++ c.1)

-- the identifier that is made known, if the decision does that
abbrev pub announced : Bool → List ℕ → Maybe (List ℕ)
announced false bs = none
announced true bs = some (padded identifier_length bs)

-- ==== 01, "House records": what goes out to a session, as output records

abbrev pub out_bytes : ℕ → List Emission → List ℕ
out_bytes s es = output (tag s es)

-- the reply as it is written, by the settings and by what it tells: of one that is mirrored the message, of a tightening its payload
abbrev pub written : Settings → List ℕ → Option Reply → List Emission
written st told None = []
written st told (Some by_value.Started) = reply (frame_0002 st) ∷ []
written st told (Some (by_value.Accepted mid)) = reply (frame_0005 mid) ∷ []
written st told (Some (by_value.Error mid code)) = reply (frame_0004 mid code) ∷ []
written st told (Some (by_value.Kept number)) = reply (frame_0065 (result_as number told)) ∷ []
written st told (Some by_value.Mirrored) = reply (take header_length told) ∷ []

-- what a reply is written by and to: the output has room for the longest, and what is told is there
pub record ReplyLent (out payload told : List ℕ) (to : To) (r : Option Reply) : Type 0 where
  pub output : Writable out to reply_most
  pub settings : length payload ≡ settings_length
  pub header : r ≡ Some by_value.Mirrored → header_length ≤ length told
  pub kept : (number : ℕ) → r ≡ Some (by_value.Kept number) → length told ≡ tightening_length
