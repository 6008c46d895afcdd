-- What demand 3 speaks of, read off the calls so far, their bytes and their answers; the newest call stands first. Nothing here looks
-- into the table.
use Rattle.std.specs.Prelude.{ℕ, Bool, true, false, not, cond, ◌&&◌, ◌||◌, List, [], ◌∷◌, ◌++◌, eqb}
use Rattle.std.proofs.Math.Option.{Option, none, some}
use Rattle.model.specs.Limits.{identifier_length}
use Rattle.model.specs.Bytes.{padded}
use Rattle.model.specs.Records.{Settings, Tool}
use Rattle.model.specs.Runs.{empty_run, longer, Piece, Message, read_run}
use Rattle.model.specs.Messages.{Entry, entry_of, bearing, good_length}
use Rattle.model.specs.Events.{Event, identified, kind_of}
use Rattle.model.specs.Sharing.{Shared, shared_begun, shared_with, reported}
use Rattle.model.specs.Frames.{event_frame}
use Rattle.model.specs.Calls.{in_sum}
use Rattle.model.specs.Sights.{reports, speaker}
use Rattle.history.specs.Turns.{Turn, is_done, opens, hangs_up, given, times_out, welcomed, stops, subscribes, unsubscribes}
use Rattle.history.specs.Turns.{identifies}

-- ==== 01, "Runs and headers": a session's run, and its messages

-- the bytes of the run once those of one more call have come
abbrev pub run_with : Option Piece → Bool → List ℕ → List ℕ
run_with none opening bs = cond opening [] bs
run_with (some p) opening bs = cond p.ends [] (bs ++ p.bytes)

-- the bytes since the session's opening, or since its last NUL
abbrev pub run : ℕ → List Turn → List ℕ
run s [] = []
run s (x ∷ past) = run_with (given s x) (opens s x) (run s past)

-- the message that a NUL ends, if the run is one
abbrev pub ended : List ℕ → Option Piece → Option Message
ended bs none = none
ended bs (some p) = cond p.ends (read_run (longer empty_run (bs ++ p.bytes))) none

abbrev pub message : ℕ → List Turn → Turn → Option Message
message s past x = ended (run s past) (given s x)

-- ==== 01, "What a message does": whether a session is started, and how it subscribed to a kind of notice

-- the call ends the opening: a hang-up or a time-out
abbrev pub parts : ℕ → Turn → Bool
parts s x = hangs_up s x || times_out s x

-- welcomed, and neither stopped nor parted since
abbrev pub started : ℕ → List Turn → Bool
started s [] = false
started s (x ∷ past) = cond (parts s x || stops s x) false (cond (welcomed s x) true (started s past))

-- the revision, and whether no acknowledge was asked
pub record Wish : Type 0 where
  pub revision : ℕ
  pub no_acknowledge : Bool

abbrev pub wish_of : Option Message → Option Wish
wish_of none = none
wish_of (some m) = some (record { revision = m.revision; no_acknowledge = m.no_acknowledge })

-- what its accepted subscribe wished, if neither an accepted unsubscribe nor a stop came after it, and it did not part
abbrev pub wish : ℕ → ℕ → List Turn → Option Wish
wish s kind [] = none
wish s kind (x ∷ past) =
    cond (parts s x || stops s x || unsubscribes s kind x) none
    (cond (subscribes s kind x) (wish_of (message s past x)) (wish s kind past))

abbrev pub is_some : {A : Type 0} → Option A → Bool
is_some none = false
is_some (some a) = true

abbrev pub asks_acknowledge : Option Wish → Bool
asks_acknowledge none = false
asks_acknowledge (some w) = not w.no_acknowledge

abbrev pub subscribed : ℕ → ℕ → List Turn → Bool
subscribed s kind past = started s past && is_some (wish s kind past)

-- ==== demand 3: what closes an open notice of that kind

-- 01, "What a message does": an acknowledge is well made that has its length
abbrev pub well_made : ℕ → ℕ → Option Entry → Bool
well_made kind size none = false
well_made kind size (some e) = (bearing e.effect).acknowledges kind && good_length e size

abbrev pub acknowledges : ℕ → Option Message → Bool
acknowledges kind none = false
acknowledges kind (some m) = well_made kind m.size (entry_of m.mid)

-- a hang-up, a time-out, an accepted stop, an accepted unsubscribe, a well-made acknowledge
abbrev pub closes : ℕ → ℕ → List Turn → Turn → Bool
closes s kind past x =
    parts s x
    || stops s x
    || unsubscribes s kind x
    || acknowledges kind (message s past x)

-- ==== 01, "Frames we write" and "Notices and the clock": events

-- an identifier that was accepted over the net, of the session whose bytes they are
abbrev pub identifier_event : Option Message → Option Event
identifier_event none = none
identifier_event (some m) = some (identified (padded identifier_length m.data_field))

abbrev pub spoken : List Turn → Turn → Option ℕ → Option Event
spoken past x none = none
spoken past x (some t) = cond (identifies t x) (identifier_event (message t past x)) none

-- what the tool reports is an event, or else what was spoken
abbrev pub call_event : Shared → List Turn → Turn → Option Tool → Option Event
call_event g past x none = spoken past x (speaker x.call)
call_event g past x (some r) = some (reported g r)

-- the event that a call is, if it is one
abbrev pub event : Shared → List Turn → Turn → Option Event
event g past x = cond (is_done x) (call_event g past x (reports x.call)) none

-- what all sessions share; the history began with these settings
abbrev pub shared : Settings → List Turn → Shared
shared st [] = shared_begun st 0
shared st (x ∷ past) = let g = shared st past in shared_with g (event g past x)

-- the frame of an event to a session with that wish
abbrev pub frame_for : Settings → ℕ → Option Wish → Option Event → Option (List ℕ)
frame_for st kind none e = none
frame_for st kind (some w) none = none
frame_for st kind (some w) (some e) = cond (eqb kind (kind_of e)) (some (event_frame st w.revision w.no_acknowledge e)) none

-- ==== 01, "What the product holds" and "Notices and the clock": who takes an event

-- the answer says it of what the tool reports; an identifier over the net is taken by those that are subscribed
abbrev pub takes_it : ℕ → Turn → Option Tool → Bool → Bool
takes_it s x none subscribed = subscribed
takes_it s x (some r) subscribed = in_sum s x.answer.taken

abbrev pub of_kind : ℕ → Option Event → Bool
of_kind kind none = false
of_kind kind (some e) = eqb kind (kind_of e)

abbrev pub takes : ℕ → ℕ → Shared → List Turn → Turn → Bool
takes s kind g past x =
    of_kind kind (event g past x) && takes_it s x (reports x.call) (is_some (wish s kind past))
