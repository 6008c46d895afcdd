-- What all sessions share, and what is left of it by an event or a start. 01, "What the product holds", "House records" and "Frames
-- we write"; 02, P2. An alarm leaves it as it was, but for the count of events.
use Rattle.std.specs.Prelude.{ℕ, suc, ◌+◌, List, []}
use Rattle.std.proofs.Math.Option.{Option, none, some}
use Rattle.model.specs.Limits.{identifier_length}
use Rattle.model.specs.Bytes.{spaces}
use Rattle.model.specs.Records.{Settings, Tool, scanned, tightening, alarm}
use Rattle.model.specs.Events.{Result, Event, identified, tightened, alarmed, identifier_of, Notice}
use Rattle.model.specs.Memory.{kept_with}

pub record Shared : Type 0 where
  pub settings : Settings
  -- the identifier in force
  pub in_force : List ℕ
  -- the last tightening number
  pub last : ℕ
  -- 02, P2: the tightenings that are kept, the newest first
  pub kept : List Result
  -- how many events there were: no answer and no byte shows it
  pub events : ℕ

-- a start: no identifier is in force, the last number is the settings', and no tightening is kept
abbrev pub shared_begun : Settings → ℕ → Shared
shared_begun st events =
    record { settings = st; in_force = spaces identifier_length; last = st.last; kept = []; events = events }

-- an event of an identifier puts it in force, whether it was scanned or came over the net
abbrev pub in_force_after : List ℕ → Event → List ℕ
in_force_after x (identified y) = y
in_force_after x (tightened r) = x
in_force_after x (alarmed vs) = x

-- an event of a tightening makes its number the last, whether a session takes it or not
abbrev pub last_after : ℕ → Event → ℕ
last_after n (identified y) = n
last_after n (tightened r) = r.number
last_after n (alarmed vs) = n

-- and it is kept, whether a session takes it or not
abbrev pub kept_after : List Result → Event → List Result
kept_after rs (identified y) = rs
kept_after rs (tightened r) = kept_with r rs
kept_after rs (alarmed vs) = rs

abbrev pub shared_after : Shared → Event → Shared
shared_after g e = record {
  settings = g.settings;
  in_force = in_force_after g.in_force e;
  last = last_after g.last e;
  kept = kept_after g.kept e;
  events = suc g.events;
}

-- where there may be one
abbrev pub shared_with : Shared → Option Event → Shared
shared_with g none = g
shared_with g (some e) = shared_after g e

-- the count of events forgotten: the table keeps none
abbrev pub unnumbered : Shared → Shared
unnumbered g = record { settings = g.settings; in_force = g.in_force; last = g.last; kept = g.kept; events = 0 }

-- ==== events, by what is shared when they come

-- the notice of an event has the next number
abbrev pub notice_of : Shared → Event → Notice
notice_of g e = record { id = g.events; event = e }

-- what a tool record reports; a tightening gets its number and the identifier that is meant now
abbrev pub reported : Shared → Tool → Event
reported g (scanned x) = identified x
reported g (tightening x t) =
    tightened (record { number = g.last + 1; identifier = identifier_of x g.in_force; tightening = t })
reported g (alarm vs) = alarmed vs
