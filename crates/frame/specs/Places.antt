-- The notices that are kept: what a place of a kind holds, and how many bytes it has. 01, "Notices and the clock", and 02, P5.
use Rattle.std.specs.Prelude.{ℕ, cond, List, eqb}
use Rattle.model.specs.Records.{Item, payload_length, number_at, values, scanned_items, result_items, alarm_items, alarm_of}
use Rattle.model.specs.Kinds.{identifiers, tightenings}
use Rattle.model.specs.Events.{Result, result_as, Event, identified, tightened, alarmed, Notice}

-- a result is kept as the tool record's payload with the identifier that was meant, and its number behind it
unfoldable pub result_of : List ℕ → Result
result_of bs = result_as (number_at (values result_items bs) 19) bs

-- what is kept of a kind; of an alarm it is the tool record's payload
abbrev pub place_items : ℕ → List Item
place_items kind = cond (eqb kind identifiers) scanned_items (cond (eqb kind tightenings) result_items alarm_items)

abbrev pub place_size : ℕ → ℕ
place_size kind = payload_length (place_items kind)

abbrev pub event_in : ℕ → List ℕ → Event
event_in kind p =
    cond (eqb kind identifiers) (identified p) (cond (eqb kind tightenings) (tightened (result_of p)) (alarmed (alarm_of p)))

-- the table keeps no event numbers
abbrev pub notice_in : ℕ → List ℕ → Notice
notice_in kind p = record { id = 0; event = event_in kind p }
