-- The calls: their refusals, what they do, their answers and their output. 01, "What the product holds".
use Rattle.std.specs.Prelude.{ℕ, zero, suc, ◌+◌, ◌/◌, ◌%◌, ◌^◌, Bool, true, false, not, cond, ◌&&◌, List, [], ◌∷◌, ◌++◌, leb, ltb, eqb}
use Rattle.std.specs.Prelude.{length}
use Rattle.std.proofs.Math.Option.{Option, none, some, map as option_map}
use Rattle.model.specs.Limits.{session_count, table_least, output_least, number_greatest, answer_least, answer_too_short}
use Rattle.model.specs.Bytes.{in_bytes}
use Rattle.model.specs.Tests.{Test, ◌gives◌, first}
use Rattle.model.specs.Records.{read_settings, Tool, scanned, tightening, alarm, read_tool}
use Rattle.model.specs.Runs.{cut, consumed_by}
use Rattle.model.specs.Events.{Event, identified, kind_of}
use Rattle.model.specs.Sharing.{reported}
use Rattle.model.specs.Frames.{frame_record, close_record}
use Rattle.model.specs.Session.{Session, is_closed, Emission, reply, copy, close}
use Rattle.model.specs.Local.{takes, announces}
use Rattle.model.specs.World.{World, session_at, Moment, begins, opens, hangs_up, hears, ticks, happens, after, emitted}
use Rattle.model.specs.Row.{Tagged}

-- ==== the calls

-- a start with its settings record, a session's opening, hang-up or received bytes, a tick, a tool record
pub data Call : Type 0 where
  start : List ℕ → Call
  open_session : ℕ → Call
  hang_up_session : ℕ → Call
  bytes : ℕ → List ℕ → Call
  one_tick : Call
  tool : List ℕ → Call

-- what is lent: how long the table is, whether it is well formed, and how long the output is
pub record Lent : Type 0 where
  pub table : ℕ
  pub well_formed : Bool
  pub output : ℕ

-- ==== what the refusals look at

-- what a call asks of what is lent besides a table that is long enough: that it is well formed, and an output; and its own tests
pub record Asks : Type 0 where
  pub table : Bool
  pub output : Bool
  pub own : List (Test ℕ)

abbrev pub asks_neither : List (Test ℕ) → Asks
asks_neither own = record { table = false; output = false; own = own }

abbrev pub asks_both : List (Test ℕ) → Asks
asks_both own = record { table = true; output = true; own = own }

-- they stand in the order of their numbers, so that the first which applies is the lowest
abbrev pub tests : Lent → Asks → List (Test ℕ)
tests l a =
    ltb l.table table_least gives 1
    ∷ (a.table && not l.well_formed) gives 2
    ∷ (a.output && ltb l.output output_least) gives 3
    ∷ a.own

abbrev pub session_test : ℕ → Test ℕ
session_test s = leb session_count s gives 4

abbrev pub is_none {ℓ} : {A : Type ℓ} → Option A → Bool
is_none none = true
is_none (some a) = false

abbrev pub is_tightening : Option Tool → Bool
is_tightening none = false
is_tightening (some (scanned x)) = false
is_tightening (some (tightening x t)) = true
is_tightening (some (alarm vs)) = false

-- what was read of a tool record's slice, and the last number
abbrev pub tool_tests : Option Tool → ℕ → List (Test ℕ)
tool_tests t last = is_none t gives 7 ∷ cond (is_tightening t) (eqb last number_greatest) false gives 8 ∷ []

-- ==== who takes an event

-- 2^s for each session that takes an event of that kind, added up; s is the number of the first in the list
abbrev pub takers : ℕ → ℕ → List Session → ℕ
takers kind s [] = 0
takers kind s (x ∷ xs) = cond (takes kind x) (2 ^ s) 0 + takers kind (suc s) xs

abbrev pub taken_by : List Session → Option Event → ℕ
taken_by xs none = 0
taken_by xs (some e) = takers (kind_of e) 0 xs

-- 2^s is in the sum
abbrev pub in_sum : ℕ → ℕ → Bool
in_sum s taken = eqb (taken / 2 ^ s % 2) 1

-- ==== the table of calls

-- what it asks; and, where no test applies, its moment, the event that it is, if it is one, which comes behind; the bytes that it
-- consumes, and who takes the event
pub record Conduct : Type 0 where
  pub asks : Asks
  pub moment : Option Moment
  pub event : Option Event
  pub consumed : ℕ
  pub taken : ℕ

-- a call that is no event; and only received bytes are consumed
abbrev pub simply : Asks → Option Moment → Conduct
simply asks m = record { asks = asks; moment = m; event = none; consumed = 0; taken = 0 }

-- (an identifier that was accepted over the net is an event, and comes after the reply; only a tool record reports who took it)
abbrev pub does : World → Call → Conduct
does w (start slice) = simply (asks_neither (is_none (read_settings slice) gives 9 ∷ [])) (option_map begins (read_settings slice))
does w (open_session s) = simply (asks_both (session_test s ∷ not (is_closed (session_at w s)) gives 6 ∷ [])) (some (opens s))
does w (hang_up_session s) = simply (asks_both (session_test s ∷ is_closed (session_at w s) gives 5 ∷ [])) (some (hangs_up s))
does w (bytes s bs) = record {
  asks = asks_both (session_test s ∷ is_closed (session_at w s) gives 5 ∷ []);
  moment = some (hears s (cut bs));
  event = option_map identified (announces w.shared (cut bs) (session_at w s));
  consumed = consumed_by (cut bs);
  taken = 0;
}
does w one_tick = simply (asks_both []) (some ticks)
does w (tool slice) =
    let t = read_tool slice in
    let e = option_map (reported w.shared) t in
    record {
      asks = asks_both (tool_tests t w.shared.last);
      moment = none;
      event = e;
      consumed = 0;
      taken = taken_by w.sessions e;
    }

-- the number of the first test that applies; 0 where none does
unfoldable pub refusal : Lent → World → Call → ℕ
refusal l w c = first 0 (tests l (does w c).asks)

-- a moment, if there is one, and then the event
abbrev pub at_most_one : Option Moment → List Moment
at_most_one none = []
at_most_one (some m) = m ∷ []

abbrev pub happening : Option Event → List Moment
happening none = []
happening (some e) = happens e ∷ []

abbrev pub moments : World → Call → List Moment
moments w c = at_most_one (does w c).moment ++ happening (does w c).event

-- ==== the output: a record for each emission

abbrev pub output_record : Tagged Emission → List ℕ
output_record x = go x.what
  where
    go : Emission → List ℕ
    go (reply frame) = frame_record x.who frame
    go (copy c) = frame_record x.who c.what.frame
    go close = close_record x.who

abbrev pub output : List (Tagged Emission) → List ℕ
output [] = []
output (x ∷ xs) = output_record x ++ output xs

-- ==== the answer

pub record Answer : Type 0 where
  pub number : ℕ
  pub consumed : ℕ
  pub written : ℕ
  pub taken : ℕ

-- ==== the step, and a run of calls

-- by the refusal's number: a refused call does nothing and reports nothing done
abbrev pub answered : World → Call → ℕ → World × Answer × List (Tagged Emission)
answered w c zero =
    let es = emitted w (moments w c) in (
      after w (moments w c),
      record { number = 0; consumed = (does w c).consumed; written = length (output es); taken = (does w c).taken },
      es,
    )
answered w c (suc n) = (w, record { number = suc n; consumed = 0; written = 0; taken = 0 }, [])

unfoldable pub step : Lent → World → Call → World × Answer × List (Tagged Emission)
step l w c = answered w c (refusal l w c)

abbrev pub run : World → List (Lent × Call) → List (Answer × List (Tagged Emission))
run w [] = []
run w (c ∷ cs) = let r = step c.0 w c.1 in (r.1, r.2) ∷ run r.0 cs

-- ==== to C: the four numbers go to a further lent run, of which `room` bytes are there. Where it is too short the call is not
-- made, and C is told that; else it is told the first of the four

abbrev pub answer_bytes : Answer → List ℕ
answer_bytes a = in_bytes 8 a.number ++ in_bytes 8 a.consumed ++ in_bytes 8 a.written ++ in_bytes 8 a.taken

pub record Returned : Type 0 where
  pub number : ℕ
  pub world : World
  -- what is written to the two lent runs, from their beginning on
  pub to_answer : List ℕ
  pub to_output : List ℕ

abbrev pub returned : ℕ → Lent → World → Call → Returned
returned room l w c =
    let r = step l w c in
    cond (ltb room answer_least)
    (record { number = answer_too_short; world = w; to_answer = []; to_output = [] })
    (record { number = r.1.number; world = r.0; to_answer = answer_bytes r.1; to_output = output r.2 })
