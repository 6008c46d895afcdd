-- 02, P2: old results by number, read off the calls so far, their bytes and their answers; the newest call stands first. Nothing here looks
-- into the table.
use Rattle.std.specs.Prelude.{ℕ, suc, ◌+◌, ◌<◌, ◌≡◌, Bool, true, ◌&&◌, List, [], ◌∷◌, eqb, length, take}
use Rattle.std.proofs.Math.Option.{Option, none, some}
use Rattle.model.specs.Limits.{session_count, results_kept}
use Rattle.model.specs.Bytes.{is_digit, all}
use Rattle.model.specs.Records.{Settings}
use Rattle.model.specs.Runs.{Message}
use Rattle.model.specs.Messages.{number_asked}
use Rattle.model.specs.Events.{Result, Event, identified, tightened, alarmed}
use Rattle.model.specs.Memory.{asked_for}
use Rattle.model.specs.Frames.{frame_0004, frame_0065}
use Rattle.controller.specs.Trace.{Made}
use Rattle.history.specs.Turns.{Turn, frames_to}
use Rattle.history.specs.Past.{message, started, event, shared}
use Rattle.history.specs.Demand.{past_after}
use Rattle.history.specs.Product.{turns_of, Meets}

-- ==== the tightenings of a history that began with these settings, the newest first, whether a session took them or not

abbrev pub and_of : Option Event → List Result → List Result
and_of none rs = rs
and_of (some (identified x)) rs = rs
and_of (some (tightened r)) rs = r ∷ rs
and_of (some (alarmed vs)) rs = rs

abbrev pub tightenings_in : Settings → List Turn → List Result
tightenings_in st [] = []
tightenings_in st (x ∷ past) = and_of (event (shared st past) past x) (tightenings_in st past)

-- each has one number more than the one before it, and the first one more than the settings' last
abbrev pub Counted : ℕ → List Result → Type 0
Counted last [] = Unit {0}
Counted last (r ∷ rs) = (r.number ≡ last + suc (length rs)) × Counted last rs

-- the last 64 of them
abbrev pub last_ones : Settings → List Turn → List Result
last_ones st past = take results_kept (tightenings_in st past)

-- ==== a message that asks for one, and what comes back

-- 0064, with its length, its revision and ten digits
abbrev pub asks_well : Message → Bool
asks_well m = eqb m.mid 0064 && eqb m.size 30 && eqb m.revision 1 && all is_digit m.data_field

-- 0065 of the tightening, or error 15 where there is none
abbrev pub frame_back : Option Result → List ℕ
frame_back none = frame_0004 0064 15
frame_back (some r) = frame_0065 r

-- session s is started, and asks: it is sent that, and nothing else
abbrev pub Fetches : Settings → ℕ → List Turn → Turn → Type 0
Fetches st s past x = (m : Message) → started s past ≡ true → message s past x ≡ some m → asks_well m ≡ true
    → frames_to s x ≡ frame_back (asked_for (number_asked m.data_field) (last_ones st past)) ∷ []

-- in each of these turns, after those
abbrev pub FetchesAll : Settings → ℕ → List Turn → List Turn → Type 0
FetchesAll st s past [] = Unit {0}
FetchesAll st s past (x ∷ xs) = Fetches st s past x × FetchesAll st s (x ∷ past) xs

-- ==== of a history that began with those settings in a table of that size: its turns are those of demand 3

pub record Remembers (slice : List ℕ) (size : ℕ) (ms : List Made) : Type 0 where
  pub meets : Meets slice size ms
  pub counted : Counted meets.settings.last (tightenings_in meets.settings (past_after [] (turns_of meets.settings size ms)))
  pub fetches : (s : ℕ) → s < session_count → FetchesAll meets.settings s [] (turns_of meets.settings size ms)
