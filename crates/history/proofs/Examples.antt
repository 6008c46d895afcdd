-- The words in which demand 3, and what is said of old results, are read off calls, on small histories, computed. Each is session 0,
-- started and subscribed to tightenings, or to alarms, with acknowledge, and one that goes out to it; then what a row says.
use Prim.Native.Nat.{ℕ, zero, suc, ◌-◌, ◌/◌, ◌%◌}
use Prim.Native.String.{String}
use mathlib.Core.Path.{◌≡◌, refl}
use mathlib.Core.Bool.{Bool, true, false}
use mathlib.Core.List.{List, [], ◌∷◌, ◌++◌, map}
use mathlib.Core.Option.{Option, none, some, map as option_map}
use lib.ListN.{length, drop, replicate}
use Rattle.model.specs.Limits.{table_least, output_least, tightenings_held, alarms_held, longest_wait}
use Rattle.model.specs.Bytes.{padded}
use Rattle.model.specs.Runs.{empty_run, longer, read_run}
use Rattle.model.specs.Records.{Settings, payload, settings_of}
use Rattle.model.specs.Kinds.{tightenings, alarms}
use Rattle.model.specs.Events.{Result}
use Rattle.model.specs.World.{begun}
use Rattle.model.specs.Calls.{Call, start, open_session, hang_up_session, bytes, one_tick, tool, Lent}
use Rattle.model.proofs.Text.{◌&◌, ascii, frame_text}
use Rattle.model.proofs.Histories.{result_of_guide, a_tightening, scan, an_alarm, opened, hung_up, message, sends, tick, ticks, line4}
use Rattle.model.proofs.Histories.{on, told, warned, outcome}
use Rattle.watch.specs.Marks.{Mark, copies, T}
use Rattle.history.specs.Turns.{Turn, turns}
use Rattle.history.specs.Demand.{marks, past_after}
use Rattle.history.specs.Output.{read_output}
use Rattle.history.specs.Memory.{tightenings_in, asks_well}
use Rattle.history.proofs.Cases.{call_in, long_enough}

-- ==== the calls that records stand for

pub the_calls : map call_in (told ++ a_tightening ∷ hung_up 0 ∷ tick ∷ [])
    ≡ start line4
    ∷ open_session 0
    ∷ bytes 0 (message "00200001001_________")
    ∷ bytes 0 (message "00200060001_________")
    ∷ tool a_tightening
    ∷ hang_up_session 0
    ∷ one_tick
    ∷ []
unfolding outcome
the_calls = refl

-- ==== marks of histories

abbrev of_line4 : Settings
of_line4 = settings_of (payload line4)

abbrev made : List ℕ → Lent × Call
made slice = (long_enough, call_in slice)

-- the marks of the calls after the start, for session 0 and a kind; and for tightenings
abbrev marks_for : ℕ → List (Lent × Call) → List Mark
marks_for kind cs = marks of_line4 0 kind [] (turns (begun of_line4 0) cs)

abbrev marks_of : List (Lent × Call) → List Mark
marks_of cs = marks_for tightenings cs

-- of the beginning, and of what comes after it: it is four calls, of which the last sends the first copy
abbrev beginning : List (Lent × Call)
beginning = map made (drop 1 told ++ a_tightening ∷ [])

abbrev all_of : List (List ℕ) → List Mark
all_of h = marks_of (beginning ++ map made h)

abbrev later : List (List ℕ) → List Mark
later h = drop 4 (all_of h)

-- the same for alarms
abbrev all_of_alarms : List (List ℕ) → List Mark
all_of_alarms h = marks_for alarms (map made (drop 1 warned ++ an_alarm "E404" ∷ h))

abbrev later_of_alarms : List (List ℕ) → List Mark
later_of_alarms h = drop 4 (all_of_alarms h)

-- so many times fourteen ticks, each time with a message after them that gets no reply
abbrev fourteens : ℕ → List (List ℕ)
fourteens zero = []
fourteens (suc n) = ticks 14 ++ sends 0 "00200053001_________" ∷ fourteens n

-- so many ticks, and the session does not time out
abbrev stands : ℕ → List (List ℕ)
stands n = fourteens (n / 14) ++ ticks (n % 14)

-- ==== 01, case (j): the ticks that the notice stood open, and its copies

abbrev stood : ℕ → List ℕ
stood n = T (later (stands n)) ∷ copies 0 (all_of (stands n)) ∷ []

pub the_copies : map stood (19 ∷ 20 ∷ 99 ∷ 100 ∷ 120 ∷ 130 ∷ [])
    ≡ (19 ∷ 1 ∷ []) ∷ (20 ∷ 2 ∷ []) ∷ (99 ∷ 5 ∷ []) ∷ (100 ∷ 6 ∷ []) ∷ (120 ∷ 6 ∷ []) ∷ (120 ∷ 6 ∷ []) ∷ []
unfolding outcome
the_copies = refl

-- of an alarm (02, P5)
abbrev alarm_stood : ℕ → List ℕ
alarm_stood n = T (later_of_alarms (stands n)) ∷ copies 0 (all_of_alarms (stands n)) ∷ []

pub the_copies_of_an_alarm : map alarm_stood (19 ∷ 20 ∷ 100 ∷ 130 ∷ [])
    ≡ (19 ∷ 1 ∷ []) ∷ (20 ∷ 2 ∷ []) ∷ (100 ∷ 6 ∷ []) ∷ (120 ∷ 6 ∷ []) ∷ []
unfolding outcome
the_copies_of_an_alarm = refl

-- and in each revision that session 0 may subscribe to (02, P4), of 100 ticks
abbrev stood_in : String → List ℕ
stood_in revision =
    let beginning_so = map made (drop 1 on ++ sends 0 ("00200060" & revision & "_________") ∷ a_tightening ∷ []) in
    let ms = marks_of (beginning_so ++ map made (stands 100)) in
    T (drop 4 ms) ∷ copies 0 ms ∷ []

pub the_copies_by_revision : map stood_in ("001" ∷ "002" ∷ "003" ∷ "004" ∷ "005" ∷ "006" ∷ []) ≡ replicate 6 (100 ∷ 6 ∷ [])
unfolding outcome
the_copies_by_revision = refl

-- ==== 840: eight are taken, and none is acknowledged. The eighth goes out by that tick, and not by the one before

abbrev of_the_eighth : ℕ → ℕ
of_the_eighth n = copies 7 (all_of (replicate 7 a_tightening ++ stands n))

pub the_longest_wait : map of_the_eighth ((longest_wait tightenings_held - 1) ∷ longest_wait tightenings_held ∷ []) ≡ 0 ∷ 1 ∷ []
unfolding outcome
the_longest_wait = refl

-- and 360: of four alarms the last
abbrev of_the_fourth : ℕ → ℕ
of_the_fourth n = copies 3 (all_of_alarms (replicate 3 (an_alarm "E404") ++ stands n))

pub the_longest_wait_of_an_alarm : map of_the_fourth ((longest_wait alarms_held - 1) ∷ longest_wait alarms_held ∷ []) ≡ 0 ∷ 1 ∷ []
unfolding outcome
the_longest_wait_of_an_alarm = refl

-- ==== what closes, call by call

abbrev closed_by : List (List ℕ) → List Bool
closed_by h = map (λ m. m.closes) (later h)

pub the_closers :
    map closed_by
    ((hung_up 0 ∷ [])
    ∷ (sends 0 "00200003001_________" ∷ [])
    ∷ (sends 0 "00200063001_________" ∷ [])
    ∷ (sends 0 "00200062001_________" ∷ [])
    ∷ ticks 15
    ∷ [])
    ≡ (true ∷ []) ∷ (true ∷ []) ∷ (true ∷ []) ∷ (true ∷ []) ∷ (replicate 14 false ++ true ∷ []) ∷ []
unfolding outcome
the_closers = refl

-- of an alarm
abbrev alarm_closed_by : List (List ℕ) → List Bool
alarm_closed_by h = map (λ m. m.closes) (later_of_alarms h)

pub the_closers_of_an_alarm :
    map alarm_closed_by
    ((hung_up 0 ∷ [])
    ∷ (sends 0 "00200003001_________" ∷ [])
    ∷ (sends 0 "00200073001_________" ∷ [])
    ∷ (sends 0 "00200072001_________" ∷ [])
    ∷ (sends 0 "00200062001_________" ∷ sends 0 "00210072001_________X" ∷ sends 0 "00200063001_________" ∷ an_alarm "E405" ∷ [])
    ∷ [])
    ≡ (true ∷ []) ∷ (true ∷ []) ∷ (true ∷ []) ∷ (true ∷ []) ∷ replicate 4 false ∷ []
unfolding outcome
the_closers_of_an_alarm = refl

-- an acknowledge of another kind, one that is too long, an unsubscribe that is refused, one of another session, and its hang-up; a lone
-- NUL, another event
pub no_closers :
    map closed_by
    ((sends 0 "00200053001_________" ∷ [])
    ∷ (sends 0 "00210062001_________X" ∷ [])
    ∷ (sends 0 "00200054001_________" ∷ [])
    ∷ (hung_up 1 ∷ opened 1 ∷ sends 1 "00200062001_________" ∷ hung_up 1 ∷ [])
    ∷ (sends 0 "" ∷ a_tightening ∷ scan "A" ∷ an_alarm "E404" ∷ sends 0 "00200072001_________" ∷ [])
    ∷ [])
    ≡ (false ∷ []) ∷ (false ∷ []) ∷ (false ∷ []) ∷ replicate 4 false ∷ replicate 5 false ∷ []
unfolding outcome
no_closers = refl

-- ==== what ends the subscription, call by call: an unsubscribe and at once a subscribe, a stop, a hang-up, a time-out; an acknowledge
-- does not

abbrev enders : List (List (List ℕ))
enders =
    (sends 0 "00200063001_________" ∷ sends 0 "00200060001_________" ∷ [])
    ∷ (sends 0 "00200003001_________" ∷ sends 0 "00200001001_________" ∷ sends 0 "00200060001_________" ∷ [])
    ∷ (hung_up 0 ∷ opened 0 ∷ sends 0 "00200001001_________" ∷ sends 0 "00200060001_________" ∷ [])
    ∷ (ticks 15 ++ opened 0 ∷ sends 0 "00200001001_________" ∷ sends 0 "00200060001_________" ∷ [])
    ∷ (sends 0 "00200062001_________" ∷ [])
    ∷ []

abbrev stays : List (List ℕ) → List Bool
stays h = map (λ m. m.still) (later h)

pub the_enders : map stays enders
    ≡ (false ∷ true ∷ [])
    ∷ (false ∷ false ∷ true ∷ [])
    ∷ (false ∷ false ∷ false ∷ true ∷ [])
    ∷ (replicate 14 true ++ false ∷ false ∷ false ∷ true ∷ [])
    ∷ (true ∷ [])
    ∷ []
unfolding outcome
the_enders = refl

-- a second result waits behind the first; then these, and 130 ticks more: its copies
abbrev of_the_waiting : List (List ℕ) → ℕ
of_the_waiting h = copies 1 (all_of (a_tightening ∷ h ++ stands 130))

pub none_is_kept : map of_the_waiting enders ≡ 0 ∷ 0 ∷ 0 ∷ 0 ∷ 6 ∷ []
unfolding outcome
none_is_kept = refl

-- ==== a refused call is nothing: no tick, no event, closes nothing, sends nothing

abbrev too_short : Lent
too_short = record { table = table_least; well_formed = true; output = output_least - 1 }

-- whether it is a tick, whether it closes, whether it is taken, how many copies it sends, and how many events there were before it
abbrev said_of : Mark → Bool × Bool × Bool × ℕ × ℕ
said_of m = (m.tick, m.closes, m.took, length m.sent, m.number)

abbrev lent_too_little : List (List ℕ) → List (Bool × Bool × Bool × ℕ × ℕ)
lent_too_little h = map said_of (drop 4 (marks_of (beginning ++ map (λ slice. (too_short, call_in slice)) h)))

pub refused : lent_too_little (tick ∷ hung_up 0 ∷ sends 0 "00200062001_________" ∷ a_tightening ∷ tick ∷ [])
    ≡ replicate 5 (false, false, false, 0, 1)
unfolding outcome
refused = refl

-- and the same calls, done
pub done : map said_of (later (tick ∷ a_tightening ∷ sends 0 "00200062001_________" ∷ hung_up 0 ∷ tick ∷ []))
    ≡ (true, false, false, 0, 1)
    ∷ (false, false, true, 0, 1)
    ∷ (false, true, false, 1, 2)
    ∷ (false, true, false, 0, 2)
    ∷ (true, false, false, 0, 2)
    ∷ []
unfolding outcome
done = refl

-- ==== 02, P2: the tightenings of a history, by number and identifier, the newest first. One goes out, one is refused for the output that
-- it is lent, one comes with nobody there, with the identifier in force then, which is another now

abbrev past_of : List (Lent × Call) → List Turn
past_of cs = past_after [] (turns (begun of_line4 0) cs)

abbrev named : Result → ℕ × List ℕ
named r = (r.number, r.identifier)

pub the_tightenings :
    map named
    (tightenings_in of_line4
    (past_of (beginning ++ (too_short, call_in a_tightening) ∷ map made (hung_up 0 ∷ scan "A" ∷ result_of_guide "" ∷ scan "B" ∷ []))))
    ≡ (2, padded 25 (ascii "A")) ∷ (1, padded 25 (ascii "KP0L3456JKL0897")) ∷ []
unfolding outcome
the_tightenings = refl

-- a message that asks well, and four that do not: a space among the digits, a digit too few, another revision, another number
abbrev well : String → Option Bool
well text = option_map asks_well (read_run (longer empty_run (frame_text text)))

pub the_askers :
    map well
    ("00300064001_________0000000001"
    ∷ "00300064001_________000000001_"
    ∷ "00290064001_________000000001"
    ∷ "00300064002_________0000000001"
    ∷ "00300065001_________0000000001"
    ∷ [])
    ≡ some true ∷ some false ∷ some false ∷ some false ∷ some false ∷ []
unfolding outcome
the_askers = refl

-- ==== an output's records: one frame's, an order to close; and bytes that are cut, or one too many

pub the_records :
    map read_output
    ([] ∷ (2 ∷ 0 ∷ 0 ∷ 1 ∷ 65 ∷ 0 ∷ 0 ∷ 0 ∷ 3 ∷ 2 ∷ []) ∷ (2 ∷ 0 ∷ 0 ∷ 1 ∷ 65 ∷ []) ∷ (0 ∷ 0 ∷ 3 ∷ 2 ∷ 0 ∷ []) ∷ [])
    ≡ some []
    ∷ some (record { record_kind = 256; payload = 65 ∷ 0 ∷ [] } ∷ record { record_kind = 515; payload = [] } ∷ [])
    ∷ none
    ∷ none
    ∷ []
the_records = refl
