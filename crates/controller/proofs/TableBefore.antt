-- 02, P7: a table that the program before that change left, byte by byte, and what the layout that is kept of it makes of these bytes: they
-- hold the figures of that layout, which no program has any more, to what the program wrote.
use Prim.Native.Nat.{ℕ, ◌+◌, ◌-◌, ◌*◌}
use mathlib.Core.Path.{◌≡◌, refl}
use mathlib.Core.Bool.{Bool, true, false}
use mathlib.Core.List.{List, [], ◌∷◌, ◌++◌, map}
use lib.ListN.{length, set, replicate}
use Rattle.model.specs.Limits.{table_least, output_least, never_set}
use Rattle.model.specs.Records.{payload, settings_of}
use Rattle.model.specs.Events.{result_as}
use Rattle.model.specs.World.{begun}
use Rattle.model.specs.Calls.{Call, open_session, bytes, one_tick, tool, Lent}
use Rattle.model.specs.Own.{world_after}
use Rattle.model.specs.Erased.{erase_world}
use Rattle.model.proofs.Text.{ascii}
use Rattle.model.proofs.Histories.{tightening, scan, an_alarm, message, line4, outcome}
use Rattle.text.specs.Cells.{cells}
use Rattle.text.specs.Areas.{areas}
use Rattle.frame.specs.Places.{result_of}
use Rattle.head.specs.Head.{head_of, head_formed}
use Rattle.run.specs.Area.{run_of, run_formed}
use Rattle.lane.specs.Lane.{control_of}
use Rattle.shared.specs.Memory.{payload_kept, results}
use Rattle.shared.specs.Shared.{settings_part, in_force_of, last_of, count_of, kept_of}
use Rattle.controller.specs.Before as then
use Rattle.controller.specs.Before.{before}

-- ==== the calls that were made. Session 1 is subscribed to all three kinds, with acknowledges, and holds as many notices of each as it
-- can; session 2 is not started; both have a run that has not ended; sessions 0 and 3 are closed

-- the tool's own identifier is spaces: the one in force is meant
abbrev first_tightening : List ℕ
first_tightening =
    tightening "" (7 ∷ 3 ∷ 0 ∷ 0 ∷ 0 ∷ 0 ∷ 1 ∷ 840 ∷ 1_400 ∷ 1_200 ∷ 739 ∷ 0 ∷ 9_999 ∷ 0 ∷ 0 ∷ []) "2001-06-02:09:54:09"
    "2001-05-29:12:34:33" 1

abbrev second_tightening : List ℕ
second_tightening =
    tightening "AB12" (8 ∷ 4 ∷ 5 ∷ 2 ∷ 1 ∷ 1 ∷ 1 ∷ never_set ∷ never_set ∷ never_set ∷ 1_201 ∷ 90 ∷ 270 ∷ 180 ∷ 181 ∷ [])
    "2001-06-02:09:55:10" "2001-05-29:12:34:33" 2

-- after a start with the settings of the worked example
abbrev calls : List Call
calls =
    open_session 1
    ∷ bytes 1 (message "00200001001_________")
    ∷ bytes 1 (message "00200051001_________")
    ∷ bytes 1 (message "00200060002_________")
    ∷ bytes 1 (message "00200070001_________")
    ∷ tool (scan "KP0L3456JKL0897")
    ∷ tool first_tightening
    ∷ one_tick
    ∷ tool (an_alarm "E404")
    ∷ one_tick
    ∷ tool second_tightening
    ∷ replicate 6 (tool first_tightening)
    ++ tool (an_alarm "E405")
    ∷ tool (an_alarm "E406")
    ∷ tool (an_alarm "E407")
    ∷ tool (scan "LMN 7")
    ∷ open_session 2
    ∷ bytes 2 (ascii "00200001")
    ∷ one_tick
    ∷ bytes 1 (ascii "0020")
    ∷ []

-- enough is lent to each
abbrev lent : Call → Lent × Call
lent c = (record { table = table_least; well_formed = true; output = output_least }, c)

-- ==== the bytes that they left, in a table that was zeros before the start

-- the two identifiers; the two tightenings, with what is meant as identifier
abbrev first_identifier : List ℕ
first_identifier = ascii "KP0L3456JKL0897" ++ replicate 10 0x20

abbrev second_identifier : List ℕ
second_identifier = ascii "LMN 7" ++ replicate 20 0x20

abbrev first_result : List ℕ
first_result =
    first_identifier
    ++ 0x07 ∷ 0x03 ∷ 0x00 ∷ 0x00 ∷ 0x00 ∷ 0x00 ∷ 0x00 ∷ 0x00 ∷ 0x00 ∷ 0x01
    ∷ 0x48 ∷ 0x03 ∷ 0x00 ∷ 0x00 ∷ 0x78 ∷ 0x05 ∷ 0x00 ∷ 0x00 ∷ 0xB0 ∷ 0x04 ∷ 0x00 ∷ 0x00 ∷ 0xE3 ∷ 0x02 ∷ 0x00 ∷ 0x00
    ∷ 0x00 ∷ 0x00 ∷ 0x00 ∷ 0x00 ∷ 0x0F ∷ 0x27 ∷ 0x00 ∷ 0x00 ∷ replicate 8 0x00
    ++ ascii "2001-06-02:09:54:092001-05-29:12:34:33"
    ++ 0x01 ∷ []

abbrev second_result : List ℕ
second_result =
    ascii "AB12" ++ replicate 21 0x20
    ++ 0x08 ∷ 0x04 ∷ 0x00 ∷ 0x05 ∷ 0x00 ∷ 0x02 ∷ 0x00 ∷ 0x01 ∷ 0x01 ∷ 0x01
    ∷ replicate 12 0xFF
    ++ 0xB1 ∷ 0x04 ∷ 0x00 ∷ 0x00
    ∷ 0x5A ∷ 0x00 ∷ 0x00 ∷ 0x00 ∷ 0x0E ∷ 0x01 ∷ 0x00 ∷ 0x00 ∷ 0xB4 ∷ 0x00 ∷ 0x00 ∷ 0x00 ∷ 0xB5 ∷ 0x00 ∷ 0x00 ∷ 0x00
    ∷ ascii "2001-06-02:09:55:102001-05-29:12:34:33"
    ++ 0x02 ∷ []

-- the first one with that number behind it
abbrev numbered : ℕ → List ℕ
numbered n = first_result ++ n ∷ replicate 3 0x00

-- an alarm with a code that ends so
abbrev warned : ℕ → List ℕ
warned digit = 0x45 ∷ 0x34 ∷ 0x30 ∷ digit ∷ 0x01 ∷ 0x01 ∷ ascii "2008-06-02:10:14:26"

-- the control of a lane: clock, how many are held, revision
abbrev control : ℕ → ℕ → ℕ → List ℕ
control clock held revision = 0x02 ∷ clock ∷ held ∷ replicate 5 0x00 ++ revision ∷ replicate 7 0x00

-- what stands where; all else is 0
abbrev runs : List (ℕ × List ℕ)
runs =
    -- what all share: mark, last number, how many are kept; settings; identifier in force; the tightenings that are kept, by their numbers
    (0, ascii "SERIFLAD" ++ 0x08 ∷ 0x00 ∷ 0x00 ∷ 0x00 ∷ 0x08 ∷ [])
    ∷ (16, 0x0C ∷ 0x00 ∷ 0x03 ∷ 0x01 ∷ ascii "LINE4" ++ replicate 20 0x20)
    ∷ (56, second_identifier)
    ∷ (1_130, first_result ++ second_result ++ first_result ++ first_result ++ first_result ++ first_result ++ first_result ++ first_result)
    -- session 1: phase and idle count; run; lane of identifiers
    ∷ (9_344, 0x02 ∷ 0x03 ∷ [])
    ∷ (9_352, 0x04 ∷ 0x00 ∷ ascii "0020")
    ∷ (9_400, control 3 2 1 ++ first_identifier ++ second_identifier)
    -- lane of tightenings
    ∷ (9_472, control 3 8 2)
    ∷ (9_488, numbered 1 ++ second_result ++ 0x02 ∷ replicate 3 0x00)
    ∷ (9_708, numbered 3 ++ numbered 4 ++ numbered 5 ++ numbered 6 ++ numbered 7 ++ numbered 8)
    -- lane of alarms
    ∷ (10_368, control 2 4 1 ++ warned 0x34 ++ warned 0x35 ++ warned 0x36 ++ warned 0x37)
    -- session 2: phase and idle count; run
    ∷ (10_496, 0x01 ∷ 0x01 ∷ [])
    ∷ (10_504, 0x08 ∷ 0x00 ∷ ascii "00200001")
    ∷ []

-- so many bytes stand already: zeros up to the first run, the run, and so on
abbrev laid : ℕ → List (ℕ × List ℕ) → List ℕ
laid n [] = replicate (12_800 - n) 0
laid n (r ∷ rs) = replicate (r.0 - n) 0 ++ r.1 ++ laid (r.0 + length r.1) rs

abbrev table : List ℕ
table = laid 0 runs

-- ==== what they mean

-- so many of a table's bytes are used
pub used_before : before.used ≡ 12_800
used_before = refl

-- THE TABLE MEANS WHAT THE MODEL HAS AFTER THESE CALLS, but for the numbers of events, which a table does not keep
pub meaning_before : before.decode table ≡ erase_world (world_after (begun (settings_of (payload line4)) 0) (map lent calls))
unfolding then.session_of then.lane_of areas cells head_of run_of control_of result_of result_as settings_part in_force_of last_of count_of
    kept_of payload_kept results outcome
meaning_before = refl

-- ==== which are well formed: this one, and such as have another byte here and there

-- by place and byte
abbrev with_bytes : List (ℕ × ℕ) → List ℕ → List ℕ
with_bytes [] t = t
with_bytes (x ∷ xs) t = set (with_bytes xs t) x.0 x.1

unfoldable pub is_formed : List (ℕ × ℕ) → Bool
unfolding then.shared_formed then.region_formed then.lane_formed areas head_formed run_formed last_of count_of
is_formed xs = before.formed (with_bytes xs table)

pub formed_before : before.formed table ≡ true
unfolding is_formed
formed_before = refl

-- with another byte in the mark it is not; nor with the mark of our tables
pub mark_before : map (λ place. is_formed ((place, 0x00) ∷ [])) (0 ∷ 1 ∷ 2 ∷ 3 ∷ 4 ∷ 5 ∷ 6 ∷ 7 ∷ []) ≡ replicate 8 false
unfolding is_formed
mark_before = refl

pub our_mark_before : is_formed ((7, 0x34) ∷ []) ≡ false
unfolding is_formed
our_mark_before = refl

-- no more tightenings are kept than there were numbers (8); and, where there were 70, no more than 64
pub kept_before : map is_formed (((12, 8) ∷ []) ∷ ((12, 9) ∷ []) ∷ ((8, 70) ∷ (12, 64) ∷ []) ∷ ((8, 70) ∷ (12, 65) ∷ []) ∷ [])
    ≡ true ∷ false ∷ true ∷ false ∷ []
unfolding is_formed
kept_before = refl

-- of a session, by the place in its region: the greatest byte that is well formed. Phase and idle count; the count of its run; of each lane
-- the form, the clock and how many are held
abbrev greatest : List (ℕ × ℕ)
greatest =
    (0, 2) ∷ (1, 14) ∷ (9, 39) ∷ (56, 2) ∷ (57, 119) ∷ (58, 2) ∷ (128, 2) ∷ (129, 119) ∷ (130, 8) ∷ (1_024, 2) ∷ (1_025, 119) ∷ (1_026, 4)
    ∷ []

-- where it stands in the region of that session, and so much more than it
abbrev more_at : ℕ → ℕ → ℕ × ℕ → ℕ × ℕ
more_at n session x = (8_192 + session * 1_152 + x.0, n + x.1)

abbrev all_greatest : ℕ → List (ℕ × ℕ)
all_greatest session = map (more_at 0 session) greatest

-- well formed with all of these at once in every session; and with no more at any of the places, in the first session or the last
pub greatest_before : is_formed (all_greatest 0 ++ all_greatest 1 ++ all_greatest 2 ++ all_greatest 3) ≡ true
unfolding is_formed
greatest_before = refl

abbrev one_more : ℕ → List Bool
one_more session = map (λ x. is_formed (more_at 1 session x ∷ [])) greatest

pub no_more_before : one_more 0 ++ one_more 3 ≡ replicate 24 false
unfolding is_formed
no_more_before = refl
