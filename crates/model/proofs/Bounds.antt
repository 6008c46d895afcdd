-- The table of messages, row by row as the paper has it; and how much goes out at most.
use mathlib.Core.Path.{◌≡◌, refl}
use Prim.Native.Nat.{ℕ, zero, suc, ◌+◌, ◌%◌, ◌≤◌, ◌<◌}
use mathlib.Core.Bool.{Bool, true, false, cond}
use mathlib.Core.List.{List, [], ◌∷◌, ◌++◌, map}
use lib.Dec.{eqb}
use lib.ListN.{length, get_or}
use native.Mathlib.Omega.{arith}
use Rattle.model.specs.Limits.{header_length, identifier_length, copy_every, given_up_at, output_least}
use Rattle.model.specs.Bytes.{spaces, digits}
use Rattle.model.specs.Records.{Settings, settings_length, settings_of, tightening_length, tightening_of, alarm_length, alarm_of}
use Rattle.model.specs.Events.{Result, identified, tightened, alarmed, Notice}
use Rattle.model.specs.Layouts.{characters, data_from, data_length, Layouts, revision_count, layouts_0052, layouts_0061, layouts_0071}
use Rattle.model.specs.Frames.{header, frame, frame_0002, frame_0065, event_frame}
use Rattle.model.specs.Kinds.{Room, Kind, kinds, kind_at, identifiers, tightenings, alarms, copy_most, copies_most}
use Rattle.model.specs.Kinds.{longest_reply, event_most, receive_most, tick_most, call_most}
use Rattle.model.specs.Notices.{empty, busy, Subscription, unsubscribed, plain, acked, Deed, nothing, beats, news, asks, drops, acks}
use Rattle.model.specs.Notices.{next_one, act}
use Rattle.model.specs.Messages.{not_read, revisions, starts, stops, identifies, subscribes, unsubscribes, acknowledges, fetches}
use Rattle.model.specs.Messages.{mirrors, entry, table}

-- 01, "What a message does"; 02, P2, P4 and P5
pub the_table : table
    ≡ entry 0001 20 20 (revisions 1 1) starts
    ∷ entry 0003 20 20 not_read stops
    ∷ entry 0050 21 45 (revisions 1 1) (identifies 08)
    ∷ entry 0051 20 20 (revisions 1 2) (subscribes identifiers 06)
    ∷ entry 0053 20 20 not_read (acknowledges identifiers)
    ∷ entry 0054 20 20 not_read (unsubscribes identifiers 07)
    ∷ entry 0060 20 20 (revisions 1 6) (subscribes tightenings 09)
    ∷ entry 0062 20 20 not_read (acknowledges tightenings)
    ∷ entry 0063 20 20 not_read (unsubscribes tightenings 10)
    ∷ entry 0070 20 20 (revisions 1 1) (subscribes alarms 11)
    ∷ entry 0072 20 20 not_read (acknowledges alarms)
    ∷ entry 0073 20 20 not_read (unsubscribes alarms 12)
    ∷ entry 0064 30 30 (revisions 1 1) (fetches 15)
    ∷ entry 9999 20 20 not_read mirrors
    ∷ []
the_table = refl

-- 01, "Frames we write", and 02, P2: how long 0002 is, and 0065, the longest reply; and the longest frame of each kind, that of its newest
-- revision
abbrev sample : Settings
sample = settings_of (spaces settings_length)

abbrev result : Result
result =
    record { number = 1; identifier = spaces identifier_length; tightening = tightening_of (spaces tightening_length) }

abbrev frames : List (List ℕ)
frames =
    frame_0002 sample
    ∷ frame_0065 result
    ∷ event_frame sample (revision_count layouts_0052) false (identified (spaces identifier_length))
    ∷ event_frame sample (revision_count layouts_0061) false (tightened result)
    ∷ event_frame sample (revision_count layouts_0071) false (alarmed (alarm_of (spaces alarm_length)))
    ∷ []

pub the_lengths : map length frames
    ≡ 57 ∷ longest_reply ∷ map (λ k. k.longest) kinds
unfolding frame_0002 frame_0065 event_frame frame header data_from characters digits settings_of tightening_of alarm_of
the_lengths = refl

-- and how long a frame of each kind is, by the revision, from 1 on
abbrev lengths : Layouts → List ℕ
lengths ls = map (λ l. header_length + data_length l) (ls.older ++ ls.newest ∷ [])

pub lengths_by_revision : map (λ k. lengths k.layouts) kinds
    ≡ (45 ∷ 128 ∷ [])
    ∷ (231 ∷ 385 ∷ 419 ∷ 500 ∷ 506 ∷ 526 ∷ [])
    ∷ (53 ∷ [])
    ∷ []
lengths_by_revision = refl

-- 01, "What the product holds": the output that has to be lent suffices
pub call_fits : call_most ≤ output_least
call_fits = omega arith

pub tick_within : tick_most ≤ call_most
tick_within = omega arith

pub receive_within : receive_most ≤ call_most
receive_within = omega arith

-- a copy of one kind is no longer than a copy of each
copy_among : (ks : List Kind) (place : ℕ) (d : Kind) → place < length ks → copy_most (get_or ks place d) ≤ copies_most ks
copy_among [] place d h = absurd (omega arith)
copy_among (k ∷ ks) zero d h = omega arith
copy_among (k ∷ ks) (suc place) d h = let r = copy_among ks place d (omega arith) in omega arith

pub copy_within : (place : ℕ) → place < length kinds → copy_most (kind_at place) ≤ copies_most kinds
copy_within place h = copy_among kinds place (kind_at (length kinds)) h

pub event_within : (place : ℕ) → place < length kinds → event_most place ≤ call_most
event_within place h = let n = copy_within place h in omega arith

-- 01, "Notices and the clock": whatever is done to a subscription, one copy at most goes out
next_few : (r : ℕ) (q : List Notice) → length (next_one r q).1 ≤ 1
next_few r [] = omega arith
next_few r (x ∷ q) = omega arith

pub act_few : (room : Room) (d : Deed) (s : Subscription) → length (act room d s).1 ≤ 1
act_few room nothing s = omega arith
act_few room beats unsubscribed = omega arith
act_few room beats (plain r) = omega arith
act_few room beats (acked r empty) = omega arith
act_few room beats (acked r (busy x c q)) = go (eqb (suc c) given_up_at) (eqb (suc c % copy_every) 0)
  where
    go : (b d : Bool) → length (cond b (next_one r q) (acked r (busy x (suc c) q), cond d (x ∷ []) [])).1 ≤ 1
    go true d = next_few r q
    go false true = omega arith
    go false false = omega arith
act_few room (news n) unsubscribed = omega arith
act_few room (news n) (plain r) = omega arith
act_few room (news n) (acked r empty) = omega arith
act_few room (news n) (acked r (busy x c q)) = omega arith
act_few room (asks r a) unsubscribed = omega arith
act_few room (asks r a) (plain c) = omega arith
act_few room (asks r a) (acked c q) = omega arith
act_few room drops s = omega arith
act_few room acks unsubscribed = omega arith
act_few room acks (plain r) = omega arith
act_few room acks (acked r empty) = omega arith
act_few room acks (acked r (busy x c q)) = next_few r q
