-- The words of demand 3 on small histories, computed.
use Prim.Native.Nat.{ℕ}
use mathlib.Core.Path.{◌≡◌, refl, sym}
use mathlib.Core.Bool.{Bool, true, false, true≢false}
use mathlib.Core.List.{List, [], ◌∷◌, ◌++◌, map}
use mathlib.Core.Option.{Option, none, some}
use mathlib.Core.Logic.{inl, inr}
use native.Mathlib.Omega.{arith}
use lib.ListN.{replicate}
use Rattle.watch.specs.Marks.{Seen, Mark, copies, tick_count, T, copies_due, frame_of, Held, taken, Demand3}

-- ==== calls: it is a tick; it closes; the event's frame, if it is one that is taken; what it sends

abbrev a_call : Bool → Bool → Option (List ℕ) → Bool → List Seen → Mark
a_call tick closes event took sent = record {
  number = 0;
  event = event;
  took = took;
  subscribed = true;
  still = true;
  asked = true;
  closes = closes;
  tick = tick;
  sent = sent;
}

-- nothing of note; a tick; a call that closes; a tick that closes, as that of a time-out does
abbrev nothing : Mark
nothing = a_call false false none false []

abbrev tick : Mark
tick = a_call true false none false []

abbrev closing : Mark
closing = a_call false true none false []

abbrev closing_tick : Mark
closing_tick = a_call true true none false []

abbrev ticks : ℕ → List Mark
ticks n = replicate n tick

-- a copy of the notice of that event, by a tick
abbrev copy_of : ℕ → Seen
copy_of n = record { id = n; frame = n ∷ [] }

abbrev repeats : ℕ → Mark
repeats n = a_call true false none false (copy_of n ∷ [])

-- event 0, taken and sent at once
abbrev happens : Mark
happens = a_call false false (some (0 ∷ [])) true (copy_of 0 ∷ [])

-- ==== T, and the copies that are due

pub the_ticks : map T (ticks 0 ∷ ticks 19 ∷ ticks 20 ∷ ticks 99 ∷ ticks 100 ∷ ticks 120 ∷ ticks 121 ∷ ticks 500 ∷ [])
    ≡ 0 ∷ 19 ∷ 20 ∷ 99 ∷ 100 ∷ 120 ∷ 120 ∷ 120 ∷ []
the_ticks = refl

-- other calls are not counted, nor what comes after one that closes, nor the tick that closes
pub the_ticks_open :
    map T
    ((nothing ∷ ticks 3 ++ nothing ∷ ticks 2)
    ∷ (ticks 5 ++ closing ∷ ticks 40)
    ∷ (ticks 14 ++ closing_tick ∷ ticks 40)
    ∷ (closing ∷ [])
    ∷ [])
    ≡ 5 ∷ 5 ∷ 14 ∷ 0 ∷ []
the_ticks_open = refl

-- 01, case (j)
pub the_copies_due : map copies_due (0 ∷ 19 ∷ 20 ∷ 39 ∷ 40 ∷ 99 ∷ 100 ∷ 119 ∷ 120 ∷ []) ≡ 1 ∷ 1 ∷ 2 ∷ 2 ∷ 3 ∷ 5 ∷ 6 ∷ 6 ∷ 6 ∷ []
the_copies_due = refl

-- ==== copies, frames, events

-- one copy at once, one by the twentieth tick; none of an event that was not sent
pub the_copies : map (λ n. copies n (happens ∷ ticks 19 ++ repeats 0 ∷ repeats 1 ∷ [])) (0 ∷ 1 ∷ 2 ∷ []) ≡ 2 ∷ 1 ∷ 0 ∷ []
the_copies = refl

pub the_frames : map (λ n. frame_of n (nothing ∷ happens ∷ ticks 3)) (0 ∷ 1 ∷ []) ≡ some (0 ∷ []) ∷ none ∷ []
the_frames = refl

pub the_events : taken (nothing ∷ happens ∷ ticks 3 ++ happens ∷ []) ≡ 2
the_events = refl

pub all_ticks : tick_count (ticks 5 ++ closing ∷ nothing ∷ ticks 40) ≡ 45
all_ticks = refl

-- ==== histories that demand 3 rules out, although each copy goes to a session that is subscribed

-- after so many events; was it subscribed, and is it
abbrev at : ℕ → Bool → Bool → Mark → Mark
at number subscribed still m = record {
  number = number;
  event = m.event;
  took = m.took;
  subscribed = subscribed;
  still = still;
  asked = m.asked;
  closes = m.closes;
  tick = m.tick;
  sent = m.sent;
}

-- event n: does the session take it
abbrev event_only : ℕ → Bool → Mark
event_only n took = at n true true (a_call false false (some (n ∷ [])) took [])

-- event 1 waits behind event 0; the link is lost; the server calls in again, and is sent event 1
abbrev came_back : List Mark
came_back =
    at 0 true true happens
    ∷ event_only 1 true
    ∷ at 2 true false closing
    ∷ at 2 false true nothing
    ∷ at 2 true true (repeats 1)
    ∷ []

pub came_back_is_refused : Demand3 came_back → ⊥
came_back_is_refused d =
    let h = d.never_kept 1 (at 0 true true happens ∷ event_only 1 true ∷ []) (at 2 true false closing)
    (at 2 false true nothing ∷ at 2 true true (repeats 1) ∷ []) refl refl (omega arith) in
    omega arith

-- event 0 is not taken, and is sent
pub not_taken_is_refused : Demand3 (event_only 0 false ∷ at 1 true true (repeats 0) ∷ []) → ⊥
not_taken_is_refused d = go (d.fresh (event_only 0 false ∷ []) (at 1 true true (repeats 0)) [] refl).0
  where
    go : Held (copy_of 0) (event_only 0 false ∷ at 1 true true (repeats 0) ∷ []) → ⊥
    go (inl h) = true≢false (sym h.0.took)
    go (inr (inl h)) = true≢false (sym h.0.took)
    go (inr (inr h)) = h

-- event 0 is sent before it happens
pub early_is_refused : Demand3 (at 0 true true (repeats 0) ∷ event_only 0 true ∷ []) → ⊥
early_is_refused d = go (d.fresh [] (at 0 true true (repeats 0)) (event_only 0 true ∷ []) refl).0
  where
    go : Held (copy_of 0) (at 0 true true (repeats 0) ∷ []) → ⊥
    go (inl h) = true≢false (sym h.0.took)
    go (inr h) = h
