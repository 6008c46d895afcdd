-- What a deed does to a subscription is one of the things that a call can do to the notices of its kind. One proof for every kind.
use Prim.Native.Nat.{ℕ, suc, ◌%◌, ◌≤◌, ◌<◌}
use mathlib.Core.Path.{◌≡◌, refl}
use mathlib.Core.Bool.{Bool, true, false, cond, ◌&&◌, true≢false}
use mathlib.Core.List.{List, [], ◌∷◌, ◌++◌, map, map-append}
use mathlib.Core.Option.{Option, none, some}
use native.Mathlib.Omega.{arith}
use native.Mathlib.Nat.{le_refl}
use lib.Dec.{ltb, eqb}
use lib.ListN.{length, length-map}
use borrow.Author.Tests.{eqb-true, eqb-false, ltb-true}
use Rattle.model.specs.Limits.{given_up_at, copy_every}
use Rattle.model.specs.Records.{Settings}
use Rattle.model.specs.Events.{Event, kind_of, Notice}
use Rattle.model.specs.Frames.{event_frame}
use Rattle.model.specs.Kinds.{Room, the_newest, up_to}
use Rattle.model.specs.Notices.{empty, busy, Subscription, unsubscribed, plain, acked, is_subscribed, has_room, takes, nothing, beats, news}
use Rattle.model.specs.Notices.{asks, drops, acks, next_one, waits, act}
use Rattle.model.specs.Session.{frame_to}
use Rattle.watch.specs.Marks.{Seen}
use Rattle.watch.specs.Course.{PendingSeen, empty as none_waits, busy as waiting, Eff, rest, lone, first, keep, wait, swap, wipe, over}
use Rattle.watch.specs.Course.{pass, beat, again, quit, quit_pass}
use Rattle.history.specs.Past.{Wish, asks_acknowledge, is_some, frame_for}

-- ==== a subscription as it is read

abbrev pub wish_in : Subscription → Option Wish
wish_in unsubscribed = none
wish_in (plain revision) = some (record { revision = revision; no_acknowledge = true })
wish_in (acked revision q) = some (record { revision = revision; no_acknowledge = false })

pub is_some_wish : (x : Subscription) → is_some (wish_in x) ≡ is_subscribed x
is_some_wish unsubscribed = refl
is_some_wish (plain r) = refl
is_some_wish (acked r q) = refl

-- ==== its notices as they are watched: each with the bytes that the session is sent of it

abbrev pub as_seen : Settings → Subscription → Notice → Seen
as_seen st x n = record { id = n.id; frame = frame_to st x n }

abbrev pub view : Settings → Subscription → PendingSeen
view st unsubscribed = none_waits
view st (plain revision) = none_waits
view st (acked revision empty) = none_waits
view st (acked revision (busy n clock waits)) =
    waiting (as_seen st (acked revision empty) n) clock (map (as_seen st (acked revision empty)) waits)

-- the subscription x becomes r .0, and of the notices r .1 copies are sent. From k events to k'; the frame of the event, if it
-- is one; was it taken; does it close; is it a tick
abbrev pub Done : Room → Settings → ℕ → ℕ → Option (List ℕ) → Bool → Bool → Bool → Subscription → Subscription × List Notice → Type 0
Done room st k k' e o cl t x r =
    Eff room k k' e o (asks_acknowledge (wish_in x)) cl t (is_subscribed x) (is_subscribed r.0) (view st x) (view st r.0)
    (map (as_seen st x) r.1)

-- and what is wished stays
abbrev Stays : Room → Settings → ℕ → ℕ → Option (List ℕ) → Bool → Bool → Bool → Subscription → Subscription × List Notice → Type 0
Stays room st k k' e o cl t x r = Done room st k k' e o cl t x r × (wish_in r.0 ≡ wish_in x)

module _ (room : Room) (st : Settings) (k : ℕ) where
  pub unchanged : (k' : ℕ) (e : Option (List ℕ)) (x : Subscription) → k ≤ k' → Done room st k k' e false false false x (x, [])
  unchanged k' e unsubscribed h = rest h
  unchanged k' e (plain r) h = rest h
  unchanged k' e (acked r empty) h = rest h
  unchanged k' e (acked r (busy n c q)) h = keep h

  pub wiped : (t : Bool) (x : Subscription) → Done room st k k none false true t x (unsubscribed, [])
  wiped t unsubscribed = rest (le_refl k)
  wiped t (plain r) = rest (le_refl k)
  wiped t (acked r empty) = rest (le_refl k)
  wiped t (acked r (busy n c q)) = wipe (le_refl k)

  clock_does : (b d : Bool) (r : ℕ) (n : Notice) (c : ℕ) (q : List Notice) → eqb (suc c) given_up_at ≡ b → eqb (suc c % copy_every) 0 ≡ d
      → Stays room st k k none false false true (acked r (busy n c q))
      (cond b (next_one r q) (acked r (busy n (suc c) q), cond d (n ∷ []) []))
  clock_does true d r n c [] u v = (quit (le_refl k) (eqb-true (suc c) given_up_at u), refl)
  clock_does true d r n c (y ∷ q) u v = (quit_pass (le_refl k) (eqb-true (suc c) given_up_at u), refl)
  clock_does false true r n c q u v =
      (again (le_refl k) (eqb-false (suc c) given_up_at u) (eqb-true (suc c % copy_every) 0 v), refl)
  clock_does false false r n c q u v =
      (beat (le_refl k) (eqb-false (suc c) given_up_at u) (eqb-false (suc c % copy_every) 0 v), refl)

  pub beats_does : (x : Subscription) → Stays room st k k none false false true x (act room beats x)
  beats_does unsubscribed = (rest (le_refl k), refl)
  beats_does (plain r) = (rest (le_refl k), refl)
  beats_does (acked r empty) = (rest (le_refl k), refl)
  beats_does (acked r (busy n c q)) = clock_does (eqb (suc c) given_up_at) (eqb (suc c % copy_every) 0) r n c q refl refl

  more_does : {most : ℕ} → room ≡ up_to most → (b : Bool) (r : ℕ) (n : Notice) (c : ℕ) (q : List Notice) (e : Event)
      → (b ≡ true → suc (length q) < most)
      → Done room st k (suc k) (some (frame_to st (acked r (busy n c q)) (record { id = k; event = e }))) b false false
      (acked r (busy n c q)) (acked r (busy n c (cond b (q ++ record { id = k; event = e } ∷ []) q)), [])
  more_does is true r n c q e h =
      rw (map-append (as_seen st (acked r empty)) q (record { id = k; event = e } ∷ []))
      (wait {q = map (as_seen st (acked r empty)) q} is refl (let u = h refl in omega (arith, length-map q (as_seen st (acked r empty)))))
  more_does is false r n c q e h = keep (omega arith)

  waits_does : (kept : Room) → room ≡ kept → (r : ℕ) (n : Notice) (c : ℕ) (q : List Notice) (e : Event)
      → Done room st k (suc k) (some (frame_to st (acked r (busy n c q)) (record { id = k; event = e }))) (has_room kept q) false false
      (acked r (busy n c q)) (acked r (busy n c (waits kept (record { id = k; event = e }) q)), [])
  waits_does the_newest is r n c q e = swap is refl
  waits_does (up_to most) is r n c q e = more_does is (ltb (suc (length q)) most) r n c q e (ltb-true (suc (length q)) most)

  -- an event, of this kind or (false) not
  module _ (e : Event) where
    abbrev notice : Notice
    notice = record { id = k; event = e }

    abbrev framed : Bool → Option Wish → Option (List ℕ)
    framed b none = none
    framed b (some w) = cond b (some (event_frame st w.revision w.no_acknowledge e)) none

    by_kind : (b : Bool) (x : Subscription)
        → Stays room st k (suc k) (framed b (wish_in x)) (b && takes room x) false false x (act room (cond b (news notice) nothing) x)
    by_kind false x = (unchanged (suc k) (framed false (wish_in x)) x (omega arith), refl)
    by_kind true unsubscribed = (rest (omega arith), refl)
    by_kind true (plain r) = (lone refl, refl)
    by_kind true (acked r empty) = (first refl, refl)
    by_kind true (acked r (busy n c q)) = (waits_does room refl r n c q e, refl)

    pub news_does : (kind : ℕ) (x : Subscription)
        → Stays room st k (suc k) (frame_for st kind (wish_in x) (some e)) (eqb kind (kind_of e) && takes room x) false false x
        (act room (cond (eqb kind (kind_of e)) (news notice) nothing) x)
    news_does kind unsubscribed = by_kind (eqb kind (kind_of e)) unsubscribed
    news_does kind (plain r) = by_kind (eqb kind (kind_of e)) (plain r)
    news_does kind (acked r q) = by_kind (eqb kind (kind_of e)) (acked r q)

  pub asks_does : (b : Bool) (r : ℕ) (a : Bool) (x : Subscription)
      → Done room st k k none false false false x (act room (cond b (asks r a) nothing) x)
  asks_does false r a x = unchanged k none x (le_refl k)
  asks_does true r true unsubscribed = rest (le_refl k)
  asks_does true r false unsubscribed = rest (le_refl k)
  asks_does true r a (plain v) = rest (le_refl k)
  asks_does true r a (acked v empty) = rest (le_refl k)
  asks_does true r a (acked v (busy n c q)) = keep (le_refl k)

  pub drops_does : (b : Bool) (x : Subscription) → Done room st k k none false b false x (act room (cond b drops nothing) x)
  drops_does false x = unchanged k none x (le_refl k)
  drops_does true x = wiped false x

  pub acks_does : (b : Bool) (x : Subscription) → Stays room st k k none false b false x (act room (cond b acks nothing) x)
  acks_does false x = (unchanged k none x (le_refl k), refl)
  acks_does true unsubscribed = (rest (le_refl k), refl)
  acks_does true (plain r) = (rest (le_refl k), refl)
  acks_does true (acked r empty) = (rest (le_refl k), refl)
  acks_does true (acked r (busy n c [])) = (over (le_refl k), refl)
  acks_does true (acked r (busy n c (y ∷ q))) = (pass (le_refl k), refl)

-- ==== what is wished once it is subscribed

pub asks_wish : (room : Room) (r : ℕ) (a : Bool) (x : Subscription) → is_subscribed x ≡ false
    → wish_in (act room (asks r a) x).0 ≡ some (record { revision = r; no_acknowledge = a })
asks_wish room r true unsubscribed h = refl
asks_wish room r false unsubscribed h = refl
asks_wish room r a (plain v) h = absurd (true≢false h)
asks_wish room r a (acked v q) h = absurd (true≢false h)
