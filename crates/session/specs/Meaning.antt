-- What a subscription, and a session, by value is among the model's definitions. The lists are the notices that a subscription holds, in
-- order, which are kept elsewhere.
use Rattle.std.specs.Prelude.{ℕ, ◌≤◌, ◌<◌, ◌≡◌, Bool, true, false, List, [], ◌∷◌, ◌++◌, length, take}
use Rattle.model.specs.Limits.{given_up_at}
use Rattle.model.specs.Runs.{Run}
use Rattle.model.specs.Events.{Notice}
use Rattle.model.specs.Kinds.{Room, the_newest, up_to}
use Rattle.model.specs.Notices.{Pending, empty, busy, unsubscribed, plain, acked}
use Rattle.model.specs.Notices as model
use Rattle.model.specs.Session.{closed, opened, started}
use Rattle.model.specs.Session as model_session
use Rattle.session.specs.declared.Form.{Form}
use Rattle.session.specs.declared.Form.TheVariants as form
use Rattle.session.specs.declared.Phase.{Phase}
use Rattle.session.specs.declared.Phase.TheVariants.{Closed, Opened, Started}
use Rattle.session.specs.declared.Subscription.{Subscription}
use Rattle.session.specs.declared.Step.{Step}
use Rattle.session.specs.declared.Deed.{Deed}
use Rattle.session.specs.declared.Deed.TheVariants as deed
use Rattle.session.specs.declared.Take.{Take}
use Rattle.session.specs.declared.Take.TheVariants.{Not, Once, Opens, Waits}
use Rattle.session.specs.declared.Taken.{Taken}

-- ==== 01, "Notices and the clock": a subscription, and what it holds

-- the first notice is open, and the clock is its
abbrev pub pending_in : ℕ → List Notice → Pending
pending_in clock [] = empty
pending_in clock (n ∷ ns) = busy n clock ns

abbrev pub subscription_as : Form → ℕ → ℕ → List Notice → model.Subscription
subscription_as form.Not revision clock ns = unsubscribed
subscription_as form.Plain revision clock ns = plain revision
subscription_as form.Acknowledged revision clock ns = acked revision (pending_in clock ns)

abbrev pub subscription_in : Subscription → List Notice → model.Subscription
subscription_in x ns = subscription_as x.form x.revision x.clock ns

-- how many notices a kind holds at most, the open one included
abbrev pub most_held : Room → ℕ
most_held the_newest = 2
most_held (up_to most) = most

-- what is true of a subscription that holds those notices
pub record Holds (room : Room) (x : Subscription) (ns : List Notice) : Type 0 where
  pub held : x.held ≡ length ns
  pub clock : x.clock < given_up_at
  pub fits : length ns ≤ most_held room

-- ==== 01, "Notices and the clock": what a step says of a tick or an acknowledge

-- whether the notices held shift down
abbrev pub shifted : Bool → List Notice → List Notice
shifted false ns = ns
shifted true [] = []
shifted true (n ∷ ns) = ns

-- whether the first is sent
abbrev pub sent : Bool → List Notice → List Notice
sent false ns = []
sent true [] = []
sent true (n ∷ ns) = n ∷ []

-- the subscription becomes `becomes`, and sends what stands with it, where it held ns
pub record Stepped (room : Room) (becomes : model.Subscription × List Notice) (ns : List Notice) (s : Step) : Type 0 where
  pub acts : becomes ≡ (subscription_in s.next (shifted s.shift ns), sent s.send (shifted s.shift ns))
  pub holds : Holds room s.next (shifted s.shift ns)

-- the model's deed
abbrev pub deed_of : Deed → model.Deed
deed_of deed.Nothing = model.nothing
deed_of deed.Beats = model.beats
deed_of deed.Acks = model.acks
deed_of (deed.Asks revision no_acknowledge) = model.asks revision no_acknowledge
deed_of deed.Drops = model.drops

-- ==== 01, "Notices and the clock": what is said of an event

-- n at the place, as the last of those held
abbrev pub put : ℕ → Notice → List Notice → List Notice
put place n ns = take place ns ++ n ∷ []

-- those held after it
abbrev pub kept : Take → Notice → List Notice → List Notice
kept Not n ns = ns
kept Once n ns = ns
kept Opens n ns = put 0 n ns
kept (Waits place) n ns = put place n ns

-- what is sent at once
abbrev pub told : Take → Notice → List Notice
told Not n = []
told Once n = n ∷ []
told Opens n = n ∷ []
told (Waits place) n = []

abbrev pub is_taken : Take → Bool
is_taken Not = false
is_taken Once = true
is_taken Opens = true
is_taken (Waits place) = true

-- the place that is written, where there is one
abbrev pub place_of : Take → ℕ
place_of Not = 0
place_of Once = 0
place_of Opens = 0
place_of (Waits place) = place

-- the event n is taken as `taken` says, and the subscription becomes `becomes`, and sends what stands with it, where it held ns
pub record Took (room : Room) (becomes : model.Subscription × List Notice) (taken : Bool) (n : Notice) (ns : List Notice)
    (t : Taken) : Type 0 where
  pub acts : becomes ≡ (subscription_in t.next (kept t.take n ns), told t.take n)
  pub takes : taken ≡ is_taken t.take
  pub holds : Holds room t.next (kept t.take n ns)
  pub place : place_of t.take < most_held room

-- ==== 01, "What a message does": what is said of subscribing and unsubscribing

-- the notices that are held when it has been asked for: one that is subscribed stays as it is
abbrev pub held_asked : Form → List Notice → List Notice
held_asked form.Not ns = []
held_asked form.Plain ns = ns
held_asked form.Acknowledged ns = ns

-- the subscription becomes `becomes`, which is x holding ns, and nothing is sent
pub record Becomes (room : Room) (becomes : model.Subscription × List Notice) (x : Subscription) (ns : List Notice) : Type 0 where
  pub acts : becomes ≡ (subscription_in x ns, [])
  pub holds : Holds room x ns

-- ==== a session, with its run

abbrev pub session_as : Phase → ℕ → Run → List model.Subscription → model_session.Session
session_as Closed idle run subs = closed
session_as Opened idle run subs = opened idle run
session_as Started idle run subs = started idle run subs
