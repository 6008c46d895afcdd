-- 01, "Notices and the clock": what the functions of this crate answer, over the values that they are given. proofs/ ties each to
-- the model, for whatever notices are held.
use Rattle.std.specs.Prelude.{◌≡◌, ℕ, ◌+◌, ◌-◌, ◌%◌, Bool, true, false, cond, ltb, leb, eqb, Option, Some, None}
use Rattle.model.specs.Limits.{idle_limit, copy_every, given_up_at}
use Rattle.model.specs.Kinds.{Room, the_newest, up_to}
use Rattle.session.specs.Meaning.{most_held}
use Rattle.session.specs.declared.Form.{Form}
use Rattle.session.specs.declared.Form.TheVariants as form
use Rattle.session.specs.declared.Phase.{Phase}
use Rattle.session.specs.declared.Phase.TheVariants as phase
use Rattle.session.specs.declared.Subscription.{Subscription}
use Rattle.session.specs.declared.Session.{Session}
use Rattle.session.specs.declared.Beat.{Beat}
use Rattle.session.specs.declared.Beat.TheVariants.{Runs, Copy, GivenUp}
use Rattle.session.specs.declared.Clock.{Clock}
use Rattle.session.specs.declared.Due.{Due}
use Rattle.session.specs.declared.Due.TheVariants as due
use Rattle.session.specs.declared.Step.{Step}
use Rattle.session.specs.declared.Deed.{Deed}
use Rattle.session.specs.declared.Deed.TheVariants.{Nothing, Beats, Acks, Asks, Drops}
use Rattle.session.specs.declared.Take.{Take}
use Rattle.session.specs.declared.Take.TheVariants as take
use Rattle.session.specs.declared.Taken.{Taken}

-- ==== subscribing

abbrev pub subscription : Form → ℕ → ℕ → ℕ → Subscription
subscription form revision clock held = record { form = form; revision = revision; clock = clock; held = held }

abbrev pub unsubscribed : Subscription
unsubscribed = subscription form.Not 0 0 0

-- one that is subscribed stays as it is
abbrev pub subscribed_from : Form → Subscription → ℕ → Bool → Subscription
subscribed_from form.Not x revision no_acknowledge = subscription (cond no_acknowledge form.Plain form.Acknowledged) revision 0 0
subscribed_from form.Plain x revision no_acknowledge = x
subscribed_from form.Acknowledged x revision no_acknowledge = x

abbrev pub subscribed : Subscription → ℕ → Bool → Subscription
subscribed x revision no_acknowledge = subscribed_from x.form x revision no_acknowledge

-- ==== how an opening begins, and what is left of one that is closed

abbrev pub session : Phase → ℕ → Session
session phase idle = record { phase = phase; idle = idle }

abbrev pub fresh : Session
fresh = session phase.Opened 0

abbrev pub cleared : Session
cleared = session phase.Closed 0

-- ==== the clock of an open notice: plus 1, and what it is time for

unfoldable pub beat_at : ℕ → Beat
beat_at clock =
    cond (leb given_up_at (clock + 1)) GivenUp
    (cond (eqb ((clock + 1) % copy_every) 0) (Copy (clock + 1)) (Runs (clock + 1)))

-- where a beat leaves the clock of whichever notice is then open, and what it is time for
abbrev pub clock_after : Beat → Clock
clock_after (Runs clock) = record { ticks = clock }
clock_after (Copy clock) = record { ticks = clock }
clock_after GivenUp = record { ticks = 0 }

abbrev pub due_by : Beat → Option Due
due_by (Runs clock) = None
due_by (Copy clock) = Some due.Copy
due_by GivenUp = Some due.GivenUp

-- a clock that is lent goes on by a beat
pub record Advances (before : Clock) (due : Option Due) (after : Clock) : Type 0 where
  pub clock : after ≡ clock_after (beat_at before.ticks)
  pub time : due ≡ due_by (beat_at before.ticks)

-- ==== a tick and an acknowledge

abbrev pub step : Subscription → Bool → Bool → Step
step next shift send = record { next = next; shift = shift; send = send }

abbrev pub still : Subscription → Step
still x = step x false false

abbrev pub holding : Subscription → ℕ → ℕ → Subscription
holding x clock held = subscription x.form x.revision clock held

-- with none open there is nothing to be gone
abbrev pub next_goes_out : Subscription → Step
next_goes_out x = cond (eqb x.held 0) (still x) (step (holding x 0 (x.held - 1)) true (ltb 1 x.held))

-- by where its clock has come, and what it is time for
abbrev pub step_at : Subscription → ℕ → Option Due → Step
step_at x clock None = step (holding x clock x.held) false false
step_at x clock (Some due.Copy) = step (holding x clock x.held) false true
step_at x clock (Some due.GivenUp) = next_goes_out x

abbrev pub by_beat : Subscription → Beat → Step
by_beat x b = step_at x (clock_after b).ticks (due_by b)

abbrev pub ticked_from : Form → Subscription → Step
ticked_from form.Not x = still x
ticked_from form.Plain x = still x
ticked_from form.Acknowledged x = cond (eqb x.held 0) (still x) (by_beat x (beat_at x.clock))

unfoldable pub ticked : Subscription → Step
ticked x = ticked_from x.form x

abbrev pub acknowledged_from : Form → Subscription → Step
acknowledged_from form.Not x = still x
acknowledged_from form.Plain x = still x
acknowledged_from form.Acknowledged x = next_goes_out x

unfoldable pub acknowledged : Subscription → Step
acknowledged x = acknowledged_from x.form x

-- ==== a deed, an event aside

abbrev pub dealt : Subscription → Deed → Step
dealt x Nothing = still x
dealt x Beats = ticked x
dealt x Acks = acknowledged x
dealt x (Asks revision no_acknowledge) = still (subscribed x revision no_acknowledge)
dealt x Drops = still unsubscribed

-- ==== an event

abbrev pub takes : Take → Subscription → Taken
takes t next = record { take = t; next = next }

abbrev pub take_from : Form → Subscription → Taken → Taken
take_from form.Not x busy = takes take.Not x
take_from form.Plain x busy = takes take.Once x
take_from form.Acknowledged x busy = cond (eqb x.held 0) (takes take.Opens (holding x 0 1)) busy

abbrev pub take_or : Subscription → Taken → Taken
take_or x busy = take_from x.form x busy

-- by the room of its kind, where one is open: the newest waits alone; or it waits behind the others, where there is room
abbrev pub taken_busy : Room → Subscription → Taken
taken_busy the_newest x = takes (take.Waits 1) (holding x x.clock (most_held the_newest))
taken_busy (up_to most) x =
    cond (leb most x.held) (takes take.Not x) (takes (take.Waits x.held) (holding x x.clock (x.held + 1)))

unfoldable pub taken : Room → Subscription → Taken
taken room x = take_or x (taken_busy room x)

-- ==== the idle count

-- the session after a tick; none where it times out
abbrev pub idled_open : Session → Option Session
idled_open x = cond (leb idle_limit (x.idle + 1)) None (Some (session x.phase (x.idle + 1)))

abbrev pub idled_from : Phase → Session → Option Session
idled_from phase.Closed x = Some x
idled_from phase.Opened x = idled_open x
idled_from phase.Started x = idled_open x

unfoldable pub idled : Session → Option Session
idled x = idled_from x.phase x
