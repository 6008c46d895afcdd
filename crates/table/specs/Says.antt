-- What is said of a table, and what is lent for it: first the table has changed, and then it is lent beside the output.
-- 01, "Frames we write" and "Notices and the clock".
use Rattle.std.specs.Prelude.{◌≡◌, ℕ, ◌+◌, ◌≤◌, ◌<◌, Bool, true, List, length, Option, Some, None}
use Rattle.model.specs.Limits.{session_count, header_length}
use Rattle.model.specs.Named.{place_of}
use Rattle.model.specs.declared.Kind.{Kind}
use Rattle.model.specs.Kinds.{kinds, kind_at, copy_most, copies_most, session_most}
use Rattle.model.specs.Memory.{numbered, is_there}
use Rattle.model.specs.Notices.{Subscription, is_subscribed}
use Rattle.model.specs.Session.{Emission}
use Rattle.text.specs.Put.{Put}
use Rattle.frame.specs.Places.{place_size}
use Rattle.frame.specs.declared.To.{To}
use Rattle.frame.specs.declared.Asked.{Asked}
use Rattle.lane.specs.Lane.{is_plain, control_of, open_one, any}
use Rattle.session.specs.Effects.{out_bytes}
use Rattle.session.specs.declared.Reply.{Reply}
use Rattle.session.specs.declared.Reply.TheVariants.{Started, Accepted, Error, Kept, Mirrored}
use Rattle.shared.specs.Memory.{payload_kept}
use Rattle.region.specs.Region.{lane_in, subscriptions_in, subscription_in}
use Rattle.region.specs.Said.{AllReady, IsReady, ended_in}
use Rattle.region.specs.declared.Ended.{Ended}
use Rattle.table.specs.Table.{region_in, reading_in, decode, Table}

-- the subscription of a session to a kind, and all of them
abbrev pub subscription_to : To → ℕ → List ℕ → Subscription
subscription_to to kind t = subscription_in (reading_in t) kind (region_in to.session t)

abbrev pub subscriptions_to : To → List ℕ → List Subscription
subscriptions_to to t = subscriptions_in (reading_in t) (region_in to.session t)

-- how a session asked for notices of a kind, by its region
abbrev pub asked_in : Kind → List ℕ → Asked
asked_in kind r =
    let x = control_of (lane_in (place_of kind) r) in
    record { kind = kind; revision = x.revision; no_acknowledge = is_plain x.form }

-- a table, one of its sessions, and that session has a notice of that kind open
pub record Opened (t : List ℕ) (s kind : ℕ) : Type 0 where
  pub table : Table t
  pub session : s < session_count
  pub one : any (open_one (subscription_in (reading_in t) kind (region_in s t))) ≡ true

-- a table, one of its sessions, and room for so many bytes
pub record Lent (t o : List ℕ) (to : To) (most : ℕ) : Type 0 where
  pub table : Table t
  pub session : to.session < session_count
  pub room : to.at + most ≤ length o

-- what went out to that session was written, no more bytes than so many
pub record Wrote (most : ℕ) (es : List Emission) (to : To) (o : List ℕ) (next : ℕ) (o' : List ℕ) : Type 0 where
  pub within : next ≤ to.at + most
  pub bytes : Put o to.at (out_bytes to.session es) next o'

-- for a copy of a notice
pub record CopyLent (t o : List ℕ) (to : To) (kind : ℕ) (p : List ℕ) : Type 0 where
  pub lent : Lent t o to (copy_most (kind_at kind))
  pub place : length p ≡ place_size kind
  pub subscribed : is_subscribed (subscription_to to kind t) ≡ true

-- for a copy of the open notice of a kind, of which one is due
pub record OpenLent (t o : List ℕ) (to : To) (kind : ℕ) : Type 0 where
  pub lent : Lent t o to (copy_most (kind_at kind))
  pub one : any (open_one (subscription_to to kind t)) ≡ true

-- for copies of the kinds of which one is due
pub record DueLent (t o : List ℕ) (to : To) (due : List Bool) : Type 0 where
  pub lent : Lent t o to (copies_most kinds)
  pub ready : AllReady due (subscriptions_to to t)

-- what a reply tells besides the settings: of a tightening that is kept its payload, out of what all share; of a 9999 the run
abbrev pub told_by : List ℕ → List ℕ → Option Reply → List ℕ
told_by a run None = run
told_by a run (Some Started) = run
told_by a run (Some (Accepted mid)) = run
told_by a run (Some (Error mid code)) = run
told_by a run (Some (Kept number)) = payload_kept number a
told_by a run (Some Mirrored) = run

-- for what the end of a run leaves to say, the bytes of the run and the tightening that is told of among it
pub record EndLent (t o : List ℕ) (to : To) (bs : List ℕ) (e : Ended) : Type 0 where
  pub lent : Lent t o to session_most
  pub ready : IsReady (reading_in t) e.due (region_in to.session t)
  pub whole : e.reply ≡ Some Mirrored → header_length ≤ length (ended_in e.whole bs (region_in to.session t))
  pub kept : (number : ℕ) → e.reply ≡ Some (Kept number) → is_there (numbered number (decode t).shared.kept) ≡ true
