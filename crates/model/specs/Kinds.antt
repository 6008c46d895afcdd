-- 01, "What a message does", "Notices and the clock" and "Frames we write", and 02, P5: the kinds of notice, a row each, with all that
-- tells one kind from another.
use Rattle.std.specs.Prelude.{ℕ, suc, ◌+◌, ◌*◌, List, [], ◌∷◌, get_or}
use Rattle.model.specs.Limits.{session_count, tightenings_held, alarms_held}
use Rattle.model.specs.Records.{record_head}
use Rattle.model.specs.Layouts.{Layouts, layouts_0052, layouts_0061, layouts_0071}

-- how many notices a kind holds: beside the open one the newest alone waits; or so many in all, the open one counted
pub data Room : Type 0 where
  the_newest : Room
  up_to : ℕ → Room

pub record Kind : Type 0 where
  -- the numbers of its messages
  pub subscribe : ℕ
  pub notice : ℕ
  pub acknowledge : ℕ
  pub unsubscribe : ℕ
  -- the own errors: of a subscribe by one that is subscribed, of an unsubscribe by one that is not
  pub already : ℕ
  pub not_subscribed : ℕ
  pub room : Room
  -- the layouts of its notice: subscribing has as many revisions
  pub layouts : Layouts
  -- how long its longest frame is
  pub longest : ℕ

-- the four messages; the two errors; room; layouts and length
abbrev pub a_kind : ℕ → ℕ → ℕ → ℕ → ℕ → ℕ → Room → Layouts → ℕ → Kind
a_kind subscribe notice acknowledge unsubscribe already not_subscribed room layouts longest = record {
  subscribe = subscribe;
  notice = notice;
  acknowledge = acknowledge;
  unsubscribe = unsubscribe;
  already = already;
  not_subscribed = not_subscribed;
  room = room;
  layouts = layouts;
  longest = longest;
}

-- in the order in which a tick looks at them
abbrev pub kinds : List Kind
kinds =
    a_kind 0051 0052 0053 0054 06 07 the_newest layouts_0052 128
    ∷ a_kind 0060 0061 0062 0063 09 10 (up_to tightenings_held) layouts_0061 526
    ∷ a_kind 0070 0071 0072 0073 11 12 (up_to alarms_held) layouts_0071 53
    ∷ []

-- their places
abbrev pub identifiers : ℕ
identifiers = 0

abbrev pub tightenings : ℕ
tightenings = 1

abbrev pub alarms : ℕ
alarms = 2

-- (past the last there is none)
abbrev pub kind_at : ℕ → Kind
kind_at place = get_or kinds place (a_kind 0 0 0 0 0 0 the_newest layouts_0052 0)

abbrev pub room_of : ℕ → Room
room_of place = (kind_at place).room

-- ==== how much goes out at most

-- a copy, as an output record with its NUL
abbrev pub copy_most : Kind → ℕ
copy_most k = record_head + suc k.longest

-- a copy of each kind
abbrev pub copies_most : List Kind → ℕ
copies_most [] = 0
copies_most (k ∷ ks) = copy_most k + copies_most ks

-- the longest reply, 0065; and as an output record with its NUL
abbrev pub longest_reply : ℕ
longest_reply = 118

abbrev pub reply_most : ℕ
reply_most = record_head + suc longest_reply

-- to one session: a reply, and behind it a copy of each kind
abbrev pub session_most : ℕ
session_most = reply_most + copies_most kinds

-- an event of the kind at that place: a copy to each session
abbrev pub event_most : ℕ → ℕ
event_most place = session_count * copy_most (kind_at place)

-- received bytes: what goes to their session, and behind it an identifier that they make known
abbrev pub receive_most : ℕ
receive_most = session_most + event_most identifiers

-- a tick: a copy of each kind to each session
abbrev pub tick_most : ℕ
tick_most = session_count * copies_most kinds

-- any call: a reply, and behind it no more than a tick has (proofs/Bounds)
abbrev pub call_most : ℕ
call_most = reply_most + tick_most
