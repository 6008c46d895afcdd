-- What is said of a region once it has changed: copies of the notices that are then open, of an event itself, a reply. Each change tells by
-- value what there is to say. 01, "What a message does" and "Notices and the clock".
use Rattle.std.specs.Prelude.{◌≡◌, ℕ, suc, ◌≤◌, ◌<◌, Bool, true, false, cond, List, [], ◌∷◌, ◌++◌, map, length, get_or, set, take, drop}
use Rattle.std.specs.Prelude.{Option, Some, None, IfSome}
use Rattle.std.proofs.Math.Option as maybe
use Rattle.std.proofs.Math.Option.{none, some}
use Rattle.model.specs.Limits.{header_length, idle_limit}
use Rattle.model.specs.Records.{Settings}
use Rattle.model.specs.Runs.{Run, Piece}
use Rattle.model.specs.Kinds.{tightenings, room_of}
use Rattle.model.specs.Named.{place_of}
use Rattle.model.specs.declared.Kind.{Kind}
use Rattle.model.specs.Events.{Notice}
use Rattle.model.specs.Notices.{Subscription, unsubscribed, is_subscribed, Deed, act}
use Rattle.model.specs.Messages as model_messages
use Rattle.model.specs.Session.{Emission, copy, close, copies_to, subscribed_to}
use Rattle.model.specs.Row.{tag, row}
use Rattle.model.specs.Local.{step, tick, event, receives, announces, takes}
use Rattle.model.specs.Sharing.{Shared, shared_begun}
use Rattle.frame.specs.Header.{header_of}
use Rattle.frame.specs.Places.{event_in, notice_in}
use Rattle.message.specs.Meaning.{standing_of, is_among, holds, Remembers}
use Rattle.message.specs.declared.Common.{Common}
use Rattle.message.specs.declared.Standing.{Standing}
use Rattle.session.specs.Decisions.{is_started, decision}
use Rattle.session.specs.Effects.{ticked_so, dealt_by, replies, announced}
use Rattle.session.specs.Meaning.{is_taken}
use Rattle.session.specs.Control.{taken}
use Rattle.session.specs.declared.Phase.TheVariants.{Started}
use Rattle.session.specs.declared.Take.{Take}
use Rattle.session.specs.declared.Taken.{Taken}
use Rattle.session.specs.declared.Session.{Session}
use Rattle.session.specs.declared.Decision.{Decision}
use Rattle.session.specs.declared.Reply.TheVariants.{Kept, Mirrored}
use Rattle.lane.specs.Kinds.{slot_size, slot_formed}
use Rattle.lane.specs.Lane.{Reading, control_of, open_one, any, is_told, is_held}
use Rattle.run.specs.Area.{run_of}
use Rattle.head.specs.Head.{head_of}
use Rattle.region.specs.Region.{head_area, run_area, lane_in, subscriptions_in, subscription_in, session_of, Good, run_bytes}
use Rattle.region.specs.Region.{places_held, Changes}
use Rattle.region.specs.declared.Ended.{Ended}
use Rattle.region.specs.declared.Ruling.{Ruling}

-- ==== copies

-- of these notices, to one that is subscribed to the kind so
abbrev pub copies_out : Settings → ℕ → Subscription → List Notice → List Emission
copies_out st kind x ns = map copy (tag kind (copies_to st x ns))

-- of the open notice, where one is due
abbrev pub due_copy : Settings → ℕ → Bool → Subscription → List Emission
due_copy st kind due x = cond due (copies_out st kind x (open_one x)) []

-- of each kind from that one on, in order
abbrev pub due_copies : Settings → ℕ → List Bool → List Subscription → List Emission
due_copies st kind [] xs = []
due_copies st kind (due ∷ dues) [] = []
due_copies st kind (due ∷ dues) (x ∷ xs) = due_copy st kind due x ++ due_copies st (suc kind) dues xs

-- there is one where one is due
abbrev pub Ready : Bool → Subscription → Type 0
Ready due x = due ≡ true → any (open_one x) ≡ true

pub record AllReady (dues : List Bool) (xs : List Subscription) : Type 0 where
  pub count : length dues ≡ length xs
  pub ready : (kind : ℕ) → kind < length xs → Ready (get_or dues kind false) (get_or xs kind unsubscribed)

-- ==== deeds to the subscriptions, and which of them have a copy to send

abbrev pub acting : (ℕ → Deed) → ℕ → Subscription → Subscription × List Notice
acting deed kind x = act (room_of kind) (deed kind) x

abbrev pub dues : (ℕ → Deed) → ℕ → List Subscription → List Bool
dues deed kind [] = []
dues deed kind (x ∷ xs) = any (acting deed kind x).1 ∷ dues deed (suc kind) xs

-- ==== by what the slots mean

module _ (read : Reading) where
  -- the deed to the notices of one kind: whether a copy is due
  pub record DealtTo (kind : ℕ) (deed : Deed) (r : List ℕ) (due : Bool) (r' : List ℕ) : Type 0 where
    pub changes : Changes read r (head_of (head_area r)) (run_of (run_area r))
        (set (subscriptions_in read r) kind (act (room_of kind) deed (subscription_in read kind r)).0) r'
    pub sends : due ≡ any (act (room_of kind) deed (subscription_in read kind r)).1

  -- to those of every kind
  pub record DealtToAll (deed : ℕ → Deed) (r : List ℕ) (due : List Bool) (r' : List ℕ) : Type 0 where
    pub changes : Changes read r (head_of (head_area r)) (run_of (run_area r)) (row (acting deed) 0 (subscriptions_in read r)) r'
    pub sends : due ≡ dues deed 0 (subscriptions_in read r)

  -- ==== a tick

  -- to one that stays, with that phase and idle count
  pub record TickStays (x : Session) (r : List ℕ) (due : List Bool) (r' : List ℕ) : Type 0 where
    pub good : Good r'
    pub size : length r' ≡ length r
    pub ready : AllReady due (subscriptions_in read r')
    pub steps : (st : Settings)
        → ticked_so st (run_of (run_area r)) (subscriptions_in read r) (Some x)
        ≡ (session_of read r', due_copies st 0 due (subscriptions_in read r'))

  -- what is said: the copies that are due, or the order to close
  abbrev pub tick_said : Settings → Option (List Bool) → List ℕ → List Emission
  tick_said st (Some due) r = due_copies st 0 due (subscriptions_in read r)
  tick_said st None r = close ∷ []

  pub record Ticks (r : List ℕ) (left : Option (List Bool)) (r' : List ℕ) : Type 0 where
    pub good : Good r'
    pub size : length r' ≡ length r
    pub ready : IfSome left (λ due. AllReady due (subscriptions_in read r'))
    pub steps : (g : Shared) → step g tick (session_of read r) ≡ (session_of read r', tick_said g.settings left r')

  -- ==== an event of that kind, whose notice has the bytes p

  abbrev pub event_said : Settings → ℕ → List ℕ → Take → List ℕ → List Emission
  event_said st kind p t r = cond (is_told t) (copies_out st kind (subscription_in read kind r) (notice_in kind p ∷ [])) []

  -- that became of it
  pub record Takes (kind : ℕ) (p r : List ℕ) (t : Take) (r' : List ℕ) : Type 0 where
    pub good : Good r'
    pub size : length r' ≡ length r
    pub takes : is_taken t ≡ takes kind (session_of read r)
    pub ready : is_told t ≡ true → is_subscribed (subscription_in read kind r') ≡ true
    pub steps : (st : Settings)
        → step (shared_begun st 0) (event (event_in kind p)) (session_of read r) ≡ (session_of read r', event_said st kind p t r')

-- what becomes of an event of that kind: where its notice is to be held, it is started, and its lane says so; and where not, nothing
-- changes, whatever the notice
pub record Answers (kind : ℕ) (r : List ℕ) (t : Taken) : Type 0 where
  pub started : is_held t.take ≡ true → (head_of (head_area r)).phase ≡ Started
  pub held : is_held t.take ≡ true → t ≡ taken (room_of kind) (control_of (lane_in kind r))
  pub unheld : is_held t.take ≡ false → (read : Reading) (p : List ℕ) → Takes read kind p r t.take r

-- what take asks for: that becomes of it, its notice is to be held, and the slot is for it
pub record Taking (kind : ℕ) (t : Taken) (slot r : List ℕ) : Type 0 where
  pub good : Good r
  pub answers : Answers kind r t
  pub holds : is_held t.take ≡ true
  pub size : length slot ≡ slot_size kind
  pub formed : slot_formed kind slot ≡ true

-- it is held so, where the slot means it, whatever the slots mean; and of a kind that is placed that place is held behind the others
pub record Holds (kind : ℕ) (t : Take) (slot r r' : List ℕ) : Type 0 where
  pub takes : (read : Reading) (p : List ℕ) → read kind slot ≡ notice_in kind p → Takes read kind p r t r'
  pub adds : kind ≡ tightenings → places_held r' ≡ places_held r ++ slot

-- ==== the end of a run

abbrev pub ending : List ℕ → Piece
ending bs = record { bytes = bs; ends = true }

-- an identifier that is made known, as the model tells it
abbrev pub known_as : Option (List ℕ) → maybe.Option (List ℕ)
known_as None = none
known_as (Some x) = some x

-- what the tests of a message look at, of one with that phase and those subscriptions
abbrev pub stood : Session → Common → List Subscription → model_messages.Standing
stood x common subs = record {
  started = is_started x.phase;
  granted = common.granted;
  subscribed = subscribed_to subs;
  kept = holds common;
}

-- they look at it so, whatever the slots mean
pub record StandsSo (x : Session) (common : Common) (r : List ℕ) (s : Standing) : Type 0 where
  pub tests : (read : Reading) → standing_of s ≡ stood x common (subscriptions_in read r)
  pub shares : s.common ≡ common

-- what all share, as far as the tests look at it
pub record Shows (common : Common) (g : Shared) : Type 0 where
  pub granted : common.granted ≡ g.settings.granted
  pub remembers : Remembers common g.kept

-- the decision on a run, to one that stands so, and the identifier that it makes known
pub record Ruled (x : Session) (standing : Standing) (run : Run) (ruling : Ruling) : Type 0 where
  pub decides : ruling.decision ≡ decision x standing (header_of run.kept run.count) (drop header_length run.kept)
  pub knows : known_as ruling.identified ≡ announced ruling.decision.identifies (drop header_length run.kept)

-- what is ruled on a run to the one in the region
pub record Rules (common : Common) (r : List ℕ) (run : Run) (ruling : Ruling) : Type 0 where
  pub standing : Standing
  pub stands : StandsSo (head_of (head_area r)) common r standing
  pub ruled : Ruled (head_of (head_area r)) standing run ruling

-- what carry_out asks for: the decision leaves an idle count that can be stored
pub record CarryingOut (d : Decision) (r : List ℕ) : Type 0 where
  pub good : Good r
  pub idle : d.next.idle < idle_limit

module _ (read : Reading) where
  -- the copy of the open notice of the kind of which one is due, if one is
  abbrev pub copy_due : Settings → Option Kind → List ℕ → List Emission
  copy_due st None r = []
  copy_due st (Some kind) r = due_copy st (place_of kind) true (subscription_in read (place_of kind) r)

  -- there is one
  abbrev pub IsReady : Option Kind → List ℕ → Type 0
  IsReady due r = IfSome due (λ kind. any (open_one (subscription_in read (place_of kind) r)) ≡ true)

  -- what the decision does
  pub record CarriesOut (d : Decision) (r : List ℕ) (due : Option Kind) (r' : List ℕ) : Type 0 where
    pub good : Good r'
    pub size : length r' ≡ length r
    pub bytes : run_bytes r' ≡ run_bytes r
    pub ready : IsReady due r'
    pub carries : (st : Settings) → dealt_by st d (subscriptions_in read r) ≡ (session_of read r', copy_due st due r')

-- what is left to say
abbrev pub ended_by : Ruling → Bool → Option Kind → Ended
ended_by ruling whole due = record { whole = whole; reply = ruling.decision.reply; due = due; identified = ruling.identified }

-- where its bytes stand when it is over: in the slice that it ended in, if it began there, or in the region
abbrev pub ended_in : Bool → List ℕ → List ℕ → List ℕ
ended_in whole bs r = cond whole bs (run_bytes r)

module _ (read : Reading) where
  -- what is said: the reply, and behind it the copy that is due
  abbrev pub end_said : Shared → List ℕ → Ended → List ℕ → List Emission
  end_said g bs e r = replies g (take header_length (ended_in e.whole bs r)) e.reply ++ copy_due read g.settings e.due r

module _ (read : Reading) where
  -- the bytes bs end a run, where what all share is so
  pub record RunEnds (common : Common) (bs r : List ℕ) (e : Ended) (r' : List ℕ) : Type 0 where
    pub good : Good r'
    pub size : length r' ≡ length r
    pub ready : IsReady read e.due r'
    pub whole : e.reply ≡ Some Mirrored → header_length ≤ length (ended_in e.whole bs r')
    pub kept : (number : ℕ) → e.reply ≡ Some (Kept number) → is_among common number ≡ true
    pub steps : (g : Shared) → Shows common g
        → step g (receives (ending bs)) (session_of read r) ≡ (session_of read r', end_said read g bs e r')
    pub knows : (g : Shared) → Shows common g → known_as e.identified ≡ announces g (ending bs) (session_of read r)
