-- What passes over the table: an event, received bytes. 01, "What a message does" and "Notices and the clock".
use Rattle.std.specs.Prelude.{◌≡◌, ℕ, suc, ◌+◌, ◌^◌, ◌≤◌, ◌<◌, Bool, true, false, cond, List, [], ◌∷◌, ◌++◌, length}
use Rattle.std.specs.Prelude.{Option, Some, IfSome, MatchOption}
use Rattle.std.proofs.Math.Option.{map as option_map}
use Rattle.model.specs.Limits.{session_count}
use Rattle.model.specs.Runs.{Piece}
use Rattle.model.specs.Records.{Settings}
use Rattle.model.specs.Frames.{event_frame, frame_record}
use Rattle.model.specs.Named.{place_of}
use Rattle.model.specs.Kinds.{kind_at, tightenings, copy_most, event_most, receive_most}
use Rattle.model.specs.Events.{identified}
use Rattle.model.specs.Notices.{is_subscribed}
use Rattle.model.specs.Local.{event, takes, announces, step}
use Rattle.model.specs.World.{World, session_at, uncounted, Moment, to as to_one, to_all, happens, hears, next, emits}
use Rattle.model.specs.Calls.{output, takers, happening}
use Rattle.text.specs.Put.{Put}
use Rattle.frame.specs.Places.{result_of, place_size, event_in, notice_in}
use Rattle.frame.specs.Output.{Recorded}
use Rattle.frame.specs.declared.To.{To}
use Rattle.frame.specs.declared.Asked.{Asked}
use Rattle.places.specs.Places.{place_count, place_in}
use Rattle.lane.specs.Kinds.{most}
use Rattle.lane.specs.Lane.{is_told, is_held}
use Rattle.session.specs.Meaning.{is_taken}
use Rattle.session.specs.declared.Take.{Take}
use Rattle.session.specs.declared.Taken.{Taken}
use Rattle.region.specs.Region.{places_held, subscription_in}
use Rattle.region.specs.Said.{copies_out, Answers}
use Rattle.table.specs.Table.{shared_area, places_area, region_in, reading_in, decode, settings_in, Table, Becomes, noted, Went}
use Rattle.table.specs.Says.{Lent}
use Rattle.table.specs.declared.Copied.{Copied}
use Rattle.table.specs.declared.Next.{Next}
use Rattle.table.specs.declared.Told.{Told}

-- ==== an event of a kind, whose notice has the bytes p; a tightening has the next number

pub record EventTo (t : List ℕ) (kind : ℕ) (p : List ℕ) : Type 0 where
  pub table : Table t
  pub place : length p ≡ place_size kind
  pub number : kind ≡ tightenings → (result_of p).number ≡ suc (decode t).shared.last

-- what was written last, up to `at`: the record of the notice's frame as it was asked for, to one session or another
pub record Last (st : Settings) (kind : ℕ) (p : List ℕ) (at : ℕ) (o : List ℕ) (c : Copied) : Type 0 where
  pub few : at ≤ c.from + copy_most (kind_at kind)
  pub shown : Recorded o c.from at (event_frame st c.asked.revision c.asked.no_acknowledge (event_in kind p))

-- for a copy, as it is asked for
pub record AskedLent (t o : List ℕ) (n : Next) (asked : Asked) (p : List ℕ) : Type 0 where
  pub lent : Lent t o n.to (copy_most (kind_at (place_of asked.kind)))
  pub place : length p ≡ place_size (place_of asked.kind)
  pub last : IfSome n.copied (Last (settings_in t) (place_of asked.kind) p n.to.at o)

-- it was written
pub record Copies (st : Settings) (asked : Asked) (p : List ℕ) (to : To) (o : List ℕ) (next : ℕ) (o' : List ℕ) : Type 0 where
  pub within : next ≤ to.at + copy_most (kind_at (place_of asked.kind))
  pub bytes : Put o to.at (frame_record to.session
      (event_frame st asked.revision asked.no_acknowledge (event_in (place_of asked.kind) p))) next o'

-- ==== 02, P7: a result that is to be held stands in one place

-- the result p stands in the place
pub record Stands (t p : List ℕ) (place : ℕ) : Type 0 where
  pub there : place < place_count
  pub bytes : place_in place (places_area t) ≡ p

-- the places that a session holds when an event has come to it: those that it held, or behind them the one that is told
pub data Adds (held : List ℕ) (place : ℕ) : List ℕ → Type 0 where
  no_more : Adds held place held
  one_more : place < place_count → Adds held place (held ++ (place ∷ []))

-- where the result stands in no place, none is told
abbrev pub AddsIf : List ℕ → Option ℕ → List ℕ → Type 0
AddsIf held place now = MatchOption place (now ≡ held) (λ q. Adds held q now)

-- what it holds of them
abbrev pub held_by : ℕ → List ℕ → List ℕ
held_by s t = places_held (region_in s t)

-- a session is to hold one more: it holds fewer than it may
pub record Roomy (t : List ℕ) : Type 0 where
  pub session : ℕ
  pub there : session < session_count
  pub fewer : length (held_by session t) < most tightenings

-- what stand asks for: the place, if one is told, is where p stands; if none is, no session holds p yet
pub record StandLent (t p : List ℕ) (place : Option ℕ) : Type 0 where
  pub table : Table t
  pub result : length p ≡ place_size tightenings
  pub stands : IfSome place (Stands t p)
  pub room : Roomy t

-- p stands in the place q, where it stood if it did, and nothing else has another meaning
pub record Stood (t p : List ℕ) (place : Option ℕ) (q : ℕ) (t' : List ℕ) : Type 0 where
  pub same : IfSome place (λ before. q ≡ before)
  pub stands : Stands t' p q
  pub becomes : Becomes t (decode t) t'
  pub shared : shared_area t' ≡ shared_area t
  pub regions : (s : ℕ) → s < session_count → region_in s t' ≡ region_in s t

-- for a result of which that becomes, to one session, which is to hold it
pub record PlacedLent (t : List ℕ) (s : ℕ) (taken : Taken) (p : List ℕ) (place : Option ℕ) : Type 0 where
  pub table : Table t
  pub session : s < session_count
  pub answers : Answers tightenings (region_in s t) taken
  pub holds : is_held taken.take ≡ true
  pub result : length p ≡ place_size tightenings
  pub stands : IfSome place (Stands t p)

-- for the event, to one session
pub record KeepLent (t : List ℕ) (s kind : ℕ) (p : List ℕ) (place : Option ℕ) : Type 0 where
  pub table : Table t
  pub session : s < session_count
  pub notice : length p ≡ place_size kind
  pub stands : kind ≡ tightenings → IfSome place (Stands t p)

-- the session took it, or not, and it is to be sent, or not; and what is then to be said. A result that it holds it holds in the place
-- where it stands, which is no other than it was
pub record Keeps (t : List ℕ) (s kind : ℕ) (p : List ℕ) (place : Option ℕ) (take : Take) (t' : List ℕ) (place' : Option ℕ) : Type 0 where
  pub becomes : Becomes t (uncounted (next (decode t) (to_one s (event (event_in kind p))))) t'
  pub settings : settings_in t' ≡ settings_in t
  pub takes : is_taken take ≡ takes kind (session_at (decode t) s)
  pub ready : is_told take ≡ true → is_subscribed (subscription_in (reading_in t') kind (region_in s t')) ≡ true
  pub says : (step (decode t).shared (event (event_in kind p)) (session_at (decode t) s)).1
      ≡ cond (is_told take) (copies_out (settings_in t) kind (subscription_in (reading_in t') kind (region_in s t'))
      (notice_in kind p ∷ [])) []
  pub stands : kind ≡ tightenings → IfSome place' (Stands t' p)
  pub same : IfSome place (λ q. place' ≡ Some q)
  pub adds : kind ≡ tightenings → AddsIf (held_by s t) place' (held_by s t')
  pub others : (j : ℕ) → j < session_count → (j ≡ s → ⊥) → held_by j t' ≡ held_by j t

-- for the event, to one session, with an output
pub record EventLent (t o : List ℕ) (n : Next) (kind : ℕ) (p : List ℕ) : Type 0 where
  pub lent : Lent t o n.to (copy_most (kind_at kind))
  pub notice : length p ≡ place_size kind
  pub last : IfSome n.copied (Last (settings_in t) kind p n.to.at o)
  pub stands : kind ≡ tightenings → IfSome n.place (Stands t p)

-- to one session
pub record TellsOne (t o : List ℕ) (n : Next) (kind : ℕ) (p : List ℕ) (taken : Bool) (t' o' : List ℕ) (n' : Next) : Type 0 where
  pub within : n'.to.at ≤ n.to.at + copy_most (kind_at kind)
  pub takes : taken ≡ takes kind (session_at (decode t) n.to.session)
  pub went : Went t o n.to.at (to_one n.to.session (event (event_in kind p)) ∷ []) n'.to.at t' o'
  pub last : IfSome n'.copied (Last (settings_in t') kind p n'.to.at o')
  pub stands : kind ≡ tightenings → IfSome n'.place (Stands t' p)
  pub same : IfSome n.place (λ q. n'.place ≡ Some q)
  pub adds : kind ≡ tightenings → AddsIf (held_by n.to.session t) n'.place (held_by n.to.session t')
  pub others : (j : ℕ) → j < session_count → (j ≡ n.to.session → ⊥) → held_by j t' ≡ held_by j t

-- 02, P7: one copy of a result that came: each session holds what it held, or behind it one place, which is the same for all of them
pub record OneCopy (kind : ℕ) (t t' : List ℕ) : Type 0 where
  pub place : ℕ
  pub each : kind ≡ tightenings → (s : ℕ) → s < session_count → Adds (held_by s t) place (held_by s t')

-- to every session
pub record Tells (t o : List ℕ) (at kind : ℕ) (p : List ℕ) (r : Told) (t' o' : List ℕ) : Type 0 where
  pub within : r.at ≤ at + event_most kind
  pub taken : r.taken ≡ takers kind 0 (decode t).sessions
  pub becomes : Becomes t (next (decode t) (to_all (event (event_in kind p)))) t'
  pub bytes : Put o at (output (emits (decode t) (to_all (event (event_in kind p))))) r.at o'
  pub one_copy : OneCopy kind t t'

-- what it leaves to all sessions, whose regions are as they were
pub record Notes (t : List ℕ) (kind : ℕ) (p t' : List ℕ) : Type 0 where
  pub becomes : Becomes t (noted (decode t) (event_in kind p)) t'
  pub regions : (s : ℕ) → region_in s t' ≡ region_in s t

-- and to what all share
pub record Happens (t o : List ℕ) (at kind : ℕ) (p : List ℕ) (r : Told) (t' o' : List ℕ) : Type 0 where
  pub within : r.at ≤ at + event_most kind
  pub went : Went t o at (happens (event_in kind p) ∷ []) r.at t' o'
  pub taken : r.taken ≡ takers kind 0 (decode t).sessions
  pub few : r.taken < 2 ^ session_count
  pub one_copy : OneCopy kind t t'

-- ==== received bytes

-- a session hears a piece, and behind it all sessions of the identifier that it makes known
abbrev pub heard_by_all : World → ℕ → Piece → List Moment
heard_by_all w s p = hears s p ∷ happening (option_map identified (announces w.shared p (session_at w s)))

pub record Received (t o : List ℕ) (to : To) (p : Piece) (next : ℕ) (t' o' : List ℕ) : Type 0 where
  pub within : next ≤ to.at + receive_most
  pub went : Went t o to.at (heard_by_all (decode t) to.session p) next t' o'

-- bytes that end no run
abbrev pub unended : List ℕ → Piece
unended bs = record { bytes = bs; ends = false }
