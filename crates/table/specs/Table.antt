-- The lent table: what all sessions share, the places of the results that wait, and a region for each session. 01, "What the product
-- holds"; 02, P2 and P7; docs/TABLE.md has the map.
use Rattle.std.specs.Prelude.{◌≡◌, ℕ, ◌+◌, ◌*◌, ◌≤◌, ◌<◌, Bool, true, cond, ◌&&◌, List, length, get_or, take, drop}
use Rattle.std.specs.declared.ops.Range.{Range}
use Rattle.model.specs.Limits.{session_count, table_least}
use Rattle.model.specs.Bytes.{all}
use Rattle.model.specs.Records.{Settings, settings_of}
use Rattle.model.specs.Events.{Event}
use Rattle.model.specs.Session.{is_closed}
use Rattle.model.specs.World.{World, session_at, uncounted, Moment, after, emitted}
use Rattle.model.specs.Sharing.{Shared, shared_after, unnumbered}
use Rattle.model.specs.Calls.{output}
use Rattle.text.specs.Put.{Put}
use Rattle.text.specs.Areas.{areas}
use Rattle.frame.specs.Places.{notice_in}
use Rattle.places.specs.Places.{places_size, place_in}
use Rattle.lane.specs.Kinds.{is_placed}
use Rattle.lane.specs.Lane.{Reading}
use Rattle.shared.specs.Shared.{shared_size, settings_part, in_force_of, last_of, kept_of, shared_formed}
use Rattle.region.specs.Region.{region_size, session_of, region_formed}

-- ==== its areas

abbrev pub shared_area : List ℕ → List ℕ
shared_area t = take shared_size (drop 0 t)

-- 02, P7: the places that all sessions share
abbrev pub places_area : List ℕ → List ℕ
places_area t = take places_size (drop shared_size t)

-- where the region of a session begins
abbrev pub region_at : ℕ → ℕ
region_at s = shared_size + places_size + s * region_size

-- and where it is
abbrev pub region_range : ℕ → Range ℕ
region_range s = record { start = region_at s; end = region_at s + region_size }

abbrev pub region_in : ℕ → List ℕ → List ℕ
region_in s t = take region_size (drop (region_at s) t)

-- what f reads in the region of each session
abbrev pub regions : {A : Type 0} → (List ℕ → A) → List ℕ → List A
regions f t = areas (λ s. f) region_at (λ s. region_size) 0 session_count t

-- so many bytes are used, of those that are lent
abbrev pub table_used : ℕ
table_used = shared_size + places_size + session_count * region_size

-- ==== 02, P7: what a slot of a session means

-- the bytes of the notice: of a kind that is placed those in the place that the slot is, of another the slot's own
abbrev pub kept_in : List ℕ → ℕ → List ℕ → List ℕ
kept_in places kind slot = cond (is_placed kind) (place_in (get_or slot 0 0) places) slot

abbrev pub reading : List ℕ → Reading
reading places kind slot = notice_in kind (kept_in places kind slot)

abbrev pub reading_in : List ℕ → Reading
reading_in t = reading (places_area t)

-- ==== its meaning (it keeps no count of events)

abbrev pub shared_of : List ℕ → Shared
shared_of a = record {
  settings = settings_of (settings_part a);
  in_force = in_force_of a;
  last = last_of a;
  kept = kept_of a;
  events = 0;
}

unfoldable pub decode : List ℕ → World
decode t = record { shared = shared_of (shared_area t); sessions = regions (session_of (reading_in t)) t }

abbrev pub settings_in : List ℕ → Settings
settings_in t = settings_of (settings_part (shared_area t))

-- 01, "What the product holds", number 2: what is shared is well formed, and every region is
unfoldable pub table_formed : List ℕ → Bool
table_formed t = shared_formed (shared_area t) && all (λ formed. formed) (regions region_formed t)

-- 01, "What the product holds", numbers 1 and 2: long enough, and well formed
pub record Table (t : List ℕ) : Type 0 where
  pub size : table_least ≤ length t
  pub formed : table_formed t ≡ true

-- a session of it is closed, and can be opened
pub record Openable (t : List ℕ) (s : ℕ) : Type 0 where
  pub table : Table t
  pub session : s < session_count
  pub closed : is_closed (session_at (decode t) s) ≡ true

-- ==== what a call makes of it

-- 01, "What the product holds": t has become t', which means w, is as long as t was, and has the same bytes past those that are used
pub record Becomes (t : List ℕ) (w : World) (t' : List ℕ) : Type 0 where
  pub table : Table t'
  pub size : length t' ≡ length t
  pub past : drop table_used t' ≡ drop table_used t
  pub meaning : decode t' ≡ w

-- 01, "Frames we write" and "House records": what an event leaves to all sessions, besides its notices
abbrev pub noted : World → Event → World
noted w e = record { shared = unnumbered (shared_after w.shared e); sessions = w.sessions }

-- the moments have passed, and what they emit was written from `at` on
pub record Went (t o : List ℕ) (at : ℕ) (ms : List Moment) (next : ℕ) (t' o' : List ℕ) : Type 0 where
  pub table : Becomes t (uncounted (after (decode t) ms)) t'
  pub bytes : Put o at (output (emitted (decode t) ms)) next o'

-- no more than so many bytes
pub record WentUpTo (t o : List ℕ) (at most : ℕ) (ms : List Moment) (next : ℕ) (t' o' : List ℕ) : Type 0 where
  pub within : next ≤ at + most
  pub went : Went t o at ms next t' o'
