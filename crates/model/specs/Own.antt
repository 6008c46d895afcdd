-- What one session sees of a history of calls, and what it is told; and the same as a fold over what it sees, in which the calls for
-- other sessions do not stand.
use Rattle.std.specs.Prelude.{ℕ, zero, suc, ◌<◌, ◌≡◌, Bool, true, false, cond, List, [], ◌∷◌, ◌++◌, ltb, length}
use Rattle.std.proofs.Math.Option.{Option, none, some}
use Rattle.model.specs.Limits.{table_least, output_least}
use Rattle.model.specs.Events.{Event}
use Rattle.model.specs.Sharing.{Shared}
use Rattle.model.specs.Session.{Session, Emission}
use Rattle.model.specs.Local.{Local, step as session_step}
use Rattle.model.specs.Row.{Tagged, pick}
use Rattle.model.specs.World.{World, session_at, Change, Moment, happens, changed, next, emits}
use Rattle.model.specs.Calls.{Call, Lent, does, refusal, moments, in_sum, Answer, step}
use Rattle.model.specs.Sights.{sight}

-- ==== what it sees

-- a call that is for it, alone or among others; or the event that a call for another session is
pub data Glance : Type 0 where
  its_call : Call → Glance
  its_news : Event → Glance

-- by the number that the call answers
abbrev pub made_known : ℕ → Option Event → Option Glance
made_known zero none = none
made_known zero (some e) = some (its_news e)
made_known (suc n) o = none

abbrev pub glance : ℕ → Lent → World → Call → Option Glance
glance s l w c = cond (sight s c).own (some (its_call c)) (made_known (refusal l w c) (does w c).event)

-- ==== what it is told: the call's number, what goes out to it, and whether it is among those that took the event

pub record Learned : Type 0 where
  pub number : ℕ
  pub sent : List Emission
  pub took : Bool

abbrev pub told_to : ℕ → World × Answer × List (Tagged Emission) → Learned
told_to s r = record { number = r.1.number; sent = pick s r.2; took = in_sum s r.1.taken }

-- ==== of a history

abbrev pub if_seen : {A B : Type 0} → Option A → (A → B) → List B → List B
if_seen none f bs = bs
if_seen (some a) f bs = f a ∷ bs

-- the calls and the events that it sees
abbrev pub view_of : ℕ → World → List (Lent × Call) → List Glance
view_of s w [] = []
view_of s w (c ∷ cs) = if_seen (glance s c.0 w c.1) (λ x. x) (view_of s (step c.0 w c.1).0 cs)

-- what it is told at these
abbrev pub told_in : ℕ → World → List (Lent × Call) → List Learned
told_in s w [] = []
told_in s w (c ∷ cs) =
    let r = step c.0 w c.1 in
    if_seen (glance s c.0 w c.1) (λ x. told_to s r) (told_in s r.0 cs)

abbrev pub world_after : World → List (Lent × Call) → World
world_after w [] = w
world_after w (c ∷ cs) = world_after (step c.0 w c.1).0 cs

-- ==== its own step, folded over what it sees of the moments (proofs/Lived)

-- the moments of a run of calls, by their refusals: a refused call has none
abbrev pub moments_done : ℕ → World → Call → List Moment
moments_done zero w c = moments w c
moments_done (suc n) w c = []

abbrev pub moments_in : World → List (Lent × Call) → List Moment
moments_in w [] = []
moments_in w (c ∷ cs) = moments_done (refusal c.0 w c.1) w c.1 ++ moments_in (step c.0 w c.1).0 cs

-- what goes out in it
abbrev pub sent_in : World → List (Lent × Call) → List (Tagged Emission)
sent_in w [] = []
sent_in w (c ∷ cs) = let r = step c.0 w c.1 in r.2 ++ sent_in r.0 cs

-- what a session sees of moments: of each its own part, and what that leaves to all
abbrev pub seen_of : ℕ → List Moment → List (Local × Change)
seen_of s [] = []
seen_of s (m ∷ ms) = (m.sees s, m.leaves) ∷ seen_of s ms

-- its state after these, and what goes out to it
abbrev pub lived : Shared → Session → List (Local × Change) → Session × List Emission
lived g x [] = (x, [])
lived g x (m ∷ ms) =
    let r = session_step g m.0 x in
    let more = lived (changed g m.1) r.0 ms in
    (more.0, r.1 ++ more.1)

-- ==== what it is told, as a fold over the view_of

-- lent long enough
pub record Ample (l : Lent) : Type 0 where
  pub table : ltb l.table table_least ≡ false
  pub well_formed : l.well_formed ≡ true
  pub output : ltb l.output output_least ≡ false

abbrev pub AllAmple : List (Lent × Call) → Type 0
AllAmple [] = Unit {0}
AllAmple (c ∷ cs) = Ample c.0 × AllAmple cs

abbrev pub ample : Lent
ample = record { table = table_least; well_formed = true; output = output_least }

abbrev pub glanced : ℕ → World → Glance → World × Learned
glanced s w (its_call c) = let r = step ample w c in (r.0, told_to s r)
glanced s w (its_news e) = (
  next w (happens e),
  record { number = 0; sent = pick s (emits w (happens e)); took = false },
)

abbrev pub folded : ℕ → World → List Glance → List Learned
folded s w [] = []
folded s w (x ∷ xs) = let r = glanced s w x in r.1 ∷ folded s r.0 xs

abbrev pub world_folded : ℕ → World → List Glance → World
world_folded s w [] = w
world_folded s w (x ∷ xs) = world_folded s (glanced s w x).0 xs

-- two worlds are the same for it: what all share, and its own state
pub record SameFor (s : ℕ) (w v : World) : Type 0 where
  pub shared : w.shared ≡ v.shared
  pub session : session_at w s ≡ session_at v s
  pub here : s < length w.sessions
  pub there : s < length v.sessions
