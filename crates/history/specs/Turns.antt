-- A history as it is seen from outside: the calls, their answers and the records of their output.
use Rattle.std.specs.Prelude.{ℕ, Bool, true, false, cond, ◌&&◌, List, [], ◌∷◌, eqb}
use Rattle.std.proofs.Math.Option.{Option, none}
use Rattle.model.specs.Bytes.{places, decimal}
use Rattle.model.specs.Runs.{Piece}
use Rattle.model.specs.Messages.{Bearing, entry_bearing, entry_of}
use Rattle.model.specs.Session.{Emission, reply, copy, close}
use Rattle.model.specs.World.{World}
use Rattle.model.specs.Calls.{Call, Lent, Answer, step}
use Rattle.model.specs.Sights.{sight, starts}
use Rattle.model.specs.Row.{Tagged, pick}

-- a call that was made: its answer, and the records that it wrote to the output. Each is tagged with its session; a copy of a notice
-- also carries the number of its event, which no byte shows
pub record Turn : Type 0 where
  pub call : Call
  pub answer : Answer
  pub out : List (Tagged Emission)

-- the turns of a run of calls
abbrev pub turn : Call → World × Answer × List (Tagged Emission) → Turn
turn c r = record { call = c; answer = r.1; out = r.2 }

abbrev pub turns : World → List (Lent × Call) → List Turn
turns w [] = []
turns w (c ∷ cs) = let r = step c.0 w c.1 in turn c.1 r ∷ turns r.0 cs

-- ==== calls (a refused one is none of these)

abbrev pub is_done : Turn → Bool
is_done x = eqb x.answer.number 0

abbrev pub is_start : Turn → Bool
is_start x = is_done x && starts x.call

abbrev pub opens : ℕ → Turn → Bool
opens s x = is_done x && (sight s x.call).opens

abbrev pub hangs_up : ℕ → Turn → Bool
hangs_up s x = is_done x && (sight s x.call).hangs_up

abbrev pub ticks : ℕ → Turn → Bool
ticks s x = is_done x && (sight s x.call).ticks

-- 01, "Runs and headers": what a call reads of the session's bytes, up to the first NUL
abbrev pub given : ℕ → Turn → Option Piece
given s x = cond (is_done x) (sight s x.call).given none

-- ==== what goes out to a session

-- the frames, replies and copies alike
abbrev pub frames_in : List Emission → List (List ℕ)
frames_in [] = []
frames_in (reply frame ∷ es) = frame ∷ frames_in es
frames_in (copy c ∷ es) = c.what.frame ∷ frames_in es
frames_in (close ∷ es) = frames_in es

abbrev pub frames_to : ℕ → Turn → List (List ℕ)
frames_to s x = frames_in (pick s x.out)

-- the order to close it
abbrev pub orders_close : List Emission → Bool
orders_close [] = false
orders_close (reply frame ∷ es) = orders_close es
orders_close (copy c ∷ es) = orders_close es
orders_close (close ∷ es) = true

abbrev pub times_out : ℕ → Turn → Bool
times_out s x = orders_close (pick s x.out)

abbrev pub any {ℓ} : {A : Type ℓ} → (A → Bool) → List A → Bool
any test [] = false
any test (x ∷ xs) = let r = any test xs in cond (test x) true r

-- 01, "Frames we write": a frame 0002, and a frame 0005 for a message that is so
abbrev pub mid_of : List ℕ → ℕ
mid_of frame = decimal (places 5 8 frame)

abbrev pub is_0002 : List ℕ → Bool
is_0002 frame = eqb (mid_of frame) 0002

abbrev pub is_0005 : (Bearing → Bool) → List ℕ → Bool
is_0005 so frame = eqb (mid_of frame) 0005 && so (entry_bearing (entry_of (decimal (places 21 24 frame))))

abbrev pub welcomed : ℕ → Turn → Bool
welcomed s x = any is_0002 (frames_to s x)

abbrev pub accepted : ℕ → (Bearing → Bool) → Turn → Bool
accepted s so x = any (is_0005 so) (frames_to s x)

-- a message is accepted that stops the session, that subscribes to a kind of notice or unsubscribes from it, that is an identifier
abbrev pub stops : ℕ → Turn → Bool
stops s x = accepted s (λ m. m.stops) x

abbrev pub subscribes : ℕ → ℕ → Turn → Bool
subscribes s kind x = accepted s (λ m. m.subscribes kind) x

abbrev pub unsubscribes : ℕ → ℕ → Turn → Bool
unsubscribes s kind x = accepted s (λ m. m.unsubscribes kind) x

abbrev pub identifies : ℕ → Turn → Bool
identifies s x = accepted s (λ m. m.identifies) x
