-- Demand 3, of the product: of every history of calls that the contracts of the six calls allow.
use Rattle.std.specs.Prelude.{ℕ, ◌<◌, ◌≡◌, false, ◌&&◌, List, [], ◌∷◌, eqb, length, take}
use Rattle.std.proofs.Math.Option.{some}
use Rattle.model.specs.Limits.{session_count}
use Rattle.model.specs.Records.{Settings, read_settings}
use Rattle.model.specs.Kinds.{up_to, kinds, room_of}
use Rattle.model.specs.World.{begun}
use Rattle.model.specs.Calls.{output}
use Rattle.model.specs.Sights.{starts}
use Rattle.watch.specs.Marks.{Every, Demand3, InTime}
use Rattle.controller.specs.Contract.{model_answer}
use Rattle.controller.specs.Trace.{Made, lendings}
use Rattle.history.specs.Turns.{Turn, turns, frames_to, times_out}
use Rattle.history.specs.Output.{RecordRead, read_output, frames_read, close_read}
use Rattle.history.specs.Demand.{marks, FewFrames, ToldApart}

-- ==== the turns of a history are its calls, their answers and the bytes that they wrote

pub record Shows (m : Made) (x : Turn) : Type 0 where
  pub call : x.call ≡ m.call
  pub answer : x.answer ≡ model_answer m.answer
  pub bytes : output x.out ≡ take m.answer.written m.output_left
  -- these bytes, read as house records to their end; and what is counted of the turn is what is read
  pub records : List RecordRead
  pub read : read_output (take m.answer.written m.output_left) ≡ some records
  pub frames : (s : ℕ) → s < session_count → frames_to s x ≡ frames_read s records
  pub closes : (s : ℕ) → s < session_count → times_out s x ≡ close_read s records

abbrev pub Tells : List Made → List Turn → Type 0
Tells [] [] = Unit {0}
Tells [] (x ∷ xs) = ⊥
Tells (m ∷ ms) [] = ⊥
Tells (m ∷ ms) (x ∷ xs) = Shows m x × Tells ms xs

-- there is no choice in them: they are those of the model's run of the same calls, after a start with those settings, each lent a table
-- of that size
abbrev pub turns_of : Settings → ℕ → List Made → List Turn
turns_of settings size ms = turns (begun settings 0) (lendings size ms)

-- no second start is done among them
abbrev pub Once : List Made → Type 0
Once ms = Every (λ m. (eqb m.answer.number 0 && starts m.call) ≡ false) ms

-- ==== demand 3, for every session and every kind of notice, of a history that began with those settings in a table of that size

pub record Meets (slice : List ℕ) (size : ℕ) (ms : List Made) : Type 0 where
  pub settings : Settings
  pub given : read_settings slice ≡ some settings
  pub tells : Tells ms (turns_of settings size ms)
  pub told_apart : (s : ℕ) → s < session_count → ToldApart settings s (turns_of settings size ms)
  pub notices : (s : ℕ) → s < session_count → (kind : ℕ) → kind < length kinds
      → Demand3 (marks settings s kind [] (turns_of settings size ms))
  -- of every kind of which several wait
  pub in_time : (s : ℕ) → s < session_count → (kind most : ℕ) → kind < length kinds → room_of kind ≡ up_to most
      → InTime most (marks settings s kind [] (turns_of settings size ms))
  pub few_frames : (s : ℕ) → s < session_count → FewFrames settings s (turns_of settings size ms)
