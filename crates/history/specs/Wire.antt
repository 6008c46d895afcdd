-- What a line server sees of a history: where each frame ends that a call wrote, and which message a reply follows. It is read off the
-- calls, their answers and the bytes that they wrote; nothing here looks into the table.
use Rattle.std.specs.Prelude.{ℕ, zero, suc, ◌<◌, ◌≡◌, true, false, cond, List, [], ◌∷◌, ◌++◌, map, eqb, length, take, drop}
use Rattle.std.proofs.Math.Option.{Option, none, some}
use Rattle.model.specs.Limits.{session_count}
use Rattle.model.specs.Bytes.{NUL, places, decimal}
use Rattle.model.specs.Runs.{empty_run, longer, Message, read_run}
use Rattle.model.specs.Frames.{frame_record_kind, close_record_kind}
use Rattle.model.specs.Calls.{bytes}
use Rattle.model.specs.Wire.{Every, NoNUL, Framed, Answers, is_notice}
use Rattle.controller.specs.Contract.{model_answer}
use Rattle.controller.specs.Trace.{Made}
use Rattle.history.specs.Turns.{Turn}
use Rattle.history.specs.Past.{run}
use Rattle.history.specs.Output.{RecordRead, read_output, frames_read}

-- ==== 01, "House records", output records

-- a frame to session s, with its NUL, and the order to close it
abbrev pub frame_read : ℕ → List ℕ → RecordRead
frame_read s frame = record { record_kind = frame_record_kind s; payload = frame ++ NUL ∷ [] }

abbrev pub order_read : ℕ → RecordRead
order_read s = record { record_kind = close_record_kind s; payload = [] }

-- ==== 01, "Frames we write": each frame is read alike by its NUL and by its length

pub data Whole : RecordRead → Type 0 where
  a_frame : (s : ℕ) (frame : List ℕ) → s < session_count → Framed frame → Whole (frame_read s frame)
  an_order : (s : ℕ) → s < session_count → Whole (order_read s)

-- ==== 01, "What a message does" and "Notices and the clock": a reply comes first in the call that completed its message, to the session
-- that sent it

-- a call and its answer, off which a session's run is read
abbrev pub asked : Made → Turn
asked m = record { call = m.call; answer = model_answer m.answer; out = [] }

-- m, after those calls, of which the newest stands first, completes that message of session s
pub record Completes (past : List Made) (m : Made) (s : ℕ) (x : Message) : Type 0 where
  -- it is done, and was given these bytes of session s
  pub done : m.answer.number ≡ 0
  pub given : List ℕ
  pub call : m.call ≡ bytes s given
  -- what it consumed of them ends in their first NUL
  pub piece : List ℕ
  pub no_NUL : NoNUL piece
  pub consumed : take m.answer.consumed given ≡ piece ++ NUL ∷ []
  -- the run that this NUL ends is the message
  pub read : read_run (longer empty_run (run s (map asked past) ++ piece)) ≡ some x

-- what is no reply: the frame of a notice, or the order to close a session
pub data NoReply : RecordRead → Type 0 where
  a_notice : (s : ℕ) (frame : List ℕ) → is_notice frame ≡ true → NoReply (frame_read s frame)
  to_close : (s : ℕ) → NoReply (order_read s)

pub data Replies (past : List Made) (m : Made) : List RecordRead → Type 0 where
  none_replies : {rs : List RecordRead} → Every NoReply rs → Replies past m rs
  replies : {s : ℕ} {x : Message} {frame : List ℕ} {rs : List RecordRead}
      → Completes past m s x → Answers x frame → Every NoReply rs → Replies past m (frame_read s frame ∷ rs)

-- ==== a call, and a history

-- the bytes that a call wrote, read as house records to their end
pub record OnTheWire (past : List Made) (m : Made) : Type 0 where
  pub records : List RecordRead
  pub read : read_output (take m.answer.written m.output_left) ≡ some records
  pub whole : Every Whole records
  pub replies : Replies past m records

-- each of these calls, after those
abbrev pub InTurn : (List Made → Made → Type 0) → List Made → List Made → Type 0
InTurn P past [] = Unit {0}
InTurn P past (m ∷ ms) = P past m × InTurn P (m ∷ past) ms

-- ==== two receivers of the bytes that a session is sent

-- one cuts them at each NUL: `begun` is what came since the last
abbrev pub cut_at_NUL : List ℕ → List ℕ → List (List ℕ)
cut_at_NUL begun [] = []
cut_at_NUL begun (b ∷ bs) = elim (eqb b NUL) [ true ↦ begun ∷ cut_at_NUL [] bs | false ↦ cut_at_NUL (begun ++ b ∷ []) bs ]

abbrev pub by_NUL : List ℕ → List (List ℕ)
by_NUL bs = cut_at_NUL [] bs

-- the other takes as many as the first four tell, and the NUL behind them. `more` bounds the frames: there are no more than bytes
abbrev pub count_off : ℕ → List ℕ → List (List ℕ)
count_off zero bs = []
count_off (suc more) [] = []
count_off (suc more) (b ∷ bs) =
    let n = decimal (places 1 4 (b ∷ bs)) in take n (b ∷ bs) ∷ count_off more (drop (suc n) (b ∷ bs))

abbrev pub by_length : List ℕ → List (List ℕ)
by_length bs = count_off (length bs) bs

-- the records that a call wrote, as they are read
abbrev pub records_read : Option (List RecordRead) → List RecordRead
records_read none = []
records_read (some rs) = rs

abbrev pub records_of : Made → List RecordRead
records_of m = records_read (read_output (take m.answer.written m.output_left))

-- the bytes that a history sends to session s, and its frames
abbrev pub payloads_to : ℕ → List RecordRead → List ℕ
payloads_to s [] = []
payloads_to s (r ∷ rs) = let more = payloads_to s rs in cond (eqb r.record_kind (frame_record_kind s)) (r.payload ++ more) more

abbrev pub bytes_to : ℕ → List Made → List ℕ
bytes_to s [] = []
bytes_to s (m ∷ ms) = payloads_to s (records_of m) ++ bytes_to s ms

abbrev pub frames_sent : ℕ → List Made → List (List ℕ)
frames_sent s [] = []
frames_sent s (m ∷ ms) = frames_read s (records_of m) ++ frames_sent s ms
