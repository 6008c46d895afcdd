-- 01, "House records": what a reader makes of an output's bytes.
use Rattle.std.specs.Prelude.{ℕ, zero, suc, ◌+◌, ◌-◌, Bool, true, false, cond, List, [], ◌∷◌, ◌++◌, leb, eqb, length, take, drop}
use Rattle.std.proofs.Math.Option.{Option, none, some}
use Rattle.model.specs.Bytes.{NUL, places, little}
use Rattle.model.specs.Records.{record_head}
use Rattle.model.specs.Frames.{frame_record_kind, close_record_kind}
use Rattle.model.specs.Session.{Emission, reply, copy, close}
use Rattle.model.specs.Row.{Tagged}

-- a record that was read
pub record RecordRead : Type 0 where
  pub record_kind : ℕ
  pub payload : List ℕ

-- ==== the records of an output: length, kind and payload, one after another, to its end

-- how long the record is that the bytes begin with, and the record
abbrev pub first_size : List ℕ → ℕ
first_size bs = record_head + little (places 1 2 bs)

abbrev pub first_read : List ℕ → RecordRead
first_read bs = record { record_kind = little (places 3 4 bs); payload = take (little (places 1 2 bs)) (drop record_head bs) }

abbrev pub and_more : RecordRead → Option (List RecordRead) → Option (List RecordRead)
and_more r none = none
and_more r (some rs) = some (r ∷ rs)

-- none where a record is cut. `more` bounds the records: there are no more than bytes
abbrev pub read_within : ℕ → List ℕ → Option (List RecordRead)
read_within zero [] = some []
read_within zero (b ∷ bs) = none
read_within (suc more) [] = some []
read_within (suc more) (b ∷ bs) =
    elim (leb (first_size (b ∷ bs)) (length (b ∷ bs))) [
      | true ↦ and_more (first_read (b ∷ bs)) (read_within more (drop (first_size (b ∷ bs)) (b ∷ bs)))
      | false ↦ none
    ]

abbrev pub read_output : List ℕ → Option (List RecordRead)
read_output bs = read_within (length bs) bs

-- ==== output records: a frame to session s, with its NUL, and the order to close it

abbrev pub frames_read : ℕ → List RecordRead → List (List ℕ)
frames_read s [] = []
frames_read s (r ∷ rs) =
    let more = frames_read s rs in
    cond (eqb r.record_kind (frame_record_kind s)) (take (length r.payload - 1) r.payload ∷ more) more

abbrev pub close_read : ℕ → List RecordRead → Bool
close_read s [] = false
close_read s (r ∷ rs) = let more = close_read s rs in cond (eqb r.record_kind (close_record_kind s)) true more

-- the record of an emission
abbrev pub as_read : ℕ → Emission → RecordRead
as_read s (reply frame) = record { record_kind = frame_record_kind s; payload = frame ++ NUL ∷ [] }
as_read s (copy c) = record { record_kind = frame_record_kind s; payload = c.what.frame ++ NUL ∷ [] }
as_read s close = record { record_kind = close_record_kind s; payload = [] }

abbrev pub record_of : Tagged Emission → RecordRead
record_of x = as_read x.who x.what
