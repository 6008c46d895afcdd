-- What the writers of fields, frames and output records are lent, and what they do. 01, "Frames we write", and "House records", output
-- records.
use Rattle.std.specs.Prelude.{◌≡◌, ℕ, suc, ◌+◌, ◌-◌, ◌≤◌, ◌<◌, Bool, cond, List, ◌++◌, length}
use Rattle.model.specs.Limits.{header_length}
use Rattle.model.specs.Bytes.{space, digit_0, digit_1, in_bytes}
use Rattle.model.specs.Records.{record_head, payload_length, settings_length, tightening_length, result_items}
use Rattle.model.specs.Layouts.{data_length}
use Rattle.model.specs.Kinds.{kind_at, copy_most}
use Rattle.model.specs.Named.{place_of}
use Rattle.model.specs.Frames.{header, frame, frame_record}
use Rattle.text.specs.Put.{Put, Written, Stands}
use Rattle.frame.specs.Places.{place_size}
use Rattle.frame.specs.Layout.{layout_of, Payloads, data_in}
use Rattle.frame.specs.declared.Content.{Content}
use Rattle.frame.specs.declared.Content.TheVariants.{Started, Refused, Accepted, Kept, Notice}
use Rattle.frame.specs.declared.Heading.{Heading}
use Rattle.frame.specs.declared.To.{To}
use Rattle.frame.specs.declared.Asked.{Asked}

-- ==== what a frame is made of

-- a result and the settings are whole
abbrev pub ResultWhole : List ℕ → List ℕ → Type 0
ResultWhole settings told = (length settings ≡ settings_length) × (length told ≡ payload_length result_items)

-- what it is made of is whole: settings for 0002, and for notices beside what they tell, a tightening for 0065
abbrev pub Whole : Content → Payloads → Type 0
Whole Started b = length b.settings ≡ settings_length
Whole (Refused mid error) b = Unit {0}
Whole (Accepted mid) b = Unit {0}
Whole (Kept n) b = length b.told ≡ tightening_length
Whole (Notice asked) b = (length b.settings ≡ settings_length) × (length b.told ≡ place_size (place_of asked.kind))

-- its data can be written
pub record Layable (content : Content) (b : Payloads) (at size : ℕ) : Type 0 where
  pub whole : Whole content b
  pub room : at + data_length (layout_of content) ≤ size

-- ==== frames

-- how long a frame is
abbrev pub frame_length : Content → ℕ
frame_length content = header_length + data_length (layout_of content)

-- its message number; its revision and byte 12: of a reply 1 and a space, of a notice as it was subscribed to
abbrev pub mid_of : Content → ℕ
mid_of Started = 2
mid_of (Refused mid error) = 4
mid_of (Accepted mid) = 5
mid_of (Kept n) = 65
mid_of (Notice asked) = (kind_at (place_of asked.kind)).notice

abbrev pub revision_of : Content → ℕ
revision_of Started = 1
revision_of (Refused mid error) = 1
revision_of (Accepted mid) = 1
revision_of (Kept n) = 1
revision_of (Notice asked) = asked.revision

abbrev pub notice_byte_12 : Bool → ℕ
notice_byte_12 no_acknowledge = cond no_acknowledge digit_1 digit_0

abbrev pub byte_12_of : Content → ℕ
byte_12_of Started = space
byte_12_of (Refused mid error) = space
byte_12_of (Accepted mid) = space
byte_12_of (Kept n) = space
byte_12_of (Notice asked) = notice_byte_12 asked.no_acknowledge

abbrev pub heading_of : Content → Heading
heading_of content = record {
  size = frame_length content;
  mid = mid_of content;
  revision = revision_of content;
  byte_12 = byte_12_of content;
}

abbrev pub heading_bytes : Heading → List ℕ
heading_bytes h = header h.size h.mid h.revision h.byte_12

-- the header of a frame can go there: it is told how many bytes the frame has
pub record Headable (content : Content) (count at size : ℕ) : Type 0 where
  pub own : count ≡ frame_length content
  pub room : at + header_length ≤ size

abbrev pub frame_of : Content → Payloads → List ℕ
frame_of content b = frame (mid_of content) (revision_of content) (byte_12_of content) (data_in content b)

-- 0005 has the number that is answered, 0004 an error behind it
abbrev pub length_0005 : ℕ
length_0005 = frame_length (Accepted 0)

abbrev pub length_0004 : ℕ
length_0004 = frame_length (Refused 0 0)

-- 0002 tells which controller it is
abbrev pub length_0002 : ℕ
length_0002 = frame_length Started

-- ==== output records

-- the record of a frame of so many bytes: its head, the frame, its NUL
abbrev pub record_length : ℕ → ℕ
record_length size = record_head + suc size

-- so many bytes can go there: the output has room for them, and the session's number is the low byte of its records' kinds
pub record Writable (out : List ℕ) (to : To) (size : ℕ) : Type 0 where
  pub room : to.at + size ≤ length out
  pub numbered : to.session < 256

-- a payload that stands there up to `end` can become a record, of a kind to which the session's number is added
pub record Recordable (out : List ℕ) (to : To) (record_kind end : ℕ) : Type 0 where
  pub output : Writable out to record_head
  pub ends : to.at + record_head ≤ end
  pub few : record_kind ≤ 512

-- the head of that record
abbrev pub head_bytes : To → ℕ → ℕ → List ℕ
head_bytes to record_kind end = in_bytes 2 (end - (to.at + record_head)) ++ in_bytes 2 (record_kind + to.session)

-- the record is made
pub record RecordMade (o : List ℕ) (to : To) (record_kind end r : ℕ) (o' : List ℕ) : Type 0 where
  pub ends : r ≡ end
  pub head : Written o to.at record_head (head_bytes to record_kind end) (to.at + record_head) o'

-- a frame can go there
pub record Sendable (out : List ℕ) (to : To) (content : Content) (b : Payloads) : Type 0 where
  pub output : Writable out to (record_length (frame_length content))
  pub whole : Whole content b

-- a copy of the notice in a place can go there: it may be as long as its kind has them, and what it is made of is whole
pub record Lent (out : List ℕ) (to : To) (asked : Asked) (st p : List ℕ) : Type 0 where
  pub output : Writable out to (copy_most (kind_at (place_of asked.kind)))
  pub settings : length st ≡ settings_length
  pub place : length p ≡ place_size (place_of asked.kind)

-- the record of the frame bs stands there, to one session or another
pub record Recorded (out : List ℕ) (from at : ℕ) (bs : List ℕ) : Type 0 where
  pub session : ℕ
  pub stands : Stands out from at (frame_record session bs)

-- whichever frame's record stands before the place goes there once more
pub record WrittenAgain (o : List ℕ) (to : To) (from r : ℕ) (o' : List ℕ) : Type 0 where
  pub place : r ≡ to.at + (to.at - from)
  pub put : (bs : List ℕ) → Recorded o from to.at bs → Put o to.at (frame_record to.session bs) r o'

-- a record that stands from `from` up to the place can go there once more
pub record Repeatable (out : List ℕ) (to : To) (from : ℕ) : Type 0 where
  pub output : Writable out to (to.at - from)
  pub whole : from + record_head ≤ to.at
