-- The rows the other way: what a reader makes of the data of a frame. 01, "Frames we write".
use Rattle.std.specs.Prelude.{ℕ, zero, suc, ◌^◌, ◌≡◌, Bool, true, false, cond, ◌&&◌, List, [], ◌∷◌, map, leb, eqb, ltb, length, take, drop}
use Rattle.std.specs.Prelude.{replicate}
use Rattle.std.proofs.Math.Option.{Option, none, some}
use Rattle.model.specs.Limits.{header_length, time_length}
use Rattle.model.specs.Bytes.{digit_0, is_digit, is_space, all, spaces, decimal}
use Rattle.model.specs.Tests.{◌gives◌, first}
use Rattle.model.specs.Records.{Item, number as number_item, limit as limit_item, text as text_item, time, Value, counted, limited}
use Rattle.model.specs.Records.{said, number_at, limit_at, text_at}
use Rattle.model.specs.Records.{Settings, settings_items, scanned_items, result_items, alarm_items}
use Rattle.model.specs.Layouts.{Sources, settings, source, Row, number, limit, text, blank, unreported, known, width_of}
use Rattle.model.specs.Layouts.{label_length}
use Rattle.model.specs.Layouts.{Layout, layout_0002, layout_0004, layout_0005, layout_0065, layout_at}
use Rattle.model.specs.Runs.{Message}
use Rattle.model.specs.Kinds.{kind_at}
use Rattle.model.specs.Events.{Result, Event, identified, tightened, alarmed, kind_of, told_of}
use Rattle.model.specs.Frames.{sources, frame_0002, frame_0004, frame_0005, kept_sources, frame_0065, event_frame}
use Rattle.model.specs.Session.{Copy}

-- the value that a field's characters say: of a number what its digits give, and where there is anything but digits no number
abbrev pub read_number : List ℕ → Value
read_number cs = cond (all is_digit cs) (counted (decimal cs)) (said cs)

-- 02, P6: of a limit what its digits give, none where there are spaces alone, and neither where they are mixed
abbrev pub read_limit : List ℕ → Value
read_limit cs =
    first (said cs) (all is_digit cs gives limited (some (decimal cs)) ∷ all is_space cs gives limited none ∷ [])

abbrev pub read_field : Row → List ℕ → Value
read_field (number width from i) cs = read_number cs
read_field (limit width from i) cs = read_limit cs
read_field (text width from i) cs = said cs
read_field (blank width) cs = said cs
read_field (unreported width) cs = said cs
read_field (known width n) cs = read_number cs

-- the values of data that begins with these rows
unfoldable pub read_fields : Bool → List Row → List ℕ → List Value
read_fields numbered [] cs = []
read_fields numbered (row ∷ rows) cs =
    let field = drop (label_length numbered) cs in
    read_field row (take (width_of row) field) ∷ read_fields numbered rows (drop (width_of row) field)

-- the value that a row has
abbrev pub value_in : Sources → Row → Value
value_in b (number width from i) = counted (number_at (source b from) i)
value_in b (limit width from i) = limited (limit_at (source b from) i)
value_in b (text width from i) = said (text_at (source b from) i)
value_in b (blank width) = said (spaces width)
value_in b (unreported width) = said (replicate width digit_0)
value_in b (known width n) = counted n

-- which values its characters can say: a number that has no more digits, a limit that is such a number, or none where there is a character
-- to say it, a text of the width
abbrev pub limit_legible : ℕ → Option ℕ → Bool
limit_legible width none = ltb 0 width
limit_legible width (some n) = ltb n (10 ^ width)

abbrev pub legible : Sources → Row → Bool
legible b (number width from i) = ltb (number_at (source b from) i) (10 ^ width)
legible b (limit width from i) = limit_legible width (limit_at (source b from) i)
legible b (text width from i) = eqb (length (text_at (source b from) i)) width
legible b (blank width) = true
legible b (unreported width) = true
legible b (known width n) = ltb n (10 ^ width)

-- ==== a frame, read by a layout; and what its rows have

abbrev pub read_frame : Layout → List ℕ → List Value
read_frame l frame = read_fields l.numbered l.rows (drop header_length frame)

abbrev pub values_in : Sources → Layout → List Value
values_in b l = map (value_in b) l.rows

-- the layout of an event's notice
abbrev pub layout_for : Event → ℕ → Layout
layout_for e revision = layout_at (kind_at (kind_of e)).layouts revision

-- a copy of a notice reads back: it is its event's frame, with these settings and at some revision, and by this revision's rows a reader
-- gets out of it the values that the settings and the event have
pub record ReadsBack (st : Settings) (c : Copy) : Type 0 where
  pub revision : ℕ
  pub no_acknowledge : Bool
  pub made : c.frame ≡ event_frame st revision no_acknowledge c.notice.event
  pub back : read_frame (layout_for c.notice.event revision) c.frame
      ≡ values_in (sources st (told_of c.notice.event)) (layout_for c.notice.event revision)

-- a reply to a message reads back: 0002 as these settings, 0004 as the message's number and an error, 0005 as the number, 0065 as a
-- tightening with its number; a 9999 has no data
pub data ReplyReads (st : Settings) (m : Message) : List ℕ → Type 0 where
  reads_0002 : read_frame layout_0002 (frame_0002 st) ≡ values_in (sources st []) layout_0002 → ReplyReads st m (frame_0002 st)
  reads_0004 : (error : ℕ)
      → read_frame (layout_0004 m.mid error) (frame_0004 m.mid error) ≡ counted m.mid ∷ counted error ∷ []
      → ReplyReads st m (frame_0004 m.mid error)
  reads_0005 : read_frame (layout_0005 m.mid) (frame_0005 m.mid) ≡ counted m.mid ∷ []
      → ReplyReads st m (frame_0005 m.mid)
  reads_0065 : (r : Result)
      → read_frame (layout_0065 r.number) (frame_0065 r) ≡ values_in (kept_sources r) (layout_0065 r.number)
      → ReplyReads st m (frame_0065 r)
  reads_9999 : ReplyReads st m m.header

-- ==== which rows have room for whatever their items say: a test of rows against items, with no value in it

-- a number, or a limit, whose greatest value is below that; a text, or a time, of that length
abbrev pub number_below : ℕ → Item → Bool
number_below bound (number_item size greatest) = ltb greatest bound
number_below bound (limit_item size greatest) = false
number_below bound (text_item size) = false
number_below bound time = false

abbrev pub limit_below : ℕ → Item → Bool
limit_below bound (number_item size greatest) = false
limit_below bound (limit_item size greatest) = ltb greatest bound
limit_below bound (text_item size) = false
limit_below bound time = false

abbrev pub text_of : ℕ → Item → Bool
text_of width (number_item size greatest) = false
text_of width (limit_item size greatest) = false
text_of width (text_item size) = eqb size width
text_of width time = eqb time_length width

-- the item at a place passes a test (past the last there is none)
abbrev pub passes_at : (Item → Bool) → List Item → ℕ → Bool
passes_at test [] i = false
passes_at test (e ∷ es) zero = test e
passes_at test (e ∷ es) (suc i) = passes_at test es i

-- by the items of the settings, and of what is told
abbrev pub row_fits : List Item → List Item → Row → Bool
row_fits ss ts (number width from i) = passes_at (number_below (10 ^ width)) (cond (eqb from settings) ss ts) i
row_fits ss ts (limit width from i) = ltb 0 width && passes_at (limit_below (10 ^ width)) (cond (eqb from settings) ss ts) i
row_fits ss ts (text width from i) = passes_at (text_of width) (cond (eqb from settings) ss ts) i
row_fits ss ts (blank width) = true
row_fits ss ts (unreported width) = true
row_fits ss ts (known width n) = ltb n (10 ^ width)

-- ==== values that are within their items: a number up to the greatest, a limit that is none or such a number, a text of its length

abbrev pub limit_within : ℕ → Option ℕ → Bool
limit_within greatest none = true
limit_within greatest (some n) = leb n greatest

abbrev pub is_within : Item → Value → Bool
is_within (number_item size greatest) (counted n) = leb n greatest
is_within (number_item size greatest) (limited l) = false
is_within (number_item size greatest) (said bs) = false
is_within (limit_item size greatest) (counted n) = false
is_within (limit_item size greatest) (limited l) = limit_within greatest l
is_within (limit_item size greatest) (said bs) = false
is_within (text_item size) (counted n) = false
is_within (text_item size) (limited l) = false
is_within (text_item size) (said bs) = eqb (length bs) size
is_within time (counted n) = false
is_within time (limited l) = false
is_within time (said bs) = eqb (length bs) time_length

abbrev pub all_within : List Item → List Value → Bool
all_within [] [] = true
all_within [] (v ∷ vs) = false
all_within (e ∷ es) [] = false
all_within (e ∷ es) (v ∷ vs) = is_within e v && all_within es vs

-- the items of what there is to tell of an event
abbrev pub items_of : Event → List Item
items_of (identified x) = scanned_items
items_of (tightened r) = result_items
items_of (alarmed vs) = alarm_items

-- settings, and events, of which each value is
abbrev pub settings_within : Settings → Bool
settings_within st = all_within settings_items st.values

abbrev pub told_within : Event → Bool
told_within e = all_within (items_of e) (told_of e)
