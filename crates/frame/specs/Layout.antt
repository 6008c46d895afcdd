-- The data of the frames that we write, of values that stand as bytes. 01, "Frames we write".
use Rattle.std.specs.Prelude.{◌≡◌, ℕ, ◌+◌, ◌-◌, ◌≤◌, true, List, [], ◌∷◌, ◌++◌, length, take, drop, replicate}
use Rattle.model.specs.Records.{Item, values, settings_items, tightening_items, tightening_length}
use Rattle.model.specs.Limits.{identifier_length}
use Rattle.model.specs.Layouts.{Sources, told, Row, number, text, unreported, Layout, label, data_from, data_of, data_length, rows_length}
use Rattle.model.specs.Layouts.{layout_at, layout_0002, layout_0004, layout_0005, layout_0065, kept_rows, result_rows, later_rows}
use Rattle.model.specs.Layouts.{later_count}
use Rattle.model.specs.Kinds.{kind_at}
use Rattle.model.specs.Named.{place_of}
use Rattle.text.specs.Put.{Put, Written}
use Rattle.frame.specs.Places.{place_items}
use Rattle.frame.specs.declared.Content.{Content}
use Rattle.frame.specs.declared.Content.TheVariants.{Started, Refused, Accepted, Kept, Notice}

-- ==== what frames say: the layout of each, and of which items what it tells is the payload

abbrev pub layout_of : Content → Layout
layout_of Started = layout_0002
layout_of (Refused mid error) = layout_0004 mid error
layout_of (Accepted mid) = layout_0005 mid
layout_of (Kept n) = layout_0065 n
layout_of (Notice asked) = layout_at (kind_at (place_of asked.kind)).layouts asked.revision

abbrev pub items_told : Content → List Item
items_told Started = []
items_told (Refused mid error) = []
items_told (Accepted mid) = []
items_told (Kept n) = tightening_items
items_told (Notice asked) = place_items (place_of asked.kind)

-- ==== what a frame is made of, as bytes: a settings record's payload, and what it tells

pub record Payloads : Type 0 where
  pub settings : List ℕ
  pub told : List ℕ

abbrev pub payloads : List ℕ → List ℕ → Payloads
payloads settings told = record { settings = settings; told = told }

-- the values that they hold
abbrev pub held : List Item → Payloads → Sources
held told b = record { settings = values settings_items b.settings; told = values told b.told }

-- those of settings alone, and of what is told alone
abbrev pub set_values : List ℕ → Sources
set_values settings = held [] (payloads settings [])

abbrev pub told_values : List Item → List ℕ → Sources
told_values items told = held items (payloads [] told)

-- the data: of those values
unfoldable pub data_in : Content → Payloads → List ℕ
data_in content b = data_of (layout_of content) (held (items_told content) b)

-- it was written
abbrev pub DataPut : Content → Payloads → List ℕ → ℕ → ℕ → List ℕ → Type 0
DataPut content b o at r o' = Written o at (data_length (layout_of content)) (data_in content b) r o'

-- ==== some fields of a frame

-- the characters of a field behind its number
abbrev pub numbered : ℕ → List ℕ → List ℕ
numbered n characters = label true n ++ characters

-- the fields of some rows were written, the first of which has number n
abbrev pub FieldsPut : Sources → ℕ → List Row → List ℕ → ℕ → ℕ → List ℕ → Type 0
FieldsPut b n rows o at r o' = Written o at (rows_length true rows) (data_from true n rows b) r o'

-- an output of so many bytes has room for them
abbrev pub Room : List Row → ℕ → ℕ → Type 0
Room rows at size = at + rows_length true rows ≤ size

-- and a tightening is told
abbrev pub Tellable : List Row → List ℕ → ℕ → ℕ → Type 0
Tellable rows told at size = (tightening_length ≤ length told) × Room rows at size

-- those of rows that tell nothing were written: whatever there is to tell
pub record FixedPut (n : ℕ) (rows : List Row) (o : List ℕ) (at r : ℕ) (o' : List ℕ) : Type 0 where
  pub place : r ≡ at + rows_length true rows
  pub put : (b : Sources) → Put o at (data_from true n rows b) r o'

-- so many fields of one width that the tool does not report
abbrev pub unreported_rows : ℕ → ℕ → List Row
unreported_rows count width = replicate count (unreported width)

-- there is room for them, and their numbers, from n on, have two digits
abbrev pub RoomFrom : ℕ → List Row → ℕ → ℕ → Type 0
RoomFrom n rows at size = (n + length rows ≤ 100) × Room rows at size

-- of the rows of 0061 so many, from the field with number n on: of revision 1, and of those from 2 on
abbrev pub results : ℕ → ℕ → List Row
results n count = take count (drop (n - 1) result_rows)

abbrev pub later : ℕ → ℕ → List Row
later n count = take count (drop (n - 1) later_rows)

-- of either the identifier, the job in so many digits, the parameter set
abbrev pub program_rows : ℕ → List Row
program_rows job_digits = text identifier_length told 0 ∷ number job_digits told 1 ∷ number 3 told 2 ∷ []

-- what a revision from 2 on has behind those of revision 2
abbrev pub added : ℕ → List Row
added revision = later 47 (later_count revision - 46)

-- of the rows of 0065 those before the statuses, and those behind them
abbrev pub kept_first : ℕ → List Row
kept_first n = take 4 (layout_0065 n).rows

abbrev pub kept_last : List Row
kept_last = drop 6 kept_rows
