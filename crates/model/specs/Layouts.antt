-- 01, "Frames we write": the data of a frame by rows, a row for each field.
use Rattle.std.specs.Prelude.{ℕ, suc, ◌+◌, ◌-◌, Bool, true, false, cond, List, [], ◌∷◌, ◌++◌, map, eqb, length, get_or, take, replicate}
use Rattle.std.proofs.Math.Option.{Option, none, some}
use Rattle.model.specs.Limits.{identifier_length, time_length, number_digits}
use Rattle.model.specs.Bytes.{digit_0, spaces, digits}
use Rattle.model.specs.Records.{Value, number_at, limit_at, text_at}

-- ==== what a frame is made of: the values of the settings, and those of what it tells

pub record Sources : Type 0 where
  pub settings : List Value
  pub told : List Value

-- the numbers of the two
abbrev pub settings : ℕ
settings = 0

abbrev pub told : ℕ
told = 1

abbrev pub source : Sources → ℕ → List Value
source b from = cond (eqb from settings) b.settings b.told

-- ==== a row: the sort of its field, in how many characters it stands, and where its value does

pub data Row : Type 0 where
  -- width; source, and which value of it
  number : ℕ → ℕ → ℕ → Row
  limit : ℕ → ℕ → ℕ → Row
  text : ℕ → ℕ → ℕ → Row
  -- width; a text of spaces
  blank : ℕ → Row
  -- width; what the tool does not report (02, P4)
  unreported : ℕ → Row
  -- width; a number that no source has
  known : ℕ → ℕ → Row

abbrev pub width_of : Row → ℕ
width_of (number width from i) = width
width_of (limit width from i) = width
width_of (text width from i) = width
width_of (blank width) = width
width_of (unreported width) = width
width_of (known width n) = width

-- a limit that was never set is spaces (02, P6)
abbrev pub limit_characters : ℕ → Option ℕ → List ℕ
limit_characters width none = spaces width
limit_characters width (some n) = digits width n

-- the field's characters; `0` is each of what is not reported, be it a text
unfoldable pub characters : Sources → Row → List ℕ
characters b (number width from i) = digits width (number_at (source b from) i)
characters b (limit width from i) = limit_characters width (limit_at (source b from) i)
characters b (text width from i) = text_at (source b from) i
characters b (blank width) = spaces width
characters b (unreported width) = replicate width digit_0
characters b (known width n) = digits width n

-- ==== a layout: its rows, and whether each field has its own number before it, in two digits

pub record Layout : Type 0 where
  pub numbered : Bool
  pub rows : List Row

abbrev pub label_length : Bool → ℕ
label_length numbered = cond numbered 2 0

abbrev pub label : Bool → ℕ → List ℕ
label numbered i = digits (label_length numbered) i

-- the fields, one behind the other; i is the number of the first
unfoldable pub data_from : Bool → ℕ → List Row → Sources → List ℕ
data_from numbered i [] b = []
data_from numbered i (row ∷ rows) b = label numbered i ++ characters b row ++ data_from numbered (suc i) rows b

abbrev pub data_of : Layout → Sources → List ℕ
data_of l b = data_from l.numbered 1 l.rows b

-- in how many characters
abbrev pub rows_length : Bool → List Row → ℕ
rows_length numbered [] = 0
rows_length numbered (row ∷ rows) = label_length numbered + width_of row + rows_length numbered rows

abbrev pub data_length : Layout → ℕ
data_length l = rows_length l.numbered l.rows

-- ==== the layouts of the replies

-- which controller it is: fields 01 to 03 of 0002 and of 0061: cell, channel, name
abbrev pub controller_rows : List Row
controller_rows = number 4 settings 0 ∷ number 2 settings 1 ∷ text identifier_length settings 3 ∷ []

abbrev pub layout_0002 : Layout
layout_0002 = record { numbered = true; rows = controller_rows }

-- the number of the message that is answered; of 0004 the error behind it
abbrev pub layout_0004 : ℕ → ℕ → Layout
layout_0004 mid error = record { numbered = false; rows = known 4 mid ∷ known 2 error ∷ [] }

abbrev pub layout_0005 : ℕ → Layout
layout_0005 mid = record { numbered = false; rows = known 4 mid ∷ [] }

-- 02, P2: a tightening by its number; behind that, of its items: identifier, parameter set, batch counter, the three statuses, torque,
-- angle, time, batch status (000, Table 29)
abbrev pub kept_rows : List Row
kept_rows =
    text identifier_length told 0
    ∷ number 3 told 2
    ∷ number 4 told 4
    ∷ number 1 told 5
    ∷ number 1 told 6
    ∷ number 1 told 7
    ∷ number 6 told 11
    ∷ number 5 told 15
    ∷ text time_length told 16
    ∷ number 1 told 18
    ∷ []

abbrev pub layout_0065 : ℕ → Layout
layout_0065 n = record { numbered = true; rows = known number_digits n ∷ kept_rows }

-- ==== the layouts of the notices, by the revision that is subscribed to: of the older ones, from 1 on, and of the newest

pub record Layouts : Type 0 where
  pub older : List Layout
  pub newest : Layout

-- how many revisions there are
abbrev pub revision_count : Layouts → ℕ
revision_count ls = suc (length ls.older)

-- (above the newest there is none)
abbrev pub layout_at : Layouts → ℕ → Layout
layout_at ls revision = get_or ls.older (revision - 1) ls.newest

-- the first so many of some rows, each with its number or not
abbrev pub first_of : List Row → Bool → ℕ → Layout
first_of rows numbered count = record { numbered = numbered; rows = take count rows }

-- the identifier; revision 2 has three parts more, all spaces
abbrev pub identifier_rows : List Row
identifier_rows =
    text identifier_length told 0 ∷ blank identifier_length ∷ blank identifier_length ∷ blank identifier_length ∷ []

-- (in revision 1 the identifier has no number before it: 02, P1, after 004, section 3.3.23)
abbrev pub layouts_0052 : Layouts
layouts_0052 = record { older = first_of identifier_rows false 1 ∷ []; newest = first_of identifier_rows true 4 }

-- 02, P5: 0071 (000, Table 35): error code, controller ready, tool ready, time
abbrev pub alarm_rows : List Row
alarm_rows = text 4 told 0 ∷ number 1 told 1 ∷ number 1 told 2 ∷ text time_length told 3 ∷ []

abbrev pub layouts_0071 : Layouts
layouts_0071 = record { older = []; newest = first_of alarm_rows true 4 }

-- torques: minimum, maximum, target, the torque
abbrev pub torque_rows : List Row
torque_rows = limit 6 told 8 ∷ limit 6 told 9 ∷ limit 6 told 10 ∷ number 6 told 11 ∷ []

-- angles: minimum, maximum, target, the angle
abbrev pub angle_rows : List Row
angle_rows = limit 5 told 12 ∷ limit 5 told 13 ∷ limit 5 told 14 ∷ number 5 told 15 ∷ []

-- time, time of the last change of the parameter set
abbrev pub time_rows : List Row
time_rows = text time_length told 16 ∷ text time_length told 17 ∷ []

-- revision 1 of 0061 (000, Table 21): the controller, a tightening's items in their order, and its number
abbrev pub result_rows : List Row
result_rows =
    controller_rows
    -- 04: identifier, job, parameter set, batch size, batch counter
    ++ text identifier_length told 0
    ∷ number 2 told 1
    ∷ number 3 told 2
    ∷ number 4 told 3
    ∷ number 4 told 4
    -- 09, statuses: tightening, torque, angle
    ∷ number 1 told 5
    ∷ number 1 told 6
    ∷ number 1 told 7
    -- 12, 16 and 20
    ∷ torque_rows
    ++ angle_rows
    ++ time_rows
    -- 22: batch status, tightening number
    ++ number 1 told 18
    ∷ number 10 told 19
    ∷ []

-- the revisions from 2 on, of which each has the first so many of these fields (02, P4; 000, Tables 22 to 26)
abbrev pub later_rows : List Row
later_rows =
    controller_rows
    -- 04: identifier, job, parameter set, strategy, its options
    ++ text identifier_length told 0
    ∷ number 4 told 1
    ∷ number 3 told 2
    ∷ unreported 2
    ∷ unreported 5
    -- 09: batch size, batch counter
    ∷ number 4 told 3
    ∷ number 4 told 4
    -- 11, statuses: tightening, batch, torque, angle
    ∷ number 1 told 5
    ∷ number 1 told 18
    ∷ number 1 told 6
    ∷ number 1 told 7
    -- 15, statuses: rundown angle, current, selftap, prevail torque, its compensation; error status
    ∷ unreported 1
    ∷ unreported 1
    ∷ unreported 1
    ∷ unreported 1
    ∷ unreported 1
    ∷ unreported 10
    -- 21 and 25
    ∷ torque_rows
    ++ angle_rows
    -- 29, each minimum, maximum, the value: rundown angle, current, selftap, prevail torque
    ++ unreported 5
    ∷ unreported 5
    ∷ unreported 5
    ∷ unreported 3
    ∷ unreported 3
    ∷ unreported 3
    ∷ unreported 6
    ∷ unreported 6
    ∷ unreported 6
    ∷ unreported 6
    ∷ unreported 6
    ∷ unreported 6
    -- 41: tightening number; job sequence number, sync number, the tool's serial number
    ∷ number 10 told 19
    ∷ unreported 5
    ∷ unreported 5
    ∷ unreported 14
    -- 45
    ∷ time_rows
    -- 47, from revision 3 on: the parameter set's name, the unit of the torques (1 is Nm), result type
    ++ unreported identifier_length
    ∷ known 1 1
    ∷ unreported 2
    -- 50, from revision 4 on: the identifier's parts 2 to 4
    ∷ unreported identifier_length
    ∷ unreported identifier_length
    ∷ unreported identifier_length
    -- 53, from revision 5 on: the customer's error code
    ∷ unreported 4
    -- 54, from revision 6 on: the value of the prevail torque's compensation, error status 2
    ∷ unreported 6
    ∷ unreported 10
    ∷ []

-- how many fields have revisions 2 to 5, and the newest
abbrev pub older_counts : List ℕ
older_counts = 46 ∷ 49 ∷ 52 ∷ 53 ∷ []

abbrev pub newest_count : ℕ
newest_count = 55

abbrev pub layouts_0061 : Layouts
layouts_0061 = record {
  older = first_of result_rows true 23 ∷ map (first_of later_rows true) older_counts;
  newest = first_of later_rows true newest_count;
}

-- how many has a revision from 2 on (above the newest there is none)
abbrev pub later_count : ℕ → ℕ
later_count revision = get_or older_counts (revision - 2) newest_count
