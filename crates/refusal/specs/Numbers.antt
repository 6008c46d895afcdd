-- 01, "What the product holds", the table of numbers: with which number a call is refused that is lent a table and an output.
use Rattle.std.specs.Prelude.{◌≡◌, ℕ, ◌≤◌, List, [], length, Ok, Err}
use Rattle.std.specs.Prelude.{Option, Result}
use Rattle.std.proofs.Math.Option.{some}
use Rattle.model.specs.Limits.{table_least, output_least}
use Rattle.model.specs.Records.{payload, settings_of, settings_length, read_settings}
use Rattle.model.specs.Tests.{first}
use Rattle.model.specs.Calls.{Call, Lent, asks_both, tests, tool_tests, refusal}
use Rattle.table.specs.Table.{decode, table_formed, Table}
use Rattle.record.specs.declared.ToolRecord.{ToolRecord}
use Rattle.record.specs.Tools.{tool_in}
use Rattle.refusal.specs.declared.Refusal.{Refusal}
use Rattle.refusal.specs.declared.Refusal.TheVariants as why

-- a table, and an output of so many bytes
abbrev pub lent : List ℕ → ℕ → Lent
lent t n = record { table = length t; well_formed = table_formed t; output = n }

-- they will do
pub record Ready (t : List ℕ) (n : ℕ) : Type 0 where
  pub table : Table t
  pub room : output_least ≤ n

-- a table that is long enough, and good settings
pub record Startable (t settings : List ℕ) : Type 0 where
  pub size : table_least ≤ length t
  pub reads : read_settings settings ≡ some (settings_of (payload settings))
  pub whole : length (payload settings) ≡ settings_length

-- the number of a call; 0 where it is not refused
abbrev pub number : List ℕ → ℕ → Call → ℕ
number t n c = refusal (lent t n) (decode t) c

-- the number of a tool record of that kind, whatever its bytes: those of an empty slice do as well as any
unfoldable pub tool_number : List ℕ → ℕ → Option ToolRecord → ℕ
tool_number t n record_kind = first 0 (tests (lent t n) (asks_both (tool_tests (tool_in record_kind []) (decode t).shared.last)))

-- the number that stands for a refusal
abbrev pub number_of : Refusal → ℕ
number_of why.TableShort = 1
number_of why.TableNotWellFormed = 2
number_of why.OutputShort = 3
number_of why.SessionTooHigh = 4
number_of why.SessionClosed = 5
number_of why.SessionNotClosed = 6
number_of why.ToolRecordBad = 7
number_of why.LastNumberReached = 8
number_of why.SettingsBad = 9

-- what is told of a call: that number, and 0 where it is not refused
abbrev pub number_told : {A : Type 0} → Result A Refusal → ℕ
number_told (Ok x) = 0
number_told (Err refusal) = number_of refusal
