-- What the readers of records answer, in the model's terms. 01, "House records"; 02, P5.
use Rattle.std.specs.Prelude.{ℕ, Bool, cond, List, Some, None}
use Rattle.std.specs.Prelude.{Option as CodeOption}
use Rattle.std.proofs.Math.Option.{Option, none, some}
use Rattle.model.specs.Limits.{identifier_length}
use Rattle.model.specs.Records.{payload, Settings, settings_of, identifier_in, tightening_of, alarm_of, Tool, scanned, tightening, alarm}
use Rattle.model.specs.Records.{tightening_length, alarm_length}
use Rattle.record.specs.declared.ToolRecord.{ToolRecord}
use Rattle.record.specs.declared.ToolRecord.TheVariants.{Tightening, Scanned, Alarm}

-- the settings in a slice that is a good settings record
abbrev pub settings_in : Bool → List ℕ → Option Settings
settings_in good slice = cond good (some (settings_of (payload slice))) none

-- the tool record in a slice that is that one
abbrev pub tool_in : CodeOption ToolRecord → List ℕ → Option Tool
tool_in None slice = none
tool_in (Some Tightening) slice = some (tightening (identifier_in (payload slice)) (tightening_of (payload slice)))
tool_in (Some Scanned) slice = some (scanned (payload slice))
tool_in (Some Alarm) slice = some (alarm (alarm_of (payload slice)))

-- how long its payload is
abbrev pub size_of : ToolRecord → ℕ
size_of Tightening = tightening_length
size_of Scanned = identifier_length
size_of Alarm = alarm_length
