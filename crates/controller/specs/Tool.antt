-- A tool record: what the functions behind the call ask for, and what its event does. 01, "House records".
use Rattle.std.specs.Prelude.{◌≡◌, ℕ, ◌≤◌, List, length, Some}
use Rattle.model.specs.Limits.{output_least, number_greatest}
use Rattle.model.specs.Kinds.{call_most}
use Rattle.model.specs.Records.{payload, tightening_length, read_tool}
use Rattle.model.specs.Calls.{tool, does, moments}
use Rattle.record.specs.declared.ToolRecord.{ToolRecord}
use Rattle.record.specs.declared.ToolRecord.TheVariants.{Tightening}
use Rattle.record.specs.Tools.{tool_in, size_of}
use Rattle.table.specs.Table.{decode, Table, Went}

-- what put_result asks for: the payload p of a tightening, and a number that is left for it
pub record Keeping (t p : List ℕ) : Type 0 where
  pub table : Table t
  pub payload : length p ≡ tightening_length
  pub number : (decode t).shared.last ≡ number_greatest → ⊥

-- what report asks for: the slice is that tool record, and a number is left where it is a tightening
pub record Reporting (tool_record : ToolRecord) (t o slice : List ℕ) : Type 0 where
  pub table : Table t
  pub room : output_least ≤ length o
  pub reads : tool_in (Some tool_record) slice ≡ read_tool slice
  pub whole : length (payload slice) ≡ size_of tool_record
  pub number : tool_record ≡ Tightening → (decode t).shared.last ≡ number_greatest → ⊥

-- what report does: the moments of the tool record have passed, and `took` says who took its event
pub record Reports (slice t o : List ℕ) (at took : ℕ) (t' o' : List ℕ) : Type 0 where
  pub within : at ≤ call_most
  pub went : Went t o 0 (moments (decode t) (tool slice)) at t' o'
  pub taken : took ≡ (does (decode t) (tool slice)).taken
