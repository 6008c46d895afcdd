-- What the header reader answers, in the model's terms. 01, "Runs and headers".
use Rattle.std.specs.Prelude.{ℕ, ◌≡◌, List, drop, Option, Some, None}
use Rattle.std.proofs.Math.Option.{Option as Maybe, none, some}
use Rattle.model.specs.Limits.{header_length}
use Rattle.model.specs.Runs.{Message, read_run}
use Rattle.frame.specs.declared.Header.{Header}

-- a run that is no message is dropped
abbrev pub shown : Maybe Message → Option Header
shown none = None
shown (some m) = Some (record { size = m.size; mid = m.mid; revision = m.revision; no_acknowledge = m.no_acknowledge })

-- of a run of `count` bytes, of which these are the first
unfoldable pub header_of : List ℕ → ℕ → Option Header
header_of bs count = shown (read_run (record { kept = bs; count = count }))

-- what is read of a run: its header, and its data field, which stands behind the header
pub record RunReads (run : List ℕ) (count : ℕ) (said : Option Header) (behind : List ℕ) : Type 0 where
  pub header : said ≡ header_of run count
  pub field : behind ≡ drop header_length run
