-- 01, "Counted and compared": the records of an input.
use Rattle.std.specs.Prelude.{◌≡◌, ℕ, ◌+◌, ◌≤◌, ◌<◌, Bool, cond, not, ◌&&◌, leb, length, take, drop}
use mathlib.Core.List.{List, flatten}
use Rattle.model.specs.Limits.{payload_longest}
use Rattle.model.specs.Bytes.{places, little}
use Rattle.model.specs.Records.{record_head}
use Rattle.model.specs.Program.{slices}

-- the size of the record that an input begins with, or 0 where that is cut or too long
unfoldable pub whole_size : List ℕ → ℕ
whole_size input =
    let payload : ℕ = little (places 1 2 input) in
    let size : ℕ = record_head + payload in
    cond (leb record_head (length input) && leb payload payload_longest && leb size (length input)) size 0

-- an input begins with a header, which announces a payload of so many bytes
pub record Announces (input : List ℕ) (payload : ℕ) : Type 0 where
  pub head : record_head ≤ length input
  pub payload_length : payload ≡ little (places 1 2 input)

-- an input begins with a whole record, `front`, and `behind` stands behind it
pub record Parted (input front behind : List ℕ) : Type 0 where
  pub some : 0 < whole_size input
  pub first : front ≡ take (whole_size input) input
  pub rest : behind ≡ drop (whole_size input) input
  pub head : record_head ≤ length front
  pub lengths : length front + length behind ≡ length input

-- a whole header that announces too long a payload
unfoldable pub too_long : List ℕ → Bool
too_long input = leb record_head (length input) && not (leb (little (places 1 2 input)) payload_longest)

-- the whole records that an input begins with, and what waits behind them
abbrev pub records : List ℕ → List (List ℕ)
records input = slices (length input) input

unfoldable pub waits : List ℕ → List ℕ
waits input = drop (length (flatten (records input))) input
