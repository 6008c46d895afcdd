-- 02, P7: what a layout of tables is. The contract of the calls, and histories of them, are said of any layout.
use Rattle.std.specs.Prelude.{◌≡◌, ℕ, Bool, List, length}
use Rattle.model.specs.Limits.{session_count}
use Rattle.model.specs.World.{World}
use Rattle.table.specs.Table.{table_used, decode, table_formed}

-- what tables mean, which of them are well formed, and how many of their bytes are used
pub record Layout : Type 0 where
  pub decode : List ℕ → World
  pub formed : List ℕ → Bool
  pub used : ℕ

-- the product's
abbrev pub ours : Layout
ours = record { decode = decode; formed = table_formed; used = table_used }

-- 01, "What the product holds": whatever its bytes, a table means as many sessions as there are
abbrev pub EverySession : Layout → Type 0
EverySession layout = (t : List ℕ) → length (layout.decode t).sessions ≡ session_count
