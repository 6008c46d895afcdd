-- The rule of the table of messages, that each row is the model's entry at its place.
use Rattle.std.proofs.Common.{◌≡◌, refl, sym, ap, ◌∙◌, ℕ, List, map, get_or}
use Rattle.std.proofs.Math.ListN.{get_or-map}
use Rattle.model.specs.Messages.{Entry, table}
use Rattle.message.specs.Inner.{entry_in}
use Rattle.message.specs.declared.Row.{Row}
use Rattle.message.specs.declared.TheConstants.{MESSAGES}

-- one test, computed over the whole table
the_table : map entry_in MESSAGES ≡ table
the_table = refl

-- so it holds at each place
pub rule : (k : ℕ) (beyond : Row) → entry_in (get_or MESSAGES k beyond) ≡ get_or table k (entry_in beyond)
rule k beyond =
    sym (get_or-map entry_in MESSAGES k beyond) ∙ ap (λ (entries : List Entry). get_or entries k (entry_in beyond)) the_table
