-- `table::common` meets its contract.
use Rattle.std.proofs.Common.{ap, ◌∙◌, List, ℕ}
use Rattle.model.specs.Records.{settings_of}
use Rattle.table.proofs.Memory.{shown}
use Rattle.table.proofs.common.Goals as goal

pub returns : goal.returns
returns c =
    let granted = c.is_granted.ensures ∙ ap (λ (p : List ℕ). (settings_of p).granted) c.settings.ensures.0 in
    shown c.args.table.now c.requires granted c.last.ensures.0 c.count.ensures.0
