-- `region::open`: what is stored is a fresh session, and then its run is empty.
use Rattle.std.proofs.Common.{◌∙◌, ap}
use Rattle.model.specs.Runs.{empty_run}
use Rattle.session.specs.declared.Session.{Session}
use Rattle.region.specs.Region.{subscriptions_in, meaning}
use Rattle.region.proofs.Areas.{means, still_good}
use Rattle.region.proofs.open.Goals as goal

pub clear_run-requires : goal.clear_run-requires
clear_run-requires c = still_good c.store.ensures

pub returns : goal.returns
returns c = (
  still_good c.clear_run.ensures,
  λ read. means read (c.clear_run.ensures read).becomes
      ∙ ap (λ (x : Session). meaning x empty_run (subscriptions_in read c.store.new.region))
      ((c.store.ensures read).becomes.head ∙ c.fresh.ensures),
)
