-- `region::hang_up`: what is stored is a closed session, whatever the run and the lanes are.
use Rattle.std.proofs.Common.{◌∙◌, ap}
use Rattle.session.specs.declared.Session.{Session}
use Rattle.run.specs.Area.{run_of}
use Rattle.region.specs.Region.{run_area, subscriptions_in, meaning}
use Rattle.region.proofs.Areas.{means, still_good}
use Rattle.region.proofs.hang_up.Goals as goal

pub returns : goal.returns
returns c = (
  still_good c.store.ensures,
  λ read. let r = c.args.region.now in
      means read (c.store.ensures read).becomes
      ∙ ap (λ (x : Session). meaning x (run_of (run_area r)) (subscriptions_in read r)) c.cleared.ensures,
)
