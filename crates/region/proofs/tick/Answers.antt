-- `region::tick`, by what becomes of the idle count.
use Rattle.std.proofs.Common.{sym, subst}
use Rattle.session.specs.declared.Session.{Session}
use Rattle.session.proofs.Idles.{idled_few}
use Rattle.run.specs.Area.{run_of}
use Rattle.region.specs.Region.{run_area, subscriptions_in, Changes}
use Rattle.region.proofs.Ticks.{tick_stays, tick_closes}
use Rattle.region.proofs.tick.Goals as goal

pub tick_stays-requires : goal.tick_stays-requires
tick_stays-requires c = (c.requires, idled_few c.load.result _ c.load.ensures.1 (sym c.in-Some.ensures))

pub returns : goal.returns
returns c = λ read.
    tick_stays read c.args.region.now c.load.result c.load.ensures.0 c.load.ensures.1 c.in-Some.ensures (c.tick_stays.ensures read)

pub returns-in_default : goal.returns-in_default
returns-in_default c = λ read.
    tick_closes read c.args.region.now c.load.result c.load.ensures.0 c.load.ensures.1 c.in_default.ensures
    (subst (λ (x : Session). Changes read c.args.region.now x (run_of (run_area c.args.region.now))
    (subscriptions_in read c.args.region.now) c.store.new.region) c.cleared.ensures (c.store.ensures read))
