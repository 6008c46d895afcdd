-- `region::tick_stays`, by the phase.
use Rattle.region.proofs.Areas.{still_good}
use Rattle.region.proofs.Ticks.{stays_unstarted, stays_started}
use Rattle.region.proofs.tick_stays.Goals as goal

pub beat-requires : goal.beat-requires
beat-requires c = still_good c.store.ensures

pub returns-in-Closed : goal.returns-in-Closed
returns-in-Closed c = λ read. stays_unstarted read (c.store.ensures read) c.in-Closed.is

pub returns-in-Started : goal.returns-in-Started
returns-in-Started c = λ read. stays_started read (c.store.ensures read) c.in-Started.is (c.beat.ensures read)
