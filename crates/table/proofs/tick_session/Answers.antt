-- `table::tick_session` meets its contract, by whether it times out.
use Rattle.std.proofs.Common.{sym, arith}
use mathlib.Core.List.{append-nil}
use Rattle.text.proofs.Puts.{put_as}
use Rattle.table.specs.Table.{reading_in}
use Rattle.table.proofs.Regions.{part_good}
use Rattle.table.proofs.Passes.{due_lent, tick_passed}
use Rattle.table.proofs.tick_session.Goals as goal

pub tick-requires : goal.tick-requires
tick-requires c = rw c.range_of.ensures (part_good _ _ c.requires.table c.requires.session)

pub say-requires : goal.say-requires
say-requires c =
    let ticks = rw c.range_of.ensures at c.in-Some.ensures (reading_in c.args.table.now) in
    rw c.range_of.ensures (due_lent c.requires ticks)

pub returns-in-Some : goal.returns-in-Some
returns-in-Some c =
    let ticks = rw c.range_of.ensures at c.in-Some.ensures (reading_in c.args.table.now) in
    let said = rw c.range_of.ensures at c.say.ensures in
    rw c.range_of.ensures record { within = said.within; went = tick_passed c.requires ticks said.bytes }

pub returns-in-None : goal.returns-in-None
returns-in-None c =
    let ticks = rw c.range_of.ensures at c.in-None.ensures (reading_in c.args.table.now) in
    let closed = c.put_close.ensures in
    let place = closed.place in
    rw c.range_of.ensures record {
      within = omega arith;
      went = tick_passed c.requires ticks (put_as (sym (append-nil _)) closed.put);
    }
