-- `table::end_run` meets its contract, by whether an identifier is made known.
use Rattle.std.proofs.Common.{rules, arith}
use Rattle.table.specs.Table.{reading_in}
use Rattle.table.proofs.Regions.{part_good}
use Rattle.table.proofs.Receives.{end_lent, heard, identifier_lent, knows, not_told, all_told}
use Rattle.table.proofs.end_run.Goals as goal

pub end_run-ended-requires : goal.end_run-ended-requires
end_run-ended-requires c = rw c.range_of.ensures (part_good _ _ c.requires.table c.requires.session)

pub answer-at-requires : goal.answer-at-requires
answer-at-requires c =
    let ends = rw c.range_of.ensures at c.end_run-ended.ensures (reading_in c.args.table.now) in
    rw c.range_of.ensures (end_lent c.requires c.common-common.ensures ends)

pub happens-requires : goal.happens-requires
happens-requires c =
    let ends = rw c.range_of.ensures at c.end_run-ended.ensures (reading_in c.args.table.now) in
    rw c.range_of.ensures (identifier_lent c.requires c.common-common.ensures ends (search rules) c.answer-at.ensures)

pub returns-in-Some : goal.returns-in-Some
returns-in-Some c =
    let ends = rw c.range_of.ensures at c.end_run-ended.ensures (reading_in c.args.table.now) in
    let said = rw c.range_of.ensures at c.answer-at.ensures in
    let told = rw c.range_of.ensures at c.happens.ensures in
    let known = rw c.in-Some.is at (knows c.requires c.common-common.ensures ends) in
    let within = said.within in
    let more = told.within in
    record { within = omega arith; went = all_told _ _ _ (heard c.requires c.common-common.ensures ends said) known told.went }

pub returns-in-None : goal.returns-in-None
returns-in-None c =
    let ends = rw c.range_of.ensures at c.end_run-ended.ensures (reading_in c.args.table.now) in
    let said = rw c.range_of.ensures at c.answer-at.ensures in
    let known = rw c.in-None.is at (knows c.requires c.common-common.ensures ends) in
    let within = said.within in
    rw c.range_of.ensures record {
      within = omega arith;
      went = not_told _ _ _ (heard c.requires c.common-common.ensures ends said) known;
    }
