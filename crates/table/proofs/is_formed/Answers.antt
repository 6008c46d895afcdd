-- `table::is_formed` meets its contract.
use Rattle.std.proofs.Common.{sym, ap, ◌∙◌}
use Rattle.text.proofs.Areas.{pass_on, pass_stops, pass_ends}
use Rattle.region.specs.Region.{region_formed}
use Rattle.table.specs.Table.{table_formed}
use Rattle.table.proofs.is_formed.Goals as goal

pub returns-then-not-is_formed : goal.returns-then-not-is_formed
unfolding table_formed
returns-then-not-is_formed c = rw (sym c.is_formed.ensures ∙ c.if-not-is_formed.true)

pub returns-then-not-is_formed-2 : goal.returns-then-not-is_formed-2
unfolding table_formed
returns-then-not-is_formed-2 c =
    rw (sym c.is_formed.ensures ∙ c.if-not-is_formed.false)
    (pass_stops c.loop-s.invariant c.loop-s-test.true
    (sym (c.is_formed-in-loop-s.ensures ∙ ap region_formed c.region_of.ensures.bytes) ∙ c.if-not-is_formed-2.true))

pub loop-s-preserved : goal.loop-s-preserved
loop-s-preserved c =
    pass_on c.loop-s.invariant c.loop-s-test.true
    (sym (c.is_formed-in-loop-s.ensures ∙ ap region_formed c.region_of.ensures.bytes) ∙ c.if-not-is_formed-2.false)

pub returns : goal.returns
unfolding table_formed
returns c = rw (sym c.is_formed.ensures ∙ c.if-not-is_formed.false) (pass_ends c.loop-s.invariant c.loop-s-test.false)
