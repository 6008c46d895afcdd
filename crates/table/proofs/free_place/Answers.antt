-- `table::free_place` meets its contract.
use mathlib.Core.Path.{sym, ap, subst, ◌∙◌}
use Rattle.std.specs.Prelude.{is_some}
use Rattle.std.proofs.lemmas.Option.{same_Some}
use Rattle.places.proofs.Marks.{length_marked}
use Rattle.region.specs.Region.{Good}
use Rattle.table.proofs.Regions.{part_in, part_good}
use Rattle.table.proofs.Places.{found_some, found, marks_next, marks_all}
use Rattle.table.proofs.free_place.Goals as goal

pub mark-requires : goal.mark-requires
mark-requires c =
    let t = c.args.table.now in (
      subst Good (part_in t c.loop-s.s ∙ sym c.region_of.ensures.bytes)
          (part_good t c.loop-s.s c.requires.0 c.loop-s-test.true),
      c.loop-s.invariant.0,
    )

pub loop-s-preserved : goal.loop-s-preserved
loop-s-preserved c =
    let t = c.args.table.now in
    let i = c.loop-s.invariant in
    rw (c.mark.ensures, c.region_of.ensures.bytes) (
      length_marked c.loop-s.used _ ∙ i.0,
      sym (marks_next t c.requires.0 c.loop-s.used c.loop-s.s c.loop-s-test.true) ∙ i.1,
    )

pub unwrap-requires : goal.unwrap-requires
unwrap-requires c =
    let marks = sym (marks_all c.args.table.now c.requires.0 c.loop-s.used c.loop-s.s c.loop-s-test.false) ∙ c.loop-s.invariant.1 in
    ap is_some (found_some c.args.table.now c.requires.0 c.requires.1 marks c.loop-s.invariant.0 c.first_free.ensures)

pub returns : goal.returns
returns c =
    let marks = sym (marks_all c.args.table.now c.requires.0 c.loop-s.used c.loop-s.s c.loop-s-test.false) ∙ c.loop-s.invariant.1 in
    let first = found_some c.args.table.now c.requires.0 c.requires.1 marks c.loop-s.invariant.0 c.first_free.ensures in
    found c.args.table.now c.requires.0 c.requires.1 marks (same_Some _ _ (sym c.unwrap.ensures ∙ first))
