-- `table::keep` meets its contract, by what becomes of the notice.
use Rattle.std.proofs.Common.{sym, ap, ◌∙◌, Bool, true, cond, get_or}
use Rattle.model.specs.Named.{place_of}
use Rattle.frame.specs.Places.{place_size, notice_in}
use Rattle.places.specs.Places.{is_place, place_in}
use Rattle.table.specs.Table.{places_area, reading_in}
use Rattle.table.proofs.Regions.{part_in, part_good, region_good}
use Rattle.table.proofs.Says.{unplaced}
use Rattle.table.proofs.Passes.{kept_there, kept_not}
use Rattle.table.proofs.keep.Goals as goal

pub taking-taken-requires : goal.taking-taken-requires
taking-taken-requires c =
    rw c.region_of.ensures.bytes (region_good c.args.table.now c.args.s c.requires.table c.requires.session)

pub take-requires : goal.take-requires
take-requires c =
    let t = c.args.table.now in
    let answers = rw (c.region_of.ensures.bytes, ← part_in t c.args.s) at c.taking-taken.ensures in
    let kind = place_of c.args.kind in
    let e = unplaced _ c.if-eq.ensures in
    rw c.range_of.ensures record {
      good = part_good t c.args.s c.requires.table c.requires.session;
      answers = answers;
      holds = sym c.is_held.ensures ∙ c.if-is_held.true;
      size = c.requires.notice ∙ sym (ap (λ (b : Bool). cond b 1 (place_size kind)) e);
      formed = ap (λ (b : Bool). cond b (is_place (get_or c.args.notice.now 0 0)) true) e;
    }

pub returns-else-eq : goal.returns-else-eq
returns-else-eq c =
    let t = c.args.table.now in
    let p = c.args.notice.now in
    let kind = place_of c.args.kind in
    let e = unplaced _ c.if-eq.ensures in
    let g = rw c.range_of.ensures at c.take.ensures in
    rw c.range_of.ensures
    (kept_there c.requires e
    (g.takes (reading_in t) p
    (ap (λ (b : Bool). notice_in kind (cond b (place_in (get_or p 0 0) (places_area t)) p)) e)))

pub returns-else-is_held : goal.returns-else-is_held
returns-else-is_held c =
    let t = c.args.table.now in
    let answers = rw (c.region_of.ensures.bytes, ← part_in t c.args.s) at c.taking-taken.ensures in
    kept_not c.requires (answers.unheld (sym c.is_held.ensures ∙ c.if-is_held.false) (reading_in t) c.args.notice.now)
