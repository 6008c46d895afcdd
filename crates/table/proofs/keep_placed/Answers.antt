-- `table::keep_placed` meets its contract.
use borrow.Author.Tests.{lt-ltb}
use Rattle.std.proofs.Common.{refl, sym, ap, subst, ◌∙◌, List, ℕ, Some}
use Rattle.std.proofs.lemmas.Option.{IfSome_then}
use Rattle.model.specs.Kinds.{tightenings}
use Rattle.frame.specs.Places.{notice_in}
use Rattle.places.specs.Places.{place_count}
use Rattle.region.specs.Region.{places_held}
use Rattle.region.specs.Said.{Answers}
use Rattle.region.proofs.Places.{holds_fewer}
use Rattle.table.specs.Table.{reading_in}
use Rattle.table.specs.Passes.{Adds, one_more}
use Rattle.table.proofs.Regions.{part, part_in, part_good}
use Rattle.table.proofs.Passes.{kept_so}
use Rattle.table.proofs.keep_placed.Goals as goal

pub stand-stands-requires : goal.stand-stands-requires
stand-stands-requires c =
    let p = c.requires in
    record {
      table = p.table;
      result = p.result;
      stands = p.stands;
      room = record { session = c.args.s; there = p.session; fewer = holds_fewer _ c.args.taken p.answers p.holds };
    }

pub take-requires : goal.take-requires
take-requires c =
    let p = c.requires in
    let o = c.stand-stands.ensures in
    let t = c.stand-stands.new.table in
    let s = c.args.s in
    rw c.range_of.ensures record {
      good = part_good t s o.becomes.table p.session;
      answers = subst (λ (r : List ℕ). Answers tightenings r c.args.taken) (sym (part_in t s ∙ o.regions s p.session)) p.answers;
      holds = p.holds;
      size = refl;
      formed = lt-ltb c.stand-stands.result place_count o.stands.there;
    }

pub returns : goal.returns
returns c =
    let o = c.stand-stands.ensures in
    let t = c.stand-stands.new.table in
    let g = rw c.range_of.ensures at c.take.ensures in
    rw c.range_of.ensures
    (kept_so c.requires.session o.becomes o.shared o.regions
    (g.takes (reading_in t) c.args.res.now (ap (notice_in tightenings) o.stands.bytes)) (λ e. o.stands)
    (IfSome_then c.args.place o.same (λ q e. ap Some e))
    (λ e. subst (Adds (places_held (part t c.args.s)) c.stand-stands.result) (sym (g.adds refl)) (one_more o.stands.there)))
