-- `region::end_run`, by whether the run began in the slice. What is kept is read as it is: no more bytes make it no longer.
use Rattle.std.proofs.Common.{refl, sym, subst, ◌∙◌, List, ℕ, ◌≤◌, length}
use Rattle.model.specs.Limits.{run_kept}
use Rattle.frame.specs.Places.{notice_in}
use Rattle.region.proofs.Areas.{run_there}
use Rattle.region.proofs.Ends.{taken_few, kept_few, run_empty, ruled_whole, ruled_kept, fair, ends_whole, ends_kept, ends_longer}
use Rattle.region.proofs.end_run.Goals as goal

pub count-requires : goal.count-requires
count-requires c = run_there _ c.requires

-- ==== it did

pub rule-ruling-requires : goal.rule-ruling-requires
rule-ruling-requires c =
    (c.requires, subst (λ (z : List ℕ). length z ≤ run_kept) (sym c.kept_of.ensures) (taken_few c.args.bytes.now))

pub carry_out-due-requires : goal.carry_out-due-requires
carry_out-due-requires c =
    let empty = run_empty _ (sym c.count.ensures.0 ∙ c.if-count-eq0.true) in
    let ruled = ruled_whole c.args.bytes.now empty c.kept_of.ensures c.count_of.ensures c.rule-ruling.ensures in
    record { good = c.requires; idle = fair notice_in c.args.bytes.now c.args.region.now c.requires ruled }

pub returns-then-count-eq0 : goal.returns-then-count-eq0
returns-then-count-eq0 c = λ read.
    let none = run_empty _ (sym c.count.ensures.0 ∙ c.if-count-eq0.true) in
    let ruled = ruled_whole c.args.bytes.now none c.kept_of.ensures c.count_of.ensures c.rule-ruling.ensures in
    rw c.left_to_say.ensures
    (ends_whole read c.args.bytes.now c.args.region.now c.requires ruled (c.carry_out-due.ensures read) none)

-- ==== it did not

pub kept-requires : goal.kept-requires
kept-requires c = run_there _ (c.lengthen.ensures notice_in).good

pub count-requires-2 : goal.count-requires-2
count-requires-2 c = run_there _ (c.lengthen.ensures notice_in).good

pub rule-ruling-requires-2 : goal.rule-ruling-requires-2
rule-ruling-requires-2 c =
    ((c.lengthen.ensures notice_in).good, subst (λ (z : List ℕ). length z ≤ run_kept) (sym c.kept.ensures) (kept_few _))

pub carry_out-due-requires-2 : goal.carry_out-due-requires-2
carry_out-due-requires-2 c =
    let good = (c.lengthen.ensures notice_in).good in
    let ruled = ruled_kept _ (run_there _ good) c.kept.ensures c.count-2.ensures.0 c.rule-ruling-2.ensures in
    record { good = good; idle = fair notice_in _ c.lengthen.new.region good ruled }

pub returns : goal.returns
returns c = λ read.
    let good = (c.lengthen.ensures notice_in).good in
    let ruled = ruled_kept _ (run_there _ good) c.kept.ensures c.count-2.ensures.0 c.rule-ruling-2.ensures in
    let ended = ends_kept read c.lengthen.new.region good ruled (c.carry_out-due-2.ensures read) (run_there _ good) in
    rw c.left_to_say-2.ensures (ends_longer read c.args.bytes.now refl (c.lengthen.ensures read) refl ended)
