-- What stood before the place stands behind it too.
use Rattle.std.proofs.Common.{◌≡◌, ◌-◌, take, drop, arith, length-take, length-drop}
use Rattle.std.proofs.lemmas.Grind.{common_steps}
use Rattle.text.proofs.Lists.{drop-take}
use Rattle.text.proofs.Puts.{put_behind}
use Rattle.text.proofs.repeat.Goals as goal

pub returns : goal.returns
returns c =
    let a = c.args in
    let s = c.split_at_mut-before.ensures in
    let again : c.replace.new.to ≡ take (a.at - a.from) (drop a.from a.out.now) =
    grind (arith, common_steps, drop-take) in
    put_behind a.out.now _ _ _ _ a.at _ s.front s.back again (simp (length-take, length-drop) (omega arith)) (omega arith)
