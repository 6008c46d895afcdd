-- `serifladder::give`: a number more is written out.
use Rattle.std.proofs.Common.{drop, refl, ap, ◌∙◌, append_assoc, arith, length-drop}
use lib.ListN.{drop_of_length-le}
use mathlib.Core.List.{append-nil}
use Rattle.text.proofs.Lists.{drop_next}
use Rattle.text.proofs.Puts.{left_all, left_put, left_none, left_as}
use Rattle.serifladder.proofs.Exports.{numbers_of, all_in_bytes, length_all_in_bytes}
use Rattle.serifladder.proofs.give.Goals as goal

pub loop-n-init : goal.loop-n-init
loop-n-init c = left_all _ _ _

pub put_little-at-requires : goal.put_little-at-requires
put_little-at-requires c =
    let i = c.loop-n.n-index in
    let ns = numbers_of c.args.x in
    omega (arith, length_all_in_bytes ns, length_all_in_bytes (drop i ns), length-drop i ns)

pub loop-n-preserved : goal.loop-n-preserved
loop-n-preserved c =
    let l = c.loop-n in
    let next = drop_next (numbers_of c.args.x) l.n-index 0 c.loop-n-test.true in
    left_put (left_as (ap all_in_bytes next) l.invariant) c.put_little-at.ensures.1

pub returns : goal.returns
returns c =
    let l = c.loop-n in
    let none = drop_of_length-le (numbers_of c.args.x) {i = l.n-index} c.loop-n-test.false in
    let all-four = left_none (left_as (ap all_in_bytes none) l.invariant) in
    record { number = refl; numbers = all-four.output ∙ simp (append_assoc, append-nil) }
