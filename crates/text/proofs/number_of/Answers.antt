-- Seven bytes at most are read before another.
use Rattle.std.proofs.Common.{◌^◌, ◌≤◌, ◌<◌, length, arith, lit<}
use Rattle.std.proofs.lemmas.Grind.{common_steps}
use Rattle.text.proofs.Numbers.{power_bound}
use Rattle.text.proofs.number_of.Goals as goal

pub overflow_mul-n : goal.overflow_mul-n
overflow_mul-n c =
    let h : length c.loop-byte.invariant.0 ≤ 7 = grind (arith, common_steps) in
    let few : c.loop-byte.n < 256 ^ 7 = power_bound 256 _ 7 _ (lit< tt) h c.loop-byte.invariant.3 in omega arith

pub overflow_add-n : goal.overflow_add-n
overflow_add-n c =
    let h : length c.loop-byte.invariant.0 ≤ 7 = grind (arith, common_steps) in
    let few : c.loop-byte.n < 256 ^ 7 = power_bound 256 _ 7 _ (lit< tt) h c.loop-byte.invariant.3 in omega arith
