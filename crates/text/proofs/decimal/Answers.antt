-- Eighteen digits at most are read before another.
use Rattle.std.proofs.Common.{◌^◌, ◌<◌, arith, lit<}
use Rattle.text.proofs.Numbers.{power_bound}
use Rattle.text.proofs.decimal.Goals as goal

pub overflow_mul-n : goal.overflow_mul-n
overflow_mul-n c =
    let few : c.loop-digit.n < 10 ^ 18 = power_bound 10 _ 18 _ (lit< tt) (omega arith) c.loop-digit.invariant.few in omega arith

pub overflow_add-n : goal.overflow_add-n
overflow_add-n c =
    let few : c.loop-digit.n < 10 ^ 18 = power_bound 10 _ 18 _ (lit< tt) (omega arith) c.loop-digit.invariant.few in omega arith
