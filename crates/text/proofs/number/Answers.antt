-- Sixteen bytes at most are read before another.
use Rattle.std.proofs.Common.{◌≤◌, arith, lit<}
use Rattle.std.proofs.Math.Nat.{pow-le-pow_right}
use Rattle.text.proofs.number.Goals as goal

pub overflow_mul-n : goal.overflow_mul-n
overflow_mul-n c =
    let h : c.loop-byte.byte-index ≤ 16 = omega arith in
    let most = pow-le-pow_right {n = 10} (lit< tt) h in omega (arith, most, c.loop-byte.invariant.few)

pub overflow_add-n : goal.overflow_add-n
overflow_add-n c =
    let h : c.loop-byte.byte-index ≤ 16 = omega arith in
    let most = pow-le-pow_right {n = 10} (lit< tt) h in omega (arith, most, c.loop-byte.invariant.few)
