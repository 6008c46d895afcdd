-- `serifladder::give`: the bytes of the numbers that are left, over what is there, are those of all four over what was there.
use Rattle.std.proofs.Common.{drop}
use Rattle.text.proofs.Puts.{Left}
use Rattle.serifladder.proofs.Exports.{numbers_of, all_in_bytes}
use Rattle.serifladder.proofs.give.Given as goal

abbrev pub invariant-loop-n : goal.invariant-loop-n
invariant-loop-n l = Left l.fn.answer 0 (all_in_bytes (numbers_of l.fn.x)) l.answer l.at (all_in_bytes (drop l.n-index (numbers_of l.fn.x)))
