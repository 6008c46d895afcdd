-- `text::replace`: the bytes before the index are those of `from`, and the others are as they were.
use Rattle.std.proofs.Common.{◌≡◌}
use Rattle.text.proofs.Lists.{replaced_up_to}
use Rattle.text.proofs.replace.Given as goal

abbrev pub invariant-loop-i : goal.invariant-loop-i
invariant-loop-i l = l.to ≡ replaced_up_to l.i l.from l.fn.to
