-- `replay::Lines::tell`: a refusal's line has room.
use Rattle.std.proofs.Common.{ℕ, ap, arith, length, length-append}
use Rattle.replay.proofs.Printed.{digit_length}
use Rattle.replay.proofs.Lines.tell.Goals as goal

pub put-requires-else-answer-eq0 : goal.put-requires-else-answer-eq0
put-requires-else-answer-eq0 c = omega (arith, ap length c.put.ensures, ap length c.put_digit.ensures, length-append {A = ℕ}, digit_length)
