-- `replay::Lines::line`: a line is as long as its record.
use Rattle.std.proofs.Common.{ℕ, ap, arith, length, length-append}
use Rattle.replay.proofs.Printed.{digit_length, shown_length, room_for_a_frame}
use Rattle.replay.proofs.Lines.line.Goals as goal

pub put-requires : goal.put-requires
put-requires c = omega (arith, ap length c.put_digit.ensures, length-append {A = ℕ}, digit_length)

pub put-requires-in-Some : goal.put-requires-in-Some
put-requires-in-Some c = omega (arith, ap length c.put_digit.ensures, length-append {A = ℕ}, digit_length)

pub put_shown-requires : goal.put_shown-requires
put_shown-requires c =
    let few = room_for_a_frame c.args.slice.now _ c.requires.0 c.in-Some.ensures.cases.1 in
    omega (arith, ap length c.put_digit.ensures, ap length c.put-in-Some.ensures, length-append {A = ℕ}, digit_length)

pub put-requires-in-Some-2 : goal.put-requires-in-Some-2
put-requires-in-Some-2 c =
    let few = room_for_a_frame c.args.slice.now _ c.requires.0 c.in-Some.ensures.cases.1 in
    let shown_one = shown_length c.in-Some.frame.now in
    omega (
      arith,
      ap length c.put_digit.ensures,
      ap length c.put-in-Some.ensures,
      ap length c.put_shown.ensures,
      length-append {A = ℕ},
      digit_length,
    )
