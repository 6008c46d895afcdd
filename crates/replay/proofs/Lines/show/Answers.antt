-- `replay::Lines::show`: the line of one record more; at the end none is left.
use Rattle.std.proofs.Common.{ℕ, arith, ap, length, length-append}
use Rattle.replay.proofs.Printed.{line_length, lines_on, lines_all}
use Rattle.replay.proofs.Lines.show.Goals as goal

pub loop-slice-preserved : goal.loop-slice-preserved
loop-slice-preserved c =
    let p = c.in-Some.ensures in
    let so_long = line_length c.in-Some.slice.now p.head in (
      lines_on _ _ c.loop-slice.invariant.0 _ _ p c.line.ensures,
      omega (arith, p.lengths, ap length c.line.ensures, length-append {A = ℕ}),
    )

pub returns : goal.returns
returns c = lines_all _ _ c.loop-slice.invariant.0 c.in_default.ensures
