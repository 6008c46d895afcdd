-- The number so far and the digits that are left give the number.
use Rattle.std.proofs.Common.{◌≡◌, ◌^◌, ◌<◌, drop}
use Rattle.model.specs.Bytes.{decimal_from}
use Rattle.text.proofs.decimal.Given as goal

abbrev pub invariant-loop-digit : goal.invariant-loop-digit
invariant-loop-digit l = record {
  number : decimal_from l.n (drop l.digit-index l.s) ≡ decimal_from 0 l.s;
  few : l.n < 10 ^ l.digit-index;
}
