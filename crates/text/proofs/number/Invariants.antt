-- The number so far and the bytes that are left give the number. A byte counts for 207 at most, nine times 23.
use Rattle.std.proofs.Common.{◌≡◌, ◌+◌, ◌*◌, ◌^◌, ◌≤◌, drop}
use Rattle.model.specs.Bytes.{decimal_from}
use Rattle.text.proofs.number.Given as goal

abbrev pub invariant-loop-byte : goal.invariant-loop-byte
invariant-loop-byte l = record {
  number : decimal_from l.n (drop l.byte-index l.s) ≡ decimal_from 0 l.s;
  few : l.n + 23 ≤ 23 * 10 ^ l.byte-index;
}
