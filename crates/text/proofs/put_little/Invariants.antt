-- What is written, and the bytes of what is left, are all of them.
use Rattle.std.proofs.Common.{◌≡◌, ◌-◌, take, ◌++◌}
use Rattle.model.specs.Bytes.{in_bytes}
use Rattle.text.proofs.put_little.Given as goal

abbrev pub invariant-loop-byte : goal.invariant-loop-byte
invariant-loop-byte l = take l.byte-index l.byte-items ++ in_bytes (l.size - l.byte-index) l.left ≡ in_bytes l.size l.n
