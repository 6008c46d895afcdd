-- The items that are left have their bytes left, and their test is the test of all.
use Rattle.std.proofs.Common.{◌≡◌, length, drop, map}
use Rattle.model.specs.Records.{payload_length, parts, good_parts}
use Rattle.record.specs.Items.{item_of}
use Rattle.record.proofs.good_items.Given as goal

abbrev pub invariant-loop-item : goal.invariant-loop-item
invariant-loop-item l =
    let of_all = map item_of l.items in
    let of_left = map item_of (drop l.item-index l.items) in
    record {
      whole : length l.left ≡ payload_length of_left;
      test : good_parts of_left (parts of_left l.left) ≡ good_parts of_all (parts of_all l.fn.s);
    }
