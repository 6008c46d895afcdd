-- The parts of a payload.
use Rattle.std.proofs.Common.{◌≡◌, refl, ℕ, ◌+◌, List, [], ◌∷◌, drop, add-zero, zero-add, add_assoc}
use Rattle.std.proofs.Math.Seq.{drop-drop}
use Rattle.model.specs.Records.{Item, item_length, parts, parts_from}

-- those that begin n bytes later are those of the bytes from there on
parts_from-add : (n at : ℕ) (es : List Item) (bs : List ℕ) → parts_from (n + at) es bs ≡ parts_from at es (drop n bs)
parts_from-add n at [] bs = refl
parts_from-add n at (e ∷ es) bs =
    let d = drop-drop at n bs in
    let a = add_assoc n at (item_length e) in
    let i = parts_from-add n (at + item_length e) es bs in
    cc

-- behind a first one of n bytes
pub parts_behind : (n : ℕ) (es : List Item) (bs : List ℕ) → parts_from (0 + n) es bs ≡ parts es (drop n bs)
parts_behind n es bs = let a = add-zero n in let b = zero-add n in let i = parts_from-add n 0 es bs in cc
