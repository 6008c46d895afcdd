-- Bytes that come behind others.
use Rattle.std.proofs.Common.{◌≡◌, ap, ap₂, ◌∙◌, ◌+◌, ◌≤◌, List, ◌++◌, length, take, drop, sym, ℕ, ◌-◌, arith, length-drop, zero-add}
use lib.Seq.{length-take-le, paste, take-paste}
use Rattle.std.specs.List.{copy_within}
use Rattle.text.specs.Put.{Put}
use Rattle.text.proofs.Lists.{take_sets, drop-take}

-- how many bytes wait
pub size_waiting : (l : List ℕ) {waited : List ℕ} {size : ℕ} → take size l ≡ waited → size ≤ length l → size ≡ length waited
size_waiting l {size = size} e h = omega (arith, ap length e, length-take-le size l h)

-- bytes put behind those before a place
pub put_behind : {o o' bs waited : List ℕ} {at r : ℕ} → take at o ≡ waited → at ≤ length o → length waited + length bs ≤ length o
    → Put o at bs r o' → take r o' ≡ waited ++ bs
put_behind {o = o} {bs = bs} {at = at} e f h p =
    ap₂ take p.place p.output ∙ take_sets bs o at (omega (arith, ap length e, length-take-le at o f)) ∙ ap (λ (z : List ℕ). z ++ bs) e

-- the last of them, moved to the front
pub kept : (l : List ℕ) {l' waited : List ℕ} {size left : ℕ} → take size l ≡ waited → size ≤ length l → left ≤ length waited
    → l' ≡ copy_within l (size - left) size 0 → take left l' ≡ drop (length waited - left) waited
kept l {l' = l'} {waited = waited} {size = size} {left = left} e h f m =
    let n = size_waiting l e h in
    let back : size - (size - left) ≡ left = omega arith in
    let d = length-drop (size - left) l in
    let front = take-paste l 0 (drop (size - left) l) left (omega arith) (omega arith) in
    ap (take left) (m ∙ ap (paste l 0 (drop (size - left) l)) back)
    ∙ sym (ap (λ (k : ℕ). take k (paste l 0 (drop (size - left) l) left)) (zero-add left)) ∙ front
    ∙ ap (λ (k : ℕ). take k (drop (size - left) l)) (sym back) ∙ sym (drop-take (size - left) size l (omega arith))
    ∙ ap₂ drop (ap (λ (k : ℕ). k - left) n) e
