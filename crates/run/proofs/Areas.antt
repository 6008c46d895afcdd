-- A run in its area: what more bytes make of it.
use mathlib.Core.Path.{◌≡◌, ap, ap₂, ◌∙◌}
use Prim.Native.Nat.{ℕ, ◌+◌, ◌-◌, ◌≤◌, ◌<◌, min}
use native.Mathlib.Omega.{arith}
use mathlib.Core.List.{List, [], ◌∷◌, ◌++◌}
use lib.Dec.{leb}
use lib.ListN.{length, take, drop, length-drop}
use lib.Seq.{sets, length-sets, length-take-le}
use borrow.Author.Tests.{le-leb, leb-true}
use Rattle.model.specs.Bytes.{little, in_bytes}
use Rattle.model.specs.Runs.{Run}
use Rattle.text.proofs.Lists.{drop_sets, drop_sets_after, take_sets, take_least, take_over}
use Rattle.run.specs.Area.{run_size, run_of, run_formed, Area, Over, Lengthened}

pub counted : (a : List ℕ) → Area a → little (take 2 a) ≤ 10000
unfolding run_formed
counted a h = leb-true _ _ h.formed

pub kept_is : (a : List ℕ) (n k : ℕ) → n ≡ (run_of a).count → k ≡ min 45 n → take (2 + k - 2) (drop 2 a) ≡ (run_of a).kept
unfolding run_of
kept_is a n k e p = ap (λ (m : ℕ). take m (drop 2 a)) (let z : 2 + k - 2 ≡ k = omega arith in z ∙ p ∙ ap (min 45) e)

-- the count, written over the first two bytes
two : (z : List ℕ) (v : ℕ) → 2 ≤ length z → v < 65536 → little (take 2 (sets z 0 (in_bytes 2 v))) ≡ v
unfolding in_bytes
two [] v h f = absurd (omega arith)
two (x ∷ []) v h f = absurd (omega arith)
two (x ∷ y ∷ z) v h f = omega arith

past : (z : List ℕ) (v : ℕ) → drop 2 (sets z 0 (in_bytes 2 v)) ≡ drop 2 z
unfolding in_bytes
past z v = drop_sets_after (in_bytes 2 v) z 0 2 (omega arith)

pub recounted : (z : List ℕ) (v : ℕ) → length z ≡ run_size → v ≤ 10000
    → (run_of (sets z 0 (in_bytes 2 v)) ≡ record { kept = take (min 45 v) (drop 2 z); count = v }) × Area (sets z 0 (in_bytes 2 v))
unfolding run_of run_formed
recounted z v h f =
    let e = two z v (omega arith) (omega arith) in (
      ap₂ {C = Run} (λ (n : ℕ) (l : List ℕ). record { kept = take (min 45 n) l; count = n }) e (past z v),
      record { size = length-sets z 0 (in_bytes 2 v) ∙ h; formed = ap (λ (n : ℕ). leb n 10000) e ∙ le-leb v 10000 f },
    )

pub cleared : (a : List ℕ) → length a ≡ run_size → Over a (sets a 0 (in_bytes 2 0))
cleared a h = let z = recounted a 0 h (omega arith) in record { area = z.1; none = z.0; bytes = ap (take 45) (past a 0) }

-- the numbers of a run that gets longer: k bytes were kept of n, and m more are; v more are counted
module _ (n more k m v : ℕ) (ek : k ≡ min 45 n) (em : m ≡ min (45 - k) more) where
  few : k + m ≤ 45
  few = omega arith

  there : m ≤ more
  there = omega arith

  module _ (hn : n ≤ 10000) (ev : v ≡ min (10000 - n) more) where
    short : n + v ≤ 10000
    short = omega arith

    total : n + v ≡ min 10000 (n + more)
    total = omega arith

    of_which : min 45 (n + v) ≡ k + m
    of_which = omega arith

pub lengthened : (a xs : List ℕ) (n k m v : ℕ) → Area a → n ≡ (run_of a).count → n ≤ 10000 → k ≡ min 45 n → m ≡ min (45 - k) (length xs)
    → v ≡ min (10000 - n) (length xs)
    → Lengthened a xs (sets (sets a (2 + k) (take m xs)) 0 (in_bytes 2 (n + v)))
unfolding run_of
lengthened a xs n k m v h en hn ek em ev =
    let z = sets a (2 + k) (take m xs) in
    let s = h.size in
    let w = recounted z (n + v) (length-sets a (2 + k) (take m xs) ∙ s) (short n (length xs) k m v ek em hn ev) in
    let room₀ = few n (length xs) k m v ek em in
    let l = drop 2 a in
    let ll : length l ≡ 46 = rw (length-drop 2 a, s) in
    let lk : length (take k l) ≡ k = length-take-le k l (omega arith) in
    let lm : length (take m xs) ≡ m = length-take-le m xs (there n (length xs) k m v ek em) in
    let e₁ : min 45 (n + v) ≡ k + length (take m xs) = rw lm (of_which n (length xs) k m v ek em hn ev) in
    let p : take (min 45 (n + v)) (drop 2 z) ≡ take k l ++ take m xs =
    rw (e₁, drop_sets (take m xs) a 2 k) (take_sets (take m xs) l k (omega arith)) in
    let q : take k l ++ take m xs ≡ take 45 (take k l ++ xs) =
    rw (take_over 45 (take k l) xs (omega arith), lk, em, take_least (45 - k) xs) in
    record { area = w.1; longer = w.0 ∙ rw (p ∙ q, total n (length xs) k m v ek em hn ev, ek, en) }
