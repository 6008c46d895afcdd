-- 02, P2: results by their numbers: what a payload's first bytes say, what a write to one place leaves of the others, and which are found.
use mathlib.Core.Path.{◌≡◌, refl, ap, ap₂, ◌∙◌}
use Prim.Native.Nat.{ℕ, zero, suc, ◌+◌, ◌-◌, ◌≤◌, ◌<◌, min}
use native.Mathlib.Nat.{zero-min, min-zero, suc-min-suc}
use native.Mathlib.Omega.{arith}
use mathlib.Core.Bool.{Bool, true, false, cond, ◌&&◌}
use mathlib.Core.List.{List, [], ◌∷◌}
use mathlib.Core.Option.{Option, none, some}
use lib.Dec.{leb, ltb, eqb, lit≤}
use lib.ListN.{length, take, drop, length-drop}
use lib.Seq.{sets, take-take, take-nil, length-take-le}
use borrow.Author.Tests.{ltb-true, ltb-false, leb-true, leb-false, eqb-true, eqb-false, lt-ltb, le-ltb, le-leb, lt-leb}
use Rattle.model.specs.Limits.{results_kept}
use Rattle.model.specs.Records.{Item, Value, item_length, payload_length, parts_from, values, values_of, text_at, tightening_of}
use Rattle.model.specs.Records.{tightening_items, tightening_length}
use Rattle.model.specs.Events.{Result, result_as}
use Rattle.model.specs.Memory.{numbered, newest}
use Rattle.text.proofs.Lists.{drop-take}
use Rattle.text.proofs.Cells.{stored_before, stored_after}
use Rattle.shared.specs.Memory.{place_at, payload_kept, results}
use Rattle.shared.specs.Shared.{shared_size}

-- ==== a payload says what its first bytes say

parts_take : (es : List Item) (at k : ℕ) (bs : List ℕ) → at + payload_length es ≤ k → parts_from at es (take k bs) ≡ parts_from at es bs
parts_take [] at k bs h = refl
parts_take (e ∷ es) at k bs h =
    let n = item_length e in
    ap₂ (λ (p : List ℕ) (ps : List (List ℕ)). p ∷ ps)
    (ap (take n) (drop-take at k bs (omega arith)) ∙ take-take n (k - at) (drop at bs) (omega arith))
    (parts_take es (at + n) k bs (omega arith))

pub values_take : (es : List Item) (k : ℕ) (bs : List ℕ) → payload_length es ≤ k → values es (take k bs) ≡ values es bs
values_take es k bs h = ap (values_of es) (parts_take es 0 k bs (omega arith))

pub result_take : (n : ℕ) (p : List ℕ) → result_as n (take tightening_length p) ≡ result_as n p
unfolding result_as tightening_of
result_take n p =
    ap (λ (vs : List Value). record { number = n; identifier = text_at vs 0; tightening = drop 1 vs })
    (values_take tightening_items tightening_length p (lit≤ tt))

-- ==== places

-- of numbers that are less than 64 apart, the places are apart
pub place_still : (a ys : List ℕ) (m n : ℕ) → length a ≡ shared_size → length ys ≡ tightening_length → m < n → n < m + results_kept
    → payload_kept m (sets a (place_at n) ys) ≡ payload_kept m a
unfolding payload_kept
place_still a ys m n s e h f =
    let fits : place_at n + tightening_length ≤ length a = omega arith in
    go fits (ltb (place_at m) (place_at n)) refl
  where
    go : place_at n + tightening_length ≤ length a → (b : Bool) → ltb (place_at m) (place_at n) ≡ b
        → take tightening_length (drop (place_at m) (sets a (place_at n) ys)) ≡ take tightening_length (drop (place_at m) a)
    go fits true t =
        let before = ltb-true (place_at m) (place_at n) t in
        stored_before (place_at n) tightening_length a ys e fits (place_at m) tightening_length (omega arith)
    go fits false t =
        let behind = ltb-false (place_at m) (place_at n) t in
        stored_after (place_at n) tightening_length a ys e fits (place_at m) tightening_length (omega arith)

-- the payload at a place is a payload
pub payload_long : (n : ℕ) (a : List ℕ) → length a ≡ shared_size → length (payload_kept n a) ≡ tightening_length
unfolding payload_kept
payload_long n a s = length-take-le tightening_length (drop (place_at n) a) (rw length-drop (omega arith))

-- ==== results

-- the newest, and the others
pub results_next : (a : List ℕ) (last count : ℕ)
    → results (suc last) (suc count) a ≡ result_as (suc last) (payload_kept (suc last) a) ∷ results last count a
unfolding results
results_next a last count = ap (λ (n : ℕ). result_as (suc last) (payload_kept (suc last) a) ∷ results n count a) (omega arith)

-- where each place that they take reads as it did, they are as they were
pub results_same : (a a' : List ℕ) (last count : ℕ) → count ≤ last
    → ((i : ℕ) → i ≤ last → last < i + count → payload_kept i a' ≡ payload_kept i a) → results last count a' ≡ results last count a
unfolding results
results_same a a' last zero h f = refl
results_same a a' last (suc count) h f =
    ap₂ (λ (p : List ℕ) (rs : List Result). result_as last p ∷ rs) (f last (omega arith) (omega arith))
    (results_same a a' (last - 1) count (omega arith) (λ i p q. f i (omega arith) (omega arith)))

-- the newest of them
pub results_take : (a : List ℕ) (k last count : ℕ) → take k (results last count a) ≡ results last (min k count) a
unfolding results
results_take a zero last count = rw zero-min
results_take a (suc k) last zero = simp (min-zero, take-nil)
results_take a (suc k) last (suc count) =
    rw suc-min-suc (ap (λ (rs : List Result). result_as last (payload_kept last a) ∷ rs) (results_take a k (last - 1) count))

-- ==== which are found

-- the test of a number, where it is not the newest's: among the others
module _ (n last count : ℕ) (h : suc count ≤ last) where
  test_next : (last ≡ n → ⊥) → leb n (last - 1) && ltb (last - 1 - n) count ≡ leb n last && ltb (last - n) (suc count)
  test_next d = go (leb n last) (ltb (last - n) (suc count)) refl refl
    where
      go : (p q : Bool) → leb n last ≡ p → ltb (last - n) (suc count) ≡ q → leb n (last - 1) && ltb (last - 1 - n) count ≡ p && q
      go true true e f =
          let g = leb-true n last e in
          let k = ltb-true (last - n) (suc count) f in
          rw (le-leb n (last - 1) (omega (arith, d)), lt-ltb (last - 1 - n) count (omega (arith, d)))
      go true false e f =
          let g = leb-true n last e in
          let k = ltb-false (last - n) (suc count) f in
          rw (le-leb n (last - 1) (omega (arith, d)), le-ltb (last - 1 - n) count (omega (arith, d)))
      go false q e f = let g = leb-false n last e in rw (lt-leb n (last - 1) (omega arith))

-- the one with that number, where the test says that it is there
abbrev found : List ℕ → ℕ → Bool → Option Result
found a n b = cond b (some (result_as n (payload_kept n a))) none

pub numbered_is : (a : List ℕ) (n last count : ℕ) → count ≤ last
    → numbered n (results last count a) ≡ cond (leb n last && ltb (last - n) count) (some (result_as n (payload_kept n a))) none
unfolding results result_as
numbered_is a n last zero h = go (leb n last)
  where
    go : (p : Bool) → none ≡ found a n (p && ltb (last - n) 0)
    go true = rw (le-ltb (last - n) 0 (omega arith))
    go false = refl
numbered_is a n last (suc count) h = go (numbered_is a n (last - 1) count (omega arith)) (eqb last n) refl
  where
    go : numbered n (results (last - 1) count a) ≡ found a n (leb n (last - 1) && ltb (last - 1 - n) count) → (b : Bool) → eqb last n ≡ b
        → cond b (some (result_as last (payload_kept last a))) (numbered n (results (last - 1) count a))
        ≡ found a n (leb n last && ltb (last - n) (suc count))
    go others true e =
        let p = eqb-true last n e in
        rw (le-leb n last (omega arith), lt-ltb (last - n) (suc count) (omega arith), p)
    go others false e = others ∙ ap (found a n) (test_next n last count h (eqb-false last n e))

pub newest_is : (a : List ℕ) (last count : ℕ)
    → newest (results last count a) ≡ cond (ltb 0 count) (some (result_as last (payload_kept last a))) none
unfolding results
newest_is a last zero = refl
newest_is a last (suc count) = rw (lt-ltb 0 (suc count) (omega arith))
