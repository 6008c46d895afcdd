-- Laws of areas of any sizes: after one's elements were replaced, that one reads as they do, and the others as they did.
use mathlib.Core.Path.{◌≡◌, refl, sym, ap, ap₂, ◌∙◌}
use Prim.Native.Nat.{ℕ, zero, suc, ◌+◌, ◌-◌, ◌≤◌, ◌<◌}
use native.Mathlib.Nat.{add-sub_cancel_left}
use native.Mathlib.Omega.{arith}
use mathlib.Core.Bool.{Bool, true, false, cond, ◌&&◌, and-eq-true_iff}
use mathlib.Core.List.{List, [], ◌∷◌}
use lib.Dec.{leb, eqb}
use lib.ListN.{length, get_or, set, drop, replicate, drop_of_length-le}
use borrow.Author.Tests.{leb-true, eqb-true, eqb-false, eq-eqb, ne_eqb}
use Rattle.model.specs.Bytes.{all}
use Rattle.text.proofs.Lists.{drop_next, all_at}
use borrow.Rule.Slice.PartMut.{put_mid, mid_of}
use Rattle.text.proofs.Cells.{area_same, area_before, area_after}
use Rattle.text.specs.Areas.{areas, Apart}

module _ {A : Type 0} (f : ℕ → List ℕ → A) (at size : ℕ → ℕ) where
  pub length_areas : (i n : ℕ) (l : List ℕ) → length (areas f at size i n l) ≡ n
  unfolding areas
  length_areas i zero l = refl
  length_areas i (suc n) l = ap suc (length_areas (suc i) n l)

  areas_from : (i n j k : ℕ) (l : List ℕ) (d : A) → i + j ≡ k → j < n → get_or (areas f at size i n l) j d ≡ f k (mid_of (at k) (size k) l)
  unfolding areas
  areas_from i zero j k l d e h = absurd (omega arith)
  areas_from i (suc n) zero k l d e h = ap (λ (m : ℕ). f m (mid_of (at m) (size m) l)) (omega arith)
  areas_from i (suc n) (suc j) k l d e h = areas_from (suc i) n j k l d (omega arith) (omega arith)

  -- the area of number k
  pub areas_at : (n k : ℕ) (l : List ℕ) (d : A) → k < n → get_or (areas f at size 0 n l) k d ≡ f k (mid_of (at k) (size k) l)
  areas_at n k l d h = areas_from 0 n k k l d (omega arith) h

  -- where each of them reads as it did, all do
  pub areas_same : (l l' : List ℕ) (i n : ℕ)
      → ((j : ℕ) → i ≤ j → j < i + n → mid_of (at j) (size j) l' ≡ mid_of (at j) (size j) l)
      → areas f at size i n l' ≡ areas f at size i n l
  unfolding areas
  areas_same l l' i zero h = refl
  areas_same l l' i (suc n) h =
      ap₂ (λ (a : List ℕ) (zs : List A). f i a ∷ zs) (h i (omega arith) (omega arith))
      (areas_same l l' (suc i) n (λ j p q. h j (omega arith) (omega arith)))

  -- where each of them reads as v, all do
  pub areas_all : (l : List ℕ) (v : A) (i n : ℕ) → ((j : ℕ) → i ≤ j → j < i + n → f j (mid_of (at j) (size j) l) ≡ v)
      → areas f at size i n l ≡ replicate n v
  unfolding areas
  areas_all l v i zero h = refl
  areas_all l v i (suc n) h =
      ap₂ (λ (a : A) (zs : List A). a ∷ zs) (h i (omega arith) (omega arith))
      (areas_all l v (suc i) n (λ j p q. h j (omega arith) (omega arith)))

  module _ {N total : ℕ} (apart : Apart at size N total) (l ys : List ℕ) (k : ℕ) (few : k < N) (len : length ys ≡ size k)
      (long : total ≤ length l) where
    abbrev replaced : List ℕ
    replaced = put_mid (at k) (size k) l ys

    fits : at k + size k ≤ length l
    fits = let e = apart.ends k few in omega arith

    behind : (i n : ℕ) → k < i → i + n ≤ N → areas f at size i n replaced ≡ areas f at size i n l
    unfolding areas
    behind i zero h b = refl
    behind i (suc n) h b =
        ap₂ (λ (a : List ℕ) (zs : List A). f i a ∷ zs)
        (area_after (at k) (size k) l ys len fits (at i) (size i) (apart.order k i h (omega arith)))
        (behind (suc i) n (omega arith) (omega arith))

    put_from : (i n j : ℕ) → i + j ≡ k → j < n → i + n ≤ N → areas f at size i n replaced ≡ set (areas f at size i n l) j (f k ys)
    unfolding areas
    put_from i zero j e h b = absurd (omega arith)
    put_from i (suc n) zero e h b =
        let same : i ≡ k = omega arith in
        ap₂ (λ (a : A) (zs : List A). a ∷ zs)
        (ap (λ (m : ℕ). f m (mid_of (at m) (size m) replaced)) same ∙ ap (f k) (area_same (at k) (size k) l ys len fits))
        (behind (suc i) n (omega arith) (omega arith))
    put_from i (suc n) (suc j) e h b =
        ap₂ (λ (a : List ℕ) (zs : List A). f i a ∷ zs)
        (area_before (at k) (size k) l ys len fits (at i) (size i) (apart.order i k (omega arith) few))
        (put_from (suc i) n j (omega arith) (omega arith) (omega arith))

    -- the k-th has ys now, as lending `&mut l[a..a + size]` leaves it
    pub areas_put : areas f at size 0 N (put_mid (at k) (at k + size k - at k) l ys) ≡ set (areas f at size 0 N l) k (f k ys)
    areas_put =
        ap (λ (w : ℕ). areas f at size 0 N (put_mid (at k) w l ys)) (add-sub_cancel_left (at k) (size k))
        ∙ put_from 0 N k (omega arith) few (omega arith)

-- ==== a map in one computed test: each area ends before the next begins, and the last within the whole

-- every number below n passes
abbrev pub below : ℕ → (ℕ → Bool) → Bool
below zero f = true
below (suc n) f = f n && below n f

pub each_below : (n : ℕ) (f : ℕ → Bool) → below n f ≡ true → (i : ℕ) → i < n → f i ≡ true
each_below zero f e i h = absurd (omega arith)
each_below (suc n) f e i h = let both = (and-eq-true_iff (f n) (below n f)).0 e in go both.0 (each_below n f both.1 i) (eqb i n) refl
  where
    go : f n ≡ true → (i < n → f i ≡ true) → (b : Bool) → eqb i n ≡ b → f i ≡ true
    go here earlier true q = rw (eqb-true i n q) here
    go here earlier false q = let d = eqb-false i n q in earlier (omega (arith, d))

module _ (at size : ℕ → ℕ) (n total : ℕ) where
  abbrev pub ends_by : ℕ → ℕ
  ends_by i = cond (eqb (suc i) n) total (at (suc i))

  abbrev pub in_order : Bool
  in_order = below n (λ i. leb (at i + size i) (ends_by i))

  module _ (tested : in_order ≡ true) where
    one_ends : (i : ℕ) → i < n → at i + size i ≤ ends_by i
    one_ends i h = leb-true (at i + size i) (ends_by i) (each_below n (λ (i : ℕ). leb (at i + size i) (ends_by i)) tested i h)

    before_next : (i : ℕ) → suc i < n → at i + size i ≤ at (suc i)
    before_next i h =
        let e : ends_by i ≡ at (suc i) = rw (ne_eqb (suc i) n (λ q. omega arith)) in
        omega (arith, one_ends i (omega arith))

    -- so many after it
    before : (k i : ℕ) → i + suc k < n → at i + size i ≤ at (i + suc k)
    before zero i h = let e : i + 1 ≡ suc i = omega arith in rw e (before_next i (omega arith))
    before (suc k) i h =
        let e : i + suc (suc k) ≡ suc (i + suc k) = omega arith in
        let p = before k i (omega arith) in
        let q = before_next (i + suc k) (omega arith) in
        rw e (omega arith)

    order : (i j : ℕ) → i < j → j < n → at i + size i ≤ at j
    order i j h b =
        let k = j - suc i in
        let e : i + suc k ≡ j = omega arith in
        rw e at (before k i (omega arith))

    last : (i : ℕ) → suc i ≡ n → at i + size i ≤ total
    last i h = let e : ends_by i ≡ total = rw (eq-eqb (suc i) n h) in omega (arith, one_ends i (omega arith))

    within : (i : ℕ) → i < n → at i + size i ≤ total
    within i h = go (eqb (suc i) n) refl
      where
        go : (b : Bool) → eqb (suc i) n ≡ b → at i + size i ≤ total
        go true q = last i (eqb-true (suc i) n q)
        go false q =
            let d = eqb-false (suc i) n q in
            let m : ℕ = n - 1 in
            let f : i < m = omega (arith, d) in
            omega (arith, order i m f (omega arith), last m (omega arith))

    pub apart : Apart at size n total
    apart = record { order = order; ends = within }

-- ==== a test of every area

pub all_set : (l : List Bool) (i : ℕ) → all (λ (b : Bool). b) l ≡ true → all (λ (b : Bool). b) (set l i true) ≡ true
all_set [] i e = refl
all_set (x ∷ l) zero e = ((and-eq-true_iff x (all (λ (b : Bool). b) l)).0 e).1
all_set (x ∷ l) (suc i) e =
    let p = (and-eq-true_iff x (all (λ (b : Bool). b) l)).0 e in
    (and-eq-true_iff x (all (λ (b : Bool). b) (set l i true))).1 (p.0, all_set l i p.1)

module _ (test : ℕ → List ℕ → Bool) (at size : ℕ → ℕ) (n : ℕ) (l : List ℕ) where
  abbrev pub tests : List Bool
  tests = areas test at size 0 n l

  -- those from number k on pass
  abbrev pub pass_from : ℕ → Bool
  pass_from k = all (λ (b : Bool). b) (drop k tests)

  -- one that passes among those that do
  pub passes : pass_from 0 ≡ true → (k : ℕ) → k < n → test k (mid_of (at k) (size k) l) ≡ true
  passes e k h =
      sym (areas_at test at size n k l true h) ∙ all_at (λ (b : Bool). b) tests k true e (rw (length_areas test at size 0 n l) h)

  pass_next : (k : ℕ) → k < n → pass_from k ≡ test k (mid_of (at k) (size k) l) && pass_from (k + 1)
  pass_next k h =
      ap (all (λ (b : Bool). b)) (drop_next tests k true (rw (length_areas test at size 0 n l) h))
      ∙ ap (λ (b : Bool). b && pass_from (k + 1)) (areas_at test at size n k l true h)

-- a loop that tests an area a turn: what is left of the test is all of it
pub record Passing (test : ℕ → List ℕ → Bool) (at size : ℕ → ℕ) (n : ℕ) (l : List ℕ) (k : ℕ) : Type 0 where
  pub left : pass_from test at size n l k ≡ pass_from test at size n l 0

module _ {test : ℕ → List ℕ → Bool} {at size : ℕ → ℕ} {n : ℕ} {l : List ℕ} {k : ℕ} (w : Passing test at size n l k) where
  rest_is : k < n → {b : Bool} → test k (mid_of (at k) (size k) l) ≡ b
      → b && pass_from test at size n l (k + 1) ≡ pass_from test at size n l 0
  rest_is h e = ap (λ (b : Bool). b && pass_from test at size n l (k + 1)) (sym e) ∙ sym (pass_next test at size n l k h) ∙ w.left

  pub pass_on : k < n → test k (mid_of (at k) (size k) l) ≡ true → Passing test at size n l (k + 1)
  pass_on h e = record { left = rest_is h e }

  pub pass_stops : k < n → test k (mid_of (at k) (size k) l) ≡ false → false ≡ pass_from test at size n l 0
  pass_stops h e = rest_is h e

  pub pass_ends : n ≤ k → true ≡ pass_from test at size n l 0
  pass_ends h =
      ap (all (λ (b : Bool). b)) (sym (drop_of_length-le (tests test at size n l) {i = k} (rw (length_areas test at size 0 n l) h)))
      ∙ w.left
