-- Laws of a row, for any cells and any call: what the call does to one cell, and what that cell says; and cells of another kind
-- that go along with these.
use Prim.Native.Nat.{ℕ, zero, suc, ◌+◌, ◌≤◌, ◌<◌}
use mathlib.Core.Path.{◌≡◌, refl, ap}
use mathlib.Core.List.{List, [], ◌∷◌, ◌++◌, map, append-nil, map-append}
use native.Mathlib.Omega.{arith}
use lib.Dec.{eqb}
use lib.ListN.{length, get_or, set}
use borrow.Author.Tests.{eq-eqb, ne_eqb}
use Rattle.model.specs.Row.{Tagged, tag, pick, row, said}
use Rattle.model.proofs.Framed.{chosen}

module _ {E : Type 0} where
  pub pick_append : (n : ℕ) (xs ys : List (Tagged E)) → pick n (xs ++ ys) ≡ pick n xs ++ pick n ys
  pick_append n [] ys = refl
  pick_append n (x ∷ xs) ys = rw (pick_append n xs ys) (chosen (◌++ pick n ys) (eqb x.who n) (x.what ∷ pick n xs) (pick n xs))

  pub pick_same : (n : ℕ) (xs : List E) → pick n (tag n xs) ≡ xs
  pick_same n [] = refl
  pick_same n (x ∷ xs) = rw (eq-eqb n n refl) (ap (x ∷◌) (pick_same n xs))

  pub pick_other : (n i : ℕ) (xs : List E) → (i ≡ n → ⊥) → pick n (tag i xs) ≡ []
  pick_other n i [] h = refl
  pick_other n i (x ∷ xs) h = rw (ne_eqb i n h) (pick_other n i xs h)

module _ {X E : Type 0} (act : ℕ → X → X × List E) where
  pub length_row : (i : ℕ) (xs : List X) → length (row act i xs) ≡ length xs
  length_row i [] = refl
  length_row i (x ∷ xs) = ap suc (length_row (suc i) xs)

  later : (n i : ℕ) (xs : List X) → n < i → pick n (said act i xs) ≡ []
  later n i [] h = refl
  later n i (x ∷ xs) h = rw (pick_append n, pick_other n i (act i x).1 (omega arith)) (later n (suc i) xs (omega arith))

  cell_from : (xs : List X) (i j n : ℕ) (d : X) → i + j ≡ n → j < length xs
      → (get_or (row act i xs) j d ≡ (act n (get_or xs j d)).0) × (pick n (said act i xs) ≡ (act n (get_or xs j d)).1)
  cell_from [] i j n d e h = absurd (omega arith)
  cell_from (x ∷ xs) i zero n d e h =
      let k : i ≡ n = omega arith in (
        ap (λ (m : ℕ). (act m x).0) k,
        rw (← k, pick_append i, pick_same i (act i x).1, later i (suc i) xs (omega arith), append-nil),
      )
  cell_from (x ∷ xs) i (suc j) n d e h =
      let r = cell_from xs (suc i) j n d (omega arith) (omega arith) in
      (r.0, rw (pick_append n, pick_other n i (act i x).1 (omega arith)) r.1)

  -- cell n after the call, and what it said
  pub row_at : (xs : List X) (n : ℕ) (d : X) → n < length xs → get_or (row act 0 xs) n d ≡ (act n (get_or xs n d)).0
  row_at xs n d h = (cell_from xs 0 n n d (omega arith) h).0

  pub said_at : (xs : List X) (n : ℕ) (d : X) → n < length xs → pick n (said act 0 xs) ≡ (act n (get_or xs n d)).1
  said_at xs n d h = (cell_from xs 0 n n d (omega arith) h).1

  -- cells that say nothing
  pub said_none : ((n : ℕ) (x : X) → (act n x).1 ≡ []) → (i : ℕ) (xs : List X) → said act i xs ≡ []
  said_none h i [] = refl
  said_none h i (x ∷ xs) = rw (h i x) (said_none h (suc i) xs)

-- ==== a call to cell s alone, which the others pass over

module _ {X E : Type 0} (act : ℕ → X → X × List E) (s : ℕ) (others : (j : ℕ) (x : X) → (j ≡ s → ⊥) → act j x ≡ (x, [])) where
  -- cells of which none is s
  pub passed : (i : ℕ) (xs : List X) → ((j : ℕ) → i ≤ j → j < i + length xs → j ≡ s → ⊥) → (row act i xs ≡ xs) × (said act i xs ≡ [])
  passed i [] h = (refl, refl)
  passed i (x ∷ xs) h =
      let r = passed (suc i) xs (λ j a b. h j (omega arith) (omega arith)) in
      let e = others i x (h i (omega arith) (omega arith)) in
      (rw (e, r.0), rw (e, r.1))

  -- it is the one at place j, where the first has number i
  alone_from : (xs : List X) (i j : ℕ) (d : X) → i + j ≡ s → j < length xs
      → (row act i xs ≡ set xs j (act s (get_or xs j d)).0) × (said act i xs ≡ tag s (act s (get_or xs j d)).1)
  alone_from [] i j d e h = absurd (omega arith)
  alone_from (x ∷ xs) i zero d e h =
      let r = passed (suc i) xs (λ j a b z. omega arith) in
      let n : i ≡ s = omega arith in
      (rw (r.0, n), rw (r.1, n, append-nil))
  alone_from (x ∷ xs) i (suc j) d e h =
      let r = alone_from xs (suc i) j d (omega arith) (omega arith) in
      let q = others i x (λ z. omega arith) in
      (rw (q, r.0), rw (q, r.1))

  -- by its number
  pub row_alone : (xs : List X) (d : X) → s < length xs
      → (row act 0 xs ≡ set xs s (act s (get_or xs s d)).0) × (said act 0 xs ≡ tag s (act s (get_or xs s d)).1)
  row_alone xs d h = alone_from xs 0 s d (omega arith) h

-- ==== a row beside a row: where each cell of the one answers as the other's does, by way of m and e, so do the rows

module _ {E F : Type 0} (e : E → F) where
  abbrev pub retag : Tagged E → Tagged F
  retag t = record { who = t.who; what = e t.what }

  tag_map : (i : ℕ) (xs : List E) → tag i (map e xs) ≡ map retag (tag i xs)
  tag_map i [] = refl
  tag_map i (x ∷ xs) = ap (record { who = i; what = e x } ∷◌) (tag_map i xs)

module _ {X Y E F : Type 0} (f : ℕ → X → X × List E) (g : ℕ → Y → Y × List F) (m : X → Y) (e : E → F)
    (same : (i : ℕ) (x : X) → g i (m x) ≡ (m (f i x).0, map e (f i x).1)) where
  pub row_map : (i : ℕ) (xs : List X) → row g i (map m xs) ≡ map m (row f i xs)
  row_map i [] = refl
  row_map i (x ∷ xs) = rw (same i x, row_map (suc i) xs)

  pub said_map : (i : ℕ) (xs : List X) → said g i (map m xs) ≡ map (retag e) (said f i xs)
  said_map i [] = refl
  said_map i (x ∷ xs) =
      rw (same i x, said_map (suc i) xs, tag_map e i (f i x).1, map-append (retag e) (tag i (f i x).1) (said f (suc i) xs))
