-- Laws of cells: their number, the last of them, and a queue in them; and after one of areas of any sizes was replaced, that one reads as
-- what was put there, and the others as they did.
use mathlib.Core.Path.{◌≡◌, refl, sym, ap, ap₂, ◌∙◌}
use Prim.Native.Nat.{ℕ, zero, suc, ◌+◌, ◌-◌, ◌*◌, ◌≤◌}
use native.Mathlib.Nat.{zero-add, add-zero, suc-mul, zero-mul, add_comm, add-sub_cancel_left}
use native.Mathlib.Omega.{arith}
use mathlib.Core.List.{List, [], ◌∷◌, ◌++◌}
use lib.ListN.{length, take, drop, length-drop}
use lib.Seq.{sets, take_at, drop_at, drop-drop, take-take, take-append-le, length-take-le}
use borrow.Rule.Slice.PartMut.{put_mid, mid_of}
use Rattle.text.specs.Cells.{cells}
use Rattle.text.proofs.Lists.{sets_mid, drop_after, drop-take, drop_sets, take_sets, take_sets_before}

-- ---- the number of cells, the last of them, and what they depend on
pub length_cells : {A : Type 0} (f : List ℕ → A) (k n : ℕ) (l : List ℕ) → length (cells f k n l) ≡ n
unfolding cells
length_cells f k zero l = refl
length_cells f k (suc n) l = ap suc (length_cells f k n (drop k l))

pub cells_snoc : {A : Type 0} (f : List ℕ → A) (k n : ℕ) (l : List ℕ)
    → cells f k (suc n) l ≡ cells f k n l ++ (f (take k (drop (n * k) l)) ∷ [])
unfolding cells
cells_snoc f k zero l = rw zero-mul
cells_snoc f k (suc n) l =
    ap (λ (z : List _). f (take k l) ∷ z) (cells_snoc f k n (drop k l))
    ∙ ap (λ (z : List ℕ). f (take k l) ∷ (cells f k n (drop k l) ++ (f (take k z) ∷ [])))
    (drop-drop (n * k) k l ∙ ap (λ (m : ℕ). drop m l) (add_comm k (n * k) ∙ sym (suc-mul n k)))

pub cells_take : {A : Type 0} (f : List ℕ → A) (k n m : ℕ) (l : List ℕ) → n * k ≤ m → cells f k n (take m l) ≡ cells f k n l
unfolding cells
cells_take f k zero m l h = refl
cells_take f k (suc n) m l h =
    let e : suc n * k ≡ n * k + k = suc-mul n k in
    let p : k ≤ m = omega arith in
    ap₂ (λ (a b : List ℕ). f a ∷ cells f k n b) (take-take k m l p) (drop-take k m l p)
    ∙ ap (λ (z : List _). f (take k l) ∷ z) (cells_take f k n (m - k) (drop k l) (omega arith))

-- ---- areas of any sizes: after one's elements were replaced, that one reads as they do, and the others as they did
module _ (a k : ℕ) (l ys : List ℕ) (len : length ys ≡ k) (fits : a + k ≤ length l) where
  pub area_same : mid_of a k (put_mid a k l ys) ≡ ys
  area_same = ap (take k) (drop_at (take a l) _ a (length-take-le a l (omega arith))) ∙ take_at ys _ k len

  pub area_before : (b m : ℕ) → b + m ≤ a → mid_of b m (put_mid a k l ys) ≡ mid_of b m l
  area_before b m h =
      let g : a ≤ length l = omega arith in
      let e : b + m ≤ length (take a l) = rw (length-take-le a l g) h in
      let w : b + m - b ≡ m = add-sub_cancel_left b m in
      ap (λ (n : ℕ). take n (drop b (put_mid a k l ys))) (sym w) ∙ sym (drop-take b (b + m) (put_mid a k l ys) (omega arith))
      ∙ ap (drop b) (take-append-le (b + m) (take a l) _ e ∙ take-take (b + m) a l h)
      ∙ drop-take b (b + m) l (omega arith) ∙ ap (λ (n : ℕ). take n (drop b l)) w

  pub area_after : (b m : ℕ) → a + k ≤ b → mid_of b m (put_mid a k l ys) ≡ mid_of b m l
  area_after b m h = ap (take m) (drop_after l ys a k b len fits h)

-- the first i of n cells
pub cells_prefix : {A : Type 0} (f : List ℕ → A) (k i n : ℕ) (l : List ℕ) → i ≤ n → take i (cells f k n l) ≡ cells f k i l
unfolding cells
cells_prefix f k zero n l h = refl
cells_prefix f k (suc i) zero l h = absurd (omega arith)
cells_prefix f k (suc i) (suc n) l h = ap (λ (z : List _). f (take k l) ∷ z) (cells_prefix f k i n (drop k l) (omega arith))

-- ---- a queue in cells, the oldest first
module _ {A : Type 0} (f : List ℕ → A) (k : ℕ) (l : List ℕ) where
  -- one more, behind the first i: what stood there and behind is no more of it
  pub cells_push : (i : ℕ) (p : List ℕ) → length p ≡ k → i * k + k ≤ length l
      → cells f k (suc i) (sets l (i * k) p) ≡ cells f k i l ++ (f p ∷ [])
  cells_push i p e h =
      let new : take k (drop (i * k) (sets l (i * k) p)) ≡ p =
      ap (λ (m : ℕ). take k (drop (i * k) (sets l m p))) (sym (add-zero (i * k))) ∙ ap (take k) (drop_sets p l (i * k) 0)
      ∙ ap (λ (m : ℕ). take m (sets (drop (i * k) l) 0 p)) (sym e ∙ sym (zero-add (length p)))
      ∙ take_sets p (drop (i * k) l) 0 (rw length-drop (omega arith)) in
      let old : cells f k i (sets l (i * k) p) ≡ cells f k i l =
      sym (cells_take f k i (i * k) (sets l (i * k) p) (omega arith))
      ∙ ap (cells f k i) (take_sets_before p l (i * k) (i * k) (omega arith)) ∙ cells_take f k i (i * k) l (omega arith) in
      cells_snoc f k i (sets l (i * k) p) ∙ ap₂ (λ (a : List A) (b : List ℕ). a ++ (f b ∷ [])) old new

  -- the first is gone, and m elements behind it moved down, the n other cells among them
  pub cells_pop : (n m : ℕ) → n * k ≤ m → k + m ≤ length l → f (take k l) ∷ cells f k n (sets l 0 (take m (drop k l))) ≡ cells f k (suc n) l
  unfolding cells
  cells_pop n m few fits =
      let ys = take m (drop k l) in
      let ly : length ys ≡ m = length-take-le m (drop k l) (rw length-drop (omega arith)) in
      let front : take m (sets l 0 ys) ≡ ys =
      ap (λ (i : ℕ). take i (sets l 0 ys)) (sym ly ∙ sym (zero-add (length ys))) ∙ take_sets ys l 0 (omega arith) in
      ap (λ (z : List A). f (take k l) ∷ z)
      (sym (cells_take f k n m (sets l 0 ys) few) ∙ ap (cells f k n) front ∙ cells_take f k n m (drop k l) few)

-- ---- areas after a run of stores
module _ (a k : ℕ) (l ys : List ℕ) (len : length ys ≡ k) (fits : a + k ≤ length l) where
  pub stored_same : take k (drop a (sets l a ys)) ≡ ys
  stored_same = ap (λ (z : List ℕ). take k (drop a z)) (sets_mid l ys a k len fits) ∙ area_same a k l ys len fits

  pub stored_before : (b m : ℕ) → b + m ≤ a → take m (drop b (sets l a ys)) ≡ take m (drop b l)
  stored_before b m h = ap (λ (z : List ℕ). take m (drop b z)) (sets_mid l ys a k len fits) ∙ area_before a k l ys len fits b m h

  pub stored_after : (b m : ℕ) → a + k ≤ b → take m (drop b (sets l a ys)) ≡ take m (drop b l)
  stored_after b m h = ap (λ (z : List ℕ). take m (drop b z)) (sets_mid l ys a k len fits) ∙ area_after a k l ys len fits b m h
