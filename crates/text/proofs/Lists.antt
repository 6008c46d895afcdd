-- The list laws of the project, over any lists.
use mathlib.Core.Path.{◌≡◌, refl, sym, ap, ap₂, ◌∙◌}
use Prim.Native.Nat.{ℕ, zero, suc, ◌+◌, ◌-◌, ◌≤◌, ◌<◌, min}
use native.Mathlib.Nat.{add-zero, add-suc, suc-add, add-sub_cancel_left, zero-min, min-zero, suc-min-suc, sub-zero, suc-sub-suc}
use native.Mathlib.Numerals.{add-one}
use native.Mathlib.Omega.{arith}
use mathlib.Core.Bool.{Bool, true, ◌&&◌, and-eq-true_iff}
use mathlib.Core.List.{List, [], ◌∷◌, ◌++◌, append-nil, append_assoc}
use lib.ListN.{length, get_or, set, take, drop, replicate, length-append, length-drop, drop_of_length-le}
use lib.Seq.{sets, sets-eq, paste, set-set, set_comm, drop-cons, drop-drop, drop-set-add, drop-set-lt, take-set-le, take_at, take-nil}
use lib.Seq.{length-take-le, take_all, take-append-add}
use borrow.Rule.Slice.PartMut.{put_mid, drop_put}
use Rattle.std.specs.List.{copy_within}
use Rattle.model.specs.Bytes.{all}

-- ==== what is left of a list, an element later

pub drop_next : {A : Type 0} (l : List A) (i : ℕ) (d : A) → i < length l → drop i l ≡ get_or l i d ∷ drop (i + 1) l
drop_next l i d h = rw add-one (drop-cons l i d h)

pub replicate_next : {A : Type 0} (n i : ℕ) (a : A) → i < n → replicate (n - i) a ≡ a ∷ replicate (n - (i + 1)) a
replicate_next n i a h = let e : n - i ≡ suc (n - (i + 1)) = omega arith in ap (λ (k : ℕ). replicate k a) e

-- ==== the first elements of a list in the place of another's, an element later

abbrev pub replaced_up_to : ℕ → List ℕ → List ℕ → List ℕ
replaced_up_to i l o = take i l ++ drop i o

replaced_after : (i : ℕ) (l o : List ℕ) → i < length l → length o ≡ length l
    → set (replaced_up_to i l o) i (get_or l i 0) ≡ replaced_up_to (suc i) l o
replaced_after i [] o h e = absurd (omega arith)
replaced_after i (b ∷ l) [] h e = absurd (omega arith)
replaced_after zero (b ∷ l) (x ∷ o) h e = refl
replaced_after (suc i) (b ∷ l) (x ∷ o) h e = ap (b ∷◌) (replaced_after i l o (omega arith) (omega arith))

pub replaced_next : {f : List ℕ} (i : ℕ) (l o : List ℕ) → i < length l → length o ≡ length l → f ≡ replaced_up_to i l o
    → set f i (get_or l i 0) ≡ replaced_up_to (i + 1) l o
replaced_next i l o h g e = rw (add-one, e) (replaced_after i l o h g)

pub replaced_all : {f : List ℕ} (i : ℕ) (l o : List ℕ) → length l ≤ i → length o ≡ length l → f ≡ replaced_up_to i l o → f ≡ l
replaced_all i l o h g e = rw (take_all i l h, drop_of_length-le o {i = i} (omega arith)) at e ∙ append-nil l

-- ==== tests of every element

pub all_at : {A : Type 0} (test : A → Bool) (l : List A) (i : ℕ) (d : A) → all test l ≡ true → i < length l → test (get_or l i d) ≡ true
all_at test [] i d e h = absurd (omega arith)
all_at test (x ∷ l) zero d e h = ((and-eq-true_iff (test x) (all test l)).0 e).0
all_at test (x ∷ l) (suc i) d e h = all_at test l i d ((and-eq-true_iff (test x) (all test l)).0 e).1 (omega arith)

pub all_same : (test other : ℕ → Bool) → ((b : ℕ) → test b ≡ other b) → (l : List ℕ) → all test l ≡ all other l
all_same test other h [] = refl
all_same test other h (x ∷ l) = ap₂ ◌&&◌ (h x) (all_same test other h l)

-- ==== runs of stores

-- what is written from i on, and then from where that ended
pub sets_sets : (a b o : List ℕ) (i : ℕ) → sets (sets o i a) (i + length a) b ≡ sets o i (a ++ b)
sets_sets [] b o i = rw add-zero
sets_sets (x ∷ a) b o i = rw (add-suc, ← suc-add) (sets_sets a b (set o i x) (suc i))

-- a store behind a run of stores, and the run: in either order
sets_set : (a o : List ℕ) (i j x : ℕ) → i + length a ≤ j → sets (set o j x) i a ≡ set (sets o i a) j x
sets_set [] o i j x h = refl
sets_set (y ∷ a) o i j x h =
    ap (λ (l : List ℕ). sets l (suc i) a) (set_comm o j i x y (λ e. omega arith)) ∙ sets_set a (set o i y) (suc i) j x (omega arith)

-- two runs of stores, the second behind the first: in either order
pub sets_swap : (a b o : List ℕ) (i j : ℕ) → i + length a ≤ j → sets (sets o j b) i a ≡ sets (sets o i a) j b
sets_swap a [] o i j h = refl
sets_swap a (x ∷ b) o i j h =
    sets_swap a b (set o j x) i (suc j) (omega arith) ∙ ap (λ (l : List ℕ). sets l (suc j) b) (sets_set a o i j x h)

-- a run of stores over another that is as long
pub sets_over : (a b o : List ℕ) (i : ℕ) → length a ≡ length b → sets (sets o i a) i b ≡ sets o i b
sets_over [] [] o i h = refl
sets_over [] (y ∷ b) o i h = absurd (omega arith)
sets_over (x ∷ a) [] o i h = absurd (omega arith)
sets_over (x ∷ a) (y ∷ b) o i h =
    ap (λ (l : List ℕ). sets l (suc i) b) (sets_swap (y ∷ []) a (set o i x) i (suc i) (omega arith)
    ∙ ap (λ (l : List ℕ). sets l (suc i) a) (set-set o i x y))
    ∙ sets_over a b (set o i y) (suc i) (omega arith)

-- ==== a loop that writes a list: what is left of it over what is there is all of it over what was there

-- forwards, the next element is written
pub written : {ys zs all_of_it : List ℕ} (o : List ℕ) (at i x : ℕ)
    → ys ≡ x ∷ zs → sets o (at + i) ys ≡ all_of_it → sets (set o (at + i) x) (at + (i + 1)) zs ≡ all_of_it
written {ys} {zs} o at i x e h =
    let n : at + (i + 1) ≡ suc (at + i) = omega arith in
    ap (λ (k : ℕ). sets (set o (at + i) x) k zs) n ∙ ap (sets o (at + i)) (sym e) ∙ h

-- backwards, the last few elements
pub written_before : {ys all_of_it : List ℕ} (o zs xs : List ℕ) (at i : ℕ)
    → ys ≡ zs ++ xs → length zs ≡ i → sets o at ys ≡ all_of_it → sets (sets o (at + i) xs) at zs ≡ all_of_it
written_before o zs xs at i e n h =
    ap (λ (k : ℕ). sets (sets o (at + k) xs) at zs) (sym n) ∙ sets_swap zs xs o at (at + length zs) (omega arith)
    ∙ sets_sets zs xs o at ∙ ap (sets o at) (sym e) ∙ h

-- ==== a run of stores as a part that was replaced

pub sets_mid : (l vs : List ℕ) (a k : ℕ) → length vs ≡ k → a + k ≤ length l → sets l a vs ≡ put_mid a k l vs
sets_mid l vs a k e h =
    let h' : a + length vs ≤ length l = omega arith in
    sets-eq vs l a h' ∙ append_assoc (take a l) vs _
    ∙ ap (λ (z : List ℕ). take a l ++ (vs ++ z)) (sym (drop-drop (length vs) a l) ∙ ap (λ (n : ℕ). drop n (drop a l)) e)

-- a part of a list copied to another place of it
pub sets_moved : (o : List ℕ) (from to at n : ℕ) → to - from ≡ n → to ≤ length o → at + n ≤ length o
    → copy_within o from to at ≡ sets o at (take n (drop from o))
sets_moved o from to at n e whole fits =
    let few : n ≤ length (drop from o) = simp length-drop (omega arith) in
    let long : length (take n (drop from o)) ≡ n = length-take-le n (drop from o) few in
    ap (λ (m : ℕ). paste o at (drop from o) m) e
    ∙ ap (λ (m : ℕ). take at o ++ take n (drop from o) ++ drop (at + m) o) (sym long)
    ∙ sym (sets-eq (take n (drop from o)) o at (rw long fits))

-- what lies after a part that was replaced
pub drop_after : (l ys : List ℕ) (a k b : ℕ) → length ys ≡ k → a + k ≤ length l → a + k ≤ b → drop b (put_mid a k l ys) ≡ drop b l
drop_after l ys a k b e h g =
    let p : a + k + (b - (a + k)) ≡ b = omega arith in
    let q : a + k - a ≡ k = add-sub_cancel_left a k in
    ap (λ (n : ℕ). drop n (put_mid a k l ys)) (sym p) ∙ sym (drop-drop _ (a + k) _)
    ∙ ap (drop (b - (a + k))) (ap (λ (n : ℕ). drop (a + k) (put_mid a n l ys)) (sym q)
    ∙ drop_put a (a + k) l ys (omega arith) h (e ∙ sym q))
    ∙ drop-drop _ (a + k) l ∙ ap (λ (n : ℕ). drop n l) p

-- ==== a run of stores, seen from before it, from its start and from past it
pub drop_sets : (vs l : List ℕ) (n i : ℕ) → drop n (sets l (n + i) vs) ≡ sets (drop n l) i vs
drop_sets [] l n i = refl
drop_sets (v ∷ vs) l n i =
    ap (λ (m : ℕ). drop n (sets (set l (n + i) v) m vs)) (sym (add-suc n i)) ∙ drop_sets vs (set l (n + i) v) n (suc i)
    ∙ ap (λ (z : List ℕ). sets z (suc i) vs) (drop-set-add n l i v)

pub take_sets : (vs l : List ℕ) (i : ℕ) → i + length vs ≤ length l → take (i + length vs) (sets l i vs) ≡ take i l ++ vs
take_sets vs l i h =
    let g : i ≤ length l = omega arith in
    ap (take (i + length vs)) (sets-eq vs l i h) ∙ take_at (take i l ++ vs) _ (i + length vs)
    (length-append (take i l) vs ∙ ap (λ (n : ℕ). n + length vs) (length-take-le i l g))

pub take_sets_before : (vs l : List ℕ) (i n : ℕ) → n ≤ i → take n (sets l i vs) ≡ take n l
take_sets_before [] l i n h = refl
take_sets_before (v ∷ vs) l i n h = take_sets_before vs (set l i v) (suc i) n (omega arith) ∙ take-set-le n l i v h

pub drop_sets_after : (vs l : List ℕ) (i n : ℕ) → i + length vs ≤ n → drop n (sets l i vs) ≡ drop n l
drop_sets_after [] l i n h = refl
drop_sets_after (v ∷ vs) l i n h = drop_sets_after vs (set l i v) (suc i) n (omega arith) ∙ drop-set-lt n l i v (omega arith)

-- ==== parts of a list

pub take_least : (n : ℕ) (l : List ℕ) → take (min n (length l)) l ≡ take n l
take_least zero l = rw zero-min
take_least (suc n) [] = simp (min-zero, take-nil)
take_least (suc n) (x ∷ l) = rw suc-min-suc (ap (λ (z : List ℕ). x ∷ z) (take_least n l))

pub take_over : (n : ℕ) (a b : List ℕ) → length a ≤ n → take n (a ++ b) ≡ a ++ take (n - length a) b
take_over n a b h =
    let e : n ≡ length a + (n - length a) = omega arith in
    ap (λ (m : ℕ). take m (a ++ b)) e ∙ take-append-add a b (n - length a)

-- what is left of the first m elements, past the first k
pub drop-take : (k m : ℕ) (l : List ℕ) → k ≤ m → drop k (take m l) ≡ take (m - k) (drop k l)
drop-take zero m l h = rw sub-zero
drop-take (suc k) zero l h = absurd (omega arith)
drop-take (suc k) (suc m) [] h = simp take-nil
drop-take (suc k) (suc m) (x ∷ l) h = rw suc-sub-suc (drop-take k m l (omega arith))
