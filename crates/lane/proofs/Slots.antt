-- The slots that are held: they are well formed still, when there are fewer of them, when the first is gone, and when one more is there.
use mathlib.Core.Path.{◌≡◌, refl, sym, ap, ap₂, subst, ◌∙◌}
use Prim.Native.Nat.{ℕ, zero, suc, ◌+◌, ◌*◌, ◌≤◌, ◌<◌, zero-le}
use native.Mathlib.Numerals.{add-one}
use native.Mathlib.Omega.{arith}
use mathlib.Core.Bool.{Bool, true, false, cond, not, ◌&&◌, and-eq-true_iff, false≢true}
use mathlib.Core.List.{List, [], ◌∷◌, ◌++◌}
use lib.Dec.{leb, eqb}
use lib.ListN.{length, get_or, take, drop, length-drop, length-take}
use lib.Seq.{sets, get_or-take}
use borrow.Author.Tests.{le-leb, lt-ltb, le-ltb, leb-true, leb-false, eq-eqb, eqb-true}
use Rattle.model.specs.Bytes.{within, all}
use Rattle.model.specs.Kinds.{tightenings}
use Rattle.model.specs.Events.{Notice}
use Rattle.text.specs.Cells.{cells}
use Rattle.text.proofs.Cells.{cells_prefix, cells_push}
use Rattle.text.proofs.Lists.{all_at, all_same}
use Rattle.places.specs.Places.{is_place}
use Rattle.places.specs.Free.{lacks}
use Rattle.session.specs.Meaning.{subscription_in}
use Rattle.lane.specs.Kinds.{most, is_placed, slot_size, slot_formed, control_size, lane_size}
use Rattle.lane.specs.Lane.{control_of, first_in, notices_in, slots_formed, lane_by, places_in, Lane, SlotsTested}

abbrev every : List Bool → Bool
every bs = all (λ (formed : Bool). formed) bs

every_take : (i : ℕ) (bs : List Bool) → every bs ≡ true → every (take i bs) ≡ true
every_take zero bs e = refl
every_take (suc i) [] e = refl
every_take (suc i) (true ∷ bs) e = every_take i bs e
every_take (suc i) (false ∷ bs) e = absurd (false≢true e)

every_append : (xs ys : List Bool) → every (xs ++ ys) ≡ every xs && every ys
every_append [] ys = refl
every_append (true ∷ xs) ys = every_append xs ys
every_append (false ∷ xs) ys = refl

and-true : (b : Bool) → b && true ≡ b
and-true true = refl
and-true false = refl

module _ (kind : ℕ) (l : List ℕ) where
  abbrev size : ℕ
  size = slot_size kind

  pub fewer_formed : (i held : ℕ) → i ≤ held → slots_formed kind held l ≡ true → slots_formed kind i l ≡ true
  unfolding slots_formed
  fewer_formed i held h e =
      ap every (sym (cells_prefix (slot_formed kind) size i held (drop control_size l) h)) ∙ every_take i _ e

  pub same_formed : (i : ℕ) (l' : List ℕ) → drop control_size l' ≡ drop control_size l → slots_formed kind i l' ≡ slots_formed kind i l
  unfolding slots_formed
  same_formed i l' e = ap (λ (z : List ℕ). every (cells (slot_formed kind) size i z)) e

  pub none_formed : slots_formed kind 0 l ≡ true
  unfolding slots_formed cells
  none_formed = refl

  -- one more, behind the first i
  pub pushed_formed : (i : ℕ) (p : List ℕ) → length p ≡ size → i * size + size ≤ length (drop control_size l)
      → slots_formed kind i l && slot_formed kind p ≡ true
      → every (cells (slot_formed kind) size (i + 1) (sets (drop control_size l) (i * size) p)) ≡ true
  unfolding slots_formed
  pushed_formed i p e h f =
      rw (
        add-one i,
        cells_push (slot_formed kind) size (drop control_size l) i p e h,
        every_append (cells (slot_formed kind) size i (drop control_size l)) (slot_formed kind p ∷ []),
        and-true (slot_formed kind p),
      ) f

-- ==== by the kind

each_formed : (f : List ℕ → Bool) → ((slot : List ℕ) → f slot ≡ true) → (k n : ℕ) (d : List ℕ) → every (cells f k n d) ≡ true
unfolding cells
each_formed f e k zero d = refl
each_formed f e k (suc n) d = rw (e (take k d)) (each_formed f e k n (drop k d))

unplaced_formed : (kind : ℕ) → is_placed kind ≡ false → (slot : List ℕ) → slot_formed kind slot ≡ true
unplaced_formed kind e slot = ap (λ (b : Bool). cond b (is_place (get_or slot 0 0)) true) e

placed_formed : (n : ℕ) (d : List ℕ) → n ≤ length d
    → every (cells (slot_formed tightenings) (slot_size tightenings) n d) ≡ all is_place (take n d)
unfolding cells
placed_formed zero d h = refl
placed_formed (suc n) [] h = absurd (omega arith)
placed_formed (suc n) (p ∷ d) h = ap (λ (b : Bool). is_place p && b) (placed_formed n d (omega arith))

below : (b : ℕ) → within 0 31 b ≡ is_place b
below b = rw (le-leb 0 b zero-le) (go (leb b 31) refl)
  where
    go : (x : Bool) → leb b 31 ≡ x → leb b 31 ≡ is_place b
    go true e = e ∙ sym (lt-ltb b 32 (let h = leb-true b 31 e in omega arith))
    go false e = e ∙ sym (le-ltb b 32 (let h = leb-false b 31 e in omega arith))

module _ {kind held : ℕ} {l : List ℕ} (k : SlotsTested kind held l) where
  pub not_tested : is_placed kind ≡ false → true ≡ slots_formed kind held l
  unfolding slots_formed
  not_tested e = sym (each_formed (slot_formed kind) (unplaced_formed kind e) (slot_size kind) held (drop control_size l))

  pub in_lane : is_placed kind ≡ true → control_size + held ≤ length l
  in_lane e =
      let t = eqb-true kind tightenings e in
      let f = subst (λ (n : ℕ). held ≤ most n) t k.few in
      let s = subst (λ (n : ℕ). length l ≡ lane_size n) t k.size in
      omega arith

  pub is_tested : is_placed kind ≡ true → all (within 0 31) (take held (drop control_size l)) ≡ slots_formed kind held l
  unfolding slots_formed
  is_tested e =
      let h = in_lane e in
      rw (eqb-true kind tightenings e)
      (all_same (within 0 31) is_place below (take held (drop control_size l))
      ∙ sym (placed_formed held (drop control_size l) (rw (length-drop control_size l) (omega arith))))

-- the places that a lane of tightenings holds are some of those that there are
pub places_there : (l : List ℕ) → length l ≡ lane_size tightenings → (control_of l).held ≤ most tightenings
    → slots_formed tightenings (control_of l).held l ≡ true → all is_place (places_in l) ≡ true
unfolding slots_formed places_in
places_there l s h f =
    sym (placed_formed (control_of l).held (drop control_size l) (rw (length-drop control_size l) (omega arith))) ∙ f

-- the first of them, where one is held
pub first_place : (l : List ℕ) → length l ≡ lane_size tightenings → all is_place (places_in l) ≡ true → 0 < (control_of l).held
    → is_place (get_or (first_in tightenings l) 0 0) ≡ true
unfolding places_in
first_place l s f h =
    let d = drop control_size l in
    let long = length-drop control_size l in
    ap is_place (get_or-take 1 d 0 0 (omega arith) ∙ sym (get_or-take (control_of l).held d 0 0 h))
    ∙ all_at is_place (take (control_of l).held d) 0 0 f (rw (length-take (control_of l).held d) (omega arith))

-- ==== what the slots mean does not hang on a place that none of them is

agree_but : (read other : List ℕ → Notice) (q : ℕ) → ((slot : List ℕ) → (get_or slot 0 0 ≡ q → ⊥) → read slot ≡ other slot)
    → (n : ℕ) (d : List ℕ) → n ≤ length d → lacks q (take n d) ≡ true → cells read 1 n d ≡ cells other 1 n d
unfolding cells
agree_but read other q same zero d h e = refl
agree_but read other q same (suc n) [] h e = absurd (omega arith)
agree_but read other q same (suc n) (p ∷ d) h e =
    let b = (and-eq-true_iff (not (eqb p q)) (lacks q (take n d))).0 e in
    ap₂ ◌∷◌ (same (p ∷ []) (λ z. not_equal (eqb p q) b.0 (eq-eqb p q z))) (agree_but read other q same n d (omega arith) b.1)
  where
    not_equal : (b : Bool) → not b ≡ true → b ≡ true → ⊥
    not_equal true e f = false≢true e
    not_equal false e f = false≢true f

pub same_but : (read other : List ℕ → Notice) (q : ℕ) → ((slot : List ℕ) → (get_or slot 0 0 ≡ q → ⊥) → read slot ≡ other slot)
    → (l : List ℕ) → Lane tightenings l → (control_of l).held ≤ most tightenings → lacks q (places_in l) ≡ true
    → lane_by read tightenings l ≡ lane_by other tightenings l
unfolding lane_by notices_in places_in
same_but read other q same l lane few e =
    let s = lane.size in
    ap (subscription_in (control_of l))
    (agree_but read other q same (control_of l).held (drop control_size l) (rw (length-drop control_size l) (omega arith)) e)
