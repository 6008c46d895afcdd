-- 02, P7: what a region means does not hang on a place that it does not hold; and it holds no more than it may.
use mathlib.Core.Path.{◌≡◌, refl, sym, ap, ap₂, ◌∙◌}
use Prim.Native.Nat.{ℕ, zero, suc, ◌+◌, ◌≤◌, ◌<◌, zero-le}
use native.Mathlib.Omega.{arith}
use mathlib.Core.Bool.{Bool, true, false, cond}
use mathlib.Core.List.{List, [], ◌∷◌}
use lib.Dec.{eqb}
use lib.ListN.{length, get_or, drop, length-take}
use borrow.Author.Tests.{eqb-true, eqb-false}
use borrow.Rule.Slice.PartMut.{mid_of}
use Rattle.model.specs.Kinds.{kinds, tightenings}
use Rattle.text.specs.Areas.{areas}
use Rattle.session.specs.Meaning.{session_as}
use Rattle.session.specs.Decisions.{is_started}
use Rattle.session.specs.declared.Phase.{Phase}
use Rattle.session.specs.declared.Phase.TheVariants.{Closed, Opened, Started}
use Rattle.session.specs.declared.Taken.{Taken}
use Rattle.places.specs.Free.{lacks}
use Rattle.run.specs.Area.{run_of}
use Rattle.head.specs.Head.{head_of}
use Rattle.lane.specs.Kinds.{most, control_size, lane_size}
use Rattle.lane.specs.Lane.{Reading, control_of, lane_of, lane_by, places_in, is_held, Lane}
use Rattle.lane.proofs.Controls.{storable}
use Rattle.lane.proofs.Slots.{same_but}
use Rattle.lane.proofs.Events.{fewer_held}
use Rattle.region.specs.Region.{head_area, run_area, lane_at, lanes, lane_in, places_held, subscriptions_in, session_of, Good}
use Rattle.region.specs.Said.{Answers}
use Rattle.region.proofs.Areas.{lane_good}

-- two readings differ in place q alone
pub record Agree (q : ℕ) (read other : Reading) : Type 0 where
  pub unplaced : (kind : ℕ) → (kind ≡ tightenings → ⊥) → read kind ≡ other kind
  pub placed : (slot : List ℕ) → (get_or slot 0 0 ≡ q → ⊥) → read tightenings slot ≡ other tightenings slot

-- areas that are read alike
pub areas_alike : {A : Type 0} (f g : ℕ → List ℕ → A) (at size : ℕ → ℕ) (l : List ℕ) (i n : ℕ)
    → ((j : ℕ) → j < i + n → f j (mid_of (at j) (size j) l) ≡ g j (mid_of (at j) (size j) l))
    → areas f at size i n l ≡ areas g at size i n l
unfolding areas
areas_alike f g at size l i zero h = refl
areas_alike f g at size l i (suc n) h =
    ap₂ ◌∷◌ (h i (omega arith)) (areas_alike f g at size l (suc i) n (λ j k. h j (omega arith)))

module _ (q : ℕ) (read other : Reading) (a : Agree q read other) (r : List ℕ) (g : Good r) where
  lane_same : lacks q (places_in (lane_in tightenings r)) ≡ true → (kind : ℕ) → kind < length kinds
      → lane_of read kind (lane_in kind r) ≡ lane_of other kind (lane_in kind r)
  lane_same e kind few = go (eqb kind tightenings) refl
    where
      go : (b : Bool) → eqb kind tightenings ≡ b → lane_of read kind (lane_in kind r) ≡ lane_of other kind (lane_in kind r)
      go true h =
          let lane = lane_good r tightenings (omega arith) g in
          rw (eqb-true kind tightenings h)
          (same_but (read tightenings) (other tightenings) q a.placed (lane_in tightenings r) lane
          (storable tightenings (lane_in tightenings r) lane).held e)
      go false h = ap (λ f. lane_by f kind (lane_in kind r)) (a.unplaced kind (eqb-false kind tightenings h))

  pub same_session : lacks q (places_held r) ≡ true → session_of read r ≡ session_of other r
  unfolding session_of subscriptions_in places_held
  same_session e = go (head_of (head_area r)).phase e
    where
      go : (p : Phase) → lacks q (cond (is_started p) (places_in (lane_in tightenings r)) []) ≡ true
          → session_as p (head_of (head_area r)).idle (run_of (run_area r)) (lanes (lane_of read) r)
          ≡ session_as p (head_of (head_area r)).idle (run_of (run_area r)) (lanes (lane_of other) r)
      go Closed e = refl
      go Opened e = refl
      go Started e =
          ap (session_as Started (head_of (head_area r)).idle (run_of (run_area r)))
          (areas_alike (lane_of read) (lane_of other) lane_at lane_size r 0 (length kinds) (λ j k. lane_same e j (omega arith)))

-- the lane whose slots are places, as it was read
pub tightenings_good : (r : List ℕ) {l : List ℕ} → Good r → l ≡ lane_in tightenings r → Lane tightenings l
tightenings_good r g e = rw e (lane_good r tightenings (omega arith) g)

-- ==== how many it holds

-- 02, P7: one that is not started has none open or waiting
pub none_held : (r : List ℕ) → is_started (head_of (head_area r)).phase ≡ false → places_held r ≡ []
unfolding places_held
none_held r e = ap (λ (b : Bool). cond b (places_in (lane_in tightenings r)) []) e

places_few : (l : List ℕ) (b : Bool) → (control_of l).held ≤ most tightenings → length (cond b (places_in l) []) ≤ most tightenings
unfolding places_in
places_few l true h = rw (length-take (control_of l).held (drop control_size l)) (omega arith)
places_few l false h = zero-le

pub holds_few : (r : List ℕ) → Good r → length (places_held r) ≤ most tightenings
unfolding places_held
holds_few r g =
    places_few (lane_in tightenings r) (is_started (head_of (head_area r)).phase)
    (storable tightenings (lane_in tightenings r) (lane_good r tightenings (omega arith) g)).held

-- where it is to hold one more it holds fewer
pub holds_fewer : (r : List ℕ) (t : Taken) → Answers tightenings r t → is_held t.take ≡ true
    → length (places_held r) < most tightenings
unfolding places_held places_in
holds_fewer r t a h =
    let l = lane_in tightenings r in
    let few = fewer_held (most tightenings) (control_of l) (omega arith) (ap (λ (z : Taken). is_held z.take) (sym (a.held h)) ∙ h) in
    rw (a.started h, length-take (control_of l).held (drop control_size l)) (omega arith)
