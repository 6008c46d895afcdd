-- A lane's control in its bytes.
use mathlib.Core.Path.{◌≡◌, refl, sym, ap, ◌∙◌}
use Prim.Native.Nat.{ℕ, zero, suc, ◌+◌, ◌-◌, ◌≤◌, ◌<◌, ◌^◌, zero-le}
use native.Mathlib.Nat.{add-sub_cancel_left}
use native.Mathlib.Omega.{arith}
use mathlib.Core.Bool.{true, false, ◌&&◌, not, and-eq-true_iff}
use mathlib.Core.List.{List, [], ◌∷◌, ◌++◌}
use lib.Dec.{leb, ltb, eqb, eqb-suc-zero, lit<, lit≤}
use lib.ListN.{length, get_or, take, drop, replicate, length-drop}
use lib.Seq.{sets, length-sets, get_or-take, drop-drop, length-take-le}
use borrow.Author.Tests.{le-leb, lt-ltb, leb-true, ltb-true}
use Rattle.model.specs.Limits.{given_up_at}
use Rattle.model.specs.Bytes.{little, in_bytes, all}
use Rattle.model.specs.Events.{Notice}
use Rattle.model.specs.Kinds.{room_of, tightenings}
use Rattle.model.specs.Notices.{is_subscribed, beats, act}
use Rattle.text.specs.Cells.{cells}
use Rattle.text.proofs.Numbers.{in_bytes_length}
use Rattle.text.proofs.Lists.{drop_sets_after}
use Rattle.text.proofs.Cells.{stored_same, stored_before}
use Rattle.places.specs.Places.{is_place}
use Rattle.session.specs.Meaning.{subscription_as}
use Rattle.session.specs.declared.Form.{Form}
use Rattle.session.specs.declared.Form.TheVariants.{Not, Plain, Acknowledged}
use Rattle.session.specs.declared.Subscription.{Subscription}
use Rattle.lane.specs.Kinds.{most, control_size, lane_size}
use Rattle.lane.specs.Lane.{form_of, form_greatest, control_of, notices_in, slots_formed, lane_by, places_in, lane_formed, Lane}
use Rattle.lane.specs.Lane.{Cleared}
use Rattle.lane.specs.Lane.{Storable, Stored, any, Deals}
use Rattle.lane.proofs.Slots.{same_formed, none_formed, places_there}

byte_of : (l : List ℕ) (n : ℕ) {bs : List ℕ} → take n l ≡ bs → (i : ℕ) → i < n → get_or l i 0 ≡ get_or bs i 0
byte_of l n e i h = sym (get_or-take n l i 0 h) ∙ ap (λ (z : List ℕ). get_or z i 0) e

-- ==== stored: three bytes, and the revision

whole : (v : ℕ) → v < 2 ^ 64 → little (in_bytes 8 v) ≡ v
unfolding in_bytes
whole v h = omega arith

module _ (kind : ℕ) (l : List ℕ) (x : Subscription) (f : ℕ) (size : length l ≡ lane_size kind) (k : Storable kind x)
    (held : slots_formed kind x.held l ≡ true)
    (ef : form_of f ≡ x.form) (lf : f ≤ form_greatest) (fr : x.revision < 2 ^ 64) where
  abbrev bytes : List ℕ
  bytes = f ∷ x.clock ∷ x.held ∷ []

  abbrev first : List ℕ
  first = bytes ++ drop 3 l

  abbrev stored : List ℕ
  stored = sets first 8 (in_bytes 8 x.revision)

  long : control_size ≤ length l
  long = omega arith

  same : length first ≡ length l
  same = let n = long in let d = length-drop 3 l in omega arith

  there : take 3 stored ≡ bytes
  there =
      let s = same in
      let n = long in
      stored_before 8 8 first (in_bytes 8 x.revision) (in_bytes_length 8 x.revision) (omega arith) 0 3 (lit≤ tt)

  byte : (i : ℕ) → i < 3 → get_or stored i 0 ≡ get_or bytes i 0
  byte i h = byte_of stored 3 there i h

  behind : drop control_size stored ≡ drop control_size l
  behind =
      let s = same in
      drop_sets_after (in_bytes 8 x.revision) first 8 control_size (let n = in_bytes_length 8 x.revision in omega arith)
      ∙ drop-drop 13 3 l

  pub stores : Stored kind x l stored
  unfolding control_of lane_formed
  stores =
      let s = same in
      let m = long in
      let n = in_bytes_length 8 x.revision in
      let r : little (take 8 (drop 8 stored)) ≡ x.revision =
      ap little (stored_same 8 8 first (in_bytes 8 x.revision) n (omega arith)) ∙ whole x.revision fr in
      record {
        control = rw (byte 0 (lit< tt), byte 1 (lit< tt), byte 2 (lit< tt), r, ef);
        lane = record {
          size = length-sets first 8 (in_bytes 8 x.revision) ∙ same ∙ size;
          formed =
              rw (
                byte 0 (lit< tt),
                byte 1 (lit< tt),
                byte 2 (lit< tt),
                le-leb f form_greatest lf,
                lt-ltb x.clock given_up_at k.clock,
                le-leb x.held (most kind) k.held,
                same_formed kind l x.held stored behind,
                held,
              );
        };
        slots = behind;
      }

-- what stands in a lane could be stored
pub storable : (kind : ℕ) (l : List ℕ) → Lane kind l → Storable kind (control_of l)
unfolding control_of lane_formed
storable kind l h =
    let f = leb (get_or l 0 0) form_greatest in
    let c = ltb (get_or l 1 0) given_up_at in
    let m = leb (get_or l 2 0) (most kind) in
    let z = (and-eq-true_iff (f && c && m) (slots_formed kind (get_or l 2 0) l)).0 h.formed in
    let a = (and-eq-true_iff (f && c) m).0 z.0 in
    let b = (and-eq-true_iff f c).0 a.0 in
    record { clock = ltb-true _ _ b.1; held = leb-true _ _ a.1 }

pub held_formed : (kind : ℕ) (l : List ℕ) → Lane kind l → slots_formed kind (control_of l).held l ≡ true
unfolding control_of lane_formed
held_formed kind l h =
    ((and-eq-true_iff (leb (get_or l 0 0) form_greatest && ltb (get_or l 1 0) given_up_at && leb (get_or l 2 0) (most kind))
    (slots_formed kind (get_or l 2 0) l)).0 h.formed).1

-- the places that a lane of tightenings holds
module _ (l : List ℕ) (n : ℕ) (lane : Lane tightenings l) (e : n ≡ get_or l 2 0) where
  pub places_fit : control_size + n ≤ length l
  unfolding control_of
  places_fit =
      let few = (storable tightenings l lane).held in
      let size = lane.size in
      omega arith

  pub places_held : take (control_size + n - control_size) (drop control_size l) ≡ places_in l
  unfolding control_of places_in
  places_held = ap (λ (m : ℕ). take m (drop control_size l)) (add-sub_cancel_left control_size n ∙ e)

  pub held_are_places : all is_place (take (control_size + n - control_size) (drop control_size l)) ≡ true
  held_are_places =
      ap (all is_place) places_held
      ∙ places_there l lane.size (storable tightenings l lane).held (held_formed tightenings l lane)

-- ==== what the form alone tells

-- zeros are a lane that is not subscribed
pub cleared : (kind : ℕ) (l zeros : List ℕ) → length l ≡ lane_size kind → zeros ≡ replicate (length (take 8 l)) 0
    → Cleared kind (zeros ++ drop 8 l)
unfolding lane_by control_of lane_formed
cleared kind l zeros size e =
    let eight : length (take 8 l) ≡ 8 = length-take-le 8 l (omega arith) in
    let d = length-drop 8 l in
    rw (e, eight)
    record {
      lane = record { size = omega arith; formed = rw (le-leb 0 (most kind) zero-le, none_formed kind (replicate 8 0 ++ drop 8 l)) };
      means = λ read. refl;
    }

-- where none is held a second changes nothing, and nothing is sent
pub none_beats : (read : List ℕ → Notice) (kind : ℕ) (l : List ℕ) → Lane kind l → get_or l 2 0 ≡ 0 → Deals read kind beats l false l
unfolding lane_by control_of notices_in cells
none_beats read kind l h e =
    let go = by_form (form_of (get_or l 0 0)) (little (take 8 (drop 8 l))) (get_or l 1 0) in
    record { lane = h; becomes = rw e go.0; sends = rw e go.1 }
  where
    by_form : (f : Form) (revision clock : ℕ)
        → (subscription_as f revision clock [] ≡ (act (room_of kind) beats (subscription_as f revision clock [])).0)
        × (false ≡ any (act (room_of kind) beats (subscription_as f revision clock [])).1)
    by_form Not revision clock = (refl, refl)
    by_form Plain revision clock = (refl, refl)
    by_form Acknowledged revision clock = (refl, refl)

-- the first byte tells whether it is subscribed, whatever it holds
pub subscribed_byte : (read : List ℕ → Notice) (kind : ℕ) (l : List ℕ) → not (eqb (get_or l 0 0) 0) ≡ is_subscribed (lane_by read kind l)
unfolding lane_by control_of
subscribed_byte read kind l = go (get_or l 0 0) (little (take 8 (drop 8 l))) (get_or l 1 0) (notices_in read kind (get_or l 2 0) l)
  where
    go : (b revision clock : ℕ) (ns : List Notice) → not (eqb b 0) ≡ is_subscribed (subscription_as (form_of b) revision clock ns)
    go zero revision clock ns = refl
    go (suc zero) revision clock ns = refl
    go (suc (suc b)) revision clock ns = rw (eqb-suc-zero (suc b))
