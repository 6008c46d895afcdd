-- A deed that was carried out in a lane is the model's.
use mathlib.Core.Path.{◌≡◌, refl, sym, ap, ◌∙◌, subst}
use Prim.Native.Nat.{ℕ, zero, suc, ◌+◌, ◌-◌, ◌*◌, ◌≤◌, ◌<◌}
use native.Mathlib.Nat.{suc-mul, mul-le-mul_right, add-sub_cancel_left}
use native.Mathlib.Numerals.{sub-one}
use native.Mathlib.Omega.{arith}
use mathlib.Core.Bool.{Bool, true, false, cond, and-eq-true_iff}
use mathlib.Core.List.{List, ◌∷◌, ◌++◌}
use lib.ListN.{length, take, drop, length-drop}
use lib.Seq.{sets, sets-eq, length-sets, drop-drop, length-take-le, paste}
use Rattle.std.specs.List.{copy_within}
use Rattle.model.specs.Bytes.{all}
use Rattle.model.specs.Events.{Notice}
use Rattle.model.specs.Kinds.{room_of}
use Rattle.model.specs.Notices.{act}
use Rattle.model.specs.Notices as model
use Rattle.text.specs.Cells.{cells}
use Rattle.text.proofs.Lists.{drop_sets}
use Rattle.text.proofs.Cells.{cells_pop, cells_prefix, length_cells}
use Rattle.frame.specs.Places.{notice_in}
use Rattle.session.specs.Meaning.{subscription_in, Holds, shifted, deed_of}
use Rattle.session.specs.Control.{dealt}
use Rattle.session.specs.declared.Deed.{Deed}
use Rattle.session.specs.declared.Step.{Step}
use Rattle.session.specs.declared.Subscription.{Subscription}
use Rattle.lane.specs.Kinds.{most, slot_size, slot_formed, control_size, lane_size}
use Rattle.lane.specs.Lane.{control_of, notices_in, slots_formed, lane_by, Lane, Storing, Stored, any, Shifting, Shifts, Deals}
use Rattle.lane.proofs.Slots.{fewer_formed}
use Rattle.lane.proofs.Controls.{storable, held_formed}
use Rattle.lane.proofs.Deeds.{Goes, goes, after, feasible, shifted_few, any_sent}

pub held_length : (read : List ℕ → Notice) (kind held : ℕ) (l : List ℕ) → length (notices_in read kind held l) ≡ held
unfolding notices_in
held_length read kind held l = length_cells read (slot_size kind) held (drop control_size l)

pub prefix : (read : List ℕ → Notice) (kind i held : ℕ) (l : List ℕ) → i ≤ held
    → take i (notices_in read kind held l) ≡ notices_in read kind i l
unfolding notices_in
prefix read kind i held l h = cells_prefix read (slot_size kind) i held (drop control_size l) h

pub same_slots : (read : List ℕ → Notice) (kind i : ℕ) (l l' : List ℕ) → drop control_size l' ≡ drop control_size l
    → notices_in read kind i l' ≡ notices_in read kind i l
unfolding notices_in
same_slots read kind i l l' e = ap (cells read (slot_size kind) i) e

-- ==== the first is gone

-- a kind has a slot for it
pub first_fits : (kind : ℕ) → 0 < most kind → control_size + slot_size kind ≤ lane_size kind
first_fits kind h =
    let m : 1 * slot_size kind ≤ most kind * slot_size kind = mul-le-mul_right (slot_size kind) h in
    let e = suc-mul 0 (slot_size kind) in
    omega arith

-- so many bytes of what stands behind a first slot of that size; and the lane with them from its first slot on
abbrev behind : ℕ → ℕ → List ℕ → List ℕ
behind size others l = take others (drop (control_size + size) l)

abbrev down : ℕ → ℕ → List ℕ → List ℕ
down size others l = sets l control_size (behind size others l)

-- what is read of each slot, into whatever
module _ {A : Type 0} (read : List ℕ → A) (kind : ℕ) where
  abbrev slots : ℕ → List ℕ → List A
  slots held l = cells read (slot_size kind) held (drop control_size l)

  popped_slots : (n : ℕ) (l : List ℕ) → length l ≡ lane_size kind → suc n ≤ most kind
      → read (take (slot_size kind) (drop control_size l)) ∷ slots n (down (slot_size kind) (n * slot_size kind) l) ≡ slots (suc n) l
  popped_slots n l e h =
      let size = slot_size kind in
      let others = n * size in
      let m = mul-le-mul_right size h in
      let s = suc-mul n size in
      let d = length-drop control_size l in
      let moved : drop control_size (down size others l) ≡ sets (drop control_size l) 0 (take others (drop size (drop control_size l))) =
      drop_sets (behind size others l) l control_size 0
      ∙ ap (λ (z : List ℕ). sets (drop control_size l) 0 (take others z)) (sym (drop-drop size control_size l)) in
      rw moved (cells_pop read size (drop control_size l) n others (omega arith) (omega arith))

popped : (read : List ℕ → Notice) (kind held : ℕ) (l : List ℕ) → length l ≡ lane_size kind → held ≤ most kind → 0 < held
    → notices_in read kind (held - 1) (down (slot_size kind) ((held - 1) * slot_size kind) l)
    ≡ shifted true (notices_in read kind held l)
unfolding notices_in
popped read kind zero l e h p = absurd (omega arith)
popped read kind (suc n) l e h p = rw sub-one (ap (shifted true) (popped_slots read kind n l e h))

popped_formed : (kind held : ℕ) (l : List ℕ) → length l ≡ lane_size kind → held ≤ most kind → 0 < held → slots_formed kind held l ≡ true
    → slots_formed kind (held - 1) (down (slot_size kind) ((held - 1) * slot_size kind) l) ≡ true
unfolding slots_formed
popped_formed kind zero l e h p f = absurd (omega arith)
popped_formed kind (suc n) l e h p f =
    rw sub-one ((and-eq-true_iff (slot_formed kind (take (slot_size kind) (drop control_size l))) _).0
    (ap (all (λ (formed : Bool). formed)) (popped_slots (slot_formed kind) kind n l e h) ∙ f)).1

-- those that wait stand behind the first
waiting_fit : (kind held : ℕ) → held ≤ most kind → 0 < held
    → control_size + slot_size kind + (held - 1) * slot_size kind ≤ lane_size kind
waiting_fit kind zero h p = absurd (omega arith)
waiting_fit kind (suc n) h p =
    let m = mul-le-mul_right (slot_size kind) h in
    let s = suc-mul n (slot_size kind) in
    rw sub-one (omega arith)

-- a copy of them, from there to where the first was
moved_down : (size others : ℕ) (l : List ℕ) → control_size + size + others ≤ length l
    → copy_within l (control_size + size) (control_size + size + others) control_size ≡ down size others l
moved_down size others l h =
    let from = drop (control_size + size) l in
    let d = length-drop (control_size + size) l in
    let n : length (behind size others l) ≡ others = length-take-le others from (omega arith) in
    ap (paste l control_size from) (add-sub_cancel_left (control_size + size) others)
    ∙ ap (λ (m : ℕ). take control_size l ++ behind size others l ++ drop (control_size + m) l) (sym n)
    ∙ sym (sets-eq (behind size others l) l control_size (omega arith))

module _ (kind held : ℕ) (l : List ℕ) (s : Shifting kind held l) (size : ℕ) (z : size ≡ slot_size kind) where
  pub waiting : control_size + size + (held - 1) * size ≤ length l
  waiting = rw (z, s.size) (waiting_fit kind held s.few s.one)

  pub is_shifted : {l' : List ℕ} → l' ≡ copy_within l (control_size + size) (control_size + size + (held - 1) * size) control_size
      → Shifts kind held true l l'
  is_shifted e =
      let one = s.one in
      rw (e ∙ moved_down size ((held - 1) * size) l waiting, z)
      record {
        size = length-sets l control_size (behind (slot_size kind) ((held - 1) * slot_size kind) l) ∙ s.size;
        notices = λ read. popped read kind held l s.size s.few one;
        formed = popped_formed kind held l s.size s.few one;
      }

-- it is not gone
pub not_shifted : (kind held : ℕ) (l : List ℕ) → length l ≡ lane_size kind → Shifts kind held false l l
not_shifted kind held l s = record { size = s; notices = λ read. refl; formed = λ f. f }

-- ==== the whole deed

-- what a lane holds has its slots
pub holds : (read : List ℕ → Notice) (kind : ℕ) (l : List ℕ) → Lane kind l
    → Holds (room_of kind) (control_of l) (notices_in read kind (control_of l).held l)
holds read kind l h =
    let s = storable kind l h in
    let n = held_length read kind (control_of l).held l in
    record { held = sym n; clock = omega arith; fits = omega arith }

-- of what stands in a lane, and the step that a deed is to it
module _ (kind : ℕ) (l : List ℕ) (d : Deed) (x : Subscription) (r : Step) (lane : Lane kind l) (ex : x ≡ control_of l)
    (er : r ≡ dealt x d) where
  pub shifting : r.shift ≡ true → Shifting kind x.held l
  shifting e = record {
    size = lane.size;
    few = rw ex (storable kind l lane).held;
    one = (feasible x d).gone (rw er at e);
  }

  did : (read : List ℕ → Notice)
      → (let ns = notices_in read kind x.held l in Goes (act (room_of kind) (deed_of d) (subscription_in x ns)) ns r)
  did read =
      let ns = notices_in read kind x.held l in
      let h : Holds (room_of kind) x ns = rw ex (holds read kind l lane) in
      subst (Goes (act (room_of kind) (deed_of d) (subscription_in x ns)) ns) (sym er) (goes {room = room_of kind} x ns h d)

  -- of the slots that did not go, as many as are held then are well formed
  module _ {l₁ : List ℕ} (s : Shifts kind x.held r.shift l l₁) where
    abbrev left : ℕ
    left = cond r.shift (x.held - 1) x.held

    few : (read : List ℕ → Notice) → r.next.held ≤ left
    few read =
        let f = (did read).few in
        let n = ap length (s.notices read) in
        let m = held_length read kind left l₁ in
        omega arith

    pub storing : Storing kind r.next l₁
    storing =
        let read = notice_in kind in
        let c = (did read).clock in
        let f = (did read).few in
        let g = shifted_few r.shift (notices_in read kind x.held l) in
        let n = held_length read kind x.held l in
        let h : x.held ≤ most kind = rw ex (storable kind l lane).held in
        record {
          size = s.size;
          control = record { clock = omega arith; held = omega arith };
          formed = fewer_formed kind l₁ r.next.held left (few read) (s.formed (rw ex (held_formed kind l lane)));
        }

    pub deals : {l' : List ℕ} → Stored kind r.next l₁ l' → (read : List ℕ → Notice) → Deals read kind (deed_of d) l r.send l'
    unfolding lane_by
    deals {l'} w read =
        let ns = notices_in read kind x.held l in
        let f = (did read).few in
        let now_held : notices_in read kind r.next.held l' ≡ after r ns =
        same_slots read kind r.next.held l₁ l' w.slots ∙ sym (prefix read kind r.next.held left l₁ (few read))
        ∙ ap (take r.next.held) (s.notices read) in
        record {
          lane = w.lane;
          becomes = rw (w.control, now_held, ← ex) (sym (ap (λ (p : model.Subscription × List Notice). p.0) (did read).acts));
          sends =
              rw (← ex)
              (any_sent r.send (after r ns)
              (λ p. rw (length-take-le r.next.held (shifted r.shift ns) f) ((rw (← er) at (feasible x d)).one p))
              ∙ ap (λ (p : model.Subscription × List Notice). any p.1) (sym (did read).acts));
        }
