-- An event that was taken in a lane is the model's.
use mathlib.Core.Path.{◌≡◌, refl, sym, ap, ap₂, ◌∙◌, subst}
use Prim.Native.Nat.{ℕ, ◌+◌, ◌-◌, ◌*◌, ◌≤◌, ◌<◌, zero-le}
use native.Mathlib.Nat.{mul-le-mul_right, suc-mul}
use native.Mathlib.Numerals.{add-one}
use native.Mathlib.Omega.{arith}
use mathlib.Core.Bool.{true, false, true≢false}
use mathlib.Core.List.{List, [], ◌∷◌, ◌++◌}
use lib.Dec.{eqb, leb}
use lib.ListN.{length, take, drop, length-append, length-drop}
use lib.Seq.{sets, length-sets}
use borrow.Rule.Slice.PartMut.{put_mid}
use borrow.Author.Tests.{eqb-true, eqb-false, leb-false}
use Rattle.model.specs.Events.{Notice}
use Rattle.model.specs.Kinds.{Room, the_newest, up_to, kinds, tightenings, room_of}
use Rattle.model.specs.Notices.{act, news, takes}
use Rattle.model.specs.Notices as model
use Rattle.text.specs.Cells.{cells}
use Rattle.text.proofs.Lists.{drop_sets, take_sets, sets_mid}
use Rattle.text.proofs.Cells.{cells_push}
use Rattle.frame.specs.Places.{notice_in}
use Rattle.session.specs.Meaning.{subscription_in, Took, put, kept, told, place_of}
use Rattle.session.specs.Control.{taken, taken_busy, take_from, takes as takes_as}
use Rattle.session.proofs.Tests.{chosen}
use Rattle.session.proofs.Notices.{take_right}
use Rattle.session.specs.declared.Form.{Form}
use Rattle.session.specs.declared.Form.TheVariants.{Not, Plain, Acknowledged}
use Rattle.session.specs.declared.Take.{Take}
use Rattle.session.specs.declared.Take.TheVariants as take
use Rattle.session.specs.declared.Taken.{Taken}
use Rattle.session.specs.declared.Subscription.{Subscription}
use Rattle.lane.specs.Kinds.{most, slot_size, slot_formed, control_size}
use Rattle.lane.specs.Lane.{control_of, notices_in, lane_by, Storable, Stored, any, is_told, is_held, Pushing, Pushes}
use Rattle.lane.specs.Lane.{Lane, slots_formed, places_in, Storing, Takes, Taking, TakesSo}
use Rattle.lane.proofs.KindLaws.{kind_fits}
use Rattle.lane.proofs.Slots.{fewer_formed, pushed_formed}
use Rattle.lane.proofs.Controls.{held_formed}
use Rattle.lane.proofs.Lanes.{held_length, prefix, holds}

-- ==== what is held of a notice goes to a slot

module _ (kind i : ℕ) (p : List ℕ) (x : Subscription) (l : List ℕ) (k : Pushing kind i p x l) (size : ℕ) (z : size ≡ slot_size kind) where
  abbrev at : ℕ
  at = control_size + i * size

  pub slot_fits : at + size ≤ length l
  slot_fits =
      rw (z, k.size) (let m = mul-le-mul_right (slot_size kind) k.few in let q = suc-mul i (slot_size kind) in omega arith)

  -- the lane with the slot written
  module _ (ys : List ℕ) (e : ys ≡ p) where
    abbrev written : List ℕ
    written = put_mid at (at + length p - at) l ys

    written_so : written ≡ sets l at p
    written_so =
        let f = slot_fits in
        let s = k.slot in
        ap (put_mid at (at + length p - at) l) e ∙ sym (sets_mid l p at (at + length p - at) (omega arith) (omega arith))

    pub push_storing : Storing kind x written
    unfolding slots_formed
    push_storing =
        let f = rw z at slot_fits in
        let d = length-drop control_size l in
        rw written_so
        record {
          size = length-sets l at p ∙ k.size;
          control = k.control;
          formed = rw (k.last, z, drop_sets p l control_size (i * slot_size kind))
              (pushed_formed kind l i p k.slot (omega arith) k.formed);
        }

    pub pushes : {l' : List ℕ} → Stored kind x written l' → Pushes kind i p x l l'
    unfolding notices_in
    pushes {l'} w =
        let f = rw z at slot_fits in
        let d = length-drop control_size l in
        let slots : drop control_size l' ≡ sets (drop control_size l) (i * slot_size kind) p =
        w.slots ∙ ap (drop control_size) written_so ∙ rw z (drop_sets p l control_size (i * slot_size kind)) in
        record {
          control = w.control;
          lane = w.lane;
          notices = λ read.
              ap (cells read (slot_size kind) (i + 1)) slots
              ∙ rw (add-one) (cells_push read (slot_size kind) (drop control_size l) i p k.slot (omega arith));
          slots = slots;
        }

-- the slot is one of those held, or the one behind them, and is the last; and what is not held leaves the subscription as it was
record Fair (x : Subscription) (t : Taken) : Type 0 where
  there : place_of t.take ≤ x.held
  last : is_held t.take ≡ true → t.next.held ≡ place_of t.take + 1
  same : is_held t.take ≡ false → x ≡ t.next

unheld_fair : (x : Subscription) (t : Take) → is_held t ≡ false → place_of t ≡ 0 → Fair x (takes_as t x)
unheld_fair x t e z = record { there = rw z zero-le; last = λ q. absurd (true≢false (sym q ∙ e)); same = λ q. refl }

fair_busy : (r : Room) (x : Subscription) → 0 < x.held → Fair x (taken_busy r x)
fair_busy the_newest x h = record { there = h; last = λ e. refl; same = λ e. absurd (true≢false e) }
fair_busy (up_to m) x h =
    chosen (Fair x) (leb m x.held) (λ e. unheld_fair x take.Not refl refl)
    (λ e. record { there = omega arith; last = λ q. refl; same = λ q. absurd (true≢false q) })

fair : (r : Room) (x : Subscription) → Fair x (taken r x)
unfolding taken
fair r x = by_form x.form
  where
    by_form : (f : Form) → Fair x (take_from f x (taken_busy r x))
    by_form Not = unheld_fair x take.Not refl refl
    by_form Plain = unheld_fair x take.Once refl refl
    by_form Acknowledged =
        chosen (Fair x) (eqb x.held 0) (λ e. record { there = zero-le; last = λ q. refl; same = λ q. absurd (true≢false q) })
        (λ e. fair_busy r x (omega (arith, eqb-false x.held 0 e)))

-- where so many are held at most and one more is, fewer were
pub fewer_held : (m : ℕ) (x : Subscription) → 0 < m → is_held (taken (up_to m) x).take ≡ true → x.held < m
unfolding taken
fewer_held m x some h = by_form x.form h
  where
    Few : Taken → Type 0
    Few t = is_held t.take ≡ true → x.held < m

    by_form : (f : Form) → Few (take_from f x (taken_busy (up_to m) x))
    by_form Not = λ h. absurd (true≢false (sym h))
    by_form Plain = λ h. absurd (true≢false (sym h))
    by_form Acknowledged =
        chosen Few (eqb x.held 0) (λ e h. let z = eqb-true x.held 0 e in omega arith)
        (λ e. chosen Few (leb m x.held) (λ f h. absurd (true≢false (sym h))) (λ f h. let g = leb-false m x.held f in omega arith))

-- it goes behind those that are held
pub behind_held : (m : ℕ) (x : Subscription) → is_held (taken (up_to m) x).take ≡ true → place_of (taken (up_to m) x).take ≡ x.held
unfolding taken
behind_held m x h = by_form x.form h
  where
    Behind : Taken → Type 0
    Behind t = is_held t.take ≡ true → place_of t.take ≡ x.held

    by_form : (f : Form) → Behind (take_from f x (taken_busy (up_to m) x))
    by_form Not = λ h. absurd (true≢false (sym h))
    by_form Plain = λ h. absurd (true≢false (sym h))
    by_form Acknowledged =
        chosen Behind (eqb x.held 0) (λ e h. sym (eqb-true x.held 0 e))
        (λ e. chosen Behind (leb m x.held) (λ f h. absurd (true≢false (sym h))) (λ f h. refl))

-- ==== the whole event

unheld_kept : (t : Take) (n : Notice) (ns : List Notice) → is_held t ≡ false → kept t n ns ≡ ns
unheld_kept take.Not n ns e = refl
unheld_kept take.Once n ns e = refl
unheld_kept take.Opens n ns e = absurd (true≢false e)
unheld_kept (take.Waits i) n ns e = absurd (true≢false e)

held_kept : (t : Take) (n : Notice) (ns : List Notice) → is_held t ≡ true → kept t n ns ≡ put (place_of t) n ns
held_kept take.Not n ns e = absurd (true≢false (sym e))
held_kept take.Once n ns e = absurd (true≢false (sym e))
held_kept take.Opens n ns e = refl
held_kept (take.Waits i) n ns e = refl

any_told : (t : Take) (n : Notice) → is_told t ≡ any (told t n)
any_told take.Not n = refl
any_told take.Once n = refl
any_told take.Opens n = refl
any_told (take.Waits i) n = refl

-- by what stands in the lane
module _ (read : List ℕ → Notice) (kind : ℕ) (l : List ℕ) (known : kind < length kinds) (lane : Lane kind l) where
  abbrev x : Subscription
  x = control_of l

  abbrev ns : List Notice
  ns = notices_in read kind x.held l

  abbrev t : Taken
  t = taken (room_of kind) x

  took : (n : Notice)
      → Took (room_of kind) (act (room_of kind) (news n) (subscription_in x ns)) (takes (room_of kind) (subscription_in x ns)) n ns t
  took n = take_right n (room_of kind) (kind_fits kind known).some x ns (holds read kind l lane)

  takes_storable : (n : Notice) → Storable kind t.next
  takes_storable n =
      let c = (took n).holds.clock in
      let h = (took n).holds.held in
      let f = (took n).holds.fits in
      record { clock = omega arith; held = omega arith }

  takes_slot : (p : List ℕ) → length p ≡ slot_size kind → slot_formed kind p ≡ true → is_held t.take ≡ true
      → Pushing kind (place_of t.take) p t.next l
  takes_slot p size formed held = record {
    size = lane.size;
    few = (took (read p)).place;
    slot = size;
    formed = rw (fewer_formed kind l _ _ (fair (room_of kind) x).there (held_formed kind l lane), formed);
    control = takes_storable (read p);
    last = (fair (room_of kind) x).last held;
  }

  -- of the notice n
  takes_as_told : (n : Notice) (l' : List ℕ) → Lane kind l' → control_of l' ≡ t.next
      → (let ms = kept t.take n ns in notices_in read kind (length ms) l' ≡ ms) → Takes read kind n l t.take l'
  unfolding lane_by
  takes_as_told n l' lane' control notices =
      let now_held : notices_in read kind t.next.held l' ≡ kept t.take n ns =
      ap (λ (i : ℕ). notices_in read kind i l') (took n).holds.held ∙ notices in
      record {
        deals = record {
          lane = lane';
          becomes = rw (control, now_held) (sym (ap (λ (z : model.Subscription × List Notice). z.0) (took n).acts));
          sends = any_told t.take n ∙ ap (λ (z : model.Subscription × List Notice). any z.1) (sym (took n).acts);
        };
        takes = sym (took n).takes;
      }

  -- it is held
  takes_pushed : (p l' : List ℕ) → is_held t.take ≡ true → Pushes kind (place_of t.take) p t.next l l'
      → Takes read kind (read p) l t.take l'
  takes_pushed p l' held q =
      let i = place_of t.take in
      let pre = prefix read kind i x.held l (fair (room_of kind) x).there in
      let n : length (notices_in read kind i l ++ (read p ∷ [])) ≡ i + 1 =
      length-append (notices_in read kind i l) (read p ∷ []) ∙ ap (λ (m : ℕ). m + 1) (held_length read kind i l) in
      takes_as_told (read p) l' q.lane q.control (rw (held_kept t.take (read p) ns held, pre, n) (q.notices read))

  -- it is not held: the lane is as it was, whatever the notice
  pub takes_unheld : (n : Notice) → is_held t.take ≡ false → Takes read kind n l t.take l
  takes_unheld n e =
      takes_as_told n l lane ((fair (room_of kind) x).same e) (rw (unheld_kept t.take n ns e, held_length read kind x.held l))

-- the places that are then held
takes_adds : (l p l' : List ℕ) → Lane tightenings l → length p ≡ slot_size tightenings
    → let t = taken (room_of tightenings) (control_of l) in
    Pushes tightenings (place_of t.take) p t.next l l' → is_held t.take ≡ true → places_in l' ≡ places_in l ++ p
unfolding places_in
takes_adds l p l' lane one q h =
    let x = control_of l in
    let d = drop control_size l in
    let last = (fair (room_of tightenings) x).last h in
    let there = behind_held (most tightenings) x h in
    let few = fewer_held (most tightenings) x (omega arith) h in
    let size = lane.size in
    let long = length-drop control_size l in
    let n : (control_of l').held ≡ x.held + length p = ap (λ (y : Subscription). y.held) q.control ∙ omega arith in
    let at : place_of (taken (room_of tightenings) x).take * slot_size tightenings ≡ x.held = omega arith in
    ap₂ (λ (m : ℕ) (z : List ℕ). take m z) n (q.slots ∙ ap (λ (m : ℕ). sets d m p) at) ∙ take_sets p d x.held (omega arith)

-- of whatever stands for what is taken
module _ {kind : ℕ} {t : Taken} {p l : List ℕ} (known : kind < length kinds) (k : Taking kind t p l) where
  pub unheld_takes : is_held t.take ≡ false → TakesSo kind t.take p l l
  unheld_takes e =
      rw k.taken
      record {
        means = λ read. takes_unheld read kind l known k.lane (read p) (rw k.taken at e);
        adds = λ z h. absurd (true≢false (sym h ∙ rw k.taken at e));
      }

  pub held_pushing : is_held t.take ≡ true → Pushing kind (place_of t.take) p t.next l
  held_pushing e = rw k.taken (takes_slot (notice_in kind) kind l known k.lane p k.slot k.formed (rw k.taken at e))

  pub held_takes : {l' : List ℕ} → is_held t.take ≡ true → Pushes kind (place_of t.take) p t.next l l' → TakesSo kind t.take p l l'
  held_takes {l'} e q =
      let h = rw k.taken at e in
      let v = rw k.taken at q in
      rw k.taken
      record {
        means = λ read. takes_pushed read kind l known k.lane p l' h v;
        adds = λ z _.
            let Adds : ℕ → Type 0 = λ n.
            let t = taken (room_of n) (control_of l) in
            Lane n l → length p ≡ slot_size n → Pushes n (place_of t.take) p t.next l l' → is_held t.take ≡ true
            → places_in l' ≡ places_in l ++ p in
            subst Adds (sym z) (takes_adds l p l') k.lane k.slot v h;
      }
