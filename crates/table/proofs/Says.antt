-- What is written of a table is what its sessions say.
use mathlib.Core.Path.{refl, subst, ◌≡◌, sym, ap, ◌∙◌}
use Prim.Native.Nat.{ℕ, suc, ◌+◌, ◌≤◌, ◌<◌}
use native.Mathlib.Numerals.{add-one}
use native.Mathlib.Omega.{arith}
use mathlib.Core.Bool.{Bool, true, false, cond, true≢false}
use mathlib.Core.List.{List, [], ◌∷◌, ◌++◌, map, append-nil}
use lib.ListN.{length, get_or, drop, length-drop, drop_of_length-le}
use lib.Dec.{eqb}
use lib.Seq.{length-take-le}
use borrow.Author.Tests.{ltb-true, eqb-true}
use Rattle.model.specs.Records.{Settings}
use Rattle.model.specs.Named.{place_of}
use Rattle.model.specs.declared.Kind.{Kind}
use Rattle.model.specs.declared.Kind.TheVariants.{Identifiers, Tightenings, Alarms}
use Rattle.model.specs.contracts.Kind.{the_type}
use denote.Enum.Bare.{sameb}
use Rattle.model.specs.Kinds as rows
use Rattle.model.specs.Kinds.{kinds, tightenings, kind_at, copy_most, copies_most}
use Rattle.model.specs.Frames.{event_frame, frame_record}
use Rattle.model.specs.Notices.{Subscription, unsubscribed, is_subscribed}
use Rattle.model.specs.Session.{Copy, copy}
use Rattle.model.specs.Row.{tag}
use Rattle.text.proofs.Lists.{drop_next}
use Rattle.text.proofs.Puts.{put_nothing, Left, left_all, left_put, left_none, left_as}
use Rattle.frame.specs.Places.{place_size, event_in, notice_in}
use Rattle.session.specs.Effects.{out_bytes}
use Rattle.session.proofs.Replies.{out_append}
use Rattle.places.specs.Places.{place_count, is_place, place_in}
use Rattle.places.proofs.Areas.{place_long}
use Rattle.lane.specs.Kinds.{is_placed, slot_size, control_size, lane_size}
use Rattle.lane.specs.Lane.{Reading, is_plain, control_of, first_in, Lane}
use Rattle.lane.proofs.Controls.{storable, held_formed}
use Rattle.lane.proofs.Slots.{places_there, first_place}
use Rattle.lane.proofs.KindLaws.{kind_fits}
use Rattle.lane.proofs.Lanes.{first_fits}
use Rattle.lane.proofs.Sayings.{tell_said, open_there, held_open, open_first}
use Rattle.region.specs.Region.{lane_in, subscriptions_in, subscription_in}
use Rattle.region.specs.Said.{copies_out, due_copy, due_copies, Ready}
use Rattle.region.proofs.Areas.{lane_length, lane_good, length_subscriptions, subscription_at, there}
use Rattle.frame.specs.declared.To.{To}
use Rattle.table.specs.Table.{places_area, region_in, kept_in, reading_in, settings_in}
use Rattle.table.specs.Says.{Wrote, CopyLent, Opened, OpenLent, DueLent, subscription_to, subscriptions_to, asked_in}
use Rattle.table.proofs.Regions.{length_in, length_places, region_good}

-- ==== whether it is a tightening, as the code asks

pub placed : (kind : Kind) → true ≡ sameb the_type kind Tightenings → kind ≡ Tightenings
placed Identifiers e = absurd (true≢false e)
placed Tightenings e = refl
placed Alarms e = absurd (true≢false e)

pub unplaced : (kind : Kind) → false ≡ sameb the_type kind Tightenings → is_placed (place_of kind) ≡ false
unplaced Identifiers e = refl
unplaced Tightenings e = absurd (true≢false (sym e))
unplaced Alarms e = refl

-- ==== a copy

-- of the notice of the bytes p, to one that is subscribed
pub copy_said : (read : Reading) (st : Settings) (s kind : ℕ) (r p : List ℕ) → is_subscribed (subscription_in read kind r) ≡ true
    → frame_record s (event_frame st (control_of (lane_in kind r)).revision (is_plain (control_of (lane_in kind r)).form) (event_in kind p))
    ≡ out_bytes s (copies_out st kind (subscription_in read kind r) (notice_in kind p ∷ []))
copy_said read st s kind r p h =
    sym (append-nil _)
    ∙ ap (λ (cs : List Copy). out_bytes s (map copy (tag kind cs)))
    (sym (tell_said (read kind) kind (lane_in kind r) st (notice_in kind p) h))

-- and as a session asked for notices of a kind
pub asked_said : (read : Reading) (st : Settings) (s : ℕ) (kind : Kind) (r p : List ℕ)
    → is_subscribed (subscription_in read (place_of kind) r) ≡ true
    → frame_record s (event_frame st (asked_in kind r).revision (asked_in kind r).no_acknowledge (event_in (place_of kind) p))
    ≡ out_bytes s (copies_out st (place_of kind) (subscription_in read (place_of kind) r) (notice_in (place_of kind) p ∷ []))
asked_said read st s kind r p h = copy_said read st s (place_of kind) r p h

-- of the open notice, which the first slot means
module _ {t : List ℕ} {s kind : ℕ} (known : kind < length kinds) (o : Opened t s kind) where
  abbrev l : List ℕ
  l = lane_in kind (region_in s t)

  abbrev slot : List ℕ
  slot = first_in kind l

  long : length l ≡ lane_size kind
  long = lane_length (region_in s t) kind known (length_in t s o.table.size o.session)

  pub slot_long : length slot ≡ slot_size kind
  slot_long =
      let fits = first_fits kind (kind_fits kind known).some in
      let size = long in
      length-take-le (slot_size kind) (drop control_size l) (rw length-drop (omega arith))

  some_held : 0 < (control_of l).held
  some_held = held_open (reading_in t kind) kind l o.one

  -- a place that it is is one of those that there are
  pub slot_place : kind ≡ tightenings → get_or slot 0 0 < place_count
  slot_place e =
      let lane : Lane kind l = lane_good (region_in s t) kind known (region_good t s o.table o.session) in
      let placed : Lane tightenings l = subst (λ (n : ℕ). Lane n l) e lane in
      ltb-true _ _ (subst (λ (n : ℕ). is_place (get_or (first_in n l) 0 0) ≡ true) (sym e)
      (first_place l placed.size
      (places_there l placed.size (storable tightenings l placed).held (held_formed tightenings l placed)) some_held))

  pub kept_long : length (kept_in (places_area t) kind slot) ≡ place_size kind
  kept_long = go (eqb kind tightenings) refl
    where
      go : (b : Bool) → eqb kind tightenings ≡ b → length (kept_in (places_area t) kind slot) ≡ place_size kind
      go true e =
          let q = eqb-true kind tightenings e in
          ap (λ (b : Bool). length (cond b (place_in (get_or slot 0 0) (places_area t)) slot)) e
          ∙ place_long (get_or slot 0 0) (places_area t) (length_places t o.table.size) (slot_place q) ∙ ap place_size (sym q)
      go false e =
          ap (λ (b : Bool). length (cond b (place_in (get_or slot 0 0) (places_area t)) slot)) e ∙ slot_long
          ∙ ap (λ (b : Bool). cond b 1 (place_size kind)) e

module _ {t o : List ℕ} {to : To} {kind : ℕ} (known : kind < length kinds) (p : OpenLent t o to kind) where
  pub is_open : Opened t to.session kind
  is_open = record { table = p.lent.table; session = p.lent.session; one = p.one }

  module _ {f : List ℕ} (ef : f ≡ kept_in (places_area t) kind (first_in kind (lane_in kind (region_in to.session t)))) where
    abbrev lane : List ℕ
    lane = lane_in kind (region_in to.session t)

    pub first_lent : CopyLent t o to kind f
    first_lent = record {
      lent = p.lent;
      place = ap length ef ∙ kept_long known is_open;
      subscribed = ap is_subscribed (open_there (reading_in t kind) kind lane p.one);
    }

    pub first_said : {next : ℕ} {o' : List ℕ}
        → Wrote (copy_most (kind_at kind))
        (copies_out (settings_in t) kind (subscription_to to kind t) (notice_in kind f ∷ [])) to o next o'
        → Wrote (copy_most (kind_at kind)) (due_copy (settings_in t) kind true (subscription_to to kind t)) to o next o'
    first_said v = record {
      within = v.within;
      bytes = rw (open_first (reading_in t kind) kind lane p.one, ← ef) v.bytes;
    }

-- ==== a copy of each kind that is due

abbrev none : rows.Kind
none = kind_at (length kinds)

-- the copies of those from a kind on, as bytes
abbrev from_kind : List ℕ → To → ℕ → List Bool → List Subscription → List ℕ
from_kind t to kind due xs = out_bytes to.session (due_copies (settings_in t) kind due xs)

module _ (t o₀ : List ℕ) (to : To) (due : List Bool) where
  abbrev all_bytes : List ℕ
  all_bytes = from_kind t to 0 due (subscriptions_to to t)

  -- what is left to say, over what was said, is all of it; and the room for the kinds that are left
  pub record Saying (o : List ℕ) (at kind : ℕ) : Type 0 where
    pub within : kind ≤ length kinds
    pub room : at + copies_most (drop kind kinds) ≤ to.at + copies_most kinds
    pub bytes : Left o₀ to.at all_bytes o at (from_kind t to kind (drop kind due) (drop kind (subscriptions_to to t)))

  pub saying_none : Saying o₀ to.at 0
  saying_none = record { within = omega arith; room = omega arith; bytes = left_all o₀ to.at _ }

module _ {t o₀ : List ℕ} {to : To} {due : List Bool} (p : DueLent t o₀ to due) {o : List ℕ} {at kind : ℕ}
    (w : Saying t o₀ to due o at kind) where
  abbrev behind : To
  behind = record { session = to.session; at = at }

  abbrev r : List ℕ
  r = region_in to.session t

  module _ (few : kind < length kinds) where
    room_for : copies_most (drop kind kinds) ≡ copy_most (kind_at kind) + copies_most (drop (kind + 1) kinds)
    room_for = ap copies_most (drop_next kinds kind none few)

    due_there : kind < length due
    due_there = rw p.ready.count (there (reading_in t) r kind few)

    -- there is room for one of this kind, and one where it is due
    pub open_lent : get_or due kind false ≡ true → OpenLent t o behind kind
    open_lent e =
        let room = p.lent.room in
        let ready : Ready (get_or due kind false) (subscription_in (reading_in t) kind r) =
        subst (Ready (get_or due kind false)) (subscription_at (reading_in t) r kind few)
        (p.ready.ready kind (there (reading_in t) r kind few)) in
        record { lent = record { table = p.lent.table; session = p.lent.session; room = omega (arith, room_for) }; one = ready e }

    one_more : from_kind t to kind (drop kind due) (drop kind (subscriptions_to to t))
        ≡ out_bytes to.session (due_copy (settings_in t) kind (get_or due kind false) (subscription_to to kind t))
        ++ from_kind t to (kind + 1) (drop (kind + 1) due) (drop (kind + 1) (subscriptions_to to t))
    one_more =
        let st = settings_in t in
        let xs = subscriptions_in (reading_in t) r in
        rw (
          drop_next due kind false due_there,
          drop_next xs kind unsubscribed (there (reading_in t) r kind few),
          subscription_at (reading_in t) r kind few,
          add-one kind,
        )
        (out_append to.session (due_copy st kind (get_or due kind false) (subscription_to to kind t))
        (due_copies st (suc kind) (drop (suc kind) due) (drop (suc kind) xs)))

    pub saying_next : {o' : List ℕ} {next : ℕ}
        → Wrote (copy_most (kind_at kind)) (due_copy (settings_in t) kind (get_or due kind false) (subscription_to to kind t))
        behind o next o'
        → Saying t o₀ to due o' next (kind + 1)
    saying_next v =
        let within = v.within in
        record { within = omega arith; room = omega (arith, room_for); bytes = left_put (left_as one_more w.bytes) v.bytes }

    pub saying_due : {o' : List ℕ} {next : ℕ} → get_or due kind false ≡ true
        → Wrote (copy_most (kind_at kind)) (due_copy (settings_in t) kind true (subscription_to to kind t)) behind o next o'
        → Saying t o₀ to due o' next (kind + 1)
    saying_due e v = saying_next (record { within = v.within; bytes = rw e v.bytes })

    pub saying_none_due : get_or due kind false ≡ false → Saying t o₀ to due o at (kind + 1)
    saying_none_due e = saying_next (record { within = omega arith; bytes = rw e (put_nothing o at) })

  pub all_said : length kinds ≤ kind → Wrote (copies_most kinds) (due_copies (settings_in t) 0 due (subscriptions_to to t)) to o₀ at o
  all_said h =
      let many = length_subscriptions (reading_in t) r in
      record {
        within = omega arith;
        bytes = left_none (left_as (ap (λ (d : List Bool). from_kind t to kind d (drop kind (subscriptions_to to t)))
            (drop_of_length-le due {i = kind} (omega arith))) w.bytes);
      }
