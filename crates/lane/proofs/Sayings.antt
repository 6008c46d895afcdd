-- What is said of a lane: where a notice is open, it is the one in the first slot; a copy of it, and a copy of an event, has the revision
-- and the byte 12 that the control tells. What is sent is such a copy, and of the lane as it is afterwards.
use mathlib.Core.Path.{◌≡◌, refl, sym, ap}
use Prim.Native.Nat.{ℕ, zero, suc, ◌%◌, ◌<◌}
use native.Mathlib.Omega.{arith}
use mathlib.Core.Bool.{Bool, true, cond, true≢false}
use mathlib.Core.List.{List, [], ◌∷◌}
use lib.Dec.{eqb}
use lib.ListN.{drop}
use Rattle.model.specs.Limits.{copy_every, given_up_at}
use Rattle.model.specs.Records.{Settings}
use Rattle.model.specs.Events.{Notice}
use Rattle.model.specs.Frames.{event_frame}
use Rattle.model.specs.Kinds.{Room}
use Rattle.model.specs.Notices.{Subscription, is_subscribed, unsubscribed, plain, acked, empty, busy, Deed, nothing, beats, news}
use Rattle.model.specs.Notices.{asks, drops, acks, act, next_one}
use Rattle.model.specs.Session.{Copy, frame_to, copies_to}
use Rattle.text.specs.Cells.{cells}
use Rattle.session.specs.Meaning.{subscription_as, deed_of}
use Rattle.session.proofs.Tests.{chosen}
use Rattle.session.specs.declared.Form.{Form}
use Rattle.session.specs.declared.Form.TheVariants.{Not, Plain, Acknowledged}
use Rattle.session.specs.declared.Deed as by_value
use Rattle.session.specs.declared.Deed.TheVariants.{Nothing, Beats, Acks, Asks, Drops}
use Rattle.lane.specs.Lane.{is_plain, control_of, first_in, notices_in, lane_by, open_one, any}

-- a copy of a notice, to a session that subscribed as the control of the lane l tells
abbrev pub copy_by : Settings → Bool → List ℕ → Notice → Copy
copy_by st no_acknowledge l n = record { notice = n; frame = event_frame st (control_of l).revision no_acknowledge n.event }

-- ==== a lane as it stands, for every reading of a slot

module _ (read : List ℕ → Notice) (kind : ℕ) (l : List ℕ) where
  abbrev sub : Form → ℕ → Subscription
  sub f held = subscription_as f (control_of l).revision (control_of l).clock (notices_in read kind held l)

  -- the open notice is in the first slot, and the others wait
  pub open_there : any (open_one (lane_by read kind l)) ≡ true
      → lane_by read kind l
      ≡ acked (control_of l).revision
      (busy (read (first_in kind l)) (control_of l).clock (drop 1 (notices_in read kind (control_of l).held l)))
  unfolding lane_by notices_in cells
  open_there e = go (control_of l).form (control_of l).held e
    where
      go : (f : Form) (held : ℕ) → any (open_one (sub f held)) ≡ true
          → sub f held
          ≡ acked (control_of l).revision (busy (read (first_in kind l)) (control_of l).clock (drop 1 (notices_in read kind held l)))
      go Not held e = absurd (true≢false (sym e))
      go Plain held e = absurd (true≢false (sym e))
      go Acknowledged zero e = absurd (true≢false (sym e))
      go Acknowledged (suc n) e = refl

  -- one is held
  pub held_open : any (open_one (lane_by read kind l)) ≡ true → 0 < (control_of l).held
  unfolding lane_by notices_in cells
  held_open e = go (control_of l).form (control_of l).held e
    where
      go : (f : Form) (held : ℕ) → any (open_one (sub f held)) ≡ true → 0 < held
      go Not held e = absurd (true≢false (sym e))
      go Plain held e = absurd (true≢false (sym e))
      go Acknowledged zero e = absurd (true≢false (sym e))
      go Acknowledged (suc n) e = omega arith

  pub open_first : any (open_one (lane_by read kind l)) ≡ true → open_one (lane_by read kind l) ≡ read (first_in kind l) ∷ []
  open_first e = ap open_one (open_there e)

  module _ (st : Settings) where
    -- the frame of any notice to one that is subscribed
    pub frame_said : (n : Notice) → is_subscribed (lane_by read kind l) ≡ true
        → frame_to st (lane_by read kind l) n ≡ event_frame st (control_of l).revision (is_plain (control_of l).form) n.event
    unfolding lane_by
    frame_said n e = go (control_of l).form e
      where
        go : (f : Form) → is_subscribed (sub f (control_of l).held) ≡ true
            → frame_to st (sub f (control_of l).held) n ≡ event_frame st (control_of l).revision (is_plain f) n.event
        go Not e = absurd (true≢false (sym e))
        go Plain e = refl
        go Acknowledged e = refl

    -- a copy of it
    pub tell_said : (n : Notice) → is_subscribed (lane_by read kind l) ≡ true
        → copies_to st (lane_by read kind l) (n ∷ []) ≡ copy_by st (is_plain (control_of l).form) l n ∷ []
    tell_said n e = ap (λ (bs : List ℕ). record { notice = n; frame = bs } ∷ []) (frame_said n e)

-- ==== the model: what a deed sends is a copy of what is the open notice afterwards, save for an event

pub record After (x : Subscription) (r : Subscription × List Notice) : Type 0 where
  pub copies : (st : Settings) → copies_to st x r.1 ≡ cond (any r.1) (copies_to st r.0 (open_one r.0)) []
  pub there : any r.1 ≡ true → any (open_one r.0) ≡ true

silent : (x y : Subscription) → After x (y, [])
silent x y = record { copies = λ st. refl; there = λ e. absurd (true≢false (sym e)) }

next : (revision clock : ℕ) (n : Notice) (waiting : List Notice) → After (acked revision (busy n clock waiting)) (next_one revision waiting)
next revision clock n [] = silent _ _
next revision clock n (m ∷ waiting) = record { copies = λ st. refl; there = λ e. refl }

-- an event is sent itself, also where it is not held
abbrev pub Quiet : Deed → Type 0
Quiet nothing = Unit {0}
Quiet beats = Unit {0}
Quiet (news n) = ⊥
Quiet (asks revision b) = Unit {0}
Quiet drops = Unit {0}
Quiet acks = Unit {0}

pub quiet_of : (d : by_value.Deed) → Quiet (deed_of d)
quiet_of Nothing = tt
quiet_of Beats = tt
quiet_of Acks = tt
quiet_of (Asks revision b) = tt
quiet_of Drops = tt

pub after : (r : Room) (deed : Deed) (x : Subscription) → Quiet deed → After x (act r deed x)
after r nothing x q = silent x x
after r (news n) x q = absurd q
after r drops x q = silent x unsubscribed
after r (asks revision b) unsubscribed q = silent _ _
after r (asks revision b) (plain current) q = silent _ _
after r (asks revision b) (acked current z) q = silent _ _
after r acks unsubscribed q = silent _ _
after r acks (plain revision) q = silent _ _
after r acks (acked revision empty) q = silent _ _
after r acks (acked revision (busy n clock waiting)) q = next revision clock n waiting
after r beats unsubscribed q = silent _ _
after r beats (plain revision) q = silent _ _
after r beats (acked revision empty) q = silent _ _
after r beats (acked revision (busy n clock waiting)) q =
    let So = After (acked revision (busy n clock waiting)) in
    chosen So (eqb (suc clock) given_up_at) (λ e. next revision clock n waiting) (λ e.
    chosen (λ ns. So (acked revision (busy n (suc clock) waiting), ns)) (eqb (suc clock % copy_every) 0)
    (λ f. record { copies = λ st. refl; there = λ p. refl }) (λ f. silent _ _))

-- an event, where it is sent, goes to one that is subscribed so afterwards
pub record Told (x : Subscription) (n : Notice) (r : Subscription × List Notice) : Type 0 where
  pub copies : (st : Settings) → copies_to st x r.1 ≡ cond (any r.1) (copies_to st r.0 (n ∷ [])) []
  pub there : any r.1 ≡ true → is_subscribed r.0 ≡ true

pub told : (r : Room) (n : Notice) (x : Subscription) → Told x n (act r (news n) x)
told r n unsubscribed = record { copies = λ st. refl; there = λ e. absurd (true≢false (sym e)) }
told r n (plain revision) = record { copies = λ st. refl; there = λ e. refl }
told r n (acked revision empty) = record { copies = λ st. refl; there = λ e. refl }
told r n (acked revision (busy m clock waiting)) = record { copies = λ st. refl; there = λ e. refl }
