-- What is done to a subscription by value is what the model does to it, whatever notices it holds.
use mathlib.Core.Path.{◌≡◌, refl}
use mathlib.Core.Bool.{Bool, true, false, cond}
use mathlib.Core.List.{List, [], ◌∷◌, ◌++◌}
use Prim.Native.Nat.{ℕ, suc, ◌+◌, ◌%◌, ◌≤◌, ◌<◌, zero-le}
use native.Mathlib.Numerals.{add-one}
use native.Mathlib.Omega.{arith}
use lib.Dec.{leb, eqb, eqb-suc-zero}
use lib.ListN.{length, take, length-append}
use lib.Seq.{take-length}
use borrow.Author.Tests.{leb-true, leb-false, eq-eqb, ne_eqb, lt-ltb, le-ltb}
use Rattle.model.specs.Limits.{copy_every, given_up_at}
use Rattle.model.specs.Events.{Notice}
use Rattle.model.specs.Kinds.{Room, the_newest, up_to}
use Rattle.model.specs.Notices.{acked, busy, beats, news, asks, acks, next_one, clock_at, has_room, takes, act}
use Rattle.model.specs.Notices as model
use Rattle.session.specs.Meaning.{subscription_in, most_held, Holds, Stepped, Took, Becomes, held_asked}
use Rattle.session.specs.Control.{subscription, subscribed, beat_at, next_goes_out, by_beat, ticked, acknowledged}
use Rattle.session.specs.Control.{taken_busy, taken}
use Rattle.session.specs.declared.Form.{Form}
use Rattle.session.specs.declared.Form.TheVariants.{Not, Plain, Acknowledged}
use Rattle.session.specs.declared.Subscription.{Subscription}
use Rattle.session.specs.declared.Taken.{Taken}
use Rattle.session.specs.declared.Beat.{Beat}
use Rattle.session.proofs.Tests.{chosen}

-- ==== the clock

module _ (room : Room) (revision : ℕ) (n : Notice) where
  -- one that has held n and those that wait
  abbrev open_at : ℕ → List Notice → Subscription
  open_at clock waiting = subscription Acknowledged revision clock (suc (length waiting))

  -- the open one is gone
  gone : (clock : ℕ) (waiting : List Notice) → suc (length waiting) ≤ most_held room
      → Stepped room (next_one revision waiting) (n ∷ waiting) (next_goes_out (open_at clock waiting))
  gone clock [] fits = record { acts = refl; holds = record { held = refl; clock = omega arith; fits = omega arith } }
  gone clock (m ∷ waiting) fits =
      rw (eqb-suc-zero (suc (length waiting)), lt-ltb 1 (suc (suc (length waiting))) (omega arith))
      record { acts = refl; holds = record { held = omega arith; clock = omega arith; fits = omega arith } }

  -- its clock has come to clock + 1
  beaten : (clock : ℕ) (waiting : List Notice) → clock < given_up_at → suc (length waiting) ≤ most_held room
      → Stepped room (clock_at revision n (clock + 1) waiting) (n ∷ waiting) (by_beat (open_at clock waiting) (beat_at clock))
  unfolding beat_at
  beaten clock waiting h fits =
      let next = clock_at revision n (clock + 1) waiting in
      let So : Beat → Type 0 = λ b. Stepped room next (n ∷ waiting) (by_beat (open_at clock waiting) b) in
      chosen So (leb given_up_at (clock + 1)) (λ p. let l = leb-true given_up_at (clock + 1) p in
      rw (eq-eqb (clock + 1) given_up_at (omega arith)) (gone clock waiting fits)) (λ p.
      let l = leb-false given_up_at (clock + 1) p in
      let holds : Holds room (open_at (clock + 1) waiting) (n ∷ waiting) = record { held = refl; clock = l; fits = fits } in
      chosen So (eqb ((clock + 1) % copy_every) 0)
      (λ q. rw (ne_eqb (clock + 1) given_up_at (λ e. omega arith), q) record { acts = refl; holds = holds })
      (λ q. rw (ne_eqb (clock + 1) given_up_at (λ e. omega arith), q) record { acts = refl; holds = holds }))

-- ==== a tick and an acknowledge

module _ (room : Room) where
  ticks : (f : Form) (revision clock held : ℕ) (ns : List Notice) (h : Holds room (subscription f revision clock held) ns)
      → let x = subscription f revision clock held in Stepped room (act room beats (subscription_in x ns)) ns (ticked x)
  unfolding ticked
  ticks Not revision clock held ns h = record { acts = refl; holds = h }
  ticks Plain revision clock held ns h = record { acts = refl; holds = h }
  ticks Acknowledged revision clock held [] h = rw (eq-eqb held 0 h.held) record { acts = refl; holds = h }
  ticks Acknowledged revision clock held (n ∷ ns) h =
      rw (h.held, eqb-suc-zero (length ns), ← add-one clock) (beaten room revision n clock ns h.clock h.fits)

  acknowledges : (f : Form) (revision clock held : ℕ) (ns : List Notice) (h : Holds room (subscription f revision clock held) ns)
      → let x = subscription f revision clock held in Stepped room (act room acks (subscription_in x ns)) ns (acknowledged x)
  unfolding acknowledged
  acknowledges Not revision clock held ns h = record { acts = refl; holds = h }
  acknowledges Plain revision clock held ns h = record { acts = refl; holds = h }
  acknowledges Acknowledged revision clock held [] h = rw (eq-eqb held 0 h.held) record { acts = refl; holds = h }
  acknowledges Acknowledged revision clock held (n ∷ ns) h = rw h.held (gone room revision n clock ns h.fits)

  module _ (x : Subscription) (ns : List Notice) (h : Holds room x ns) where
    -- `session::ticked` is the model's tick
    pub tick_right : Stepped room (act room beats (subscription_in x ns)) ns (ticked x)
    tick_right = ticks x.form x.revision x.clock x.held ns h

    -- `session::acknowledged` is the model's acknowledge
    pub acknowledge_right : Stepped room (act room acks (subscription_in x ns)) ns (acknowledged x)
    acknowledge_right = acknowledges x.form x.revision x.clock x.held ns h

-- ==== an event

-- it is held behind the others, where there is room
module _ (most revision clock held : ℕ) (n m : Notice) (ns : List Notice) where
  abbrev held_so : ℕ → Subscription
  held_so k = subscription Acknowledged revision clock k

  abbrev Behind : Taken → Type 0
  Behind t = Took (up_to most) (act (up_to most) (news n) (acked revision (busy m clock ns))) (has_room (up_to most) ns) n (m ∷ ns) t

  waits_behind : Holds (up_to most) (held_so held) (m ∷ ns) → Behind (taken_busy (up_to most) (held_so held))
  waits_behind h =
      chosen Behind (leb most held) (λ p. let l = leb-true most held p in
      rw (le-ltb (suc (length ns)) most (omega arith)) record { acts = refl; takes = refl; holds = h; place = omega arith }) (λ p.
      let l = leb-false most held p in
      let q = h.held in
      let more : length (take (length ns) ns ++ n ∷ []) ≡ length ns + 1 = rw (take-length ns) (length-append ns (n ∷ [])) in
      rw (lt-ltb (suc (length ns)) most (omega arith), q)
      record {
        acts = rw (take-length ns);
        takes = refl;
        holds = record { held = omega arith; clock = h.clock; fits = omega arith };
        place = omega arith;
      })

module _ (n : Notice) where
  takes_at : (room : Room) (f : Form) (revision clock held : ℕ) (ns : List Notice) → 0 < most_held room
      → (h : Holds room (subscription f revision clock held) ns)
      → let x = subscription f revision clock held in
      Took room (act room (news n) (subscription_in x ns)) (takes room (subscription_in x ns)) n ns (taken room x)
  unfolding taken
  takes_at room Not revision clock held ns some h = record { acts = refl; takes = refl; holds = h; place = some }
  takes_at room Plain revision clock held ns some h = record { acts = refl; takes = refl; holds = h; place = some }
  takes_at room Acknowledged revision clock held [] some h =
      rw (eq-eqb held 0 h.held)
      record { acts = refl; takes = refl; holds = record { held = refl; clock = omega arith; fits = some }; place = some }
  takes_at the_newest Acknowledged revision clock held (m ∷ ns) some h =
      rw (h.held, eqb-suc-zero (length ns))
      record { acts = refl; takes = refl; holds = record { held = refl; clock = h.clock; fits = omega arith }; place = omega arith }
  takes_at (up_to most) Acknowledged revision clock held (m ∷ ns) some h =
      rw (ne_eqb held 0 (λ e. let q = h.held in omega arith)) (waits_behind most revision clock held n m ns h)

  -- what `taken` says of an event, by the room of its kind, is the model's event
  pub take_right : (room : Room) → 0 < most_held room → (x : Subscription) (ns : List Notice) → Holds room x ns
      → Took room (act room (news n) (subscription_in x ns)) (takes room (subscription_in x ns)) n ns (taken room x)
  take_right room some x ns h = takes_at room x.form x.revision x.clock x.held ns some h

-- ==== subscribing and unsubscribing

module _ (room : Room) (revision : ℕ) (no_acknowledge : Bool) where
  asks_at : (f : Form) (current clock held : ℕ) (ns : List Notice) → Holds room (subscription f current clock held) ns
      → let x = subscription f current clock held in
      Becomes room (act room (asks revision no_acknowledge) (subscription_in x ns)) (subscribed x revision no_acknowledge) (held_asked f ns)
  asks_at Not current clock held ns h = by_form no_acknowledge
    where
      by_form : (b : Bool) → Becomes room (cond b (model.plain revision) (acked revision model.empty), [])
          (subscription (cond b Plain Acknowledged) revision 0 0) []
      by_form true = record { acts = refl; holds = record { held = refl; clock = omega arith; fits = zero-le } }
      by_form false = record { acts = refl; holds = record { held = refl; clock = omega arith; fits = zero-le } }
  asks_at Plain current clock held ns h = record { acts = refl; holds = h }
  asks_at Acknowledged current clock held ns h = record { acts = refl; holds = h }

  -- `session::subscribed` is the model's subscribing
  pub subscribe_right : (x : Subscription) (ns : List Notice) → Holds room x ns
      → Becomes room (act room (asks revision no_acknowledge) (subscription_in x ns)) (subscribed x revision no_acknowledge)
      (held_asked x.form ns)
  subscribe_right x ns h = asks_at x.form x.revision x.clock x.held ns h
