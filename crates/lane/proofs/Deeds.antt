-- A deed to a subscription by value is the model's, whatever notices it holds: which of them are held after it, and whether the first
-- of those is sent.
use mathlib.Core.Path.{◌≡◌, refl, sym}
use Prim.Native.Nat.{ℕ, ◌≤◌, ◌<◌, zero-le}
use native.Mathlib.Omega.{arith}
use mathlib.Core.Bool.{Bool, true, false, true≢false}
use mathlib.Core.List.{List, [], ◌∷◌}
use lib.Dec.{eqb}
use lib.ListN.{length, take}
use lib.Seq.{take-length}
use borrow.Author.Tests.{eqb-false, ltb-true}
use Rattle.model.specs.Limits.{given_up_at}
use Rattle.model.specs.Events.{Notice}
use Rattle.model.specs.Kinds.{Room}
use Rattle.model.specs.Notices.{act}
use Rattle.model.specs.Notices as model
use Rattle.session.specs.Meaning.{subscription_in, Holds, Stepped, shifted, sent, held_asked, deed_of}
use Rattle.session.specs.Control.{still, next_goes_out, by_beat, beat_at, ticked, acknowledged, ticked_from}
use Rattle.session.specs.Control.{acknowledged_from, subscribed_from, dealt}
use Rattle.session.proofs.Tests.{chosen}
use Rattle.session.proofs.Notices.{tick_right, acknowledge_right, subscribe_right}
use Rattle.session.specs.declared.Form.{Form}
use Rattle.session.specs.declared.Form.TheVariants.{Not, Plain, Acknowledged}
use Rattle.session.specs.declared.Beat.{Beat}
use Rattle.session.specs.declared.Beat.TheVariants.{Runs, Copy, GivenUp}
use Rattle.session.specs.declared.Step.{Step}
use Rattle.session.specs.declared.Subscription.{Subscription}
use Rattle.session.specs.declared.Deed.{Deed}
use Rattle.session.specs.declared.Deed.TheVariants.{Nothing, Beats, Acks, Asks, Drops}
use Rattle.lane.specs.Lane.{any}

-- ==== the first is there, where it goes or is sent

pub record Feasible (held : ℕ) (r : Step) : Type 0 where
  pub gone : r.shift ≡ true → 0 < held
  pub one : r.send ≡ true → 0 < r.next.held

still_feasible : (held : ℕ) (x : Subscription) → Feasible held (still x)
still_feasible held x = record { gone = λ e. absurd (true≢false (sym e)); one = λ e. absurd (true≢false (sym e)) }

module _ (x : Subscription) where
  next_feasible : Feasible x.held (next_goes_out x)
  next_feasible =
      chosen (Feasible x.held) (eqb x.held 0) (λ e. still_feasible x.held x) (λ e.
      let h = eqb-false x.held 0 e in
      record { gone = λ p. omega (arith, h); one = λ p. let q = ltb-true 1 x.held p in omega arith })

  beat_feasible : (b : Beat) → 0 < x.held → Feasible x.held (by_beat x b)
  beat_feasible (Runs clock) h = record { gone = λ e. h; one = λ e. h }
  beat_feasible (Copy clock) h = record { gone = λ e. h; one = λ e. h }
  beat_feasible GivenUp h = next_feasible

  tick_feasible : (f : Form) → Feasible x.held (ticked_from f x)
  tick_feasible Not = still_feasible x.held x
  tick_feasible Plain = still_feasible x.held x
  tick_feasible Acknowledged =
      chosen (Feasible x.held) (eqb x.held 0) (λ e. still_feasible x.held x)
      (λ e. beat_feasible (beat_at x.clock) (omega (arith, eqb-false x.held 0 e)))

  acknowledge_feasible : (f : Form) → Feasible x.held (acknowledged_from f x)
  acknowledge_feasible Not = still_feasible x.held x
  acknowledge_feasible Plain = still_feasible x.held x
  acknowledge_feasible Acknowledged = next_feasible

  pub feasible : (d : Deed) → Feasible x.held (dealt x d)
  unfolding ticked acknowledged
  feasible Nothing = still_feasible x.held x
  feasible Beats = tick_feasible x.form
  feasible Acks = acknowledge_feasible x.form
  feasible (Asks revision b) = still_feasible x.held _
  feasible Drops = still_feasible x.held _

-- ==== what a deed does: of those that did not go as many are held as the step says, and the first of them is sent where it says so

abbrev pub after : Step → List Notice → List Notice
after r ns = take r.next.held (shifted r.shift ns)

pub record Goes (becomes : model.Subscription × List Notice) (ns : List Notice) (r : Step) : Type 0 where
  pub acts : becomes ≡ (subscription_in r.next (after r ns), sent r.send (after r ns))
  pub clock : r.next.clock < given_up_at
  pub few : r.next.held ≤ length (shifted r.shift ns)

module _ {room : Room} where
  goes_so : (becomes : model.Subscription × List Notice) (ns : List Notice) (r : Step) → Stepped room becomes ns r → Goes becomes ns r
  goes_so becomes ns r s =
      let e : after r ns ≡ shifted r.shift ns = rw s.holds.held (take-length (shifted r.shift ns)) in
      record { acts = rw e s.acts; clock = s.holds.clock; few = omega arith }

  pub goes : (x : Subscription) (ns : List Notice) → Holds room x ns → (d : Deed)
      → Goes (act room (deed_of d) (subscription_in x ns)) ns (dealt x d)
  goes x ns h Nothing =
      let e = h.held in
      record { acts = rw (e, take-length ns); clock = h.clock; few = omega arith }
  goes x ns h Beats = goes_so _ ns _ (tick_right room x ns h)
  goes x ns h Acks = goes_so _ ns _ (acknowledge_right room x ns h)
  goes x ns h Drops = record { acts = refl; clock = omega arith; few = zero-le }
  goes x ns h (Asks revision b) =
      let s = subscribe_right room revision b x ns h in
      let a = asked x.form in
      record { acts = rw a.0 s.acts; clock = s.holds.clock; few = a.1 }
    where
      asked : (f : Form) → (take (subscribed_from f x revision b).held ns ≡ held_asked f ns)
          × ((subscribed_from f x revision b).held ≤ length ns)
      asked Not = (refl, zero-le)
      asked Plain = let e = h.held in (rw e (take-length ns), omega arith)
      asked Acknowledged = let e = h.held in (rw e (take-length ns), omega arith)

-- ==== counting

pub shifted_few : (b : Bool) (ns : List Notice) → length (shifted b ns) ≤ length ns
shifted_few false ns = omega arith
shifted_few true [] = omega arith
shifted_few true (n ∷ ns) = omega arith

pub any_sent : (b : Bool) (ns : List Notice) → (b ≡ true → 0 < length ns) → b ≡ any (sent b ns)
any_sent false ns h = refl
any_sent true [] h = absurd (let l = h refl in omega arith)
any_sent true (n ∷ ns) h = refl
