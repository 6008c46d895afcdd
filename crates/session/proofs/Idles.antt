-- A tick to a session by value is what the model has it do, whatever subscriptions the session has.
use mathlib.Core.Path.{◌≡◌, refl}
use mathlib.Core.List.{List}
use Prim.Native.Nat.{ℕ, suc, ◌+◌, ◌<◌}
use native.Mathlib.Numerals.{add-one}
use native.Mathlib.Omega.{arith}
use lib.Dec.{leb}
use borrow.Author.Tests.{leb-true, leb-false, eq-eqb, ne_eqb}
use Rattle.model.specs.Limits.{idle_limit}
use Rattle.model.specs.Runs.{Run}
use Rattle.model.specs.Notices.{Subscription}
use Rattle.model.specs.Local.{tick, tick_at, step}
use Rattle.model.specs.Sharing.{Shared}
use Rattle.session.specs.Meaning.{session_as}
use Rattle.session.specs.Control.{session, idled_open, idled}
use Rattle.session.specs.Effects.{ticked_in, ticked_so}
use Rattle.session.specs.declared.Phase.{Phase}
use Rattle.session.specs.declared.Phase.TheVariants.{Closed, Opened, Started}
use Rattle.session.specs.declared.Session.{Session}
use Rattle.std.specs.Prelude.{Option, Some, None}
use Rattle.session.proofs.Tests.{chosen}

module _ (g : Shared) (run : Run) (subs : List Subscription) where
  -- it comes to idle + 1, which is a time-out, or what a tick does
  comes_to : (p : Phase) (idle : ℕ) → idle < idle_limit → tick_at (suc idle) (ticked_in p g.settings (suc idle) run subs)
      ≡ ticked_so g.settings run subs (idled_open (session p idle))
  comes_to p idle few =
      chosen (λ i. tick_at (suc idle) (ticked_in p g.settings (suc idle) run subs) ≡ ticked_so g.settings run subs i)
      (leb idle_limit (idle + 1))
      (λ e. let l = leb-true idle_limit (idle + 1) e in rw (eq-eqb (suc idle) idle_limit (omega arith)))
      (λ e. let l = leb-false idle_limit (idle + 1) e in rw (ne_eqb (suc idle) idle_limit (λ q. omega arith), add-one idle))

  ticks : (p : Phase) (idle : ℕ) → idle < idle_limit
      → step g tick (session_as p idle run subs) ≡ ticked_so g.settings run subs (idled (session p idle))
  unfolding idled
  ticks Closed idle few = refl
  ticks Opened idle few = comes_to Opened idle few
  ticks Started idle few = comes_to Started idle few

  -- a tick to a session is `session::idled`, and, where it is started and stays so, a beat to every subscription
  pub idle_right : (x : Session) → x.idle < idle_limit
      → step g tick (session_as x.phase x.idle run subs) ≡ ticked_so g.settings run subs (idled x)
  idle_right x few = ticks x.phase x.idle few

-- ==== the idle count of one that stays

abbrev Few : Option Session → Type 0
Few None = Unit {0}
Few (Some y) = y.idle < idle_limit

few_open : (p : Phase) (idle : ℕ) → Few (idled_open (session p idle))
few_open p idle = chosen Few (leb idle_limit (idle + 1)) (λ e. tt) (leb-false idle_limit (idle + 1))

few_idled : (p : Phase) (idle : ℕ) → idle < idle_limit → Few (idled (session p idle))
unfolding idled
few_idled Closed idle few = few
few_idled Opened idle few = few_open Opened idle
few_idled Started idle few = few_open Started idle

pub idled_few : (x y : Session) → x.idle < idle_limit → idled x ≡ Some y → y.idle < idle_limit
idled_few x y few e = rw e at (few_idled x.phase x.idle few)
