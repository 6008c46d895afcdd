-- What is true of every decision: it leaves an idle count that a session can have, it mirrors only what is a message, and it tells only of
-- a tightening that is kept.
use mathlib.Core.Path.{◌≡◌, refl}
use mathlib.Core.Bool.{Bool, true, false, not, cond}
use mathlib.Core.List.{List, [], ◌∷◌}
use mathlib.Core.Option.{Option as Maybe, none, some}
use Rattle.std.specs.Prelude.{Option, Some, None}
use Prim.Native.Nat.{ℕ, ◌≤◌, ◌<◌}
use native.Mathlib.Omega.{arith}
use lib.Dec.{eqb}
use lib.ListN.{length, drop}
use Rattle.model.specs.Limits.{header_length, idle_limit}
use Rattle.model.specs.Runs.{Run, message_of, is_message, read_run}
use Rattle.model.specs.Messages as model
use Rattle.model.specs.Messages.{Entry, entry_of, starts, stops, identifies, subscribes, unsubscribes, acknowledges, fetches, mirrors}
use Rattle.model.specs.Messages.{own, number_asked, own_test, tested, error_of}
use Rattle.model.specs.Tests.{first}
use Rattle.model.proofs.Clean.{there, passed}
use Rattle.message.specs.Meaning.{meant, is_among, standing_of, effect_listed, answered, error_number}
use Rattle.message.specs.declared.Standing.{Standing}
use Rattle.frame.specs.Header.{shown, header_of}
use Rattle.frame.specs.declared.Header.{Header}
use Rattle.frame.proofs.Headers.{header_sound}
use Rattle.session.specs.Decisions.{begun, replied, start, no_error, accepted, decided_started, decided, decision}
use Rattle.session.specs.Effects.{decision_on}
use Rattle.session.specs.declared.Phase.{Phase}
use Rattle.session.specs.declared.Phase.TheVariants.{Closed, Opened, Started}
use Rattle.session.specs.declared.Session.{Session}
use Rattle.session.specs.declared.Reply.TheVariants.{Error, Kept, Mirrored}
use Rattle.session.specs.declared.Decision.{Decision}

-- ==== a decision is so when each of those that it is chosen from is

module _ (P : Decision → Type 0) where
  either : (b : Bool) {d e : Decision} → P d → P e → P (cond b d e)
  either true p q = p
  either false p q = q

  module _ (x : Session) (unmoved : (b : Bool) (mid n : ℕ) → P (replied (cond b (Some (Error mid n)) None) x)) (begins : P start)
      (standing : Standing) (bs : List ℕ)
      (to_started : (size mid revision : ℕ) (no_acknowledge : Bool) (error : Maybe model.Error)
      → error_of (standing_of standing) mid size revision bs ≡ error
      → P (decided Started x mid revision no_acknowledge (meant standing.common (number_asked bs)) error)) where
    every : (p : Phase) (size mid revision : ℕ) (no_acknowledge : Bool) (error : Maybe model.Error)
        → error_of (standing_of standing) mid size revision bs ≡ error
        → P (decided p x mid revision no_acknowledge (meant standing.common (number_asked bs)) error)
    every Closed size mid revision no_acknowledge error e = unmoved false mid 0
    every Opened size mid revision no_acknowledge error e =
        either (eqb mid 1) (either (no_error error) begins (unmoved true mid (error_number error))) (unmoved false mid 0)
    every Started size mid revision no_acknowledge error e = to_started size mid revision no_acknowledge error e

    pub on_any : (h : Option Header) → P (decision x standing h bs)
    unfolding decision
    on_any None = unmoved false 0 0
    on_any (Some h) = every x.phase h.size h.mid h.revision h.no_acknowledge _ refl

-- ==== the idle count is 0, or as it was

abbrev pub Fair : Decision → Type 0
Fair d = d.next.idle < idle_limit

accepted_fair : (mid revision : ℕ) (no_acknowledge : Bool) (number : ℕ) (o : Maybe model.Effect)
    → Fair (accepted mid revision no_acknowledge number o)
accepted_fair mid revision no_acknowledge number none = omega arith
accepted_fair mid revision no_acknowledge number (some starts) = omega arith
accepted_fair mid revision no_acknowledge number (some stops) = omega arith
accepted_fair mid revision no_acknowledge number (some (identifies n)) = omega arith
accepted_fair mid revision no_acknowledge number (some (subscribes kind n)) = omega arith
accepted_fair mid revision no_acknowledge number (some (unsubscribes kind n)) = omega arith
accepted_fair mid revision no_acknowledge number (some (acknowledges kind)) = omega arith
accepted_fair mid revision no_acknowledge number (some (fetches n)) = omega arith
accepted_fair mid revision no_acknowledge number (some mirrors) = omega arith

pub decided_fair : (x : Session) → x.idle < idle_limit → (standing : Standing) (h : Option Header) (bs : List ℕ)
    → Fair (decision x standing h bs)
decided_fair x few standing h bs =
    let number = meant standing.common (number_asked bs) in
    on_any Fair x (λ b mid n. few) (omega arith) standing bs (λ size mid revision no_acknowledge error e.
    either Fair (no_error error) (accepted_fair mid revision no_acknowledge number (effect_listed (entry_of mid))) (omega arith)) h

-- ==== what is mirrored is a message, so that there are 20 bytes to send back

module _ (x : Session) (standing : Standing) (r : Run) where
  whole_if : (b : Bool) → is_message r ≡ b
      → (decision x standing (shown (cond b (some (message_of r)) none)) (drop header_length r.kept)).reply ≡ Some Mirrored
      → header_length ≤ length r.kept
  unfolding decision
  whole_if false e q = cc
  whole_if true e q = (header_sound r.kept r.count e).whole

  pub mirrored_whole : (decision_on x standing r).reply ≡ Some Mirrored → header_length ≤ length r.kept
  unfolding header_of read_run
  mirrored_whole q = whole_if (is_message r) refl q

-- ==== 02, P2: what is told of is kept: the message has no error of its own

module _ (x : Session) (standing : Standing) (bs : List ℕ) (n : ℕ) where
  abbrev Known : Decision → Type 0
  Known d = d.reply ≡ Some (Kept n) → is_among standing.common n ≡ true

  held : (k : Bool) (error : ℕ) → ◌≡◌ {A = Maybe model.Error} (cond (not k) (some (own error)) none) none → k ≡ true
  held true error e = refl
  held false error e = absurd (there e)

  unmoved : (y : Session) (b : Bool) (mid code : ℕ) → Known (replied (cond b (Some (Error mid code)) None) y)
  unmoved y true mid code q = cc
  unmoved y false mid code q = cc

  module _ (mid revision : ℕ) (no_acknowledge : Bool) where
    abbrev number : ℕ
    number = meant standing.common (number_asked bs)

    effect_known : (f : model.Effect) → first none (own_test (standing_of standing) f bs ∷ []) ≡ none
        → Known (accepted mid revision no_acknowledge number (some f))
    effect_known starts e q = cc
    effect_known stops e q = cc
    effect_known (identifies m) e q = cc
    effect_known (subscribes kind m) e q = cc
    effect_known (unsubscribes kind m) e q = cc
    effect_known (acknowledges kind) e q = cc
    effect_known (fetches m) e q = let same : number ≡ n = cc in rw (← same) (held (is_among standing.common number) m e)
    effect_known mirrors e q = cc

    entry_known : (size : ℕ) (o : Maybe Entry) → tested (standing_of standing) o size revision bs ≡ none
        → Known (accepted mid revision no_acknowledge number (effect_listed o))
    entry_known size none e q = cc
    entry_known size (some f) e q = effect_known f.effect (passed (standing_of standing) f size revision bs e).2 q

    started_known : (size : ℕ) (o : Maybe Entry) (error : Maybe model.Error) → tested (standing_of standing) o size revision bs ≡ error
        → Known (decided_started mid revision no_acknowledge number (effect_listed o) error)
    started_known size o none e = entry_known size o e
    started_known size o (some error) e = unmoved begun (answered (effect_listed o)) mid (error_number (some error))

  pub told_kept : (h : Option Header) → Known (decision x standing h bs)
  unfolding error_of
  told_kept h =
      on_any Known x (unmoved x) (λ q. cc) standing bs
      (λ size mid revision no_acknowledge error e. started_known mid revision no_acknowledge size (entry_of mid) error e) h
