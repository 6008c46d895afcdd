-- How the outcome of a call is put together: of a refusal, and of what was done.
use mathlib.Core.Path.{◌≡◌, refl, sym, ap, ◌∙◌}
use Prim.Native.Nat.{ℕ, suc, ◌≤◌}
use native.Mathlib.Nat.{zero-add}
use native.Mathlib.Omega.{arith}
use mathlib.Core.List.{List, [], ◌∷◌, ◌++◌}
use mathlib.Core.Option.{some}
use lib.ListN.{length}
use lib.Seq.{sets}
use Rattle.model.specs.Limits.{session_count, output_least}
use Rattle.model.specs.Records.{Settings, payload, settings_of, read_settings}
use Rattle.model.specs.Session.{Emission}
use Rattle.model.specs.World.{World, uncounted, Moment, begins, opens, hangs_up, each, begun, next, emits, emitted}
use Rattle.model.specs.Calls.{Call, start, open_session, hang_up_session, does, moments, output, answered, step}
use Rattle.model.specs.Row.{Tagged}
use Rattle.model.proofs.RowLaws.{said_none}
use Rattle.model.proofs.Sessions.{begins_begun}
use Rattle.text.proofs.Puts.{put_nothing}
use Rattle.table.specs.Table.{decode, Table, Becomes, Went}
use Rattle.table.proofs.Regions.{so_many_sessions}
use Rattle.table.proofs.Alone.{opens_silent, hangs_up_silent}
use Rattle.refusal.specs.declared.Refusal.{Refusal}
use Rattle.refusal.specs.declared.Refusal.TheVariants as why
use Rattle.refusal.specs.Numbers.{number, number_of}
use Rattle.controller.specs.declared.Answer.{Answer}
use Rattle.controller.specs.Contract.{Said, said, Outcome}

-- the table keeps no count of events
still : (t : List ℕ) → decode t ≡ uncounted (decode t)
unfolding decode
still t = refl

-- no refusal has the number 0
number_above : (why : Refusal) → (n : ℕ) × (number_of why ≡ suc n)
number_above why.TableShort = (0, refl)
number_above why.TableNotWellFormed = (1, refl)
number_above why.OutputShort = (2, refl)
number_above why.SessionTooHigh = (3, refl)
number_above why.SessionClosed = (4, refl)
number_above why.SessionNotClosed = (5, refl)
number_above why.ToolRecordBad = (6, refl)
number_above why.LastNumberReached = (7, refl)
number_above why.SettingsBad = (8, refl)

module _ (c : Call) (t o : List ℕ) where
  abbrev outcome : ℕ → Said
  outcome n = answered (decode t) c n

  said_is : (n : ℕ) → n ≡ number t (length o) c → said c t o ≡ outcome n
  unfolding step
  said_is n e = ap outcome (sym e)

  -- a refusal: nothing is altered
  pub refuse : {r : Answer} (why : Refusal) → number_of why ≡ number t (length o) c
      → r ≡ record { number = number_of why; consumed = 0; written = 0; taken = 0 } → Outcome c t o r t o
  refuse {r} why e p =
      let a = number_above why in
      let s = said_is (suc a.0) (sym a.1 ∙ e) in
      record {
        answer = rw (s, ← a.1) p;
        meaning = rw s (still t);
        output = rw s;
        fits = rw p (omega arith);
        size = refl;
        past = refl;
        formed = λ z. absurd (omega (arith, a.1, ap (λ (x : Answer). x.number) p));
        kept = λ _. refl;
      }

  -- the moments of the call have passed, and what they emit stands in the output
  pub finish : {at consumed taken : ℕ} {t' o' : List ℕ} → 0 ≡ number t (length o) c → consumed ≡ (does (decode t) c).consumed
      → taken ≡ (does (decode t) c).taken → Went t o 0 (moments (decode t) c) at t' o' → at ≤ output_least
      → Outcome c t o (record { number = 0; consumed = consumed; written = at; taken = taken }) t' o'
  finish {at} e ec et w h =
      let s = said_is 0 e in
      let ew : at ≡ length (output (emitted (decode t) (moments (decode t) c))) = w.bytes.place ∙ zero-add _ in
      record {
        answer = rw (s, ← ec, ← et, ← ew);
        meaning = rw s w.table.meaning;
        output = rw s w.bytes.output;
        fits = h;
        size = w.table.size;
        past = w.table.past;
        formed = λ _. w.table.table.formed;
        kept = λ ne. absurd (ne refl);
      }

-- no moment has passed
pub nothing_passed : (t o : List ℕ) → Table t → Went t o 0 [] 0 t o
nothing_passed t o h = record {
  table = record { table = h; size = refl; past = refl; meaning = still t };
  bytes = put_nothing o 0;
}

-- ==== calls that emit nothing

pub start_silent : (w : World) (st : Settings) → emits w (begins st) ≡ []
start_silent w st = said_none (each w (begins st)) (λ n x. refl) 0 w.sessions

-- and what it leaves of a world of so many sessions is the begun world
pub start_begins : (w : World) (st : Settings) → length w.sessions ≡ session_count → uncounted (next w (begins st)) ≡ begun st 0
start_begins w st h = ap uncounted (begins_begun w st h)

-- a moment that only the table shows
quietly : (t o : List ℕ) (m : Moment) {t' : List ℕ} → emits (decode t) m ≡ [] → Becomes t (uncounted (next (decode t) m)) t'
    → Went t o 0 (m ∷ []) 0 t' o
quietly t o m e b =
    let n : output (emits (decode t) m ++ []) ≡ [] = ap (λ (es : List (Tagged Emission)). output (es ++ [])) e in
    record { table = b; bytes = record { output = sym (ap (sets o 0) n); place = sym (zero-add _ ∙ ap length n) } }

pub opened_quietly : (t o : List ℕ) (s : ℕ) {t' : List ℕ} → Becomes t (uncounted (next (decode t) (opens s))) t'
    → Went t o 0 (moments (decode t) (open_session s)) 0 t' o
opened_quietly t o s b = quietly t o (opens s) (opens_silent (decode t) s) b

pub hung_up_quietly : (t o : List ℕ) (s : ℕ) {t' : List ℕ} → Becomes t (uncounted (next (decode t) (hangs_up s))) t'
    → Went t o 0 (moments (decode t) (hang_up_session s)) 0 t' o
hung_up_quietly t o s b = quietly t o (hangs_up s) (hangs_up_silent (decode t) s) b

pub started_quietly : (t o slice : List ℕ) {t' : List ℕ} → read_settings slice ≡ some (settings_of (payload slice))
    → Becomes t (begun (settings_of (payload slice)) 0) t' → Went t o 0 (moments (decode t) (start slice)) 0 t' o
started_quietly t o slice {t'} e b =
    let st = settings_of (payload slice) in
    rw e (quietly t o (begins st) (start_silent (decode t) st) (rw (start_begins (decode t) st (so_many_sessions t)) b))
