-- A moment that one session sees, and the others pass over: its step is the world's.
use mathlib.Core.Path.{◌≡◌, refl, sym, ap, ◌∙◌}
use Prim.Native.Nat.{ℕ, ◌<◌}
use mathlib.Core.Bool.{true, false≢true}
use mathlib.Core.List.{List, [], ◌∷◌, append-nil}
use lib.ListN.{length}
use lib.Seq.{set-get_or}
use Rattle.model.specs.Limits.{session_count}
use Rattle.model.specs.Sharing.{Shared, shared_begun}
use Rattle.model.specs.Session.{Session, closed, opened, started, fresh, is_closed, Emission}
use Rattle.model.specs.Events.{Event}
use Rattle.model.specs.Local.{Local, opening, hang_up, event, step}
use Rattle.model.specs.Row.{tag}
use Rattle.model.specs.World.{World, uncounted, session_at, Moment, to as alone, opens, hangs_up, next, emits, after, emitted}
use Rattle.model.specs.Calls.{output}
use Rattle.model.proofs.Erase.{output_append}
use Rattle.model.proofs.InTurn.{next_to, emits_to, either_emits}
use Rattle.text.specs.Put.{Put}
use Rattle.text.proofs.Puts.{put_nothing, put_as, put_then}
use Rattle.session.specs.Effects.{out_bytes}
use Rattle.region.specs.Region.{session_of, Good}
use Rattle.table.specs.Table.{reading_in, decode, settings_in, Table, Becomes, Went}
use Rattle.table.proofs.Regions.{part, put, so_many_sessions, part_is, put_means}

-- ==== one moment has passed

pub went_one : {t o t' o' : List ℕ} {at to : ℕ} {m : Moment} → Becomes t (uncounted (next (decode t) m)) t'
    → Put o at (output (emits (decode t) m)) to o'
    → Went t o at (m ∷ []) to t' o'
went_one {t} {m = m} b p = record { table = b; bytes = put_as (ap output (sym (append-nil (emits (decode t) m)))) p }

-- and then others: the first raised no count of events, so that the table, which keeps none, tells the others all
pub went_then : {t o t₁ o₁ t₂ o₂ : List ℕ} {at to₁ to₂ : ℕ} {m : Moment} {ms : List Moment} → (next (decode t) m).shared.events ≡ 0
    → Went t o at (m ∷ []) to₁ t₁ o₁ → Went t₁ o₁ to₁ ms to₂ t₂ o₂ → Went t o at (m ∷ ms) to₂ t₂ o₂
went_then {t} {t₁ = t₁} {m = m} {ms = ms} e a b =
    let w = next (decode t) m in
    let same : decode t₁ ≡ w = a.table.meaning ∙ (λ i. record {
      shared = record {
        settings = w.shared.settings;
        in_force = w.shared.in_force;
        last = w.shared.last;
        kept = w.shared.kept;
        events = sym e i;
      };
      sessions = w.sessions;
    }) in
    record {
      table = record {
        table = b.table.table;
        size = b.table.size ∙ a.table.size;
        past = b.table.past ∙ a.table.past;
        meaning = b.table.meaning ∙ ap (λ (z : World). uncounted (after z ms)) same;
      };
      bytes = put_as (sym (output_append (emits (decode t) m) (emitted w ms)))
          (put_then (put_as (ap output (append-nil (emits (decode t) m))) a.bytes)
          (put_as (ap (λ (z : World). output (emitted z ms)) same) b.bytes));
    }

-- ==== the region of session s becomes what the step leaves: the table has gone through the moment

module _ (t : List ℕ) (s : ℕ) (l : Local) (table : Table t) (few : s < session_count) where
  abbrev taken : Session × List Emission
  taken = step (decode t).shared l (session_of (reading_in t) (part t s))

  there : s < length (decode t).sessions
  there = rw (so_many_sessions t) few

  pub became_alone : (r : List ℕ) → Good r → session_of (reading_in t) r ≡ taken.0
      → Becomes t (uncounted (next (decode t) (alone s l))) (put t s r)
  unfolding decode
  became_alone r g e = rw (next_to (decode t) s l there, part_is t s few, ← e) (put_means t s r _ table few g refl)

  -- the region has become r, and what that emits was written
  pub went_alone : {r o o' : List ℕ} {at to : ℕ} (es : List Emission) → Good r → taken ≡ (session_of (reading_in t) r, es)
      → Put o at (out_bytes s es) to o' → Went t o at (alone s l ∷ []) to (put t s r) o'
  went_alone {r} es g e p = went_one (became_alone r g (rw e)) (rw (emits_to (decode t) s l there, part_is t s few, e) p)

  -- the session stays as it is, and so does the table
  pub stayed_alone : session_of (reading_in t) (part t s) ≡ taken.0 → Becomes t (uncounted (next (decode t) (alone s l))) t
  unfolding decode
  stayed_alone e = record {
    table = table;
    size = refl;
    past = refl;
    meaning =
        rw (next_to (decode t) s l there, part_is t s few, ← e, ← part_is t s few, set-get_or (decode t).sessions s closed);
  }

-- of what all share, an event to a session reads the settings alone
pub by_settings : (t : List ℕ) (e : Event) (x : Session)
    → step (decode t).shared (event e) x ≡ step (shared_begun (settings_in t) 0) (event e) x
unfolding decode
by_settings t e closed = refl
by_settings t e (opened idle run) = refl
by_settings t e (started idle run subs) = refl

-- the table keeps no count of events
pub uncounted_yet : (t : List ℕ) (s : ℕ) (l : Local) → (next (decode t) (alone s l)).shared.events ≡ 0
unfolding decode
uncounted_yet t s l = refl

-- nothing has passed
pub went_none : (t o : List ℕ) (at : ℕ) → Table t → Went t o at [] at t o
unfolding decode
went_none t o at h = record {
  table = record { table = h; size = refl; past = refl; meaning = refl };
  bytes = put_nothing o at;
}

-- ==== an opening and a hang-up

pub opened_fresh : (g : Shared) (x : Session) → is_closed x ≡ true → fresh ≡ (step g opening x).0
opened_fresh g closed e = refl
opened_fresh g (opened idle run) e = absurd (false≢true e)
opened_fresh g (started idle run subs) e = absurd (false≢true e)

-- neither says anything

opening_silent : (g : Shared) (x : Session) → (step g opening x).1 ≡ []
opening_silent g closed = refl
opening_silent g (opened idle run) = refl
opening_silent g (started idle run subs) = refl

pub opens_silent : (w : World) (s : ℕ) → emits w (opens s) ≡ []
opens_silent w s = either_emits w s opening (λ es. es ≡ []) refl (ap (tag s) (opening_silent w.shared (session_at w s)))

pub hangs_up_silent : (w : World) (s : ℕ) → emits w (hangs_up s) ≡ []
hangs_up_silent w s = either_emits w s hang_up (λ es. es ≡ []) refl refl
