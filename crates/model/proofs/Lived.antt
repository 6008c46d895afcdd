-- A session's state, and what goes out to it, after any run of calls: a fold of its own step over what it sees of their moments,
-- whatever its number.
use Prim.Native.Nat.{ℕ, zero, suc, ◌<◌}
use mathlib.Core.Path.{◌≡◌, refl, ap, ap₂, sym, ◌∙◌}
use mathlib.Core.List.{List, [], ◌∷◌, ◌++◌, append_assoc}
use mathlib.Core.Bool.{false}
use lib.Dec.{eqb}
use lib.ListN.{length}
use Rattle.model.specs.Session.{Session, Emission}
use Rattle.model.specs.Local.{Local, elsewhere}
use Rattle.model.specs.Row.{pick}
use Rattle.model.specs.World.{World, session_at, Moment, to, changed, each, next, emits, after, emitted}
use Rattle.model.specs.Calls.{Call, Lent, refusal, answered, step}
use Rattle.model.specs.Own.{moments_done, moments_in, sent_in, seen_of, lived, world_after}
use Rattle.model.proofs.RowLaws.{pick_append, length_row}
use Rattle.model.proofs.Sessions.{session_next, session_emits}

-- ==== moments one after another

append_is : (w : World) (ms ns : List Moment)
    → (after w (ms ++ ns) ≡ after (after w ms) ns) × (emitted w (ms ++ ns) ≡ emitted w ms ++ emitted (after w ms) ns)
append_is w [] ns = (refl, refl)
append_is w (m ∷ ms) ns =
    let ih = append_is (next w m) ms ns in
    (ih.0, rw ih.1 (sym (append_assoc (emits w m) (emitted (next w m) ms) (emitted (after w (m ∷ ms)) ns))))

-- a run of calls is its moments
answered_is : (w : World) (c : Call) (n : ℕ)
    → ((answered w c n).0 ≡ after w (moments_done n w c)) × ((answered w c n).2 ≡ emitted w (moments_done n w c))
answered_is w c zero = (refl, refl)
answered_is w c (suc n) = (refl, refl)

run_is : (w : World) (cs : List (Lent × Call)) → let ms = moments_in w cs in (world_after w cs ≡ after w ms) × (sent_in w cs ≡ emitted w ms)
unfolding step
run_is w [] = (refl, refl)
run_is w (c ∷ cs) =
    let n = refusal c.0 w c.1 in
    let v = (step c.0 w c.1).0 in
    let a = answered_is w c.1 n in
    let ih = run_is v cs in
    let p = append_is w (moments_done n w c.1) (moments_in v cs) in (
      ih.0 ∙ ap (λ (u : World). after u (moments_in v cs)) a.0 ∙ sym p.0,
      ap₂ ◌++◌ a.1 (ih.1 ∙ ap (λ (u : World). emitted u (moments_in v cs)) a.0) ∙ sym p.1,
    )

-- ==== one session

pub length_after : (w : World) (ms : List Moment) → length (after w ms).sessions ≡ length w.sessions
length_after w [] = refl
length_after w (m ∷ ms) = length_after (next w m) ms ∙ length_row (each w m) 0 w.sessions

module _ (s : ℕ) where
  pub lives : (w : World) → s < length w.sessions → (ms : List Moment)
      → (session_at (after w ms) s, pick s (emitted w ms)) ≡ lived w.shared (session_at w s) (seen_of s ms)
  lives w h [] = refl
  lives w h (m ∷ ms) =
      let here = session_next w s h m in
      let ih = lives (next w m) (rw (length_row (each w m) 0 w.sessions) h) ms in
      let more : Session → Session × List Emission = λ x. lived (changed w.shared m.leaves) x (seen_of s ms) in
      let e : (session_at (after (next w m) ms) s, pick s (emitted (next w m) ms)) ≡ more (each w m s (session_at w s)).0 = ih
      ∙ ap more here in
      ap (λ (es : List Emission). (session_at (after (next w m) ms) s, es))
      (pick_append s (emits w m) (emitted (next w m) ms) ∙ ap (◌++ pick s (emitted (next w m) ms)) (session_emits w s h m))
      ∙ ap (λ (r : Session × List Emission). (r.0, (each w m s (session_at w s)).1 ++ r.1)) e

  -- ITS STATE AND WHAT GOES OUT TO IT, after any calls
  pub own_fold : (w : World) → s < length w.sessions → (cs : List (Lent × Call))
      → (session_at (world_after w cs) s, pick s (sent_in w cs)) ≡ lived w.shared (session_at w s) (seen_of s (moments_in w cs))
  own_fold w h cs = rw ((run_is w cs).0, (run_is w cs).1) (lives w h (moments_in w cs))

-- what is meant for another it does not see (an edit in must-fail/ turns it, so nothing in this file rests on it)
pub not_seen : (s t : ℕ) (l : Local) → eqb s t ≡ false → (to t l).sees s ≡ elsewhere
not_seen s t l e = rw e refl
