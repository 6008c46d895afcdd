-- A moment that one session sees is that session's step, and nothing to the others. And one that all sessions see is what they see one
-- after the other, in order of session, however many there are: a whole tick is the ticks of the sessions.
use Prim.Native.Nat.{ℕ, suc, ◌<◌}
use mathlib.Core.Path.{◌≡◌, refl, ap, ap₂, ◌∙◌}
use mathlib.Core.Bool.{Bool, true, false}
use mathlib.Core.List.{List, [], ◌∷◌, ◌++◌}
use native.Mathlib.Omega.{arith}
use lib.Dec.{leb}
use lib.ListN.{length, set, length-append}
use lib.Seq.{append_snoc, set_at, get_or_at}
use borrow.Author.Tests.{eq-eqb, ne_eqb, leb-true, leb-false}
use Rattle.model.specs.Sharing.{Shared}
use Rattle.model.specs.Session.{Session, closed, Emission}
use Rattle.model.specs.Local.{Local, tick, step}
use Rattle.model.specs.Row.{Tagged, tag, row, said}
use Rattle.model.specs.World.{World, session_at, to, to_all, ticks, each, next, emits, after, emitted, in_turn}
use Rattle.model.proofs.RowLaws.{passed, row_alone}

module _ (g : Shared) (l : Local) (s : ℕ) where
  pass : (j : ℕ) (x : Session) → (j ≡ s → ⊥) → step g ((to s l).sees j) x ≡ (x, [])
  pass j x h = rw (ne_eqb j s h)

-- ==== ONE SESSION: its step takes its place

module _ (w : World) (s : ℕ) (l : Local) (h : s < length w.sessions) where
  abbrev stepped : Session × List Emission
  stepped = step w.shared l (session_at w s)

  whole : (row (each w (to s l)) 0 w.sessions ≡ set w.sessions s (each w (to s l) s (session_at w s)).0)
      × (emits w (to s l) ≡ tag s (each w (to s l) s (session_at w s)).1)
  whole = row_alone (each w (to s l)) s (pass w.shared l s) w.sessions closed h

  pub next_to : next w (to s l) ≡ record { shared = w.shared; sessions = set w.sessions s stepped.0 }
  next_to = rw (whole.0, eq-eqb s s refl)

  pub emits_to : emits w (to s l) ≡ tag s stepped.1
  emits_to = rw (whole.1, eq-eqb s s refl)

-- whatever holds of nothing, and of what that session says, holds of what goes out
module _ (w : World) (s : ℕ) (l : Local) where
  pub either_emits : (P : List (Tagged Emission) → Type 0) → P [] → P (tag s (step w.shared l (session_at w s)).1)
      → P (emits w (to s l))
  either_emits P h k = go (leb (length w.sessions) s) refl
    where
      go : (b : Bool) → leb (length w.sessions) s ≡ b → P (emits w (to s l))
      go true e =
          let past = leb-true (length w.sessions) s e in
          rw (passed (each w (to s l)) s (pass w.shared l s) 0 w.sessions (λ j a b z. omega arith)).1 h
      go false e = rw (emits_to w s l (omega (arith, leb-false (length w.sessions) s e))) k

-- ==== ALL OF THEM, one after the other

module _ (g : Shared) (l : Local) where
  abbrev among : List Session → World
  among xs = record { shared = g; sessions = xs }

  -- those before it have had their turn
  turns : (before xs : List Session) (i : ℕ) → length before ≡ i
      → (after (among (before ++ xs)) (in_turn l i (length xs)) ≡ among (before ++ row (λ s. step g l) i xs))
      × (emitted (among (before ++ xs)) (in_turn l i (length xs)) ≡ said (λ s. step g l) i xs)
  turns before [] i h = (refl, refl)
  turns before (x ∷ xs) i h =
      let w = among (before ++ x ∷ xs) in
      let y = (step g l x).0 in
      let k : i < length (before ++ x ∷ xs) = omega (arith, length-append before (x ∷ xs)) in
      let here = get_or_at before x xs closed i h in
      let e : next w (to i l) ≡ among ((before ++ y ∷ []) ++ xs) =
      next_to w i l k ∙ rw (here, set_at before x xs y i h, append_snoc before y xs) in
      let q = turns (before ++ y ∷ []) xs (suc i) (omega (arith, length-append before (y ∷ []))) in (
        ap (λ (v : World). after v (in_turn l (suc i) (length xs))) e
            ∙ q.0 ∙ ap among (append_snoc before y (row (λ s. step g l) (suc i) xs)),
        ap₂ ◌++◌ (rw here at (emits_to w i l k)) (ap (λ (v : World). emitted v (in_turn l (suc i) (length xs))) e ∙ q.1),
      )

-- whatever they see
module _ (w : World) (l : Local) where
  pub all_in_turn : after w (in_turn l 0 (length w.sessions)) ≡ next w (to_all l)
  all_in_turn = (turns w.shared l [] w.sessions 0 refl).0

  pub all_emitted : emitted w (in_turn l 0 (length w.sessions)) ≡ emits w (to_all l)
  all_emitted = (turns w.shared l [] w.sessions 0 refl).1

-- A WHOLE TICK is the ticks of the sessions, in order
pub whole_tick : (w : World)
    → let ms = in_turn tick 0 (length w.sessions) in (after w ms ≡ next w ticks) × (emitted w ms ≡ emits w ticks)
whole_tick w = (all_in_turn w tick, all_emitted w tick)
