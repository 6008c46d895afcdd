-- Of what a call is lent, its refusal asks no more than the three tests do; and no call's own tests give their numbers.
use Prim.Native.Nat.{ℕ, suc}
use mathlib.Core.Path.{◌≡◌, refl}
use mathlib.Core.Bool.{Bool, true, false, not, cond, ◌&&◌, and-false}
use mathlib.Core.List.{List, [], ◌∷◌}
use native.Mathlib.Omega.{arith}
use lib.Dec.{ltb, eqb}
use Rattle.model.specs.Limits.{table_least, output_least}
use Rattle.model.specs.Tests.{Test, ◌gives◌, first}
use Rattle.model.specs.Bytes.{all}
use Rattle.model.proofs.Framed.{left, right}
use borrow.Author.Tests.{eqb-false, not-true}
use Rattle.model.specs.World.{World}
use Rattle.model.specs.Calls.{Call, start, open_session, hang_up_session, bytes, one_tick, tool, Lent, does, refusal, answered, step}

-- ==== what is lent to it

module _ (k l : Lent) (w : World)
    (table : ltb k.table table_least ≡ ltb l.table table_least)
    (formed : k.well_formed ≡ l.well_formed)
    (output : ltb k.output output_least ≡ ltb l.output output_least) where
  pub same_step : (c : Call) → step k w c ≡ step l w c
  unfolding step refusal
  same_step c = rw (table, formed, output)

-- too short a table: 1, before all else
module _ (l : Lent) (w : World) (e : ltb l.table table_least ≡ true) where
  pub step_1 : (c : Call) → step l w c ≡ answered w c 1
  unfolding step refusal
  step_1 c = rw e

-- ==== its own tests: none gives 2

own_not_2 : (w : World) (c : Call) → all (λ t. not (eqb t.answer 2)) (does w c).asks.own ≡ true
own_not_2 w (start slice) = refl
own_not_2 w (open_session s) = refl
own_not_2 w (hang_up_session s) = refl
own_not_2 w (bytes s bs) = refl
own_not_2 w one_tick = refl
own_not_2 w (tool slice) = refl

not_2 : (ts : List (Test ℕ)) → all (λ t. not (eqb t.answer 2)) ts ≡ true → first 0 ts ≡ 2 → ⊥
not_2 [] h e = omega arith
not_2 (t ∷ ts) h e = go t.applies e (not_2 ts (right (not (eqb t.answer 2)) _ h))
  where
    go : (b : Bool) → cond b t.answer (first 0 ts) ≡ 2 → (first 0 ts ≡ 2 → ⊥) → ⊥
    go true q ih = eqb-false t.answer 2 (not-true (eqb t.answer 2) (left _ (all (λ t. not (eqb t.answer 2)) ts) h)) q
    go false q ih = ih q

-- ==== so of any call

-- a test that gives a number does not apply where 0 is the answer
pub past : (b : Bool) (m r : ℕ) → cond b (suc m) r ≡ 0 → (b ≡ false) × (r ≡ 0)
past true m r e = absurd (omega arith)
past false m r e = (refl, e)

module _ (l : Lent) (w : World) (c : Call) where
  -- on a well formed table it is not refused with 2
  pub never_2 : l.well_formed ≡ true → refusal l w c ≡ 2 → ⊥
  unfolding refusal
  never_2 f e =
      not_2
      (ltb l.table table_least gives 1 ∷ ((does w c).asks.output && ltb l.output output_least) gives 3 ∷ (does w c).asks.own)
      (own_not_2 w c) (rw (f, and-false) at e)

  -- one that is done has passed the test of its output, and its own
  pub done : refusal l w c ≡ 0
      → (((does w c).asks.output && ltb l.output output_least) ≡ false) × (first 0 (does w c).asks.own ≡ 0)
  unfolding refusal
  done e =
      let more = (past ((does w c).asks.table && not l.well_formed) 1 _ (past (ltb l.table table_least) 0 _ e).1).1 in
      past ((does w c).asks.output && ltb l.output output_least) 2 _ more

  -- so where it asks for an output, that is long enough
  pub has_output : refusal l w c ≡ 0 → (does w c).asks.output ≡ true → ltb l.output output_least ≡ false
  has_output e a = rw a at (done e).0
