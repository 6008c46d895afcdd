-- 01, "What the product holds": 2,048 bytes of output suffice. Whatever a call writes stands in the output that it was lent, whole, and
-- past that the output is as it was; and it goes to one of the sessions.
use mathlib.Core.Path.{◌≡◌, refl, sym, ap, ◌∙◌}
use Prim.Native.Nat.{ℕ, zero, suc, ◌+◌, ◌≤◌, ◌<◌}
use native.Mathlib.Nat.{zero-add}
use native.Mathlib.Omega.{arith}
use mathlib.Core.Bool.{Bool, true, false, true≢false}
use mathlib.Core.List.{List, [], ◌∷◌, ◌++◌}
use borrow.Author.Tests.{ltb-false}
use mathlib.Core.Option.{Option, none, some, map as option_map}
use lib.ListN.{length, take, drop}
use lib.Seq.{sets}
use Rattle.model.specs.Limits.{output_least}
use Rattle.model.specs.Records.{Settings, read_settings}
use Rattle.model.specs.Session.{Emission}
use Rattle.model.specs.World.{World, Moment, begins, each, next, after, emitted}
use Rattle.model.specs.Calls.{Call, start, open_session, hang_up_session, bytes, one_tick, tool, does, at_most_one, moments, output, Lent}
use Rattle.model.specs.Calls.{refusal, answered, step}
use Rattle.model.specs.Row.{Tagged, tag, said as row_said}
use Rattle.model.specs.Wire.{Every}
use Rattle.model.proofs.Framed.{every_append}
use Rattle.model.proofs.RowLaws.{length_row}
use Rattle.model.proofs.Refusals.{has_output}
use Rattle.text.proofs.Lists.{take_sets, drop_sets_after}
use Rattle.controller.specs.declared.Answer.{Answer}
use Rattle.controller.specs.Layout.{Layout, ours}
use Rattle.controller.specs.Contract.{lent_in, said_in, OutcomeIn, Outcome}
use Rattle.controller.proofs.Calls.{start_silent}

-- what is written is as long as the answer says
pub written_is : (w : World) (c : Call) (n : ℕ) → (answered w c n).1.written ≡ length (output (answered w c n).2)
written_is w c zero = refl
written_is w c (suc n) = refl

-- one that asks for no output writes nothing
pub silent : (w : World) (c : Call) → (does w c).asks.output ≡ false → output (emitted w (moments w c)) ≡ []
silent w (start slice) e = go (read_settings slice)
  where
    go : (o : Option Settings) → output (emitted w (at_most_one (option_map begins o) ++ [])) ≡ []
    go none = refl
    go (some st) = ap (λ (es : List (Tagged Emission)). output (es ++ [])) (start_silent w st)
silent w (open_session s) e = absurd (true≢false e)
silent w (hang_up_session s) e = absurd (true≢false e)
silent w (bytes s bs) e = absurd (true≢false e)
silent w one_tick e = absurd (true≢false e)
silent w (tool slice) e = absurd (true≢false e)

module _ (l : Lent) (w : World) (c : Call) where
  -- a call that is done has room for it
  room : (k : ℕ) → refusal l w c ≡ 0 → k ≡ length (output (emitted w (moments w c))) → k ≤ output_least → k ≤ l.output
  room k e q h = go (does w c).asks.output refl
    where
      go : (b : Bool) → (does w c).asks.output ≡ b → k ≤ l.output
      go true a = omega (arith, ltb-false l.output output_least (has_output l w c e a))
      go false a = omega (arith, q, ap length (silent w c a))

-- in any layout
pub so_long : {layout : Layout} {c : Call} {t o : List ℕ} {r : Answer} {t' o' : List ℕ} → OutcomeIn layout c t o r t' o'
    → r.written ≡ length (output (said_in layout c t o).2)
unfolding step
so_long {layout = layout} {c = c} {t = t} {o = o} out =
    let w = layout.decode t in
    ap (λ (a : Answer). a.written) out.answer ∙ written_is w c (refusal (lent_in layout t (length o)) w c)

-- what a call says has a place
pub record StandsIn (layout : Layout) (c : Call) (t o : List ℕ) (r : Answer) (o' : List ℕ) : Type 0 where
  pub within : r.written ≤ length o
  pub records : take r.written o' ≡ output (said_in layout c t o).2
  pub behind : drop r.written o' ≡ drop r.written o

abbrev pub Stands : Call → List ℕ → List ℕ → Answer → List ℕ → Type 0
Stands c t o r o' = StandsIn ours c t o r o'

pub stands_in : {layout : Layout} {c : Call} {t o : List ℕ} {r : Answer} {t' o' : List ℕ} → OutcomeIn layout c t o r t' o'
    → StandsIn layout c t o r o'
unfolding step
stands_in {layout = layout} {c = c} {t = t} {o = o} {r = r} {t' = t'} {o' = o'} out =
    let bs = output (said_in layout c t o).2 in
    let n : r.written ≡ length bs = so_long out in
    let h : r.written ≤ length o = go (lent_in layout t (length o)) (layout.decode t) _ refl n in
    record {
      within = h;
      records =
          ap (take r.written) out.output ∙ ap (λ (k : ℕ). take k (sets o 0 bs)) (n ∙ sym (zero-add _))
          ∙ take_sets bs o 0 (omega arith);
      behind = ap (drop r.written) out.output ∙ drop_sets_after bs o 0 r.written (omega arith);
    }
  where
    go : (l : Lent) (w : World) (m : ℕ) → refusal l w c ≡ m → r.written ≡ length (output (answered w c (refusal l w c)).2)
        → r.written ≤ l.output
    go l w zero e q = room l w c r.written e (q ∙ ap (λ (k : ℕ). length (output (answered w c k).2)) e) out.fits
    go l w (suc m) e q = let z = q ∙ ap (λ (k : ℕ). length (output (answered w c k).2)) e in omega arith

pub stands : {c : Call} {t o : List ℕ} {r : Answer} {t' o' : List ℕ} → Outcome c t o r t' o' → Stands c t o r o'
stands out = stands_in out

-- ==== whatever goes out goes to one of the sessions

abbrev pub Below : {E : Type 0} → ℕ → List (Tagged E) → Type 0
Below n xs = Every (λ x. x.who < n) xs

below_tag : {E : Type 0} (n i : ℕ) (es : List E) → i < n → Below n (tag i es)
below_tag n i [] h = tt
below_tag n i (e ∷ es) h = (h, below_tag n i es h)

pub below_said : {X E : Type 0} (act : ℕ → X → X × List E) (n i : ℕ) (xs : List X) → i + length xs ≤ n → Below n (row_said act i xs)
below_said act n i [] h = tt
below_said act n i (x ∷ xs) h =
    every_append (λ t. t.who < n) (tag i (act i x).1) (row_said act (suc i) xs) (below_tag n i (act i x).1 (omega arith))
    (below_said act n (suc i) xs (omega arith))

-- there are as many sessions as before, however many that are
module _ (n : ℕ) where
  still_many : (w : World) (m : Moment) → length w.sessions ≡ n → length (next w m).sessions ≡ n
  still_many w m h = length_row (each w m) 0 w.sessions ∙ h

  many_after : (w : World) (ms : List Moment) → length w.sessions ≡ n → length (after w ms).sessions ≡ n
  many_after w [] h = h
  many_after w (m ∷ ms) h = many_after (next w m) ms (still_many w m h)

  below_emitted : (w : World) (ms : List Moment) → length w.sessions ≡ n → Below n (emitted w ms)
  below_emitted w [] h = tt
  below_emitted w (m ∷ ms) h =
      every_append (λ t. t.who < n) (row_said (each w m) 0 w.sessions) (emitted (next w m) ms)
      (below_said (each w m) n 0 w.sessions (omega arith)) (below_emitted (next w m) ms (still_many w m h))

  pub answered_below : (w : World) (c : Call) (k : ℕ) → length w.sessions ≡ n → Below n (answered w c k).2
  answered_below w c zero h = below_emitted w (moments w c) h
  answered_below w c (suc k) h = tt

  answered_many : (w : World) (c : Call) (k : ℕ) → length w.sessions ≡ n → length (answered w c k).0.sessions ≡ n
  answered_many w c zero h = many_after w (moments w c) h
  answered_many w c (suc k) h = h

  module _ (l : Lent) (w : World) (c : Call) (h : length w.sessions ≡ n) where
    pub step_below : Below n (step l w c).2
    unfolding step
    step_below = answered_below w c (refusal l w c) h

    pub step_many : length (step l w c).0.sessions ≡ n
    unfolding step
    step_many = answered_many w c (refusal l w c) h
