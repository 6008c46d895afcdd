-- 01, "Runs and headers": what a call left is handed to the next, and that comes to the same as reading the bytes uncut.
use mathlib.Core.Path.{◌≡◌, refl, sym, ap, ◌∙◌}
use Prim.Native.Nat.{ℕ, zero, suc, ◌<◌}
use native.Mathlib.Omega.{arith}
use mathlib.Core.Bool.{Bool, true, false, not, cond}
use mathlib.Core.List.{List, [], ◌∷◌, ◌++◌, map, map-append, append_assoc, append-nil}
use lib.Dec.{eqb, eqb-suc-zero}
use lib.ListN.{length, drop, length-drop}
use borrow.Author.Tests.{eq-eqb}
use Rattle.model.specs.Limits.{table_least, output_least}
use Rattle.model.specs.Bytes.{space, digits}
use Rattle.model.specs.Runs.{cut, consumed_by}
use Rattle.model.specs.World.{World}
use Rattle.model.specs.Calls.{bytes, Lent, Answer, refusal, answered, step}
use Rattle.model.specs.Slices.{Upshot, and_then, read_within, read_all}
use Rattle.model.specs.Program.{State, line_of, lent, called, fed}
use Rattle.model.proofs.Cuts.{consumes, read_on}
use Rattle.controller.specs.Contract.{Said}
use Rattle.replay.proofs.Fed.{fed_next}

-- the line of the last call's refusal, and none where it is done
abbrev refusal_line : ℕ → List (List ℕ)
refusal_line n = cond (eqb n 0) [] ((0x52 ∷ space ∷ digits 1 n) ∷ [])

-- the world after the bytes are read uncut, and the lines of what goes out meanwhile
pub record Uncut (x : State) (s : ℕ) (bs : List ℕ) (y : State) : Type 0 where
  pub number : ℕ
  pub world : y.world ≡ (read_all (lent x) x.world s bs).world
  pub lines : y.lines ≡ x.lines ++ (map line_of (read_all (lent x) x.world s bs).emissions ++ refusal_line number)

-- ==== a call that is refused, and one that is done

abbrev refused_answer : ℕ → Answer
refused_answer n = record { number = n; consumed = 0; written = 0; taken = 0 }

-- whether a call is refused does not hang on the bytes
abbrev number_of : Lent → World → ℕ → ℕ
number_of l w s = refusal l w (bytes s [])

module _ (l : Lent) (w : World) (s : ℕ) where
  one_step : (n : ℕ) (bs : List ℕ) → number_of l w s ≡ n → step l w (bytes s bs) ≡ answered w (bytes s bs) n
  unfolding step refusal
  one_step n bs e = ap (answered w (bytes s bs)) e

  nothing_read : (calls n : ℕ) (bs : List ℕ) → number_of l w s ≡ suc n → read_within calls l w s bs ≡ record { world = w; emissions = [] }
  unfolding read_within
  nothing_read zero n bs e = refl
  nothing_read (suc calls) n [] e = refl
  nothing_read (suc calls) n (b ∷ bs) e =
      ap (λ (r : Said). and_then r.2 (read_within calls l r.0 s (drop r.1.consumed (b ∷ bs)))) (one_step (suc n) (b ∷ bs) e)
      ∙ nothing_read calls n (b ∷ bs) e

module _ (x : State) (s b : ℕ) (bs : List ℕ) where
  abbrev read_whole : Upshot
  read_whole = read_all (lent x) x.world s (b ∷ bs)

  abbrev the_step : Said
  the_step = step (lent x) x.world (bytes s (b ∷ bs))

  abbrev next_state : State
  next_state = called x (bytes s (b ∷ bs))

  uncut_refused : (m n : ℕ) → number_of (lent x) x.world s ≡ suc n → Uncut x s (b ∷ bs) (fed (suc m) x s (b ∷ bs))
  uncut_refused m n e =
      let q : the_step ≡ answered x.world (bytes s (b ∷ bs)) (suc n) = one_step (lent x) x.world s (suc n) (b ∷ bs) e in
      let none = nothing_read (lent x) x.world s (length (b ∷ bs)) n (b ∷ bs) e in
      let ends : fed (suc m) x s (b ∷ bs) ≡ next_state =
      fed_next m s x (b ∷ bs) (b ∷ bs) (refused_answer (suc n)) false (ap (λ (r : Said). r.1) q) refl (rw (eqb-suc-zero n)) in
      record { number = suc n; world = cc; lines = cc }

  -- what a call that is done leaves is read on
  module _ (m : ℕ) (e : number_of (lent x) x.world s ≡ 0) where
    -- it is done only where the table is well formed
    was_formed : x.formed ≡ true
    unfolding refusal
    was_formed = go x.formed e
      where
        go : (t : Bool) → number_of (record { table = table_least; well_formed = t; output = output_least }) x.world s ≡ 0 → t ≡ true
        go true z = refl
        go false z = absurd (omega arith)

    is_done : the_step.1.number ≡ 0
    is_done = ap (λ (r : Said). r.1.number) (one_step (lent x) x.world s 0 (b ∷ bs) e)

    consumed_is : the_step.1.consumed ≡ consumed_by (cut (b ∷ bs))
    consumed_is = ap (λ (r : Said). r.1.consumed) (one_step (lent x) x.world s 0 (b ∷ bs) e)

    first_lines : next_state.lines ≡ x.lines ++ map line_of the_step.2
    first_lines = rw (eq-eqb the_step.1.number 0 is_done)

    uncut_on : (rest : List ℕ) (y : State) → rest ≡ drop the_step.1.consumed (b ∷ bs)
        → cond (not (eqb (length rest) 0)) (fed m next_state s rest) next_state ≡ y → Uncut next_state s rest y
        → Uncut x s (b ∷ bs) (fed (suc m) x s (b ∷ bs))
    uncut_on rest y d f ih =
        let on : fed (suc m) x s (b ∷ bs) ≡ y =
        fed_next m s x (b ∷ bs) rest the_step.1 (not (eqb (length rest) 0)) refl d (rw (eq-eqb the_step.1.number 0 is_done)) ∙ f in
        let same : lent next_state ≡ lent x = rw was_formed in
        let all : read_whole ≡ and_then the_step.2 (read_all (lent next_state) the_step.0 s rest) =
        read_on (lent x) s x.world b bs ∙ cc in
        record {
          number = ih.number;
          world = cc;
          lines = ap (λ (z : State). z.lines) on ∙ ih.lines ∙ rw (first_lines, all) (simp (map-append, append_assoc));
        }

-- nothing is left
uncut_none : (x : State) (s : ℕ) → Uncut x s [] x
unfolding read_within
uncut_none x s = record { number = 0; world = refl; lines = sym (append-nil x.lines) }

-- UNCUT: what the model's program does with received bytes is to read them uncut
pub uncut : (m : ℕ) (x : State) (s b : ℕ) (bs : List ℕ) → length (b ∷ bs) < m → Uncut x s (b ∷ bs) (fed m x s (b ∷ bs))
uncut zero x s b bs h = absurd (omega arith)
uncut (suc m) x s b bs h = go (number_of (lent x) x.world s) refl (λ (y : State) (z : ℕ) (zs : List ℕ). uncut m y s z zs)
  where
    go : (n : ℕ) → number_of (lent x) x.world s ≡ n
        → ((y : State) (z : ℕ) (zs : List ℕ) → length (z ∷ zs) < m → Uncut y s (z ∷ zs) (fed m y s (z ∷ zs)))
        → Uncut x s (b ∷ bs) (fed (suc m) x s (b ∷ bs))
    go (suc n) e ih = uncut_refused x s b bs m n e
    go zero e ih = on (drop (the_step x s b bs).1.consumed (b ∷ bs)) refl
      where
        on : (rest : List ℕ) → rest ≡ drop (the_step x s b bs).1.consumed (b ∷ bs) → Uncut x s (b ∷ bs) (fed (suc m) x s (b ∷ bs))
        on [] d = uncut_on x s b bs m e [] _ d refl (uncut_none (next_state x s b bs) s)
        on (z ∷ zs) d =
            let few = length-drop (the_step x s b bs).1.consumed (b ∷ bs) in
            uncut_on x s b bs m e (z ∷ zs) _ d (rw (eqb-suc-zero (length zs)))
            (ih (next_state x s b bs) z zs (omega (arith, consumed_is x s b bs m e, consumes b bs, ap length d)))
