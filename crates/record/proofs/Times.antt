-- A time, place by place.
use Rattle.std.proofs.Common.{◌≡◌, refl, sym, ℕ, zero, suc, ◌+◌, ◌<◌, ◌↔◌, Bool, true, false, List, [], ◌∷◌, length, get_or, arith}
use Rattle.std.proofs.Math.Bool.{and-eq-true_iff}
use Rattle.model.specs.Records.{good_in_time, is_time_from}

-- every byte is good where it stands, the first at this place
abbrev Good : ℕ → List ℕ → Type 0
Good place bs = (k at : ℕ) → k < length bs → k + place ≡ at → good_in_time at (get_or bs k 0) ≡ true

good_time : (place : ℕ) (bs : List ℕ) → Good place bs → is_time_from place bs ≡ true
good_time place [] h = refl
good_time place (b ∷ bs) h =
    (and-eq-true_iff _ _).1 (
      h 0 place (omega arith) (omega arith),
      good_time (suc place) bs (λ k at l p. h (suc k) at (omega arith) (omega arith)),
    )

time_good : (place : ℕ) (bs : List ℕ) → is_time_from place bs ≡ true → Good place bs
time_good place [] e k at l p = absurd (omega arith)
time_good place (b ∷ bs) e zero at l p =
    let n : place ≡ at = omega arith in rw (← n) ((and-eq-true_iff _ _).0 e).0
time_good place (b ∷ bs) e (suc k) at l p =
    time_good (suc place) bs ((and-eq-true_iff _ _).0 e).1 k at (omega arith) (omega arith)

-- so what says whether every byte is good says whether they are a time
pub by_places : (bs : List ℕ) (b : Bool) → (b ≡ true) ↔ ((k : ℕ) → k < length bs → good_in_time (k + 1) (get_or bs k 0) ≡ true)
    → b ≡ is_time_from 1 bs
by_places bs true h = sym (good_time 1 bs (λ k at l p. rw (← p) (h.0 refl k l)))
by_places bs false h = go (is_time_from 1 bs) refl
  where
    go : (t : Bool) → is_time_from 1 bs ≡ t → false ≡ t
    go true e = h.1 (λ k l. time_good 1 bs e k (k + 1) l refl)
    go false e = refl
