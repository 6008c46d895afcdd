-- 02, P7: which places are free. Each list is the places that one session has open or waiting.
use Rattle.std.specs.Prelude.{◌≡◌, ℕ, suc, ◌<◌, Bool, not, cond, List, [], ◌∷◌, eqb, set, length, Option}
use Rattle.std.specs.Option.{MatchOption}
use Rattle.model.specs.Bytes.{all}

-- none of them is p
abbrev pub lacks : ℕ → List ℕ → Bool
lacks p held = all (λ q. not (eqb q p)) held

-- 02, P7: a place is free when no session has it open or waiting
abbrev pub is_free : ℕ → List (List ℕ) → Bool
is_free p each = all (lacks p) each

-- ==== how it is found: each place that a session holds is marked, and the first without a mark is free

unfoldable pub marked : List ℕ → List ℕ → List ℕ
marked used [] = used
marked used (p ∷ held) = marked (set used p 1) held

unfoldable pub marked_by_all : List ℕ → List (List ℕ) → List ℕ
marked_by_all used [] = used
marked_by_all used (held ∷ each) = marked_by_all (marked used held) each

unfoldable pub first_free : List ℕ → ℕ
first_free [] = 0
first_free (u ∷ used) = cond (eqb u 0) 0 (suc (first_free used))

-- the first without a mark, if there is one
abbrev pub FirstFree : List ℕ → Option ℕ → Type 0
FirstFree used first = MatchOption first (first_free used ≡ length used) (λ p. (p ≡ first_free used) × (p < length used))
