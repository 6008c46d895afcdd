-- 02, P2: the tightenings that are kept, the newest first, and the one that is asked for by its number.
use Rattle.std.specs.Prelude.{ℕ, Bool, true, false, cond, List, [], ◌∷◌, eqb, take}
use Rattle.std.proofs.Math.Option.{Option, none, some}
use Rattle.model.specs.Limits.{results_kept}
use Rattle.model.specs.Events.{Result}

-- one more: the oldest is gone where there would be too many
abbrev pub kept_with : Result → List Result → List Result
kept_with r rs = take results_kept (r ∷ rs)

-- the one that has that number
abbrev pub numbered : ℕ → List Result → Option Result
numbered n [] = none
numbered n (r ∷ rs) = let more = numbered n rs in cond (eqb r.number n) (some r) more

abbrev pub newest : List Result → Option Result
newest [] = none
newest (r ∷ rs) = some r

-- the one that is asked for: 0 asks for the newest
unfoldable pub asked_for : ℕ → List Result → Option Result
asked_for n rs = cond (eqb n 0) (newest rs) (numbered n rs)

abbrev pub is_there : Option Result → Bool
is_there none = false
is_there (some r) = true

abbrev pub is_kept : List Result → ℕ → Bool
is_kept rs n = is_there (asked_for n rs)
