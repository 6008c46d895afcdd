-- A list as cells of equal size.
use Rattle.std.specs.Prelude.{ℕ, zero, suc, List, [], ◌∷◌, take, drop}

-- n cells of k elements, from the list's start, each read by f
unfoldable pub cells : {A : Type 0} → (List ℕ → A) → ℕ → ℕ → List ℕ → List A
cells f k zero l = []
cells f k (suc n) l = f (take k l) ∷ cells f k n (drop k l)
