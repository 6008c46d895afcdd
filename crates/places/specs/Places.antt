-- 02, P7: the places that all sessions share, in their bytes, one behind the other. docs/TABLE.md has the map.
use Rattle.std.specs.Prelude.{◌≡◌, ℕ, ◌*◌, ◌<◌, Bool, List, ltb, length, take, drop}
use Rattle.model.specs.Kinds.{tightenings}
use Rattle.frame.specs.Places.{place_size}

-- 02, P7: so many
abbrev pub place_count : ℕ
place_count = 32

-- the number of one
abbrev pub is_place : ℕ → Bool
is_place p = ltb p place_count

abbrev pub places_size : ℕ
places_size = place_count * place_size tightenings

-- the result in place p
abbrev pub place_in : ℕ → List ℕ → List ℕ
place_in p a = take (place_size tightenings) (drop (p * place_size tightenings) a)

-- ==== a result is put in place p

pub record Putting (p : ℕ) (result a : List ℕ) : Type 0 where
  pub size : length a ≡ places_size
  pub place : p < place_count
  pub whole : length result ≡ place_size tightenings

-- it stands there, and the other places are as they were
pub record Puts (p : ℕ) (result a a' : List ℕ) : Type 0 where
  pub size : length a' ≡ length a
  pub there : place_in p a' ≡ result
  pub others : (q : ℕ) → (q ≡ p → ⊥) → place_in q a' ≡ place_in q a
