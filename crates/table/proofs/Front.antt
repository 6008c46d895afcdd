-- Only the first bytes of a table have a meaning: it means the same, and is as well formed, whatever stands past those that are used.
use Prim.Native.Nat.{ℕ, ◌-◌, ◌≤◌}
use mathlib.Core.Path.{◌≡◌, sym, ◌∙◌, ap, ap₂}
use mathlib.Core.Bool.{Bool, ◌&&◌}
use mathlib.Core.List.{List, ◌++◌}
use native.Mathlib.Omega.{arith}
use native.Mathlib.Nat.{le_refl}
use lib.ListN.{length, take, drop}
use lib.Seq.{take-take, take-append-le, take-length}
use Rattle.model.specs.Limits.{session_count}
use Rattle.model.specs.Bytes.{all}
use Rattle.model.specs.Session.{Session}
use Rattle.text.proofs.Lists.{drop-take}
use Rattle.text.proofs.Areas.{areas_same}
use Rattle.shared.specs.Shared.{shared_size, shared_formed}
use Rattle.region.specs.Region.{region_size, session_of, region_formed}
use Rattle.places.specs.Places.{places_size}
use Rattle.table.specs.Table.{shared_area, places_area, region_at, regions, table_used, reading, reading_in, shared_of, decode}
use Rattle.table.specs.Table.{table_formed}

module _ (m : ℕ) (t : List ℕ) (h : table_used ≤ m) where
  area : shared_area (take m t) ≡ shared_area t
  area = take-take shared_size m t (omega arith)

  places : places_area (take m t) ≡ places_area t
  places =
      ap (take places_size) (drop-take shared_size m t (omega arith))
      ∙ take-take places_size (m - shared_size) (drop shared_size t) (omega arith)

  parts : {A : Type 0} (f : List ℕ → A) → regions f (take m t) ≡ regions f t
  parts f =
      areas_same (λ (s : ℕ). f) region_at (λ (s : ℕ). region_size) t (take m t) 0 session_count
      (λ j p q. ap (take region_size) (drop-take (region_at j) m t (omega arith))
      ∙ take-take region_size (m - region_at j) (drop (region_at j) t) (omega arith))

  pub decode_take : decode (take m t) ≡ decode t
  unfolding decode
  decode_take =
      ap₂ (λ (a : List ℕ) (xs : List Session). record { shared = shared_of a; sessions = xs }) area
      (ap (λ (a : List ℕ). regions (session_of (reading a)) (take m t)) places ∙ parts (session_of (reading_in t)))

  pub formed_take : table_formed (take m t) ≡ table_formed t
  unfolding table_formed
  formed_take = ap₂ (λ (a : List ℕ) (bs : List Bool). shared_formed a && all (λ formed. formed) bs) area (parts region_formed)

module _ (xs ys : List ℕ) (h : table_used ≤ length xs) where
  front : take (length xs) (xs ++ ys) ≡ xs
  front = take-append-le (length xs) xs ys (le_refl (length xs)) ∙ take-length xs

  pub decode_front : decode (xs ++ ys) ≡ decode xs
  decode_front = sym (decode_take (length xs) (xs ++ ys) h) ∙ ap decode front

  pub formed_front : table_formed (xs ++ ys) ≡ table_formed xs
  formed_front = sym (formed_take (length xs) (xs ++ ys) h) ∙ ap table_formed front
