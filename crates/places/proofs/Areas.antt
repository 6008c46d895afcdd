-- A place in its bytes: it fits, and the others stand apart from it.
use mathlib.Core.Path.{◌≡◌, refl}
use Prim.Native.Nat.{ℕ, ◌+◌, ◌*◌, ◌≤◌, ◌<◌}
use native.Mathlib.Omega.{arith}
use mathlib.Core.List.{List}
use lib.Dec.{leb}
use mathlib.Core.Bool.{Bool, true, false}
use lib.ListN.{length, drop, length-drop}
use lib.Seq.{sets, length-sets, length-take-le}
use borrow.Author.Tests.{leb-true, leb-false}
use Rattle.model.specs.Kinds.{tightenings}
use Rattle.text.specs.Put.{Put}
use Rattle.text.proofs.Cells.{stored_same, stored_before, stored_after}
use Rattle.frame.specs.Places.{place_size}
use Rattle.places.specs.Places.{place_count, places_size, place_in, Putting, Puts}

pub place_fits : (p : ℕ) → p < place_count → p * place_size tightenings + place_size tightenings ≤ places_size
place_fits p h = omega arith

pub place_long : (p : ℕ) (a : List ℕ) → length a ≡ places_size → p < place_count → length (place_in p a) ≡ place_size tightenings
place_long p a s h =
    let f = place_fits p h in
    length-take-le (place_size tightenings) (drop (p * place_size tightenings) a)
    (rw (length-drop (p * place_size tightenings) a) (omega arith))

module _ (p : ℕ) (result a : List ℕ) (k : Putting p result a) where
  abbrev size : ℕ
  size = place_size tightenings

  pub fits : p * size + size ≤ length a
  fits = rw k.size (place_fits p k.place)

  apart : (q : ℕ) → (q ≡ p → ⊥) → (b : Bool) → leb q p ≡ b → place_in q (sets a (p * size) result) ≡ place_in q a
  apart q ne true e =
      let h = leb-true q p e in
      stored_before (p * size) size a result k.whole fits (q * size) size (omega (arith, ne))
  apart q ne false e =
      let h = leb-false q p e in
      stored_after (p * size) size a result k.whole fits (q * size) size (omega arith)

  pub is_put : {next : ℕ} {a' : List ℕ} → Put a (p * size) result next a' → Puts p result a a'
  is_put w = rw w.output record {
    size = length-sets a (p * size) result;
    there = stored_same (p * size) size a result k.whole fits;
    others = λ q ne. apart q ne (leb q p) refl;
  }
