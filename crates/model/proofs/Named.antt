-- Each name has a place among the kinds, and the place its name.
use Rattle.std.proofs.Common.{arith, ◌≡◌, refl, ℕ, zero, suc, ◌<◌, length}
use Rattle.model.specs.Kinds.{kinds}
use Rattle.model.specs.declared.Kind.{Kind}
use Rattle.model.specs.declared.Kind.TheVariants.{Identifiers, Tightenings, Alarms}
use Rattle.model.specs.Named.{place_of, named}

pub place_within : (kind : Kind) → place_of kind < length kinds
place_within Identifiers = omega (arith)
place_within Tightenings = omega (arith)
place_within Alarms = omega (arith)

pub named_place : (kind : Kind) → named (place_of kind) ≡ kind
named_place Identifiers = refl
named_place Tightenings = refl
named_place Alarms = refl

pub place_named : (k : ℕ) → k < length kinds → place_of (named k) ≡ k
place_named zero within = refl
place_named (suc zero) within = refl
place_named (suc (suc zero)) within = refl
place_named (suc (suc (suc k))) within = omega (arith, within)
