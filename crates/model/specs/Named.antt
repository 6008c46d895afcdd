-- The kinds of notice by the names that the code has for them.
use Rattle.std.specs.Prelude.{ℕ, zero, suc}
use Rattle.model.specs.declared.Kind.{Kind}
use Rattle.model.specs.declared.Kind.TheVariants.{Identifiers, Tightenings, Alarms}
use Rattle.model.specs.Kinds.{identifiers, tightenings, alarms}

-- the place of each in the list of kinds
abbrev pub place_of : Kind → ℕ
place_of Identifiers = identifiers
place_of Tightenings = tightenings
place_of Alarms = alarms

-- and which has its place; whatever is past the last means the last
abbrev pub named : ℕ → Kind
named zero = Identifiers
named (suc zero) = Tightenings
named _ = Alarms
