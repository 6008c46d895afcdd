-- What this crate's inner functions leave, from which the contracts of the public ones are proved.
use Rattle.std.specs.Prelude.{ℕ, Bool, true, false, List, [], ◌∷◌, Option, Some, None}
use Rattle.std.proofs.Math.Option.{Option as Maybe, none, some}
use Rattle.model.specs.Tests.{first}
use Rattle.model.specs.Messages.{Entry, entry, Revisions, not_read, revisions, Effect, Error, Standing, own_test}
use Rattle.message.specs.Meaning.{effect_in}
use Rattle.message.specs.declared.Span.{Span}
use Rattle.message.specs.declared.Row.{Row}

-- ==== 01, "What a message does", the table

-- the revisions between the ends, if they are read
abbrev pub revision_in : Option Span → Revisions
revision_in None = not_read
revision_in (Some span) = revisions span.0 span.1

-- the model's entry that a row of the code's table is
abbrev pub entry_in : Row → Entry
entry_in r = entry r.mid r.length.0 r.length.1 (revision_in r.revision) (effect_in r.effect)

-- whether a message is listed
abbrev pub is_listed : Maybe Entry → Bool
is_listed none = false
is_listed (some e) = true

-- ==== 01, "What a message does", the last of the tests, the message's own

abbrev pub own_error_in : Standing → Effect → List ℕ → Maybe Error
own_error_in x e bs = first none (own_test x e bs ∷ [])
