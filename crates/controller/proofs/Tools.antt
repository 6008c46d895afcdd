-- A tool record by its kind: how long its payload is.
use mathlib.Core.Path.{◌≡◌, refl}
use Prim.Native.Nat.{ℕ}
use mathlib.Core.Bool.{Bool, true, false}
use mathlib.Core.List.{List}
use mathlib.Core.Option.{Option, none, some}
use lib.ListN.{length}
use Rattle.model.specs.Limits.{identifier_length}
use Rattle.model.specs.Records.{payload, good_record, tightening_items, scanned_items, alarm_items, Tool, scanned, tightening, alarm}
use Rattle.model.specs.Records.{tightening_record_kind, tightening_length, scanned_record_kind, alarm_record_kind, alarm_length, read_tool}
use Rattle.refusal.proofs.Numbers.{good_length}

abbrev pub Sized : Option Tool → ℕ → Type 0
Sized none n = Unit {0}
Sized (some (tightening x t)) n = n ≡ tightening_length
Sized (some (scanned x)) n = n ≡ identifier_length
Sized (some (alarm vs)) n = n ≡ alarm_length

-- that of a record that is good
pub good_sized : (slice : List ℕ) → Sized (read_tool slice) (length (payload slice))
unfolding read_tool
good_sized slice =
    go (good_record tightening_record_kind tightening_items slice) (good_record scanned_record_kind scanned_items slice)
    (good_record alarm_record_kind alarm_items slice) refl refl refl
  where
    go : (a b c : Bool) → good_record tightening_record_kind tightening_items slice ≡ a
        → good_record scanned_record_kind scanned_items slice ≡ b → good_record alarm_record_kind alarm_items slice ≡ c
        → Sized (read_tool slice) (length (payload slice))
    go true b c e f g = rw e (good_length tightening_record_kind tightening_items slice e)
    go false true c e f g = rw (e, f) (good_length scanned_record_kind scanned_items slice f)
    go false false true e f g = rw (e, f, g) (good_length alarm_record_kind alarm_items slice g)
    go false false false e f g = rw (e, f, g) tt
