-- What the writer of each frame's data leaves is that frame's data.
use mathlib.Core.Path.{◌≡◌, refl, sym, ap, subst, ◌∙◌}
use Prim.Native.Nat.{ℕ, suc, ◌+◌, ◌-◌, ◌≤◌, ◌<◌}
use native.Mathlib.Omega.{arith}
use mathlib.Core.Bool.{true, false}
use mathlib.Core.List.{List, append-nil, ◌++◌}
use lib.ListN.{length, get_or}
use lib.Seq.{take-add, take_all}
use Rattle.model.specs.Limits.{identifier_length}
use Rattle.model.specs.Bytes.{digits}
use Rattle.model.specs.Records.{scanned_items, result_items, alarm_items}
use Rattle.model.specs.Layouts.{Row, Layout, layouts_0052, layouts_0061, layout_at, first_of, identifier_rows}
use Rattle.model.specs.Layouts.{result_rows, alarm_rows, later_rows, older_counts, newest_count, later_count}
use Rattle.model.specs.Layouts.{characters, data_from, data_of, data_length}
use Rattle.model.specs.Kinds.{identifiers, tightenings, kind_at}
use Rattle.model.specs.Named.{place_of}
use Rattle.model.specs.declared.Kind.{Kind}
use Rattle.model.specs.declared.Kind.TheVariants.{Identifiers, Tightenings, Alarms}
use Rattle.model.proofs.Revisions.{later_layout, count_grows}
use Rattle.text.specs.Put.{Put, Written}
use Rattle.text.proofs.Puts.{put_as}
use Rattle.frame.specs.Places.{place_items, place_size}
use Rattle.frame.specs.Layout.{Payloads, held, told_values, DataPut, FieldsPut, FixedPut, later, added, data_in}
use Rattle.frame.specs.declared.Content.{Content}
use Rattle.frame.specs.declared.Content.TheVariants.{Refused, Accepted, Notice}
use Rattle.frame.specs.declared.Asked.{Asked}
use Rattle.frame.proofs.Fields.{fields_then, fixed}

-- ==== notices, by kind and revision

abbrev layout : ℕ → ℕ → Layout
layout kind revision = layout_at (kind_at kind).layouts revision

first_0052 : (revision : ℕ) → revision < 2 → layout identifiers revision ≡ first_of identifier_rows false 1
first_0052 revision h =
    let e : revision - 1 ≡ 0 = omega arith in ap (λ (k : ℕ). get_or layouts_0052.older k layouts_0052.newest) e

later_0052 : (revision : ℕ) → 2 ≤ revision → layout identifiers revision ≡ first_of identifier_rows true 4
later_0052 revision h =
    let e : revision - 1 ≡ suc (revision - 2) = omega arith in ap (λ (k : ℕ). get_or layouts_0052.older k layouts_0052.newest) e

first_0061 : (revision : ℕ) → revision < 2 → layout tightenings revision ≡ first_of result_rows true 23
first_0061 revision h =
    let e : revision - 1 ≡ 0 = omega arith in ap (λ (k : ℕ). get_or layouts_0061.older k layouts_0061.newest) e

-- from revision 2 on: the fields of that one, and what is added
later_0061 : (revision : ℕ) → 2 ≤ revision → layout tightenings revision ≡ record { numbered = true; rows = later 1 46 ++ added revision }
later_0061 revision h =
    let n = later_count revision in
    let e : n ≡ 46 + (n - 46) = let l = count_grows 2 revision h in omega arith in
    later_layout revision h
    ∙ ap (λ (k : ℕ). first_of later_rows true k) e
    ∙ ap (λ (rows : List Row). record { numbered = true; rows = rows }) (take-add 46 (n - 46) later_rows)

-- ==== what is added: above the newest revision no more than of that

module _ {o o' : List ℕ} {at r : ℕ} (revision : ℕ) where
  added_as : (count : ℕ) → later_count revision ≡ count → FixedPut 47 (later 47 (count - 46)) o at r o'
      → FixedPut 47 (added revision) o at r o'
  added_as count e w = subst (λ (k : ℕ). FixedPut 47 (later 47 (k - 46)) o at r o') (sym e) w

  -- of one that is another, as far as any is below 2
  pub added_of : (same : ℕ) → revision - 2 ≡ same - 2 → FixedPut 47 (added same) o at r o' → FixedPut 47 (added revision) o at r o'
  added_of same e w = added_as (later_count same) (ap (λ (k : ℕ). get_or older_counts k newest_count) e) w

  pub added_newest : 6 ≤ revision → FixedPut 47 (added 6) o at r o' → FixedPut 47 (added revision) o at r o'
  added_newest h w =
      let e : revision - 2 ≡ suc (suc (suc (suc (revision - 6)))) = omega arith in
      added_as newest_count (ap (λ (k : ℕ). get_or older_counts k newest_count) e) w

module _ (b : Payloads) {o o' : List ℕ} {at r : ℕ} where
  -- the data of a notice, as it is asked for, was written by that layout
  by_layout : (asked : Asked) (kind : Kind) {l : Layout} → asked.kind ≡ kind → layout (place_of kind) asked.revision ≡ l
      → Written o at (data_length l) (data_of l (held (place_items (place_of kind)) b)) r o' → DataPut (Notice asked) b o at r o'
  unfolding data_in
  by_layout asked kind {l} e f w =
      let rev = asked.revision in
      subst (λ (k : Kind). Written o at (data_length (layout (place_of k) rev))
      (data_of (layout (place_of k) rev) (held (place_items (place_of k)) b)) r o') (sym e)
      (subst (λ (m : Layout). Written o at (data_length m) (data_of m (held (place_items (place_of kind)) b)) r o') (sym f) w)

  module _ (asked : Asked) where
    pub identifier_alone : asked.kind ≡ Identifiers → asked.revision < 2 → length b.told ≡ place_size (place_of asked.kind)
        → Put o at b.told r o' → DataPut (Notice asked) b o at r o'
    unfolding data_from characters digits
    identifier_alone e h l p =
        let n : length b.told ≡ identifier_length = l ∙ ap (λ (k : Kind). place_size (place_of k)) e in
        by_layout asked Identifiers e (first_0052 asked.revision h) (record {
          place = let z = p.place in omega arith;
          put = put_as (sym (append-nil _ ∙ take_all identifier_length b.told (omega arith))) p;
        })

    pub identifier_parts : asked.kind ≡ Identifiers → 2 ≤ asked.revision
        → FieldsPut (told_values scanned_items b.told) 1 identifier_rows o at r o' → DataPut (Notice asked) b o at r o'
    unfolding data_from characters
    identifier_parts e h w = by_layout asked Identifiers e (later_0052 asked.revision h) w

    pub result_fields : asked.kind ≡ Tightenings → asked.revision < 2
        → FieldsPut (held result_items b) 1 result_rows o at r o' → DataPut (Notice asked) b o at r o'
    result_fields e h w = by_layout asked Tightenings e (first_0061 asked.revision h) w

    -- the fields of revision 2, and what is added behind them
    pub revised_fields : {o₁ : List ℕ} {r₁ : ℕ} → asked.kind ≡ Tightenings → 2 ≤ asked.revision
        → FieldsPut (held result_items b) 1 (later 1 46) o at r₁ o₁ → FixedPut 47 (added asked.revision) o₁ r₁ r o'
        → DataPut (Notice asked) b o at r o'
    revised_fields e h v w =
        let x = held result_items b in
        by_layout asked Tightenings e (later_0061 asked.revision h)
        (fields_then x 1 (later 1 46) (added asked.revision) v (fixed w x))

    pub alarm_fields : asked.kind ≡ Alarms → FieldsPut (told_values alarm_items b.told) 1 alarm_rows o at r o'
        → DataPut (Notice asked) b o at r o'
    unfolding data_from characters
    alarm_fields e w = by_layout asked Alarms e refl w

  -- ==== replies

  -- of a content that is another
  pub data_as : {content content' : Content} → content ≡ content' → DataPut content' b o at r o' → DataPut content b o at r o'
  data_as e w = subst (λ (x : Content). DataPut x b o at r o') (sym e) w

  pub refused : (mid error : ℕ) → Written o at 6 (digits 4 mid ++ digits 2 error) r o' → DataPut (Refused mid error) b o at r o'
  unfolding data_in data_from characters digits
  refused mid error w = w

  pub accepted : (mid : ℕ) → (r ≡ at + 4) × Put o at (digits 4 mid) r o' → DataPut (Accepted mid) b o at r o'
  unfolding data_in data_from characters digits
  accepted mid w = record { place = w.0; put = w.1 }
