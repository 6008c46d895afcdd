-- Frames in their output records, and which of the model's frames each is.
use mathlib.Core.Path.{◌≡◌, refl, sym, ap, subst}
use Prim.Native.Nat.{ℕ, suc, ◌+◌, ◌-◌, ◌≤◌}
use native.Mathlib.Omega.{arith}
use mathlib.Core.Bool.{Bool}
use mathlib.Core.List.{List, [], ◌∷◌, ◌++◌, append_assoc}
use lib.Dec.{leb}
use borrow.Author.Tests.{leb-true}
use lib.ListN.{length, take, drop, replicate}
use lib.Seq.{take_all}
use Rattle.model.specs.Limits.{header_length, identifier_length}
use Rattle.model.specs.Bytes.{NUL, in_bytes}
use Rattle.model.specs.Records.{record_head, house_record, said, settings_items, values, settings_of, tightening_of, alarm_of}
use Rattle.model.specs.Layouts.{Layout, data_from, data_of, characters, data_length, layout_at, layouts_0052}
use Rattle.model.specs.Kinds.{Kind as Row, kind_at}
use Rattle.model.specs.Named.{place_of}
use Rattle.model.specs.declared.Kind.{Kind}
use Rattle.model.specs.declared.Kind.TheVariants.{Identifiers, Tightenings, Alarms}
use Rattle.model.specs.Events.{result_as}
use Rattle.model.specs.Frames.{frame, frame_0002, frame_0004, frame_0005, frame_0065, event_frame, frame_record}
use Rattle.model.proofs.KindLaws.{every_layout}
use Rattle.model.proofs.Named.{place_within}
use Rattle.text.specs.Put.{Put, Written}
use Rattle.text.proofs.Puts.{put_then, put_before, put_over, put_as}
use Rattle.frame.specs.declared.Content.{Content}
use Rattle.frame.specs.declared.Content.TheVariants.{Started, Refused, Accepted, Kept, Notice}
use Rattle.frame.specs.declared.Asked.{Asked}
use Rattle.frame.specs.declared.Heading.{Heading}
use Rattle.frame.specs.declared.To.{To}
use Rattle.frame.specs.Places.{place_items, place_size, result_of, event_in}
use Rattle.frame.specs.Layout.{layout_of, Payloads, data_in}
use Rattle.frame.specs.Output.{frame_length, notice_byte_12, heading_of, heading_bytes}
use Rattle.frame.specs.Output.{frame_of, RecordMade, Recorded}

-- ==== output records

-- the head is written last, before the payload that stands there
pub recorded : {o o₁ o₂ bs : List ℕ} {end r : ℕ} (to : To) (record_kind : ℕ) → Put o (to.at + record_head) bs end o₁
    → RecordMade o₁ to record_kind end r o₂ → Put o to.at (house_record (record_kind + to.session) bs) r o₂
recorded {o} {o₁} {o₂} {bs} {end} {r} to record_kind p h =
    let n : end - (to.at + record_head) ≡ length bs = let e = p.place in omega arith in
    subst (λ (k : ℕ). Put o to.at (house_record (record_kind + to.session) bs) k o₂) (sym h.ends)
    (put_as (ap (λ (k : ℕ). (in_bytes 2 k ++ in_bytes 2 (record_kind + to.session)) ++ bs) n)
    (put_before p h.head.put refl))

-- a record that stands before the place, written once more there, and then the kind of another session into its head
pub repeated : {o o₁ o₂ bs : List ℕ} {at from r r' : ℕ} (s : ℕ) → Recorded o from at bs → Put o at (take (at - from) (drop from o)) r o₁
    → Put o₁ (at + 2) (in_bytes 2 (256 + s)) r' o₂ → Put o at (frame_record s bs) r o₂
unfolding frame_record in_bytes
repeated {bs = bs} {at = at} s w p q =
    let n = length (bs ++ NUL ∷ []) in
    put_over (in_bytes 2 n) (in_bytes 2 (256 + w.session)) (in_bytes 2 (256 + s)) (bs ++ NUL ∷ []) refl refl
    (put_as w.stands.bytes p) q

-- ==== frames

-- a header that says what another says
pub headed : {o o' : List ℕ} {at r : ℕ} {h g : Heading} → h ≡ g → Written o at header_length (heading_bytes h) r o'
    → Written o at header_length (heading_bytes g) r o'
headed {o} {o'} {at} {r} e w = subst (λ (x : Heading). Written o at header_length (heading_bytes x) r o') e w

-- data and NUL, and then the header before them
pub wrote_frame : {o o₁ o₂ o₃ : List ℕ} {at from next nul end : ℕ} (content : Content) (b : Payloads) → from ≡ at + header_length
    → Written o from (data_length (layout_of content)) (data_in content b) nul o₁
    → (end ≡ nul + 1) × Put o₁ nul (replicate 1 0) end o₂
    → Written o₂ at header_length (heading_bytes (heading_of content)) next o₃
    → (end ≡ at + suc (frame_length content)) × Put o at (frame_of content b ++ NUL ∷ []) end o₃
unfolding frame
wrote_frame content b e d z h =
    let p = d.place in
    let q = d.put.place in
    let i = z.0 in
    let n : frame_length content ≡ header_length + length (data_in content b) = omega arith in
    (omega arith, put_as (rw (n, append_assoc)) (put_before (put_then d.put z.1) h.put (omega arith)))

-- ==== how long they are

abbrev short : Row → Layout → Bool
short k l = leb (header_length + data_length l) k.longest

pub copy_short : (asked : Asked) → frame_length (Notice asked) ≤ (kind_at (place_of asked.kind)).longest
copy_short asked = leb-true _ _ (every_layout short refl (place_of asked.kind) (place_within asked.kind) asked.revision)

-- ==== what each is

pub is_0002 : (b : Payloads) → frame_of Started b ≡ frame_0002 (settings_of b.settings)
unfolding frame_0002 data_in settings_of
is_0002 b = refl

pub is_0004 : (b : Payloads) (mid error : ℕ) → frame_of (Refused mid error) b ≡ frame_0004 mid error
unfolding frame_0004 data_in data_from characters
is_0004 b mid error = refl

pub is_0005 : (b : Payloads) (mid : ℕ) → frame_of (Accepted mid) b ≡ frame_0005 mid
unfolding frame_0005 data_in data_from characters
is_0005 b mid = refl

pub is_0065 : (b : Payloads) (n : ℕ) → frame_of (Kept n) b ≡ frame_0065 (result_as n b.told)
unfolding frame_0065 data_in data_from characters result_as tightening_of
is_0065 b n = refl

-- a copy of what is in a place
pub is_copy : (st p : List ℕ) (asked : Asked) → length p ≡ place_size (place_of asked.kind)
    → frame_of (Notice asked) (record { settings = st; told = p })
    ≡ event_frame (settings_of st) asked.revision asked.no_acknowledge (event_in (place_of asked.kind) p)
unfolding data_in event_frame settings_of tightening_of alarm_of result_of result_as
is_copy st p asked l = go asked.kind l
  where
    go : (kind : Kind) → length p ≡ place_size (place_of kind)
        → frame (kind_at (place_of kind)).notice asked.revision (notice_byte_12 asked.no_acknowledge)
        (data_of (layout_at (kind_at (place_of kind)).layouts asked.revision)
        (record { settings = values settings_items st; told = values (place_items (place_of kind)) p }))
        ≡ event_frame (settings_of st) asked.revision asked.no_acknowledge (event_in (place_of kind) p)
    go Identifiers l =
        ap (λ (x : List ℕ). frame 52 asked.revision (notice_byte_12 asked.no_acknowledge)
        (data_of (layout_at layouts_0052 asked.revision) (record { settings = values settings_items st; told = said x ∷ [] })))
        (take_all identifier_length p (omega arith))
    go Tightenings l = refl
    go Alarms l = refl
