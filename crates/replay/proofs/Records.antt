-- 01, "Counted and compared": a record is a call, or received bytes; and the records of an input one after the other.
use mathlib.Core.Path.{◌≡◌, refl, sym, ap, ◌∙◌}
use Prim.Native.Nat.{ℕ, suc, ◌+◌, ◌-◌, ◌≤◌, ◌<◌}
use native.Mathlib.Omega.{arith}
use mathlib.Core.Bool.{true, false}
use mathlib.Core.List.{List, ◌++◌, flatten}
use lib.ListN.{length, take, drop, length-append}
use lib.Seq.{length-take-le, drop-drop}
use Rattle.model.specs.Bytes.{little, places}
use Rattle.model.specs.Program.{State, called, fed, call_of, given, all_given, bytes_record_kind, is_of}
use Rattle.model.specs.Records.{record_head}
use Rattle.replay.specs.Whole.{whole_size, Parted, records, waits}
use Rattle.replay.specs.States.{Follows}
use Rattle.replay.proofs.Sizes.{is_whole, slices_first, slices_none}
use Rattle.replay.proofs.Follows.{follows_nothing, follows_then, follows_as}

-- ==== one record

module _ (x : State) (slice : List ℕ) (record_kind : ℕ) (k : record_kind ≡ little (places 3 4 slice)) where
  pub given_bytes : (bs : List ℕ) → is_of bytes_record_kind record_kind ≡ true → bs ≡ drop record_head slice
      → fed (suc (length bs)) x (record_kind - bytes_record_kind) bs ≡ given x slice
  given_bytes bs e d = cc

  pub given_call : is_of bytes_record_kind record_kind ≡ false → called x (call_of record_kind slice) ≡ given x slice
  given_call e = cc

-- ==== the records of an input

-- behind the first record wait those that wait behind all
pub waits_next : (bs : List ℕ) (size : ℕ) → size ≡ whole_size bs → 0 < size → size ≤ length bs → waits (drop size bs) ≡ waits bs
unfolding waits flatten
waits_next bs size e h few =
    let behind = flatten (records (drop size bs)) in
    let n = length-take-le size bs few in
    let a = length-append (take size bs) behind in
    let k : size + length behind ≡ length (take size bs ++ behind) = omega arith in
    drop-drop (length behind) size bs ∙ rw (slices_first bs size e h, k)

pub waits_none : (bs : List ℕ) → whole_size bs ≡ 0 → waits bs ≡ bs
unfolding waits flatten
waits_none bs e = rw (slices_none bs (length bs) e)

-- some records were served, and the rest of the input is `left`
pub record Serving (input : List ℕ) (room : ℕ) (t waited t' waiting left : List ℕ) : Type 0 where
  pub so_far : State → State
  pub follows : Follows so_far room t waited t' waiting
  pub rest : (x : State) → all_given (so_far x) (records left) ≡ all_given x (records input)
  pub same : waits left ≡ waits input

pub serving_begins : (input : List ℕ) (room : ℕ) (t waited : List ℕ) → Serving input room t waited t waited input
serving_begins input room t waited = record { so_far = λ x. x; follows = follows_nothing room t waited; rest = λ x. refl; same = refl }

pub serving_on : {input t waited t' waiting left t₁ waiting₁ slice rest : List ℕ} {room : ℕ} → Serving input room t waited t' waiting left
    → Parted left slice rest → Follows (λ x. given x slice) room t' waiting t₁ waiting₁ → Serving input room t waited t₁ waiting₁ rest
serving_on {left = left} {slice = slice} s p f =
    let size = whole_size left in
    let w = is_whole left p.some in
    let few : size ≤ length left = omega (arith, w.fits, w.size) in
    record {
      so_far = λ x. given (s.so_far x) slice;
      follows = follows_then s.follows f;
      rest = λ x. rw (p.first, p.rest) (rw (slices_first left size refl p.some) at (s.rest x));
      same = rw p.rest (waits_next left size refl p.some few ∙ s.same);
    }

-- no whole record is left
pub serving_ends : {input t waited t' waiting left : List ℕ} {room : ℕ} → Serving input room t waited t' waiting left → whole_size left ≡ 0
    → Follows (λ x. all_given x (records input)) room t waited t' waiting × (left ≡ waits input)
serving_ends {left = left} s e =
    let served = follows_as (λ x m. ap (all_given (s.so_far x)) (sym (slices_none left (length left) e)) ∙ s.rest x) s.follows in
    (served, sym (waits_none left e) ∙ s.same)
