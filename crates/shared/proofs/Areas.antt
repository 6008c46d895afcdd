-- What the sessions share, in its bytes: what a write leaves of it.
use mathlib.Core.Path.{◌≡◌, refl, sym, ap, ap₂, ◌∙◌}
use Prim.Native.Nat.{suc, ℕ, ◌+◌, ◌-◌, ◌<◌, ◌≤◌, min}
use native.Mathlib.Nat.{suc-min-suc}
use native.Mathlib.Omega.{arith}
use mathlib.Core.Bool.{Bool, true, false, ◌&&◌, and-eq-true_iff}
use mathlib.Core.List.{List, [], ◌∷◌}
use borrow.Author.Tests.{leb-true, le-leb}
use lib.Dec.{eqb, leb, lit≤}
use lib.ListN.{length, take, drop, replicate}
use lib.Seq.{sets, length-sets, length-take-le}
use Rattle.model.specs.Limits.{identifier_length, number_length, number_greatest, results_kept}
use Rattle.model.specs.Bytes.{little, in_bytes, spaces}
use Rattle.model.specs.Records.{settings_of, settings_length, tightening_length}
use Rattle.model.specs.Events.{Result, result_as}
use Rattle.model.specs.Memory.{kept_with}
use Rattle.text.proofs.Numbers.{in_bytes_length}
use Rattle.text.proofs.Cells.{stored_same, stored_before, stored_after}
use Rattle.shared.specs.Memory.{memory_at, place_at, payload_kept, results}
use Rattle.shared.specs.Shared.{shared_size, mark_length, last_at, count_at, settings_at, in_force_at}
use Rattle.shared.specs.Shared.{settings_part, in_force_of, last_of, count_of, kept_of, mark, shared_formed, Area, Next, Holds}
use Rattle.shared.proofs.Results.{result_take, place_still, results_same, results_next, results_take}

-- ==== numbers, written and read

pub four : (v : ℕ) → v < suc number_greatest → little (in_bytes number_length v) ≡ v
unfolding in_bytes
four v h = omega arith

one : (v : ℕ) → v ≤ results_kept → little (in_bytes 1 v) ≡ v
unfolding in_bytes
one v h = omega arith

-- the mark as the code names it, and in its bytes
abbrev mark_number : ℕ
mark_number = 0x34414C4649524553

abbrev marks : List ℕ
marks = in_bytes mark_length mark_number

eight : little marks ≡ little mark
unfolding in_bytes
eight = refl

-- ==== what is well formed

module _ (a : List ℕ) where
  abbrev marked : Bool
  marked = eqb (little (take mark_length a)) (little mark)

  module _ (h : Area a) where
    tests : (marked && leb (count_of a) results_kept ≡ true) × (leb (count_of a) (last_of a) ≡ true)
    unfolding shared_formed
    tests = (and-eq-true_iff (marked && leb (count_of a) results_kept) (leb (count_of a) (last_of a))).0 h.formed

    is_marked : marked ≡ true
    is_marked = ((and-eq-true_iff marked (leb (count_of a) results_kept)).0 tests.0).0

    -- no more are kept than may be, and no more than there were numbers
    pub few_kept : count_of a ≤ results_kept
    few_kept = leb-true (count_of a) results_kept ((and-eq-true_iff marked (leb (count_of a) results_kept)).0 tests.0).1

    pub kept_numbered : count_of a ≤ last_of a
    kept_numbered = leb-true (count_of a) (last_of a) tests.1

  is_area : length a ≡ shared_size → marked ≡ true → count_of a ≤ results_kept → count_of a ≤ last_of a → Area a
  unfolding shared_formed
  is_area s m few h = record {
    size = s;
    formed = rw (m, le-leb (count_of a) results_kept few) (le-leb (count_of a) (last_of a) h);
  }

-- ==== a write of k bytes, and what it leaves

record Wrote (a : List ℕ) (at k : ℕ) (ys a' : List ℕ) : Type 0 where
  size : length a' ≡ shared_size
  here : take k (drop at a') ≡ ys
  before : (b m : ℕ) → b + m ≤ at → take m (drop b a') ≡ take m (drop b a)
  behind : (b m : ℕ) → at + k ≤ b → take m (drop b a') ≡ take m (drop b a)

wrote : (a : List ℕ) (at k : ℕ) (ys : List ℕ) → length a ≡ shared_size → length ys ≡ k → at + k ≤ shared_size
    → Wrote a at k ys (sets a at ys)
wrote a at k ys s e f =
    let fits : at + k ≤ length a = omega arith in
    record {
      size = length-sets a at ys ∙ s;
      here = stored_same at k a ys e fits;
      before = stored_before at k a ys e fits;
      behind = stored_after at k a ys e fits;
    }

-- one in front of the places: the place of each number
places_still : {a ys a' : List ℕ} {at k : ℕ} → Wrote a at k ys a' → at + k ≤ memory_at → (i : ℕ) → payload_kept i a' ≡ payload_kept i a
unfolding payload_kept
places_still w f i = w.behind (place_at i) tightening_length (omega arith)

-- ==== an identifier comes in force

pub force_put : (a x : List ℕ) → Area a → length x ≡ identifier_length
    → Holds (settings_part a) x (last_of a) (kept_of a) (sets a in_force_at x)
unfolding settings_part in_force_of last_of count_of kept_of
force_put a x h e =
    let w = wrote a in_force_at identifier_length x h.size e (lit≤ tt) in
    let a' = sets a in_force_at x in
    let last : last_of a' ≡ last_of a = ap little (w.before last_at number_length (lit≤ tt)) in
    let count : count_of a' ≡ count_of a = ap little (w.before count_at 1 (lit≤ tt)) in
    let few = few_kept a h in
    let least = kept_numbered a h in
    record {
      area = is_area a' w.size (rw (w.before 0 mark_length (lit≤ tt)) (is_marked a h)) (omega arith) (omega arith);
      settings = w.before settings_at settings_length (lit≤ tt);
      in_force = w.here;
      last = last;
      kept =
          ap₂ (λ (l c : ℕ). results l c a') last count
          ∙ results_same a a' (last_of a) (count_of a) least (λ i p q. places_still w (lit≤ tt) i);
    }

-- ==== a tightening is remembered

-- so many of those before it, at most
abbrev others_kept : ℕ
others_kept = results_kept - 1

module _ (a p : List ℕ) (n c : ℕ) (h : Next a p) (en : n ≡ little (take number_length (drop tightening_length p)))
    (f : n < suc number_greatest) (ec : c ≡ min results_kept (suc (count_of a))) where
  abbrev placed : List ℕ
  placed = sets a (place_at n) (take tightening_length p)

  abbrev counted : List ℕ
  counted = sets placed count_at (in_bytes 1 c)

  abbrev remembered : List ℕ
  remembered = sets counted last_at (in_bytes number_length n)

  next : n ≡ suc (last_of a)
  next = en ∙ h.number

  long : length (take tightening_length p) ≡ tightening_length
  long = let s = h.size in length-take-le tightening_length p (omega arith)

  w₁ : Wrote a (place_at n) tightening_length (take tightening_length p) placed
  w₁ = wrote a (place_at n) tightening_length (take tightening_length p) h.area.size long (omega arith)

  w₂ : Wrote placed count_at 1 (in_bytes 1 c) counted
  w₂ = wrote placed count_at 1 (in_bytes 1 c) w₁.size (in_bytes_length 1 c) (lit≤ tt)

  w₃ : Wrote counted last_at number_length (in_bytes number_length n) remembered
  w₃ = wrote counted last_at number_length (in_bytes number_length n) w₂.size (in_bytes_length number_length n) (lit≤ tt)

  last_is : last_of remembered ≡ suc (last_of a)
  unfolding last_of
  last_is = ap little w₃.here ∙ four n f ∙ next

  count_is : count_of remembered ≡ min results_kept (suc (count_of a))
  unfolding count_of
  count_is = ap little (w₃.behind count_at 1 (lit≤ tt) ∙ w₂.here) ∙ one c (omega arith) ∙ ec

  -- the places: that of the number has the payload, and those of the numbers shortly before it are as they were
  places : (i : ℕ) → payload_kept i remembered ≡ payload_kept i placed
  places i = places_still w₃ (lit≤ tt) i ∙ places_still w₂ (lit≤ tt) i

  newest_place : payload_kept n remembered ≡ take tightening_length p
  unfolding payload_kept
  newest_place = places n ∙ w₁.here

  newest_is_it : result_as (suc (last_of a)) (payload_kept (suc (last_of a)) remembered) ≡ result_as (suc (last_of a)) p
  newest_is_it =
      ap (result_as (suc (last_of a))) (ap (λ (m : ℕ). payload_kept m remembered) (sym next) ∙ newest_place)
      ∙ result_take (suc (last_of a)) p

  others : results (last_of a) (min others_kept (count_of a)) remembered ≡ results (last_of a) (min others_kept (count_of a)) a
  others =
      let least = kept_numbered a h.area in
      results_same a remembered (last_of a) (min others_kept (count_of a)) (omega arith)
      (λ i u v. places i ∙ place_still a (take tightening_length p) i n h.area.size long (omega (arith, next)) (omega (arith, next)))

  kept_is : kept_of remembered ≡ kept_with (result_as (suc (last_of a)) p) (kept_of a)
  unfolding kept_of
  kept_is =
      ap₂ (λ (l k : ℕ). results l k remembered) last_is (count_is ∙ suc-min-suc others_kept (count_of a))
      ∙ results_next remembered (last_of a) (min others_kept (count_of a))
      ∙ ap₂ (λ (r : Result) (rs : List Result). r ∷ rs) newest_is_it
      (others ∙ sym (results_take a others_kept (last_of a) (count_of a)))

  pub remember_put :
      Holds (settings_part a) (in_force_of a) (suc (last_of a)) (kept_with (result_as (suc (last_of a)) p) (kept_of a)) remembered
  unfolding settings_part in_force_of
  remember_put =
      let least = kept_numbered a h.area in
      let front : take mark_length remembered ≡ take mark_length a =
      w₃.before 0 mark_length (lit≤ tt) ∙ w₂.before 0 mark_length (lit≤ tt) ∙ w₁.before 0 mark_length (omega arith) in
      let middle : (b k : ℕ) → settings_at ≤ b → b + k ≤ memory_at → take k (drop b remembered) ≡ take k (drop b a) =
      λ b k u v. w₃.behind b k (omega arith) ∙ w₂.behind b k (omega arith) ∙ w₁.before b k (omega arith) in
      let m : marked remembered ≡ true = rw front (is_marked a h.area) in
      record {
        area = is_area remembered w₃.size m (omega (arith, count_is)) (omega (arith, count_is, last_is));
        settings = middle settings_at settings_length (lit≤ tt) (lit≤ tt);
        in_force = middle in_force_at identifier_length (lit≤ tt) (lit≤ tt);
        last = last_is;
        kept = kept_is;
      }

-- ==== a start

-- where the last number stands in a payload of settings: at its end
abbrev settings_last_at : ℕ
settings_last_at = settings_length - number_length

module _ (a p : List ℕ) (n : ℕ) (s : length a ≡ shared_size) (e : length p ≡ settings_length)
    (en : n ≡ little (take number_length (drop settings_last_at p))) (f : n < suc number_greatest) where
  abbrev a₁ : List ℕ
  a₁ = sets a 0 marks

  abbrev a₂ : List ℕ
  a₂ = sets a₁ last_at (in_bytes number_length n)

  abbrev a₃ : List ℕ
  a₃ = sets a₂ count_at (in_bytes 1 0)

  abbrev a₄ : List ℕ
  a₄ = sets a₃ settings_at p

  abbrev a₅ : List ℕ
  a₅ = sets a₄ in_force_at (spaces identifier_length)

  pub started : Holds p (spaces identifier_length) (settings_of p).last [] a₅
  unfolding settings_of settings_part in_force_of last_of count_of kept_of results
  started =
      let w₁ = wrote a 0 mark_length marks s (in_bytes_length mark_length mark_number) (lit≤ tt) in
      let w₂ = wrote a₁ last_at number_length (in_bytes number_length n) w₁.size (in_bytes_length number_length n) (lit≤ tt) in
      let w₃ = wrote a₂ count_at 1 (in_bytes 1 0) w₂.size (in_bytes_length 1 0) (lit≤ tt) in
      let w₄ = wrote a₃ settings_at settings_length p w₃.size e (lit≤ tt) in
      let w₅ = wrote a₄ in_force_at identifier_length (spaces identifier_length) w₄.size refl (lit≤ tt) in
      let m : take mark_length a₅ ≡ marks =
      w₅.before 0 mark_length (lit≤ tt) ∙ w₄.before 0 mark_length (lit≤ tt) ∙ w₃.before 0 mark_length (lit≤ tt)
      ∙ w₂.before 0 mark_length (lit≤ tt) ∙ w₁.here in
      let l : take number_length (drop last_at a₅) ≡ in_bytes number_length n =
      w₅.before last_at number_length (lit≤ tt) ∙ w₄.before last_at number_length (lit≤ tt)
      ∙ w₃.before last_at number_length (lit≤ tt) ∙ w₂.here in
      let c : count_of a₅ ≡ 0 =
      ap little (w₅.before count_at 1 (lit≤ tt) ∙ w₄.before count_at 1 (lit≤ tt) ∙ w₃.here) ∙ one 0 (lit≤ tt) in
      record {
        area = is_area a₅ w₅.size (rw (m, eight)) (omega arith) (omega arith);
        settings = w₅.before settings_at settings_length (lit≤ tt) ∙ w₄.here;
        in_force = w₅.here;
        last = ap little l ∙ four n f ∙ en;
        kept = ap (λ (k : ℕ). results (last_of a₅) k a₅) c;
      }

-- ==== a table of zeros is none that a start has made

pub zeros_not_formed : shared_formed (replicate shared_size 0) ≡ false
unfolding shared_formed
zeros_not_formed = refl
