-- Where a piece of received bytes ends: what blocks without NUL tell, and the first NUL behind them.
use mathlib.Core.Path.{◌≡◌, refl, sym, ap, ◌∙◌}
use Prim.Native.Nat.{ℕ, suc, ◌+◌, ◌≤◌, ◌<◌, min}
use native.Mathlib.Omega.{arith}
use mathlib.Core.List.{List, [], ◌∷◌, ◌++◌, append_assoc}
use lib.Dec.{eqb, ltb}
use lib.ListN.{length, take, drop, length-append, length-drop}
use lib.Seq.{take-add, drop-drop, take_at, drop_at}
use borrow.Author.Tests.{ne_eqb, ltb-false, lt-ltb}
use Rattle.model.specs.Runs.{Piece, cut}
use Rattle.std.specs.List.{fold, position, position_or_len}
use Rattle.std.specs.Option.{unwrap_or}
use Rattle.std.specs.Prelude.{Option, Some, None}
use mathlib.Core.Bool.{Bool, true, false, cond, not}
use Rattle.std.proofs.lemmas.Bool.Decides.{nat_tests}
use Rattle.std.proofs.lemmas.List.Sums.{prefix_len-le-length}
use Rattle.run.specs.Area.{Passed, is_NUL, Ends}

-- what the lowest of some bytes tells
lowest_at_most : (least : ℕ) (bs : List ℕ) → fold min least bs ≤ least
lowest_at_most least [] = omega arith
lowest_at_most least (b ∷ bs) = let h = lowest_at_most (min least b) bs in omega arith

cut_behind : (least : ℕ) (block rest : List ℕ) → 0 < fold min least block
    → cut (block ++ rest) ≡ record { bytes = block ++ (cut rest).bytes; ends = (cut rest).ends }
unfolding cut
cut_behind least [] rest h = refl
cut_behind least (b ∷ block) rest h =
    let few = lowest_at_most (min least b) block in
    rw (ne_eqb b 0 (λ z. omega arith), cut_behind (min least b) block rest h)

-- a block is passed whose lowest byte is no NUL
pub passed_block : (bs block rest : List ℕ) (i size : ℕ) → Passed bs i → drop i bs ≡ block ++ rest → length block ≡ size
    → (fold min 255 block ≡ 0 → ⊥) → Passed bs (i + size) × (rest ≡ drop (i + size) bs)
passed_block bs block rest i size p e n h =
    let c : cut (drop i bs) ≡ record { bytes = block ++ (cut rest).bytes; ends = (cut rest).ends } =
    ap cut e ∙ cut_behind 255 block rest (omega arith) in
    let t : take (i + size) bs ≡ take i bs ++ block =
    take-add i size bs ∙ ap (λ (l : List ℕ). take i bs ++ take size l) e ∙ rw (take_at block rest size n) in
    let d : drop (i + size) bs ≡ rest = sym (drop-drop size i bs) ∙ ap (drop size) e ∙ drop_at block rest size n in (
      record {
        within = omega (arith, p.within, ap length e, length-drop i bs, length-append block rest);
        bytes = p.bytes ∙ ap (λ (x : Piece). take i bs ++ x.bytes) c ∙ rw (t, d, append_assoc);
        ends = p.ends ∙ ap (λ (x : Piece). x.ends) c ∙ rw d;
      },
      sym d,
    )

-- where a NUL is first
cut_at : (bs : List ℕ)
    → ((cut bs).bytes ≡ take (position_or_len is_NUL bs) bs) × ((cut bs).ends ≡ ltb (position_or_len is_NUL bs) (length bs))
unfolding cut
cut_at [] = (refl, refl)
cut_at (b ∷ bs) = go (eqb b 0) refl (cut_at bs)
  where
    go : (t : Bool) → eqb b 0 ≡ t
        → ((cut bs).bytes ≡ take (position_or_len is_NUL bs) bs) × ((cut bs).ends ≡ ltb (position_or_len is_NUL bs) (length bs))
        → ((cut (b ∷ bs)).bytes ≡ take (position_or_len is_NUL (b ∷ bs)) (b ∷ bs))
        × ((cut (b ∷ bs)).ends ≡ ltb (position_or_len is_NUL (b ∷ bs)) (length (b ∷ bs)))
    go true e more = (rw e, rw e (sym (lt-ltb 0 (suc (length bs)) (omega arith))))
    go false e more =
        let k : 1 + position_or_len is_NUL bs ≡ suc (position_or_len is_NUL bs) = omega arith in
        (rw (e, k) (ap (λ (l : List ℕ). b ∷ l) more.0), rw (e, k) (more.1 ∙ grind (arith, nat_tests)))

first_or_end : (l : List ℕ) → unwrap_or (position is_NUL l) (length l) ≡ position_or_len is_NUL l
first_or_end l = go (ltb (position_or_len is_NUL l) (length l)) refl
  where
    go : (t : Bool) → ltb (position_or_len is_NUL l) (length l) ≡ t
        → unwrap_or (cond t (Some (position_or_len is_NUL l)) None) (length l) ≡ position_or_len is_NUL l
    go true e = refl
    go false e = omega (arith, ltb-false (position_or_len is_NUL l) (length l) e, prefix_len-le-length (λ b. not (is_NUL b)) l)

pub ends_behind : (bs : List ℕ) (i n : ℕ) (first : Option ℕ) → Passed bs i → first ≡ position is_NUL (drop i bs)
    → n ≡ unwrap_or first (length (drop i bs)) → Ends bs (i + n)
ends_behind bs i m first p f e =
    let l = drop i bs in
    let n = position_or_len is_NUL l in
    let long = length-drop i bs in
    let few = prefix_len-le-length (λ b. not (is_NUL b)) l in
    let tests : ltb n (length l) ≡ ltb (i + n) (length bs) = grind (arith, nat_tests) in
    rw (e, f, first_or_end) record {
      within = omega (arith, p.within);
      bytes = p.bytes ∙ ap (λ (x : List ℕ). take i bs ++ x) (cut_at l).0 ∙ sym (take-add i n bs);
      ends = p.ends ∙ (cut_at l).1 ∙ tests;
    }
