-- A tightening as it is kept: the payload of its record with another identifier before the rest and its number behind it.
use Rattle.std.proofs.Common.{◌≡◌, refl, sym, ap, ap₂, ◌∙◌, ℕ, suc, ◌+◌, ◌-◌, ◌≤◌, ◌<◌, Bool, true, false, cond, List, [], ◌∷◌, ◌++◌}
use Rattle.std.proofs.Common.{length, take, drop, append_assoc, append-nil, length-append, length-drop, arith}
use Rattle.std.proofs.lemmas.List.{take-append-le, drop-append-le}
use Rattle.std.proofs.lemmas.List.Edits.{sets, sets-eq}
use Rattle.std.proofs.Math.ListN.{drop_of_length-le}
use borrow.Rule.Slice.PartMut.{put_mid}
use Rattle.std.proofs.Math.Seq.{take-length, take-append_seam, drop-append_seam, drop-drop}
use Rattle.model.specs.Limits.{identifier_length, number_length, number_greatest}
use Rattle.model.specs.Bytes.{is_space, all, little, in_bytes}
use Rattle.model.specs.Records.{Item, item_length, payload_length, parts, parts_from, values_of}
use Rattle.model.specs.Records.{tightening_items, tightening_length, identifier_in, tightening_of, tightening}
use Rattle.model.specs.Events.{result_as, tightened, identifier_of}
use Rattle.model.specs.Sharing.{Shared, reported}
use Rattle.text.proofs.Numbers.{in_bytes_length}
use Rattle.record.proofs.Parts.{parts_behind}
use Rattle.shared.proofs.Areas.{four}
use Rattle.frame.specs.Places.{result_of}

-- parts that stand in what comes first
parts_before : (es : List Item) (at : ℕ) (l more : List ℕ) → at + payload_length es ≤ length l
    → parts_from at es (l ++ more) ≡ parts_from at es l
parts_before [] at l more h = refl
parts_before (e ∷ es) at l more h =
    let d = drop-append-le at l more (omega arith) in
    let t : take (item_length e) (drop at l ++ more) ≡ take (item_length e) (drop at l) =
    take-append-le (item_length e) (drop at l) more (simp length-drop (omega arith)) in
    let i = parts_before es (at + item_length e) l more (omega arith) in
    cc

-- how many bytes a payload has behind its identifier
abbrev rest_length : ℕ
rest_length = tightening_length - identifier_length

pub take_all : {k : ℕ} (l : List ℕ) → length l ≡ k → take k l ≡ l
take_all l e = ap (λ (k : ℕ). take k l) (sym e) ∙ take-length l

take_first : {k : ℕ} (l more : List ℕ) → length l ≡ k → take k (l ++ more) ≡ l
take_first l more e = ap (λ (k : ℕ). take k (l ++ more)) (sym e) ∙ take-append_seam l more

drop_first : {k : ℕ} (l more : List ℕ) → length l ≡ k → drop k (l ++ more) ≡ more
drop_first l more e = ap (λ (k : ℕ). drop k (l ++ more)) (sym e) ∙ drop-append_seam l more

-- the identifier stored first, then the rest, and the number behind them
pub stored : (x y z ns : List ℕ) {r : List ℕ} → length x ≡ identifier_length → length y ≡ rest_length
    → length z ≡ tightening_length + length ns
    → r ≡ sets (put_mid identifier_length rest_length (x ++ drop identifier_length z) y) tightening_length ns → r ≡ x ++ (y ++ ns)
stored x y z ns lx ly lz e =
    let w = drop identifier_length z in
    let m = drop rest_length w in
    let q : put_mid identifier_length rest_length (x ++ w) y ≡ (x ++ y) ++ m =
    ap₂ (λ (a b : List ℕ). a ++ (y ++ drop rest_length b)) (take_first x w lx) (drop_first x w lx) ∙ sym (append_assoc x y m) in
    let l : length (x ++ y) ≡ tightening_length = simp length-append (omega (arith, lx, ly)) in
    let k : length m ≡ length ns = simp length-drop (omega (arith, lz)) in
    let f : length ((x ++ y) ++ m) ≡ tightening_length + length ns = length-append (x ++ y) m ∙ omega (arith, l, k) in
    let d : drop (tightening_length + length ns) ((x ++ y) ++ m) ≡ [] = drop_of_length-le ((x ++ y) ++ m) (omega (arith, f)) in
    e ∙ ap (λ (l : List ℕ). sets l tightening_length ns) q ∙ sets-eq ns ((x ++ y) ++ m) tightening_length (omega (arith, f))
    ∙ ap₂ (λ (a b : List ℕ). a ++ ns ++ b) (take_first (x ++ y) m l) d ∙ append-nil _ ∙ append_assoc x y ns

-- the identifier x, then the rest of the payload p, then the number n
module _ (x p : List ℕ) (n : ℕ) (lx : length x ≡ identifier_length) (lp : length p ≡ tightening_length) (ln : n < suc number_greatest) where
  abbrev rest : List ℕ
  rest = drop identifier_length p

  abbrev pub kept : List ℕ
  kept = x ++ (rest ++ in_bytes number_length n)

  rest_size : length rest ≡ rest_length
  rest_size = simp length-drop (omega arith)

  behind : drop identifier_length kept ≡ rest ++ in_bytes number_length n
  behind = drop_first x (rest ++ in_bytes number_length n) lx

  kept_number : little (take number_length (drop tightening_length kept)) ≡ n
  kept_number =
      let ns = in_bytes number_length n in
      ap (λ (l : List ℕ). little (take number_length l))
      (sym (drop-drop rest_length identifier_length kept) ∙ ap (drop rest_length) behind ∙ drop_first rest ns rest_size)
      ∙ ap little (take_all ns (in_bytes_length number_length n)) ∙ four n ln

  kept_identifier : take identifier_length (drop 0 kept) ≡ x
  kept_identifier = take_first x (rest ++ in_bytes number_length n) lx

  kept_tightening : tightening_of kept ≡ tightening_of p
  unfolding tightening_of
  kept_tightening =
      let es : List Item = drop 1 tightening_items in
      let b = parts_before es 0 rest (in_bytes number_length n) (omega (arith, rest_size)) in
      ap (values_of es) (parts_behind identifier_length es kept ∙ ap (parts es) behind ∙ b ∙ sym (parts_behind identifier_length es p))

  -- the event that is reported now
  pub result_kept : (g : Shared) → x ≡ identifier_of (identifier_in p) g.in_force → n ≡ g.last + 1
      → tightened (result_of kept) ≡ reported g (tightening (identifier_in p) (tightening_of p))
  unfolding result_of result_as
  result_kept g ex en = λ i. tightened (record {
    number = (kept_number ∙ en) i;
    identifier = (kept_identifier ∙ ex) i;
    tightening = kept_tightening i;
  })

-- the identifier that is meant is as long as the two are
pub meant_length : {x : List ℕ} (own in_force : List ℕ) → x ≡ identifier_of own in_force → length own ≡ identifier_length
    → length in_force ≡ identifier_length → length x ≡ identifier_length
meant_length own in_force e a b = ap length e ∙ go (all is_space own)
  where
    go : (s : Bool) → length (cond s in_force own) ≡ identifier_length
    go true = b
    go false = a
