-- 01, "Counted and compared": what is read comes in pieces, and is served as if it had come at once.
use mathlib.Core.Path.{◌≡◌, refl, sym, ap, ap₂, ◌∙◌}
use Prim.Native.Nat.{ℕ, zero, suc, ◌+◌, ◌-◌, ◌≤◌, ◌<◌}
use native.Mathlib.Omega.{arith}
use mathlib.Core.Bool.{Bool, true, false, not}
use mathlib.Core.List.{List, [], ◌∷◌, ◌++◌, append_assoc, append-nil, flatten}
use lib.Dec.{ltb, eqb, eqb-suc-zero}
use lib.ListN.{length, take, drop, replicate, length-append, length-drop}
use lib.Seq.{length-take-le, take-append-add, take-append-le, drop-append-le}
use borrow.Author.Tests.{lt-ltb}
use Rattle.model.specs.Limits.{table_least}
use Rattle.model.specs.Bytes.{little, places}
use Rattle.model.specs.Program.{State, zeros, given, all_given, program, printed}
use Rattle.model.specs.Records.{record_head}
use Rattle.table.specs.Table.{table_formed}
use Rattle.shared.specs.Shared.{shared_formed}
use Rattle.replay.specs.Whole.{whole_size, too_long, records, waits}
use Rattle.replay.specs.States.{Means, Follows, Filled, Turned, OneTurn, Ran}
use Rattle.replay.proofs.Sizes.{is_whole, size_cut, size_whole, slices_first, slices_none}
use Rattle.replay.proofs.Follows.{leads_nothing, leads_then, leads_as}
use Rattle.replay.proofs.Records.{waits_next, waits_none}

-- ==== a record that is whole stays the first, whatever comes behind

size_append : (xs ys : List ℕ) → 0 < whole_size xs → whole_size (xs ++ ys) ≡ whole_size xs
size_append xs ys h =
    let w = is_whole xs h in
    let n : little (places 1 2 (xs ++ ys)) ≡ little (places 1 2 xs) = ap little (take-append-le 2 xs ys (omega arith)) in
    let a = length-append xs ys in
    sym (size_whole (xs ++ ys) (omega arith) (omega arith)) ∙ ap (λ (k : ℕ). record_head + k) n ∙ sym w.size

-- ==== what waits is the end of the input

drop_end : (k : ℕ) (l : List ℕ) → drop k l ≡ drop (length l - length (drop k l)) l
drop_end zero l = ap (λ (n : ℕ). drop n l) (let e : 0 ≡ length l - length l = omega arith in e)
drop_end (suc k) [] = refl
drop_end (suc k) (x ∷ l) =
    let d = length-drop k l in
    let e : suc (length l - length (drop k l)) ≡ suc (length l) - length (drop k l) = omega arith in
    drop_end k l ∙ ap (λ (n : ℕ). drop n (x ∷ l)) e

waits_end : (bs : List ℕ) → waits bs ≡ drop (length bs - length (waits bs)) bs
unfolding waits
waits_end bs = drop_end (length (flatten (records bs))) bs

pub waits_few : (bs : List ℕ) → length (waits bs) ≤ length bs
unfolding waits
waits_few bs = omega (arith, length-drop (length (flatten (records bs))) bs)

-- ==== what comes behind an input comes behind what waits of it

record Split (xs ys : List ℕ) : Type 0 where
  pub whole : records (xs ++ ys) ≡ records xs ++ records (waits xs ++ ys)
  pub left : waits (xs ++ ys) ≡ waits (waits xs ++ ys)
  -- no whole record waits
  pub cut : whole_size (waits xs) ≡ 0

module _ (xs ys : List ℕ) where
  split_none : whole_size xs ≡ 0 → Split xs ys
  split_none e =
      let w = waits_none xs e in
      let s = slices_none xs (length xs) e in
      record { whole = rw (s, w); left = cc; cut = cc }

  split_first : (p : 0 < whole_size xs) → whole_size xs ≤ length xs → Split (drop (whole_size xs) xs) ys → Split xs ys
  split_first p few rest =
      let size = whole_size xs in
      let same : size ≡ whole_size (xs ++ ys) = sym (size_append xs ys p) in
      let a = length-append xs ys in
      let behind : drop size (xs ++ ys) ≡ drop size xs ++ ys = drop-append-le size xs ys few in
      let w = waits_next xs size refl p few in
      let front = take-append-le size xs ys few in
      record {
        whole = rw (slices_first (xs ++ ys) size same p, slices_first xs size refl p, front, behind, rest.whole, w);
        left = sym (waits_next (xs ++ ys) size same p (omega arith)) ∙ cc;
        cut = cc;
      }

split_within : (n : ℕ) (xs ys : List ℕ) → length xs ≤ n → Split xs ys
split_within zero xs ys h = split_none xs ys (sym (size_cut xs (omega arith)))
split_within (suc n) xs ys h = go (λ (l : List ℕ). split_within n l ys) (whole_size xs) refl
  where
    go : ((l : List ℕ) → length l ≤ n → Split l ys) → (k : ℕ) → whole_size xs ≡ k → Split xs ys
    go shorter zero e = split_none xs ys e
    go shorter (suc k) e =
        let p : 0 < whole_size xs = omega arith in
        let f = is_whole xs p in
        let d = length-drop (whole_size xs) xs in
        split_first xs ys p (omega arith) (shorter (drop (whole_size xs) xs) (omega arith))

split : (xs ys : List ℕ) → Split xs ys
split xs ys = split_within (length xs) xs ys (omega arith)

all_given_append : (x : State) (rs ss : List (List ℕ)) → all_given x (rs ++ ss) ≡ all_given (all_given x rs) ss
all_given_append x [] ss = refl
all_given_append x (r ∷ rs) ss = all_given_append (given x r) rs ss

positive : (n : ℕ) → ltb 0 n ≡ not (eqb n 0)
positive zero = refl
positive (suc n) = rw (lt-ltb 0 (suc n) (omega arith), eqb-suc-zero n)

-- what was read stands behind what waited
pub filled : (l b p : List ℕ) {waited : List ℕ} {size got : ℕ} → take size l ≡ waited → size ≤ length l → got ≤ length b
    → Filled waited (take (size + got) (take size l ++ (b ++ p))) (ltb 0 got)
filled l b p {waited = waited} {size = size} {got = got} e h g =
    let long : length (take size l) ≡ size = length-take-le size l h in
    let few : length (take got b) ≡ got = length-take-le got b g in
    let at : size + got ≡ length (take size l) + got = ap (λ (n : ℕ). n + got) (sym long) in
    record {
      read = take got b;
      behind =
          ap (λ (n : ℕ). take n (take size l ++ (b ++ p))) at ∙ take-append-add (take size l) (b ++ p) got
          ∙ ap₂ (λ (x y : List ℕ). x ++ y) e (take-append-le got b p g);
      any = rw few (positive got);
    }

-- ==== turns

-- nothing is read
pub turned_none : {t w waiting : List ℕ} → waiting ≡ w → whole_size w ≡ 0 → Turned t w t waiting
turned_none {t = t} {w = w} e z = record {
  read = [];
  written = [];
  leads = leads_as (λ x m. rw (append-nil w, slices_none w (length w) z)) (leads_nothing t);
  left = rw (append-nil w, waits_none w z) e;
}

none_read : (w read : List ℕ) {waiting : List ℕ} → waiting ≡ w ++ read → false ≡ not (eqb (length read) 0) → waiting ≡ w
none_read w [] e f = e ∙ append-nil w
none_read w (x ∷ read) e f = absurd (let z : false ≡ true = rw eqb-suc-zero at f in cc)

pub one_turn_none : {t w waiting : List ℕ} → Filled w waiting false → whole_size w ≡ 0 → OneTurn t w t waiting false
unfolding turned_none
one_turn_none {w = w} f z = record { turned = turned_none (none_read w f.read f.behind f.any) z; goes_on = refl }

-- what was read behind what waited is served, and what waits behind that waits on
pub one_turn : {room : ℕ} {t waited w all input left t' l waiting : List ℕ} {on : Bool} → Filled w all true → input ≡ all → waited ≡ []
    → Follows (λ x. all_given x (records input)) room t waited t' l → left ≡ waits input
    → waiting ≡ drop (length all - length left) all → on ≡ not (too_long waiting) → OneTurn t w t' waiting on
one_turn {waited = waited} {w = w} {all = all} {input = input} {waiting = waiting} f same none g e k on =
    let read : input ≡ w ++ f.read = same ∙ f.behind in
    let stays : waiting ≡ waits input =
    k ∙ ap₂ (λ (n m : List ℕ). drop (length n - length m) n) (sym same) e ∙ sym (waits_end input) in
    record {
      turned = record {
        read = f.read;
        written = g.new;
        leads = leads_as (λ x m. rw read) g.leads;
        left = rw read at stays;
      };
      goes_on = rw (← f.any) on;
    }

-- one turn after another
pub turned_then : {t w t₁ w₁ t₂ w₂ : List ℕ} → Turned t w t₁ w₁ → Turned t₁ w₁ t₂ w₂ → Turned t w t₂ w₂
turned_then {w = w} {w₁ = w₁} p q =
    let s = split (w ++ p.read) q.read in
    let all = append_assoc w p.read q.read in
    let next : waits (w ++ p.read) ++ q.read ≡ w₁ ++ q.read = ap (λ (l : List ℕ). l ++ q.read) (sym p.left) in
    record {
      read = p.read ++ q.read;
      written = p.written ++ q.written;
      leads = leads_as (λ x m. rw (← all, s.whole, next, all_given_append)) (leads_then p.leads q.leads);
      left = rw (← all, s.left, next) q.left;
    }

-- no whole record waits
pub turned_cut : {t w t' waiting : List ℕ} → Turned t w t' waiting → whole_size waiting ≡ 0
turned_cut {w = w} p = ap whole_size p.left ∙ (split (w ++ p.read) []).cut

-- ==== the whole program

-- a table of zeros is not well formed
zeros_mean : Means (replicate table_least 0) zeros
unfolding table_formed shared_formed
zeros_mean = record { sessions = refl; formed = refl; world = λ (e : false ≡ true). absurd (let z : ◌≡◌ {A = ℕ} 0 1 = cc in omega arith) }

-- THE PROGRAM: what a run that begins with zeros writes out is what the model's program prints of what the run read
pub program_printed : {t' : List ℕ} (r : Ran (replicate table_least 0) t') → r.turned.written ≡ printed (program r.turned.read)
program_printed r = sym (r.turned.leads.lines zeros zeros_mean)
