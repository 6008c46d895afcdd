-- 02, P7: what has no mark is free, and there is one, where fewer are held than there are.
use mathlib.Core.Path.{◌≡◌, refl, sym, ap, ◌∙◌}
use Prim.Native.Nat.{ℕ, zero, suc, ◌+◌, ◌*◌, ◌≤◌, ◌<◌}
use native.Mathlib.Nat.{suc-mul}
use native.Mathlib.Omega.{arith}
use mathlib.Core.Bool.{Bool, true, false, cond, not}
use mathlib.Core.List.{List, [], ◌∷◌}
use lib.Dec.{eqb, ltb}
use lib.ListN.{length, get_or, set, replicate, drop, length-set, length-replicate, drop_of_length-le}
use lib.Seq.{get_or-set_other}
use borrow.Author.Tests.{eqb-true, eqb-false, ltb-true, ltb-false}
use Rattle.std.specs.Prelude.{Option, Some, None}
use Rattle.std.specs.List.{position, position_or_len}
use Rattle.std.proofs.lemmas.List.Recursion.{is_position_or_len}
use Rattle.std.proofs.lemmas.List.Sums.{prefix_len-le-length}
use Rattle.text.proofs.Lists.{drop_next}
use Rattle.places.specs.Free.{lacks, is_free, marked, marked_by_all, first_free, FirstFree}

-- ==== how many marks there are

abbrev marks : List ℕ → ℕ
marks [] = 0
marks (u ∷ used) = cond (eqb u 0) (marks used) (suc (marks used))

at_most_one : (b : Bool) (n : ℕ) → suc n ≤ suc (cond b n (suc n))
at_most_one true n = omega arith
at_most_one false n = omega arith

one_more : (b : Bool) (m n : ℕ) → m ≤ suc n → cond b m (suc m) ≤ suc (cond b n (suc n))
one_more true m n h = h
one_more false m n h = omega arith

mark_adds : (used : List ℕ) (p : ℕ) → marks (set used p 1) ≤ suc (marks used)
mark_adds [] p = omega arith
mark_adds (u ∷ used) zero = at_most_one (eqb u 0) (marks used)
mark_adds (u ∷ used) (suc p) = one_more (eqb u 0) _ _ (mark_adds used p)

marked_adds : (used held : List ℕ) → marks (marked used held) ≤ marks used + length held
unfolding marked
marked_adds used [] = omega arith
marked_adds used (p ∷ held) =
    let one = mark_adds used p in
    let rest = marked_adds (set used p 1) held in
    omega arith

-- how many are held by all, the same one as often as it is held
abbrev pub total : List (List ℕ) → ℕ
total [] = 0
total (held ∷ each) = length held + total each

all_adds : (used : List ℕ) (each : List (List ℕ)) → marks (marked_by_all used each) ≤ marks used + total each
unfolding marked_by_all
all_adds used [] = omega arith
all_adds used (held ∷ each) =
    let one = marked_adds used held in
    let rest = all_adds (marked used held) each in
    omega arith

-- ==== as long as they were

pub length_marked : (used held : List ℕ) → length (marked used held) ≡ length used
unfolding marked
length_marked used [] = refl
length_marked used (p ∷ held) = length_marked (set used p 1) held ∙ length-set used p 1

pub length_by_all : (used : List ℕ) (each : List (List ℕ)) → length (marked_by_all used each) ≡ length used
unfolding marked_by_all
length_by_all used [] = refl
length_by_all used (held ∷ each) = length_by_all (marked used held) each ∙ length_marked used held

none_marked : (n : ℕ) → marks (replicate n 0) ≡ 0
none_marked zero = refl
none_marked (suc n) = none_marked n

-- ==== what has no mark is free

abbrev Unmarked : List ℕ → ℕ → Type 0
Unmarked used q = get_or used q 1 ≡ 0

mark_stays : (used : List ℕ) (p : ℕ) → get_or (set used p 1) p 1 ≡ 1
mark_stays [] p = refl
mark_stays (u ∷ used) zero = refl
mark_stays (u ∷ used) (suc p) = mark_stays used p

before_mark : (used : List ℕ) (p q : ℕ) → Unmarked (set used p 1) q → Unmarked used q × (not (eqb p q) ≡ true)
before_mark used p q e = go (eqb p q) refl
  where
    go : (b : Bool) → eqb p q ≡ b → Unmarked used q × (not (eqb p q) ≡ true)
    go true h = absurd (let same = eqb-true p q h in let one = mark_stays used p in
        let z : get_or (set used p 1) p 1 ≡ 0 = ap (λ (n : ℕ). get_or (set used p 1) n 1) same ∙ e in omega arith)
    go false h = (sym (get_or-set_other used p q 1 1 (λ z. eqb-false p q h (sym z))) ∙ e, rw h)

before_marks : (used held : List ℕ) (q : ℕ) → Unmarked (marked used held) q → Unmarked used q × (lacks q held ≡ true)
unfolding marked
before_marks used [] q e = (e, refl)
before_marks used (p ∷ held) q e =
    let rest = before_marks (set used p 1) held q e in
    let one = before_mark used p q rest.0 in
    (one.0, rw (one.1, rest.1))

before_all : (used : List ℕ) (each : List (List ℕ)) (q : ℕ) → Unmarked (marked_by_all used each) q → Unmarked used q
unfolding marked_by_all
before_all used [] q e = e
before_all used (held ∷ each) q e = (before_marks used held q (before_all (marked used held) each q e)).0

unmarked_free : (used : List ℕ) (each : List (List ℕ)) (q : ℕ) → Unmarked (marked_by_all used each) q → is_free q each ≡ true
unfolding marked_by_all
unmarked_free used [] q e = refl
unmarked_free used (held ∷ each) q e =
    let rest = unmarked_free (marked used held) each q e in
    rw ((before_marks used held q (before_all (marked used held) each q e)).1, rest)

-- ==== the first without a mark

record First (used : List ℕ) : Type 0 where
  there : first_free used < length used
  none : Unmarked used (first_free used)

first_there : (used : List ℕ) → marks used < length used → First used
unfolding first_free
first_there [] h = absurd (omega arith)
first_there (u ∷ used) h = go (eqb u 0) refl (λ k. first_there used k)
  where
    go : (b : Bool) → eqb u 0 ≡ b → (marks used < length used → First used) → First (u ∷ used)
    go true e rest = record { there = rw e (omega arith); none = rw e (eqb-true u 0 e) }
    go false e rest =
        let k = rw e at h in
        let more = rest (omega arith) in
        record { there = rw e (let t = more.there in omega arith); none = rw e more.none }

-- ==== one is free, where one session holds fewer than it may and there are as many places as all may hold

pub record Fewer (most : ℕ) (each : List (List ℕ)) (s : ℕ) : Type 0 where
  pub most_each : (i : ℕ) → i < length each → length (get_or each i []) ≤ most
  pub session : s < length each
  pub fewer : length (get_or each s []) < most

all_most : (most : ℕ) (each : List (List ℕ)) → ((i : ℕ) → i < length each → length (get_or each i []) ≤ most)
    → total each ≤ length each * most
all_most most [] h = omega arith
all_most most (held ∷ each) h =
    let one = h 0 (omega arith) in
    let rest = all_most most each (λ i k. h (suc i) (omega arith)) in
    omega (arith, suc-mul (length each) most)

pub all_fewer : (most : ℕ) (each : List (List ℕ)) (s : ℕ) → Fewer most each s → total each < length each * most
all_fewer most [] s f = absurd (let h = f.session in omega arith)
all_fewer most (held ∷ each) zero f =
    let one = f.fewer in
    let rest = all_most most each (λ i k. f.most_each (suc i) (omega arith)) in
    omega (arith, suc-mul (length each) most)
all_fewer most (held ∷ each) (suc s) f =
    let one = f.most_each 0 (omega arith) in
    let rest = all_fewer most each s (record {
      most_each = λ i k. f.most_each (suc i) (omega arith);
      session = let h = f.session in omega arith;
      fewer = f.fewer;
    }) in
    omega (arith, suc-mul (length each) most)

pub free_there : (most : ℕ) (each : List (List ℕ)) (s : ℕ) → Fewer most each s
    → let p = first_free (marked_by_all (replicate (length each * most) 0) each) in
    (p < length each * most) × (is_free p each ≡ true)
free_there most each s f =
    let n = length each * most in
    let used = marked_by_all (replicate n 0) each in
    let few = all_adds (replicate n 0) each in
    let none = none_marked n in
    let fewer = all_fewer most each s f in
    let long : length used ≡ n = length_by_all (replicate n 0) each ∙ length-replicate n 0 in
    let first = first_there used (omega arith) in
    let there = first.there in
    (omega arith, unmarked_free (replicate n 0) each _ first.none)

-- ==== how they are marked and looked for, one after the other

pub mark_next : (used held : List ℕ) (i : ℕ) → i < length held
    → marked used (drop i held) ≡ marked (set used (get_or held i 0) 1) (drop (i + 1) held)
unfolding marked
mark_next used held i h = ap (marked used) (drop_next held i 0 h)

pub mark_end : (used held : List ℕ) (i : ℕ) → length held ≤ i → marked used (drop i held) ≡ used
unfolding marked
mark_end used held i h = ap (marked used) (drop_of_length-le held {i = i} h)

-- what stands where no mark is
abbrev pub no_mark : ℕ → Bool
no_mark u = eqb u 0

first_is : (used : List ℕ) → first_free used ≡ position_or_len no_mark used
unfolding first_free
first_is = is_position_or_len first_free no_mark refl (λ u used. ap (cond (eqb u 0) 0) (omega arith))

-- what the first one without a mark is, where there is one
pub first_found : (used : List ℕ) (r : Option ℕ) → r ≡ position no_mark used → FirstFree used r
first_found used r e = rw e (go (ltb (position_or_len no_mark used) (length used)) refl)
  where
    go : (b : Bool) → ltb (position_or_len no_mark used) (length used) ≡ b
        → FirstFree used (cond b (Some (position_or_len no_mark used)) None)
    go true h = (sym (first_is used), ltb-true (position_or_len no_mark used) (length used) h)
    go false h =
        let past = ltb-false (position_or_len no_mark used) (length used) h in
        let most = prefix_len-le-length (λ u. not (no_mark u)) used in
        first_is used ∙ omega arith

-- there is one, where it is known to be one of them
pub first_some : (used : List ℕ) (r : Option ℕ) → FirstFree used r → first_free used < length used → r ≡ Some (first_free used)
first_some used None f h = absurd (omega arith)
first_some used (Some p) f h = ap Some f.0
