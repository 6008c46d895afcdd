-- What the proofs ask of the table of kinds of notice, by computed tests over it.
use Prim.Native.Nat.{ℕ, zero, suc, ◌<◌}
use mathlib.Core.Path.{◌≡◌, refl, sym, ap}
use mathlib.Core.Bool.{Bool, true, false, not, ◌&&◌, ◌||◌, true≢false}
use mathlib.Core.List.{List, [], ◌∷◌}
use native.Mathlib.Omega.{arith}
use lib.Dec.{eqb}
use lib.ListN.{length, get_or}
use borrow.Author.Tests.{eqb-false, not-true}
use Rattle.model.specs.Bytes.{all}
use Rattle.model.specs.Layouts.{Layout, layout_at}
use Rattle.model.specs.Kinds.{Kind, kinds, kind_at}
use Rattle.model.specs.Wire.{has_notice}
use Rattle.model.proofs.Framed.{both, at_every}

pub neither : (a b : Bool) → (a || b) ≡ false → (a ≡ false) × (b ≡ false)
neither true b e = absurd (true≢false e)
neither false b e = (refl, e)

-- what a test over a table says of a place
pub all_at : {A : Type 0} (test : A → Bool) (xs : List A) (d : A) → all test xs ≡ true → (i : ℕ) → i < length xs
    → test (get_or xs i d) ≡ true
all_at test [] d h i u = absurd (omega arith)
all_at test (x ∷ xs) d h zero u = (both (test x) (all test xs) h).0
all_at test (x ∷ xs) d h (suc i) u = all_at test xs d (both (test x) (all test xs) h).1 i (omega arith)

-- ==== the numbers of notices

pub no_notice : (ks : List Kind) (d : Kind) (mid : ℕ) → has_notice ks mid ≡ false → (i : ℕ) → i < length ks
    → eqb mid (get_or ks i d).notice ≡ false
no_notice [] d mid h i u = absurd (omega arith)
no_notice (k ∷ ks) d mid h zero u = (neither (eqb mid k.notice) (has_notice ks mid) h).0
no_notice (k ∷ ks) d mid h (suc i) u = no_notice ks d mid (neither (eqb mid k.notice) (has_notice ks mid) h).1 i (omega arith)

-- no two kinds have the same
abbrev differ : List Kind → Bool
differ [] = true
differ (k ∷ ks) = not (has_notice ks k.notice) && differ ks

differ_at : (ks : List Kind) (d : Kind) → differ ks ≡ true → (i j : ℕ) → i < length ks → j < length ks
    → (get_or ks i d).notice ≡ (get_or ks j d).notice → i ≡ j
differ_at [] d h i j u v e = absurd (omega arith)
differ_at (k ∷ ks) d h zero zero u v e = refl
differ_at (k ∷ ks) d h zero (suc j) u v e =
    let n = not-true (has_notice ks k.notice) (both (not (has_notice ks k.notice)) (differ ks) h).0 in
    absurd (eqb-false k.notice (get_or ks j d).notice (no_notice ks d k.notice n j (omega arith)) e)
differ_at (k ∷ ks) d h (suc i) zero u v e =
    let n = not-true (has_notice ks k.notice) (both (not (has_notice ks k.notice)) (differ ks) h).0 in
    absurd (eqb-false k.notice (get_or ks i d).notice (no_notice ks d k.notice n i (omega arith)) (sym e))
differ_at (k ∷ ks) d h (suc i) (suc j) u v e =
    ap suc (differ_at ks d (both (not (has_notice ks k.notice)) (differ ks) h).1 i j (omega arith) (omega arith) e)

pub notices_differ : (i j : ℕ) → i < length kinds → j < length kinds → (kind_at i).notice ≡ (kind_at j).notice → i ≡ j
notices_differ i j u v e = differ_at kinds _ refl i j u v e

-- ==== their layouts: what a test finds of each of them it finds of every kind and revision

abbrev pub throughout : (Kind → Layout → Bool) → Kind → Bool
throughout test k = all (test k) (k.layouts.newest ∷ k.layouts.older)

pub every_layout : (test : Kind → Layout → Bool) → all (throughout test) kinds ≡ true → (i : ℕ) → i < length kinds → (revision : ℕ)
    → test (kind_at i) (layout_at (kind_at i).layouts revision) ≡ true
every_layout test h i u revision =
    at_every (test (kind_at i)) (kind_at i).layouts (all_at (throughout test) kinds _ h i u) revision
