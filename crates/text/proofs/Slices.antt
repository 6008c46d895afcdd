-- What the library's methods on slices answer, in the model's words.
use mathlib.Core.Path.{◌≡◌, refl, ap, ◌∙◌}
use mathlib.Core.Bool.{Bool, ◌&&◌}
use mathlib.Core.List.{List, [], ◌∷◌}
use denote.Param.Members.{Mut}
use denote.Ref.{Bor}
use Rattle.std.specs.Fn.{Called}
use Rattle.std.specs.Iterator.{ChecksAll, FindsPosition}
use Rattle.std.specs.List.{list_all, position}
use Rattle.std.specs.Prelude.{ℕ, Option}
use Rattle.std.specs.declared.slice.Iter.{Iter}
use Rattle.std.specs.Slice.Iter.{iter_rest}
use Rattle.std.proofs.iter.Yields.{fronts}
use Rattle.std.proofs.lemmas.Iterator.{YieldsList-from_slice}
use Rattle.std.proofs.lemmas.Iterator.Search.{all_from_yields_List, position_from_yields_List}
use Rattle.model.specs.Bytes.{all}

-- the library's own word for a test of every element
pub all_is : {A : Type 0} (test : A → Bool) (l : List A) → list_all test l ≡ all test l
all_is test [] = refl
all_is test (x ∷ l) = ap (λ (b : Bool). test x && b) (all_is test l)

-- what `s.iter().all(..)` answers, where the closure answers what the test says
pub all_answers : {A F : Type 0} {g : Mut F (Bor A × Unit {0}) Bool} {s u : Iter A} {f : F} {r : Bool} (test : A → Bool) (l : List A)
    → ChecksAll fronts g s f r u → iter_rest s ≡ l
    → ((x : Bor A) (b : Bool) (q : F) → Called g f (x, tt) b q → (q ≡ f) × (b ≡ test x.now)) → r ≡ all test l
all_answers {u = u} {f = f} {r = r} test l ran from answers =
    all_from_yields_List test u f r ran (YieldsList-from_slice l from) answers ∙ all_is test l

-- what `s.iter().position(..)` answers, likewise
pub position_answers : {A F : Type 0} {g : Mut F (Bor A × Unit {0}) Bool} {s u : Iter A} {f : F} {r : Option ℕ} (test : A → Bool)
    (l : List A) → FindsPosition fronts g s f r u → iter_rest s ≡ l
    → ((x : Bor A) (b : Bool) (q : F) → Called g f (x, tt) b q → (q ≡ f) × (b ≡ test x.now)) → r ≡ position test l
position_answers {u = u} {f = f} {r = r} test l ran from answers =
    position_from_yields_List test u f r ran (YieldsList-from_slice l from) answers
