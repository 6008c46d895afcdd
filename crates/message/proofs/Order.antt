-- What the tests rest on: that a number with an effect is listed, and, by 02, P2, that they ask of the tightenings that are kept for one
-- alone, the one that the data mean.
use Rattle.std.proofs.Common.{◌≡◌, refl, arith, ℕ, true, List}
use Rattle.std.proofs.Math.Option.{Option, none, some}
use Rattle.std.specs.Prelude.{Option as Found, None, Some}
use Rattle.model.specs.Messages.{Standing, Entry, number_asked, own_test, tested, entry_of, error_of}
use Rattle.model.specs.Messages.{Effect, starts, stops, identifies, subscribes, unsubscribes, acknowledges, fetches, mirrors}
use Rattle.model.specs.declared.Kind.{Kind}
use Rattle.message.specs.Meaning.{effect_in, effect_found, effect_listed, meant, standing_of, standing_with}
use Rattle.message.specs.Inner.{is_listed}
use Rattle.message.specs.declared.Effect as by_kind
use Rattle.message.specs.declared.Standing as by_value

-- a number for which there is an effect is listed
pub known : (mid : ℕ) (found : Found (by_kind.Effect Kind)) → (found ≡ None → ⊥) → effect_found found ≡ effect_listed (entry_of mid)
    → is_listed (entry_of mid) ≡ true
known mid None k q = absurd (k refl)
known mid (Some e) k q = by_entry (entry_of mid) q
  where
    by_entry : (o : Option Entry) → some (effect_in e) ≡ effect_listed o → is_listed o ≡ true
    by_entry none q = absurd (let w : ◌≡◌ {A = ℕ} 0 1 = cc in omega arith)
    by_entry (some n) q = refl

module _ (x : by_value.Standing) (bs : List ℕ) where
  abbrev with_number : Standing
  with_number = standing_with x (meant x.common (number_asked bs))

  same_own : (e : Effect) → own_test with_number e bs ≡ own_test (standing_of x) e bs
  same_own starts = refl
  same_own stops = refl
  same_own (identifies n) = refl
  same_own (subscribes kind n) = refl
  same_own (unsubscribes kind n) = refl
  same_own (acknowledges kind) = refl
  same_own (fetches n) = refl
  same_own mirrors = refl

  pub by_number : (mid size n : ℕ) → error_of with_number mid size n bs ≡ error_of (standing_of x) mid size n bs
  unfolding error_of
  by_number mid size n = go (entry_of mid)
    where
      go : (o : Option Entry) → tested with_number o size n bs ≡ tested (standing_of x) o size n bs
      go none = refl
      go (some e) = rw (same_own e.effect)
