-- The contract of an export leaves nothing open: any two outcomes that it allows of one call return the same number, leave the same answer
-- and output, the same meaning of the table, as long a table, and past what is used the same bytes of it; and one that is refused or not
-- made leaves the same table.
use mathlib.Core.Path.{◌≡◌, sym, ◌∙◌}
use Prim.Native.Nat.{ℕ}
use mathlib.Core.List.{List}
use lib.ListN.{length, drop}
use Rattle.model.specs.Calls.{Call}
use Rattle.table.specs.Table.{table_used, decode}
use Rattle.serifladder.specs.Export.{Exported}

pub record SameExport (r : ℕ) (t o a : List ℕ) (r₂ : ℕ) (t₂ o₂ a₂ : List ℕ) : Type 0 where
  pub number : r ≡ r₂
  pub meaning : decode t ≡ decode t₂
  pub answer : a ≡ a₂
  pub output : o ≡ o₂
  pub size : length t ≡ length t₂
  pub past : drop table_used t ≡ drop table_used t₂
  pub kept : (r ≡ 0 → ⊥) → t ≡ t₂

pub determined : {c : Call} {t o a : List ℕ} {r r₂ : ℕ} {t' o' a' t₂ o₂ a₂ : List ℕ}
    → Exported c t o a r t' o' a' → Exported c t o a r₂ t₂ o₂ a₂ → SameExport r t' o' a' r₂ t₂ o₂ a₂
determined {r = r} {r₂ = r₂} x y =
    let e : r ≡ r₂ = x.number ∙ sym y.number in
    record {
      number = e;
      meaning = x.meaning ∙ sym y.meaning;
      answer = x.answer ∙ sym y.answer;
      output = x.output ∙ sym y.output;
      size = x.size ∙ sym y.size;
      past = x.past ∙ sym y.past;
      kept = λ n. x.kept n ∙ sym (y.kept (λ z. n (e ∙ z)));
    }
