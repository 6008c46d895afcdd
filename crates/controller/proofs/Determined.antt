-- The contract leaves nothing open: any two outcomes that it allows of one call have the same four numbers, the same output, the same
-- meaning of the table, as long a table, and past what is used the same bytes of it; and a call that is refused leaves the same table.
use mathlib.Core.Path.{◌≡◌, sym, ap, ◌∙◌}
use Prim.Native.Nat.{ℕ}
use mathlib.Core.List.{List}
use lib.ListN.{length, drop}
use Rattle.model.specs.Limits.{table_least}
use Rattle.model.specs.Calls.{Call}
use Rattle.table.specs.Table.{table_used, decode}
use Rattle.table.proofs.Regions.{past_least as past_of}
use Rattle.controller.specs.declared.Answer.{Answer}
use Rattle.controller.specs.Contract.{Outcome}

pub record SameOutcome (r : Answer) (t o : List ℕ) (r₂ : Answer) (t₂ o₂ : List ℕ) : Type 0 where
  pub answer : r ≡ r₂
  pub meaning : decode t ≡ decode t₂
  pub output : o ≡ o₂
  pub size : length t ≡ length t₂
  pub past : drop table_used t ≡ drop table_used t₂
  pub kept : (r.number ≡ 0 → ⊥) → t ≡ t₂

pub determined : {c : Call} {t o : List ℕ} {r r₂ : Answer} {t' o' t₂ o₂ : List ℕ}
    → Outcome c t o r t' o' → Outcome c t o r₂ t₂ o₂ → SameOutcome r t' o' r₂ t₂ o₂
determined {r = r} {r₂ = r₂} a b =
    let e : r ≡ r₂ = a.answer ∙ sym b.answer in
    record {
      answer = e;
      meaning = a.meaning ∙ sym b.meaning;
      output = a.output ∙ sym b.output;
      size = a.size ∙ sym b.size;
      past = a.past ∙ sym b.past;
      kept = λ n. a.kept n ∙ sym (b.kept (λ z. n (ap (λ (x : Answer). x.number) e ∙ z)));
    }

-- no byte past 32,768 is altered
pub past_least : {c : Call} {t o : List ℕ} {r : Answer} {t' o' : List ℕ} → Outcome c t o r t' o' → drop table_least t' ≡ drop table_least t
past_least {t = t} {t' = t'} out = past_of t t' out.past
