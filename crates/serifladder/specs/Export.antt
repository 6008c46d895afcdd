-- 01, "What the product holds": a call as C makes it. The four numbers go to a further lent run.
use Rattle.std.specs.Prelude.{◌≡◌, ℕ, ◌≤◌, true, List, length, drop}
use Rattle.std.specs.Borrow.{MutBor}
use Rattle.std.specs.Fn.{Once}
use Rattle.std.proofs.lemmas.List.Edits.{sets}
use Rattle.model.specs.Limits.{output_least}
use Rattle.model.specs.World.{uncounted}
use Rattle.model.specs.Calls.{Call, Returned, returned, answer_bytes}
use Rattle.table.specs.Table.{table_used, decode, table_formed}
use Rattle.refusal.specs.Numbers.{lent}
use Rattle.controller.specs.Contract.{model_answer, Outcome}
use Rattle.controller.specs.declared.Answer.{Answer}

-- what the model has C told, from what the lent table means
abbrev pub told : Call → List ℕ → List ℕ → List ℕ → Returned
told c t o a = returned (length a) (lent t (length o)) (decode t) c

-- the four numbers of an answer are written out, and the first of them is returned
pub record AnswerWritten (y : Answer) (a : List ℕ) (r : ℕ) (a' : List ℕ) : Type 0 where
  pub number : r ≡ y.number
  pub numbers : a' ≡ sets a 0 (answer_bytes (model_answer y))

-- the call c, lent the table t, the output o and the answer a, returns r and leaves t', o' and a'. (A start is lent no output: there o
-- is empty)
pub record Exported (c : Call) (t o a : List ℕ) (r : ℕ) (t' o' a' : List ℕ) : Type 0 where
  pub number : r ≡ (told c t o a).number
  pub meaning : decode t' ≡ uncounted (told c t o a).world
  -- the numbers and the records stand from the beginning on, and past them all is as it was
  pub answer : a' ≡ sets a 0 (told c t o a).to_answer
  pub output : o' ≡ sets o 0 (told c t o a).to_output
  pub fits : length (told c t o a).to_output ≤ output_least
  pub size : length t' ≡ length t
  pub past : drop table_used t' ≡ drop table_used t
  -- done
  pub formed : r ≡ 0 → table_formed t' ≡ true
  -- refused, or not made
  pub kept : (r ≡ 0 → ⊥) → t' ≡ t

-- a table and an output, as a function is lent them
abbrev pub LentBoth : Type 0
LentBoth = MutBor (List ℕ) × (MutBor (List ℕ) × Unit {0})

-- whatever f answers and leaves where it is lent the table t and the output o is what the call c does
abbrev pub Does : {F : Type 0} → Once F LentBoth (Answer × LentBoth) → F → Call → List ℕ → List ℕ → Type 0
Does g f c t o =
    (lent left : LentBoth) (x : Answer) → lent.0.now ≡ t → lent.1.0.now ≡ o → g.post f lent (x, left)
    → Outcome c t o x left.0.now left.1.0.now
