-- 01, "What the product holds": the contract of a call, one record for every call.
use Rattle.std.specs.Prelude.{◌≡◌, ℕ, ◌≤◌, true, List, length, drop}
use Rattle.std.proofs.lemmas.List.Edits.{sets}
use Rattle.model.specs.Limits.{output_least}
use Rattle.model.specs.Session.{Emission}
use Rattle.model.specs.World.{World, uncounted}
use Rattle.model.specs.Calls.{Call, Lent, output, step}
use Rattle.model.specs.Calls as model
use Rattle.model.specs.Row.{Tagged}
use Rattle.controller.specs.declared.Answer.{Answer}
use Rattle.controller.specs.Layout.{Layout, ours}

-- the world that a call leaves, its answer, and what goes out
abbrev pub Said : Type 0
Said = World × model.Answer × List (Tagged Emission)

-- a table, and an output of so many bytes
abbrev pub lent_in : Layout → List ℕ → ℕ → Lent
lent_in layout t n = record { table = length t; well_formed = layout.formed t; output = n }

-- the model's step, from what the lent table means
abbrev pub said_in : Layout → Call → List ℕ → List ℕ → Said
said_in layout c t o = step (lent_in layout t (length o)) (layout.decode t) c

abbrev pub said : Call → List ℕ → List ℕ → Said
said c t o = said_in ours c t o

-- the four numbers
abbrev pub numbers : model.Answer → Answer
numbers a = record { number = a.number; consumed = a.consumed; written = a.written; taken = a.taken }

abbrev pub model_answer : Answer → model.Answer
model_answer r = record { number = r.number; consumed = r.consumed; written = r.written; taken = r.taken }

-- the call c, lent the table t and the output o, answers r and leaves the table t' and the output o'. (A start is lent no output:
-- there o is empty)
pub record OutcomeIn (layout : Layout) (c : Call) (t o : List ℕ) (r : Answer) (t' o' : List ℕ) : Type 0 where
  pub answer : r ≡ numbers (said_in layout c t o).1
  pub meaning : layout.decode t' ≡ uncounted (said_in layout c t o).0
  -- the records stand from the output's start on, and past them it is as it was
  pub output : o' ≡ sets o 0 (output (said_in layout c t o).2)
  pub fits : r.written ≤ output_least
  pub size : length t' ≡ length t
  -- past the bytes that are used; those of ours end before 32,768
  pub past : drop layout.used t' ≡ drop layout.used t
  -- done
  pub formed : r.number ≡ 0 → layout.formed t' ≡ true
  -- refused
  pub kept : (r.number ≡ 0 → ⊥) → t' ≡ t

-- in the product's tables
abbrev pub Outcome : Call → List ℕ → List ℕ → Answer → List ℕ → List ℕ → Type 0
Outcome c t o r t' o' = OutcomeIn ours c t o r t' o'
