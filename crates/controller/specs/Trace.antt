-- 01, "What the product holds": a history of calls in which only these calls write the table.
use Rattle.std.specs.Prelude.{◌≡◌, ℕ, true, List, [], ◌∷◌, length, take}
use Rattle.model.specs.Calls.{Call, start, Lent}
use Rattle.model.specs.Calls as model
use Rattle.controller.specs.declared.Answer.{Answer}
use Rattle.controller.specs.Layout.{Layout, ours}
use Rattle.controller.specs.Contract.{OutcomeIn, model_answer}

-- a call that was made: the output that it was lent, its answer, and the output that it left
pub record Made : Type 0 where
  pub call : Call
  pub output : List ℕ
  pub answer : Answer
  pub output_left : List ℕ

-- t is lent to the first call, and what a call leaves of it to the next; t' is what the last one leaves. The output may be another one
-- each time, and too short
pub data TraceIn (layout : Layout) : List ℕ → List Made → List ℕ → Type 0 where
  none : {t : List ℕ} → TraceIn layout t [] t
  and : {t t₁ t₂ : List ℕ} {m : Made} {ms : List Made}
      → OutcomeIn layout m.call t m.output m.answer t₁ m.output_left → TraceIn layout t₁ ms t₂ → TraceIn layout t (m ∷ ms) t₂

abbrev pub Trace : List ℕ → List Made → List ℕ → Type 0
Trace t ms t' = TraceIn ours t ms t'

-- none of the answers has that number
abbrev pub Never : ℕ → List Made → Type 0
Never n [] = Unit {0}
Never n (m ∷ ms) = (m.answer.number ≡ n → ⊥) × Never n ms

-- a history that begins with a start that is done
pub record HistoryIn (layout : Layout) (t : List ℕ) (ms : List Made) (t' : List ℕ) : Type 0 where
  pub before : List ℕ
  pub settings : List ℕ
  pub answer : Answer
  pub begins : OutcomeIn layout (start settings) before [] answer t []
  pub done : answer.number ≡ 0
  pub then : TraceIn layout t ms t'

abbrev pub History : List ℕ → List Made → List ℕ → Type 0
History t ms t' = HistoryIn ours t ms t'

-- ==== what a history shows, and the model's run of the same calls

-- a call's answer, and the records that it wrote
abbrev pub shown : Made → model.Answer × List ℕ
shown m = (model_answer m.answer, take m.answer.written m.output_left)

-- as each call was lent a well formed table of so many bytes, and its output
abbrev pub lendings : ℕ → List Made → List (Lent × Call)
lendings size [] = []
lendings size (m ∷ ms) = (record { table = size; well_formed = true; output = length m.output }, m.call) ∷ lendings size ms
