-- Histories of the six functions that C calls: of all calls that their contracts allow, each lent as many of the table's bytes as the
-- host says, an output and an answer, each of them perhaps too short.
use Rattle.std.specs.Prelude.{ℕ, ◌≤◌, ◌<◌, min, ◌≡◌, true, false, ◌&&◌, List, [], ◌∷◌, ◌++◌, eqb, length, take, drop}
use Rattle.std.proofs.lemmas.List.Edits.{sets}
use Rattle.model.specs.Limits.{table_least, answer_least, answer_too_short}
use Rattle.model.specs.World.{World}
use Rattle.model.specs.Calls.{Call, start, Lent, Answer, answer_bytes, Returned, returned}
use Rattle.model.specs.Sights.{starts}
use Rattle.watch.specs.Marks.{Every}
use Rattle.controller.specs.Contract.{model_answer}
use Rattle.controller.specs.Trace.{Made}
use Rattle.serifladder.specs.Export.{Exported}

-- ==== a history of calls that C makes, in which only these calls write the table

-- a call: how many of the table's bytes it was lent, the output and the answer; what C was told, and what is left of the two
pub record Export : Type 0 where
  pub call : Call
  pub bytes : ℕ
  pub output : List ℕ
  pub answer : List ℕ
  pub told : ℕ
  pub output_left : List ℕ
  pub answer_left : List ℕ

-- it was lent the first bytes of the table t; t' is the table that it leaves, past those bytes as it was
pub record Leaves (p : Export) (t t' : List ℕ) : Type 0 where
  pub left : List ℕ
  pub outcome : Exported p.call (take p.bytes t) p.output p.answer p.told left p.output_left p.answer_left
  pub whole : t' ≡ left ++ drop p.bytes t

-- t is the table before the first call, and t' after the last
pub data Exports : List ℕ → List Export → List ℕ → Type 0 where
  none : {t : List ℕ} → Exports t [] t
  and : {t t₁ t₂ : List ℕ} {p : Export} {ps : List Export} → Leaves p t t₁ → Exports t₁ ps t₂ → Exports t (p ∷ ps) t₂

-- a start for which C was told 0
abbrev pub starting : List ℕ → ℕ → List ℕ → List ℕ → Export
starting settings bytes answer answer_left = record {
  call = start settings;
  bytes = bytes;
  output = [];
  answer = answer;
  told = 0;
  output_left = [];
  answer_left = answer_left;
}

pub record ExportHistory (t : List ℕ) (ps : List Export) (t' : List ℕ) : Type 0 where
  pub before : List ℕ
  pub settings : List ℕ
  pub bytes : ℕ
  pub answer : List ℕ
  pub answer_left : List ℕ
  pub begins : Leaves (starting settings bytes answer answer_left) before t
  pub then : Exports t ps t'

-- no second start is done among them
abbrev pub OnceTold : List Export → Type 0
OnceTold ps = Every (λ p. (eqb p.told 0 && starts p.call) ≡ false) ps

-- none of them is told that number
abbrev pub NeverTold : ℕ → List Export → Type 0
NeverTold n ps = Every (λ p. p.told ≡ n → ⊥) ps

-- ==== demand 2, of such a history: what C is told is what the model has it told

-- what a call is lent of a table of that size; the table is well formed
abbrev pub lent_of : ℕ → Export → Lent
lent_of size p = record { table = min p.bytes size; well_formed = true; output = length p.output }

-- C is told the number, the answer's bytes and the output's are written from the beginning on, and past them all is as it was
pub record Returns (p : Export) (r : Returned) : Type 0 where
  pub number : p.told ≡ r.number
  pub answer : p.answer_left ≡ sets p.answer 0 r.to_answer
  pub output : p.output_left ≡ sets p.output 0 r.to_output

-- the calls one after another, from the world w on
abbrev pub AsModelled : ℕ → World → List Export → Type 0
AsModelled size w [] = Unit {0}
AsModelled size w (p ∷ ps) =
    let r = returned (length p.answer) (lent_of size p) w p.call in Returns p r × AsModelled size r.world ps

-- ==== which of them are the product's calls

-- p is the call m, and C is told its numbers
pub record Is (p : Export) (m : Made) : Type 0 where
  pub enough : (answer_least ≤ length p.answer) × (table_least ≤ p.bytes)
  pub call : m.call ≡ p.call
  pub output : m.output ≡ p.output
  pub output_left : m.output_left ≡ p.output_left
  pub told : p.told ≡ m.answer.number
  pub answer_left : p.answer_left ≡ sets p.answer 0 (answer_bytes (model_answer m.answer))

-- refused with 1: nothing read, written or taken
abbrev pub refused_1 : Answer
refused_1 = record { number = 1; consumed = 0; written = 0; taken = 0 }

-- p is none: the answer is too short, and nothing is done; or the table is, and the answer says so
pub data NotMade (p : Export) : Type 0 where
  short_answer : length p.answer < answer_least → p.told ≡ answer_too_short → p.answer_left ≡ p.answer
      → p.output_left ≡ p.output → NotMade p
  short_table : answer_least ≤ length p.answer → p.bytes < table_least → p.told ≡ 1
      → p.answer_left ≡ sets p.answer 0 (answer_bytes refused_1) → p.output_left ≡ p.output → NotMade p

-- the calls among them, in their order
pub data CallsOf : List Export → List Made → Type 0 where
  none : CallsOf [] []
  made : {p : Export} {m : Made} {ps : List Export} {ms : List Made} → Is p m → CallsOf ps ms → CallsOf (p ∷ ps) (m ∷ ms)
  not_made : {p : Export} {ps : List Export} {ms : List Made} → NotMade p → CallsOf ps ms → CallsOf (p ∷ ps) ms
