-- A call made by C is the call, its four numbers written out.
use mathlib.Core.Path.{◌≡◌, refl, sym, ap, subst, ◌∙◌}
use Prim.Native.Nat.{ℕ, ◌*◌, ◌≤◌, ◌<◌}
use native.Mathlib.Omega.{arith}
use mathlib.Core.List.{List, [], ◌∷◌, ◌++◌}
use lib.ListN.{length, length-append}
use lib.Seq.{sets}
use borrow.Author.Tests.{lt-ltb, le-ltb}
use Rattle.model.specs.Limits.{answer_least, answer_too_short, output_least}
use Rattle.model.specs.Bytes.{in_bytes}
use Rattle.model.specs.World.{uncounted}
use Rattle.model.specs.Calls.{Call, answer_bytes}
use Rattle.text.proofs.Numbers.{in_bytes_length}
use Rattle.table.specs.Table.{decode}
use Rattle.controller.specs.Contract.{model_answer, Outcome}
use Rattle.controller.specs.declared.Answer.{Answer}
use Rattle.controller.proofs.Outputs.{so_long}
use Rattle.serifladder.specs.Export.{AnswerWritten, Exported}

-- the four numbers, and such numbers as they stand in an answer
abbrev pub numbers_of : Answer → List ℕ
numbers_of x = x.number ∷ x.consumed ∷ x.written ∷ x.taken ∷ []

abbrev pub all_in_bytes : List ℕ → List ℕ
all_in_bytes [] = []
all_in_bytes (n ∷ ns) = in_bytes 8 n ++ all_in_bytes ns

pub length_all_in_bytes : (ns : List ℕ) → length (all_in_bytes ns) ≡ 8 * length ns
length_all_in_bytes [] = refl
length_all_in_bytes (n ∷ ns) = omega (arith, in_bytes_length 8 n, length-append (in_bytes 8 n) (all_in_bytes ns), length_all_in_bytes ns)

still : (t : List ℕ) → decode t ≡ uncounted (decode t)
unfolding decode
still t = refl

module _ {c : Call} {t o a : List ℕ} where
  -- the answer is too short: nothing is altered
  pub not_made : length a < answer_least → Exported c t o a answer_too_short t o a
  not_made h = record {
    number = rw lt-ltb;
    meaning = rw lt-ltb (still t);
    answer = rw lt-ltb;
    output = rw lt-ltb;
    fits = rw lt-ltb (omega arith);
    size = refl;
    past = refl;
    formed = λ z. absurd (omega (arith, z));
    kept = λ ne. refl;
  }

  -- the call's outcome, with the answer y, of which C is given the numbers
  pub made : {r : ℕ} {t' o' a' : List ℕ} {y : Answer} → answer_least ≤ length a → Outcome c t o y t' o'
      → AnswerWritten y a r a'
      → Exported c t o a r t' o' a'
  made h w given = record {
    number = rw le-ltb (given.number ∙ ap (λ (x : Answer). x.number) w.answer);
    meaning = rw le-ltb w.meaning;
    answer = rw le-ltb (given.numbers ∙ ap (λ (x : Answer). sets a 0 (answer_bytes (model_answer x))) w.answer);
    output = rw le-ltb w.output;
    fits = rw le-ltb (subst (λ (n : ℕ). n ≤ output_least) (so_long w) w.fits);
    size = w.size;
    past = w.past;
    formed = λ q. w.formed (sym given.number ∙ q);
    kept = λ ne. w.kept (λ q. ne (given.number ∙ q));
  }
