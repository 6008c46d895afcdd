-- THE SIX FUNCTIONS THAT C CALLS, IN WHOLE HISTORIES: what C is told is what the model has it told, number 2 is not among it, and
-- demand 3 holds. The calls that were lent too little of the table or of the answer leave table and output as they were.
use Prim.Native.Nat.{ℕ, suc, ◌≤◌, ◌<◌, min}
use mathlib.Core.Path.{◌≡◌, refl, sym, ◌∙◌, ap, ap₂, subst}
use mathlib.Core.Bool.{Bool, true, false, ◌&&◌}
use mathlib.Core.List.{List, [], ◌∷◌, ◌++◌}
use native.Mathlib.Omega.{arith}
use lib.Dec.{ltb, eqb}
use lib.ListN.{length, take, drop, take-append-drop, length-take, length-drop, length-append}
use lib.Seq.{sets, drop-append-le}
use borrow.Author.Tests.{ltb-true, ltb-false, lt-ltb, le-ltb}
use Rattle.model.specs.Limits.{table_least, answer_least, answer_too_short}
use Rattle.model.specs.Records.{payload, settings_of}
use Rattle.model.specs.World.{World, begun}
use Rattle.model.specs.Calls.{Call, Lent, Returned, answer_bytes, output, refusal, step, returned}
use Rattle.model.specs.Calls as model
use Rattle.model.specs.Sights.{starts}
use Rattle.model.specs.Erased.{erase_world}
use Rattle.model.proofs.Refusals.{same_step, step_1}
use Rattle.table.specs.Table.{table_used, decode, table_formed, Table}
use Rattle.table.proofs.Front.{decode_take, formed_take, decode_front, formed_front}
use Rattle.refusal.specs.Numbers.{lent}
use Rattle.controller.specs.declared.Answer.{Answer}
use Rattle.controller.specs.Contract.{said, numbers, model_answer, Outcome}
use Rattle.controller.specs.Trace.{Made, Trace, none as no_call, and as and_call, Never, History}
use Rattle.controller.proofs.Outputs.{written_is, stands}
use Rattle.controller.proofs.Traces.{table_left, table_begun, never_not_well_formed}
use Rattle.controller.proofs.Modelled.{one_call, begun_meaning}
use Rattle.serifladder.specs.Export.{Exported}
use Rattle.history.specs.Product.{Once, Meets}
use Rattle.history.specs.Exports.{Export, Leaves, Exports, none, and, ExportHistory, OnceTold, NeverTold, lent_of, Returns}
use Rattle.history.specs.Exports.{AsModelled, Is, refused_1, short_answer, short_table, CallsOf, none as no_more, made}
use Rattle.history.specs.Exports.{not_made}
use Rattle.history.proofs.Product.{demand_3_of_the_product}

abbrev lending : ℕ → Bool → ℕ → Lent
lending size formed room = record { table = size; well_formed = formed; output = room }

-- ==== an answer that is long enough: the call was made, and C is told its numbers

module _ {c : Call} {t o a : List ℕ} {r : ℕ} {t' o' a' : List ℕ} (x : Exported c t o a r t' o' a') (h : answer_least ≤ length a) where
  told_number : r ≡ (said c t o).1.number
  told_number = rw le-ltb at x.number

  told_answer : a' ≡ sets a 0 (answer_bytes (said c t o).1)
  told_answer = rw le-ltb at x.answer

  said_written : (said c t o).1.written ≡ length (output (said c t o).2)
  unfolding step
  said_written = written_is (decode t) c (refusal (lent t (length o)) (decode t) c)

  outcome_of : Outcome c t o (numbers (said c t o).1) t' o'
  outcome_of = record {
    answer = refl;
    meaning = rw le-ltb at x.meaning;
    output = rw le-ltb at x.output;
    fits = rw said_written (rw le-ltb at x.fits);
    size = x.size;
    past = x.past;
    formed = λ z. x.formed (told_number ∙ z);
    kept = λ z. x.kept (λ e. z (sym told_number ∙ e));
  }

-- ==== what a call does to the bytes that it was lent it does to the table

module _ (c : Call) (n : ℕ) (t o : List ℕ) (h : table_least ≤ length (take n t)) where
  said_wide : said c (take n t) o ≡ said c t o
  said_wide =
      let u = length-take n t in
      let k : table_used ≤ n = omega arith in
      ap₂ (λ (f : Bool) (w : World). step (lending (length (take n t)) f (length o)) w c) (formed_take n t k) (decode_take n t k)
      ∙ same_step (lending (length (take n t)) (table_formed t) (length o)) (lending (length t) (table_formed t) (length o)) (decode t)
      (le-ltb (length (take n t)) table_least h ∙ sym (le-ltb (length t) table_least (omega arith))) refl refl c

  wider : {y : Answer} {t' o' : List ℕ} → Outcome c (take n t) o y t' o' → Outcome c t o y (t' ++ drop n t) o'
  wider {t' = t'} x =
      let k : table_used ≤ length t' = omega (arith, x.size) in
      record {
        answer = rw (← said_wide) x.answer;
        meaning = rw (← said_wide) (decode_front t' (drop n t) k ∙ x.meaning);
        output = rw (← said_wide) x.output;
        fits = x.fits;
        size = omega (arith, length-append t' (drop n t), x.size, length-take n t, length-drop n t);
        past =
            drop-append-le table_used t' (drop n t) k ∙ ap (◌++ drop n t) x.past
            ∙ sym (drop-append-le table_used (take n t) (drop n t) (omega arith)) ∙ ap (drop table_used) (take-append-drop n t);
        formed = λ z. formed_front t' (drop n t) k ∙ x.formed z;
        kept = λ z. ap (◌++ drop n t) (x.kept z) ∙ take-append-drop n t;
      }

-- ==== one call

data Did (p : Export) (t t₁ : List ℕ) : Type 0 where
  not_called : length p.answer < answer_least → p.told ≡ answer_too_short → p.answer_left ≡ p.answer
      → p.output_left ≡ p.output → t₁ ≡ t
      → Did p t t₁
  refused : answer_least ≤ length p.answer → length (take p.bytes t) < table_least → p.told ≡ 1
      → p.answer_left ≡ sets p.answer 0 (answer_bytes refused_1) → p.output_left ≡ p.output → t₁ ≡ t → Did p t t₁
  called : (y : Answer) → answer_least ≤ length p.answer → table_least ≤ length (take p.bytes t)
      → Outcome p.call t p.output y t₁ p.output_left → p.told ≡ y.number
      → p.answer_left ≡ sets p.answer 0 (answer_bytes (model_answer y)) → Did p t t₁

module _ (p : Export) (t t₁ : List ℕ) (x : Leaves p t t₁) where
  abbrev s : List ℕ
  s = take p.bytes t

  -- not done, by whatever number
  kept : {n : ℕ} → p.told ≡ suc n → t₁ ≡ t
  kept e = x.whole ∙ ap (◌++ drop p.bytes t) (x.outcome.kept (λ z. omega arith)) ∙ take-append-drop p.bytes t

  by_lengths : (a b : Bool) → ltb (length p.answer) answer_least ≡ a → ltb (length s) table_least ≡ b → Did p t t₁
  by_lengths true b e f =
      let z : p.told ≡ answer_too_short = rw e at x.outcome.number in
      not_called (ltb-true (length p.answer) answer_least e) z (rw e at x.outcome.answer) (rw e at x.outcome.output) (kept z)
  by_lengths false true e f =
      let h = ltb-false (length p.answer) answer_least e in
      let q = step_1 (lent s (length p.output)) (decode s) f p.call in
      let z = rw q at (told_number x.outcome h) in
      refused h (ltb-true (length s) table_least f) z (rw q at (told_answer x.outcome h))
      (rw q at (outcome_of x.outcome h).output) (kept z)
  by_lengths false false e f =
      let h = ltb-false (length p.answer) answer_least e in
      let l = ltb-false (length s) table_least f in
      let y = numbers (said p.call s p.output).1 in
      called y h l (rw x.whole (wider p.call p.bytes t p.output l (outcome_of x.outcome h))) (told_number x.outcome h)
      (told_answer x.outcome h)

  did : Did p t t₁
  did = by_lengths (ltb (length p.answer) answer_least) (ltb (length s) table_least) refl refl

-- ==== all of them

module _ {t t₁ t₂ : List ℕ} {p : Export} {ps : List Export} where
  and_more : Table t → Did p t t₁ → (Table t₁ → (ms : List Made) × CallsOf ps ms × Trace t₁ ms t₂)
      → (ms : List Made) × CallsOf (p ∷ ps) ms × Trace t ms t₂
  and_more h (not_called a z u v e) ih =
      let r = ih (rw e h) in (r.0, not_made (short_answer a z u v) r.1, rw e at r.2)
  and_more h (refused a b z u v e) ih =
      let r = ih (rw e h) in
      let l : p.bytes < table_least = let g = h.size in omega (arith, length-take p.bytes t) in
      (r.0, not_made (short_table a l z u v) r.1, rw e at r.2)
  and_more h (called y a b out z u) ih =
      let r = ih (table_left h out) in
      let l : table_least ≤ p.bytes = omega (arith, length-take p.bytes t) in
      let m : Made = record { call = p.call; output = p.output; answer = y; output_left = p.output_left } in
      let i : Is p m = record { enough = (a, l); call = refl; output = refl; output_left = refl; told = z; answer_left = u } in
      (m ∷ r.0, made i r.1, and_call out r.2)

pub calls_made : {t t' : List ℕ} {ps : List Export} → Table t → Exports t ps t' → (ms : List Made) × CallsOf ps ms × Trace t ms t'
calls_made h none = ([], no_more, no_call)
calls_made {t = t} h (and {t₁ = t₁} {p = p} x rest) = and_more h (did p t t₁ x) (λ g. calls_made g rest)

-- the start that was done
begun_by : {p : Export} {t t₁ : List ℕ} → p.told ≡ 0 → Did p t t₁
    → (y : Answer) × Outcome p.call t p.output y t₁ p.output_left × (y.number ≡ 0)
begun_by d (not_called a z u v e) = absurd (omega arith)
begun_by d (refused a b z u v e) = absurd (omega arith)
begun_by d (called y a b out z u) = (y, out, sym z ∙ d)

pub once_made : (ps : List Export) (ms : List Made) → CallsOf ps ms → OnceTold ps → Once ms
once_made [] [] no_more o = tt
once_made [] (m ∷ ms) c o = elim c [ ]
once_made (p ∷ ps) (m ∷ ms) (made x r) o = (
  ap₂ (λ (n : ℕ) (c : Call). eqb n 0 && starts c) (sym x.told) x.call ∙ o.0,
  once_made ps ms r o.1,
)
once_made (p ∷ ps) ms (not_made x r) o = once_made ps ms r o.1

-- a history of the six functions is one of the product's calls, after the same start
pub record CalledSo {t t' : List ℕ} {ps : List Export} (h : ExportHistory t ps t') : Type 0 where
  pub calls : List Made
  pub are : CallsOf ps calls
  pub history : History t calls t'
  pub started : history.settings ≡ h.settings

pub called_so : {t t' : List ℕ} {ps : List Export} (h : ExportHistory t ps t') → CalledSo h
called_so {t = t} h =
    let b = begun_by refl (did _ h.before t h.begins) in
    let k = calls_made (table_begun b.1 b.2) h.then in
    record {
      calls = k.0;
      are = k.1;
      history = record { before = h.before; settings = h.settings; answer = b.0; begins = b.1; done = b.2; then = k.2 };
      started = refl;
    }

-- DEMAND 3
pub demand_3_of_the_exports : {t t' : List ℕ} {ps : List Export} (h : ExportHistory t ps t') → OnceTold ps
    → (ms : List Made) × CallsOf ps ms × Trace t ms t' × Meets h.settings (length t) ms
demand_3_of_the_exports {t = t} {ps = ps} h o =
    let k = called_so h in
    let m = demand_3_of_the_product k.history (once_made ps k.calls k.are o) in
    (k.calls, k.are, k.history.then, subst (λ (slice : List ℕ). Meets slice (length t) k.calls) k.started m)

-- NUMBER 2 NEVER OCCURS
never_made : (ps : List Export) (ms : List Made) → CallsOf ps ms → Never 2 ms → NeverTold 2 ps
never_made [] [] no_more n = tt
never_made [] (m ∷ ms) c n = elim c [ ]
never_made (p ∷ ps) (m ∷ ms) (made x r) n = (λ e. n.0 (sym x.told ∙ e), never_made ps ms r n.1)
never_made (p ∷ ps) ms (not_made (short_answer a z u v) r) n = (λ e. omega arith, never_made ps ms r n)
never_made (p ∷ ps) ms (not_made (short_table a b z u v) r) n = (λ e. omega arith, never_made ps ms r n)

pub never_2_of_the_exports : {t t' : List ℕ} {ps : List Export} → ExportHistory t ps t' → NeverTold 2 ps
never_2_of_the_exports {ps = ps} h = let k = called_so h in never_made ps k.calls k.are (never_not_well_formed k.history)

-- ==== what C is told is what the model has it told

-- one call: C is told what the model says, and the table means what the model leaves
pub record Modelled (p : Export) (r : Returned) (t₁ : List ℕ) : Type 0 where
  pub returns : Returns p r
  pub world : decode t₁ ≡ erase_world r.world

module _ {p : Export} {t t₁ : List ℕ} (w : World) (h : Table t) (e : decode t ≡ erase_world w) where
  one_export : Did p t t₁ → Modelled p (returned (length p.answer) (lent_of (length t) p) w p.call) t₁
  one_export (not_called a z u v k) =
      rw (lt-ltb (length p.answer) answer_least a)
      (record { returns = record { number = z; answer = u; output = v }; world = ap decode k ∙ e })
  one_export (refused a b z u v k) =
      let l : ltb (min p.bytes (length t)) table_least ≡ true =
      lt-ltb (min p.bytes (length t)) table_least (omega (arith, length-take p.bytes t)) in
      rw (le-ltb (length p.answer) answer_least a, step_1 (lent_of (length t) p) w l p.call)
      (record { returns = record { number = z; answer = u; output = v }; world = ap decode k ∙ e })
  one_export (called y a b out z u) =
      let g = h.size in
      let l : table_least ≤ min p.bytes (length t) = omega (arith, length-take p.bytes t) in
      let d = one_call w h e out in
      let s = same_step (lent_of (length t) p) (lending (length t) true (length p.output)) w
      (le-ltb (min p.bytes (length t)) table_least l ∙ sym (le-ltb (length t) table_least g)) refl refl p.call in
      rw (le-ltb (length p.answer) answer_least a, s)
      (record {
        returns = record {
          number = z ∙ ap (λ (x : model.Answer). x.number) d.answer;
          answer = u ∙ ap (λ (x : model.Answer). sets p.answer 0 (answer_bytes x)) d.answer;
          output = out.output ∙ ap (sets p.output 0) (sym (stands out).records ∙ d.bytes);
        };
        world = d.world;
      })

-- what a call leaves is a table of the same size
left_of : {p : Export} {t t₁ : List ℕ} → Table t → Did p t t₁ → Table t₁ × (length t₁ ≡ length t)
left_of h (not_called a z u v e) = (rw e h, ap length e)
left_of h (refused a b z u v e) = (rw e h, ap length e)
left_of h (called y a b out z u) = (table_left h out, out.size)

exports_as_modelled : {t t' : List ℕ} {ps : List Export} (w : World) → Table t → decode t ≡ erase_world w → Exports t ps t'
    → AsModelled (length t) w ps
exports_as_modelled w h e none = tt
exports_as_modelled {t = t} w h e (and {t₁ = t₁} {p = p} {ps = ps} x rest) =
    let d = did p t t₁ x in
    let m = one_export w h e d in
    let l = left_of h d in
    let v = (returned (length p.answer) (lent_of (length t) p) w p.call).world in
    (m.returns, rw l.1 at (exports_as_modelled v l.0 m.world rest))

-- DEMAND 2: from the world on that the start began
pub exports_modelled : {t t' : List ℕ} {ps : List Export} (h : ExportHistory t ps t')
    → AsModelled (length t) (begun (settings_of (payload h.settings)) 0) ps
exports_modelled {t = t} h =
    let b = begun_by refl (did _ h.before t h.begins) in
    exports_as_modelled (begun (settings_of (payload h.settings)) 0) (table_begun b.1 b.2) (begun_meaning b.1 b.2) h.then
