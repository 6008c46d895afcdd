-- What the program does with a record: the call that it stands for, and that received bytes are used up.
use mathlib.Core.Path.{◌≡◌, refl, sym, ap, ◌∙◌}
use Prim.Native.Nat.{ℕ, zero, suc, ◌+◌, ◌<◌}
use native.Mathlib.Omega.{arith}
use mathlib.Core.Bool.{true, false, not, ◌&&◌, and-false, and-eq-true_iff}
use mathlib.Core.List.{List, [], ◌∷◌}
use lib.Dec.{leb, eqb}
use lib.ListN.{length, drop, length-drop}
use lib.Seq.{sets}
use borrow.Author.Tests.{eq-eqb, eqb-true, eqb-false, lt-leb, not-true}
use Rattle.model.specs.Runs.{cut, consumed_by}
use Rattle.model.specs.World.{World}
use Rattle.model.specs.Calls.{Call, start, bytes, does, answered, output, refusal, step}
use Rattle.model.specs.Program.{session_greatest, call_of, is_of}
use Rattle.model.specs.Records.{settings_record_kind}
use Rattle.model.proofs.Cuts.{consumes}
use Rattle.table.specs.Table.{decode}
use Rattle.refusal.specs.Numbers.{number}
use Rattle.controller.specs.declared.Answer.{Answer}
use Rattle.controller.specs.Contract.{said, Outcome}
use Rattle.controller.proofs.Outputs.{so_long, stands}

-- ==== the call of a record

pub is_below : (least n : ℕ) → n < least → is_of least n ≡ false
is_below least n h = rw (lt-leb least n h)

pub is_above : (least n : ℕ) → least + session_greatest < n → is_of least n ≡ false
is_above least n h = rw (lt-leb n (least + session_greatest) h, and-false (leb least n))

-- a start is lent no output, and would leave any as it was
nothing : (l : List ℕ) → length l ≡ 0 → [] ≡ l
nothing [] e = refl
nothing (x ∷ l) e = absurd (omega arith)

pub started : {t o : List ℕ} {r : Answer} {t' : List ℕ} (record_kind : ℕ) (slice : List ℕ) → record_kind ≡ settings_record_kind
    → Outcome (start slice) t [] r t' []
    → Outcome (call_of record_kind slice) t o r t' o
unfolding step refusal
started {t = t} {o = o} {r = r} record_kind slice e out =
    let n = so_long out in
    let h = (stands out).within in
    let z : length (output (said (start slice) t []).2) ≡ 0 = omega arith in
    rw (eq-eqb record_kind settings_record_kind e) (record {
      answer = out.answer;
      meaning = out.meaning;
      output = ap (sets o 0) (nothing (output (said (start slice) t []).2) z);
      fits = out.fits;
      size = out.size;
      past = out.past;
      formed = out.formed;
      kept = out.kept;
    })

-- ==== received bytes are used up

consumed_where_done : (w : World) (c : Call) (n : ℕ) → (answered w c n).1.number ≡ 0
    → (answered w c n).1.consumed ≡ (does w c).consumed
consumed_where_done w c zero e = refl
consumed_where_done w c (suc n) e = absurd (omega arith)

-- it goes on where the call was done and something is left
pub used_up : {s : ℕ} {t o : List ℕ} {r : Answer} {t' o' rest : List ℕ} (bs : List ℕ) → rest ≡ drop r.consumed bs
    → Outcome (bytes s bs) t o r t' o' → (eqb r.number 0 && not (eqb (length rest) 0)) ≡ true → length rest < length bs
unfolding step
used_up {s} {t} {o} {r} {t'} {o'} {rest} bs p out q = go bs p out
  where
    is : (r.number ≡ 0) × (length rest ≡ 0 → ⊥)
    is = let b = (and-eq-true_iff _ _).0 q in (eqb-true _ _ b.0, eqb-false _ _ (not-true _ b.1))

    go : (bs : List ℕ) → rest ≡ drop r.consumed bs → Outcome (bytes s bs) t o r t' o' → length rest < length bs
    go [] p out = absurd (is.1 (ap length p ∙ omega (arith, length-drop {A = ℕ} r.consumed [])))
    go (b ∷ bs) p out =
        let k : r.consumed ≡ consumed_by (cut (b ∷ bs)) = ap (λ (a : Answer). a.consumed) out.answer
        ∙ consumed_where_done (decode t) (bytes s (b ∷ bs)) (number t (length o) (bytes s (b ∷ bs)))
        (ap (λ (a : Answer). a.number) (sym out.answer) ∙ is.0) in
        let n = is.1 in
        omega (arith, consumes b bs, length-drop r.consumed (b ∷ bs), ap length p)
