-- 01, "What the product holds": number 2 never occurs in a history that begins with a start that is done.
use mathlib.Core.Path.{◌≡◌, refl, sym, ap, ◌∙◌}
use Prim.Native.Nat.{ℕ, zero, suc}
use native.Mathlib.Omega.{arith}
use mathlib.Core.Bool.{true}
use mathlib.Core.List.{List, []}
use lib.ListN.{length}
use Rattle.model.specs.World.{World}
use Rattle.model.specs.Calls.{Call, start, refusal, answered, step}
use Rattle.model.proofs.Refusals.{never_2}
use Rattle.table.specs.Table.{decode, Table}
use Rattle.refusal.specs.Numbers.{lent}
use Rattle.refusal.proofs.Numbers.{start_passes}
use Rattle.controller.specs.declared.Answer.{Answer}
use Rattle.controller.specs.Layout.{Layout}
use Rattle.controller.specs.Contract.{lent_in, OutcomeIn, Outcome}
use Rattle.controller.specs.Trace.{Made, Trace, none, and, Never, History}

-- the first of the four numbers is the refusal's
answered_number : (w : World) (c : Call) (n : ℕ) → (answered w c n).1.number ≡ n
answered_number w c zero = refl
answered_number w c (suc n) = refl

-- in any layout
pub number_is : {layout : Layout} {c : Call} {t o : List ℕ} {r : Answer} {t' o' : List ℕ} → OutcomeIn layout c t o r t' o'
    → r.number ≡ refusal (lent_in layout t (length o)) (layout.decode t) c
unfolding step
number_is {layout = layout} {c = c} {t = t} {o = o} out =
    let w = layout.decode t in
    ap (λ (a : Answer). a.number) out.answer ∙ answered_number w c (refusal (lent_in layout t (length o)) w c)

-- ==== what a call leaves of a table is a table

-- in any layout: what was well formed is
pub formed_left : {layout : Layout} {c : Call} {t o : List ℕ} {r : Answer} {t' o' : List ℕ} → layout.formed t ≡ true
    → OutcomeIn layout c t o r t' o' → layout.formed t' ≡ true
formed_left {layout = layout} {r = r} {t' = t'} h out = go r.number refl
  where
    go : (n : ℕ) → r.number ≡ n → layout.formed t' ≡ true
    go zero e = out.formed e
    go (suc n) e = ap layout.formed (out.kept (λ z. omega arith)) ∙ h

pub table_left : {c : Call} {t o : List ℕ} {r : Answer} {t' o' : List ℕ} → Table t → Outcome c t o r t' o' → Table t'
table_left h out = let z = h.size in record { size = omega (arith, out.size); formed = formed_left h.formed out }

none_is_2 : {t t' : List ℕ} {ms : List Made} → Table t → Trace t ms t' → Never 2 ms
none_is_2 h none = tt
none_is_2 {t = t} h (and {m = m} out rest) = (
  λ e. never_2 (lent t (length m.output)) (decode t) m.call h.formed (sym (number_is out) ∙ e),
  none_is_2 (table_left h out) rest,
)

-- a start that is done leaves a table
pub table_begun : {t : List ℕ} {slice : List ℕ} {r : Answer} {t' : List ℕ} → Outcome (start slice) t [] r t' [] → r.number ≡ 0 → Table t'
table_begun {t = t} {slice = slice} out e =
    let p = start_passes t slice (sym (number_is out) ∙ e) in
    record { size = omega (arith, out.size, p.0); formed = out.formed e }

-- NUMBER 2 NEVER OCCURS
pub never_not_well_formed : {t t' : List ℕ} {ms : List Made} → History t ms t' → Never 2 ms
never_not_well_formed h = none_is_2 (table_begun h.begins h.done) h.then
