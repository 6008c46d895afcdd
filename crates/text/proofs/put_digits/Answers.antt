-- Two digits are written before those that were: and at the end one is left, or none.
use mathlib.Core.Path.{◌≡◌, refl, ap, ◌∙◌}
use Prim.Native.Nat.{ℕ, ◌+◌, ◌-◌, ◌*◌, ◌/◌, ◌%◌}
use native.Mathlib.Omega.{arith}
use mathlib.Core.List.{List}
use lib.Seq.{sets}
use Rattle.model.specs.Bytes.{digits}
use Rattle.text.proofs.Lists.{written_before}
use Rattle.text.proofs.Numbers.{digits_pair, digits_length}
use Rattle.text.proofs.Puts.{put_of}
use Rattle.text.proofs.put_digits.Goals as goal
use Rattle.text.proofs.put_digits.Goals.{then-odd-eq1, else-odd-eq1}

pub loop-i-preserved : goal.loop-i-preserved
loop-i-preserved c =
    let a = c.args in
    let l = c.loop-i in
    let put = c.put_pair.ensures.1 in
    let i = a.width % 2 + 2 * (l.i - 1) in
    let before : a.at + i ≡ a.at + a.width % 2 + 2 * (l.i - 1) = omega arith in
    let two : a.width % 2 + 2 * l.i - 2 ≡ i = omega arith in
    let pair = digits_pair (a.width % 2 + 2 * l.i) l.left (omega arith) in
    ap (λ (o : List ℕ). sets o a.at (digits i (l.left / 100))) put.output
    ∙ rw (← before, ← two) (written_before l.out _ (digits 2 (l.left % 100)) a.at _ pair (digits_length _ _) l.invariant)

pub returns : goal.returns
unfolding digits
returns c =
    let a = c.args in
    let i : c.loop-i.i ≡ 0 = omega arith in
    let all = rw i at c.loop-i.invariant in
    let content : c.if-odd-eq1.out ≡ sets a.out.now a.at (digits a.width a.n) =
    elim c.if-odd-eq1.branch [
      | then-odd-eq1 w ↦ w.out-is ∙ rw w.if-odd-eq1.true at all
      | else-odd-eq1 w ↦
          w.out-is ∙ (let z : a.width % 2 ≡ 0 = omega (arith, w.if-odd-eq1.false) in rw z at all)
    ] in
    (refl, put_of a.width _ (digits_length a.width a.n) content refl)
