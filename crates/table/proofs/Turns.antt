-- What all sessions see, they see one after the other: a loop over the sessions is the moment.
use mathlib.Core.Path.{◌≡◌, refl, sym, ap, subst, ◌∙◌}
use Prim.Native.Nat.{ℕ, suc, ◌+◌, ◌-◌, ◌*◌, ◌≤◌, ◌<◌}
use native.Mathlib.Nat.{suc-mul, mul-le-mul_right}
use native.Mathlib.Numerals.{add-one}
use native.Mathlib.Omega.{arith}
use mathlib.Core.List.{List, [], ◌∷◌}
use lib.ListN.{length}
use Rattle.model.specs.Limits.{session_count}
use Rattle.model.specs.Local.{Local}
use Rattle.model.specs.World.{uncounted, to as alone, to_all, next, emits, after, emitted, in_turn}
use Rattle.model.specs.Calls.{output}
use Rattle.model.proofs.InTurn.{all_in_turn, all_emitted}
use Rattle.text.specs.Put.{Put}
use Rattle.text.proofs.Puts.{put_as, put_length}
use Rattle.table.specs.Table.{decode, Table, Becomes, Went}
use Rattle.table.specs.Says.{Lent}
use Rattle.table.proofs.Regions.{so_many_sessions}
use Rattle.table.proofs.Alone.{went_none, went_then, uncounted_yet}

module _ (most : ℕ) (l : Local) (t₀ o₀ : List ℕ) (at₀ : ℕ) where
  -- those before s have had their turn, and so many bytes each: what the others come to is what all come to
  pub record Turns (t o : List ℕ) (at s : ℕ) : Type 0 where
    pub within : s ≤ session_count
    pub table : Table t
    pub size : length t ≡ length t₀
    pub long : length o ≡ length o₀
    pub room : at ≤ at₀ + s * most
    pub rest : (next : ℕ) (t' o' : List ℕ) → Went t o at (in_turn l s (session_count - s)) next t' o'
        → Went t₀ o₀ at₀ (in_turn l 0 session_count) next t' o'

  pub turns_none : Table t₀ → Turns t₀ o₀ at₀ 0
  turns_none h = record { within = omega arith; table = h; size = refl; long = refl; room = omega arith; rest = λ next t' o' w. w }

module _ {most : ℕ} {l : Local} {t₀ o₀ : List ℕ} {at₀ : ℕ} {t o : List ℕ} {at s : ℕ} (w : Turns most l t₀ o₀ at₀ t o at s) where
  -- there is room for the next one
  pub turn_lent : at₀ + session_count * most ≤ length o₀ → s < session_count → Lent t o (record { session = s; at = at }) most
  turn_lent fits few =
      let n : suc s ≤ session_count = few in
      record { table = w.table; session = few; room = omega (arith, w.long, suc-mul s most, mul-le-mul_right most n) }

  pub turns_next : {t₁ o₁ : List ℕ} {to : ℕ} → s < session_count → to ≤ at + most → Went t o at (alone s l ∷ []) to t₁ o₁
      → Turns most l t₀ o₀ at₀ t₁ o₁ to (s + 1)
  turns_next {t₁} {o₁} {to} few more v =
      let e : session_count - s ≡ suc (session_count - (s + 1)) = omega arith in
      record {
        within = omega arith;
        table = v.table.table;
        size = v.table.size ∙ w.size;
        long = put_length v.bytes ∙ w.long;
        room = omega (arith, suc-mul s most, ap (λ (n : ℕ). n * most) (add-one s));
        rest = λ next t' o' u.
            w.rest next t' o' (rw e (went_then (uncounted_yet t s l) v
            (subst (λ (n : ℕ). Went t₁ o₁ to (in_turn l n (session_count - (s + 1))) next t' o') (add-one s) u)));
      }

  pub turns_all : session_count ≤ s
      → (at ≤ at₀ + session_count * most) × Becomes t₀ (uncounted (next (decode t₀) (to_all l))) t
      × Put o₀ at₀ (output (emits (decode t₀) (to_all l))) at o
  turns_all h =
      let e : session_count - s ≡ 0 = omega arith in
      let v = w.rest at t o (rw e (went_none t o at w.table)) in
      let n = so_many_sessions t₀ in
      let done = ap (λ (k : ℕ). after (decode t₀) (in_turn l 0 k)) (sym n) ∙ all_in_turn (decode t₀) l in
      let sent = ap (λ (k : ℕ). emitted (decode t₀) (in_turn l 0 k)) (sym n) ∙ all_emitted (decode t₀) l in (
        omega (arith, mul-le-mul_right most w.within),
        record { table = v.table.table; size = v.table.size; past = v.table.past; meaning = v.table.meaning ∙ ap uncounted done },
        put_as (ap output sent) v.bytes,
      )
