-- 01, "Runs and headers": how a host hands received bytes to the calls.
use Rattle.std.specs.Prelude.{ℕ, ◌≤◌, List, [], ◌∷◌, ◌++◌, length, take, drop}
use Rattle.model.specs.Limits.{output_least}
use Rattle.model.specs.Calls.{bytes}
use Rattle.controller.specs.declared.Answer.{Answer}
use Rattle.controller.specs.Contract.{Outcome}

-- the bytes bs for session s are handed to a call, what the call left of them to the next, and so on to their end. The table was t and
-- is t' then; `out` is what the calls wrote, one after the other. Each is lent an output that is long enough
pub data HandedOn (s : ℕ) : (t bs out t' : List ℕ) → Type 0 where
  nothing_left : {t : List ℕ} → HandedOn s t [] [] t
  and_on : {t t₁ t₂ o o' more bs : List ℕ} {b : ℕ} {r : Answer}
      → output_least ≤ length o → Outcome (bytes s (b ∷ bs)) t o r t₁ o' → HandedOn s t₁ (drop r.consumed (b ∷ bs)) more t₂
      → HandedOn s t (b ∷ bs) (take r.written o' ++ more) t₂
