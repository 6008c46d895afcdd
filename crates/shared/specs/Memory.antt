-- 02, P2: the last tightenings, in their bytes. Each has its place by its number: the next takes the place of the oldest.
use Rattle.std.specs.Prelude.{ℕ, zero, suc, ◌+◌, ◌-◌, ◌*◌, ◌%◌, List, [], ◌∷◌, take, drop}
use Rattle.model.specs.Limits.{results_kept}
use Rattle.model.specs.Records.{tightening_length}
use Rattle.model.specs.Events.{Result, result_as}

-- where the places begin
abbrev pub memory_at : ℕ
memory_at = 1_024

-- 02, P2: where the one with that number stands
abbrev pub place_at : ℕ → ℕ
place_at n = memory_at + n % results_kept * tightening_length

-- 02, P2: its payload, with the identifier that was meant in place of the tool's own
unfoldable pub payload_kept : ℕ → List ℕ → List ℕ
payload_kept n a = take tightening_length (drop (place_at n) a)

-- 02, P2: so many results, the newest having that number, and the others those before it
unfoldable pub results : ℕ → ℕ → List ℕ → List Result
results last zero a = []
results last (suc count) a = result_as last (payload_kept last a) ∷ results (last - 1) count a
