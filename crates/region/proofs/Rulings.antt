-- What a run comes to: the decision on it, and the identifier that it makes known.
use Rattle.std.proofs.Common.{◌≡◌, subst, List, ℕ, ◌≤◌, arith}
use Rattle.std.proofs.Common.{length, drop}
use Rattle.std.proofs.Math.ListN.{length-drop}
use Rattle.model.specs.Limits.{header_length, run_kept, identifier_length}
use Rattle.model.specs.Runs.{Run}
use Rattle.message.specs.declared.Common.{Common}
use Rattle.region.specs.Said.{Rules}
use Rattle.region.specs.declared.Ruling.{Ruling}

pub data_few : (run bs : List ℕ) → length run ≤ run_kept → bs ≡ drop header_length run → length bs ≤ identifier_length
data_few run bs l e = rw (e, length-drop header_length run) (omega arith)

-- the kept bytes of a run, and how many it has, are the run
pub ruled_as : {common : Common} {r : List ℕ} {ruling : Ruling} {kept : List ℕ} {count : ℕ} (run : Run)
    → kept ≡ run.kept → count ≡ run.count → Rules common r (record { kept = kept; count = count }) ruling
    → Rules common r run ruling
ruled_as {common} {r} {ruling} run ek ec w =
    subst (λ (z : Run). Rules common r z ruling) (λ i. record { kept = ek i; count = ec i }) w
