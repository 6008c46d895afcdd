-- What the proofs ask of the kinds of notice, by one computed test over them.
use mathlib.Core.Path.{refl}
use Prim.Native.Nat.{ℕ, ◌<◌, ◌≤◌}
use mathlib.Core.Bool.{Bool, ◌&&◌, and-eq-true_iff}
use lib.Dec.{leb, ltb}
use lib.ListN.{length}
use borrow.Author.Tests.{leb-true, ltb-true}
use Rattle.model.specs.Kinds.{kinds}
use Rattle.text.proofs.Areas.{each_below}
use Rattle.lane.specs.Kinds.{most, lane_size}

-- ==== a lane holds one notice at least, counts them in a byte, and is not long

abbrev fits : ℕ → Bool
fits kind = ltb 0 (most kind) && ltb (most kind) 256 && leb (lane_size kind) 65_536

pub record Fits (kind : ℕ) : Type 0 where
  pub some : 0 < most kind
  pub few : most kind < 256
  pub short : lane_size kind ≤ 65_536

pub kind_fits : (kind : ℕ) → kind < length kinds → Fits kind
kind_fits kind h =
    let a = (and-eq-true_iff (ltb 0 (most kind) && ltb (most kind) 256) (leb (lane_size kind) 65_536)).0
    (each_below (length kinds) fits refl kind h) in
    let b = (and-eq-true_iff (ltb 0 (most kind)) (ltb (most kind) 256)).0 a.0 in
    record { some = ltb-true _ _ b.0; few = ltb-true _ _ b.1; short = leb-true _ _ a.1 }
