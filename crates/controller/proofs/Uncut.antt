-- 01, "Runs and headers": received bytes, handed on call by call, are read as the model reads them uncut; so that how they were cut
-- does not matter.
use mathlib.Core.Path.{◌≡◌, refl, sym, ap, ap₂, ◌∙◌}
use Prim.Native.Nat.{ℕ, ◌≤◌}
use mathlib.Core.List.{List, ◌∷◌, ◌++◌}
use lib.ListN.{length}
use borrow.Author.Tests.{le-ltb}
use Rattle.model.specs.Limits.{output_least}
use Rattle.model.specs.World.{World}
use Rattle.model.specs.Calls as model
use Rattle.model.specs.Calls.{bytes, output, refusal, step}
use Rattle.model.specs.Slices.{Upshot, read_within, read_all}
use Rattle.model.proofs.Cuts.{read_on, cut_anywhere}
use Rattle.model.specs.Erased.{erase_world}
use Rattle.model.proofs.Erase.{output_append}
use Rattle.table.specs.Table.{decode, Table}
use Rattle.controller.specs.HandedOn.{HandedOn, nothing_left, and_on}
use Rattle.controller.proofs.Traces.{table_left}
use Rattle.controller.proofs.Modelled.{lending, one_call}
use Rattle.controller.proofs.Erased.{decode_erased}

-- an output that is long enough is as good as any other
room_enough : (size room s : ℕ) (bs : List ℕ) (w : World) → output_least ≤ room
    → step (lending size room) w (bytes s bs) ≡ step (lending size output_least) w (bytes s bs)
unfolding step refusal
room_enough size room s bs w h = rw (le-ltb room output_least h)

-- what was read, and the model's reading
pub record AsUncut (m : Upshot) (size : ℕ) (out t' : List ℕ) : Type 0 where
  pub world : decode t' ≡ erase_world m.world
  pub bytes : out ≡ output m.emissions
  pub table : Table t'
  pub same_size : length t' ≡ size

pub as_uncut : {s : ℕ} {t bs out t' : List ℕ} (w : World) → Table t → decode t ≡ erase_world w → HandedOn s t bs out t'
    → AsUncut (read_all (lending (length t) output_least) w s bs) (length t) out t'
unfolding read_within
as_uncut w h e nothing_left = record { world = e; bytes = refl; table = h; same_size = refl }
as_uncut {s = s} {t = t} w h e (and_on {t₁ = t₁} {o = o} {bs = bs} {b = b} {r = r} room out rest) =
    let l = lending (length t) output_least in
    let q = step l w (bytes s (b ∷ bs)) in
    let k = rw (room_enough (length t) (length o) s (b ∷ bs) w room) at (one_call w h e out) in
    let left : r.consumed ≡ q.1.consumed = ap (λ (a : model.Answer). a.consumed) k.answer in
    let ih = rw (out.size, left) at (as_uncut q.0 (table_left h out) k.world rest) in
    record {
      world = ih.world ∙ ap (λ (x : Upshot). erase_world x.world) (sym (read_on l s w b bs));
      bytes =
          ap₂ ◌++◌ k.bytes ih.bytes ∙ sym (output_append q.2 _)
          ∙ ap (λ (x : Upshot). output x.emissions) (sym (read_on l s w b bs));
      table = ih.table;
      same_size = ih.same_size;
    }

-- CUTS DO NOT MATTER: two slices one after the other, or their bytes in one, leave a table of the same meaning, and have the same
-- records written
pub cut_anywhere_same : {s : ℕ} {t xs ys out₁ out₂ out t₁ t₂ t' : List ℕ} → Table t → HandedOn s t xs out₁ t₁ → HandedOn s t₁ ys out₂ t₂
    → HandedOn s t (xs ++ ys) out t'
    → (decode t₂ ≡ decode t') × (out₁ ++ out₂ ≡ out)
cut_anywhere_same {s = s} {t = t} {xs = xs} {ys = ys} {t₁ = t₁} h a b c =
    let l = lending (length t) output_least in
    let w = decode t in
    let first = as_uncut w h (decode_erased t) a in
    let m = read_all l w s xs in
    let second = rw first.same_size at (as_uncut m.world first.table first.world b) in
    let whole = rw (cut_anywhere l w s xs ys) at (as_uncut w h (decode_erased t) c) in
    (cc, ap₂ ◌++◌ first.bytes second.bytes ∙ sym (output_append m.emissions _) ∙ sym whole.bytes)
