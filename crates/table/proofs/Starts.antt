-- A start, region by region.
use mathlib.Core.Path.{◌≡◌, refl, sym, ap, subst, ◌∙◌}
use Prim.Native.Nat.{ℕ, ◌+◌, ◌-◌, ◌≤◌, ◌<◌}
use native.Mathlib.Omega.{arith}
use mathlib.Core.Bool.{Bool, true}
use mathlib.Core.List.{List, [], ◌++◌}
use lib.ListN.{length, take, drop, replicate}
use Rattle.model.specs.Limits.{table_least, session_count}
use Rattle.model.specs.Bytes.{all, spaces}
use Rattle.model.specs.Records.{settings_of}
use Rattle.model.specs.Session.{closed}
use Rattle.model.specs.World.{begun}
use Rattle.text.proofs.Lists.{replicate_next}
use Rattle.shared.specs.Shared.{Holds}
use Rattle.region.specs.Region.{session_of, region_formed, Good}
use Rattle.region.proofs.Walks.{filled_next, filled}
use Rattle.lane.specs.Lane.{Reading}
use Rattle.table.specs.Table.{table_used, regions, reading_in, Becomes}
use Rattle.table.proofs.Regions.{length_regions, becomes_of, put, put_size, put_past, put_regions, front, front_size}
use Rattle.table.proofs.Regions.{front_past, front_shared, front_regions, front_sessions}

-- the first s sessions are closed
pub record Closed (t₀ t : List ℕ) (s : ℕ) : Type 0 where
  pub within : s ≤ session_count
  pub size : length t ≡ length t₀
  pub past : drop table_used t ≡ drop table_used t₀
  pub sessions : (read : Reading)
      → take s (regions (session_of read) t) ++ replicate (session_count - s) closed ≡ replicate session_count closed
  pub formed : take s (regions region_formed t) ++ replicate (session_count - s) true ≡ replicate session_count true

pub closed_none : (t : List ℕ) → Closed t t 0
closed_none t = record { within = omega arith; size = refl; past = refl; sessions = λ read. refl; formed = refl }

module _ {t₀ : List ℕ} (long : table_least ≤ length t₀) {t : List ℕ} {s : ℕ} (w : Closed t₀ t s) where
  still_long : table_least ≤ length t
  still_long = omega (arith, w.size)

  pub closed_next : {r : List ℕ} → s < session_count → Good r → ((read : Reading) → session_of read r ≡ closed)
      → Closed t₀ (put t s r) (s + 1)
  closed_next {r} h g e =
      let l = still_long in
      let n = g.size in
      record {
        within = omega arith;
        size = put_size t s r l h n ∙ w.size;
        past = put_past t s r l h n ∙ w.past;
        sessions = λ read.
            rw (put_regions t s r l h n (session_of read), e read)
            (filled_next (regions (session_of read) t) s (rw (length_regions (session_of read) t) h)
            (replicate_next session_count s closed h) ∙ w.sessions read);
        formed =
            rw (put_regions t s r l h n region_formed, g.formed)
            (filled_next (regions region_formed t) s (rw (length_regions region_formed t) h) (replicate_next session_count s true h)
            ∙ w.formed);
      }

  -- all of them are, and a is what they share
  pub closed_all : {payload a : List ℕ} → session_count ≤ s → Holds payload (spaces 25) (settings_of payload).last [] a
      → Becomes t₀ (begun (settings_of payload) 0) (front t a)
  closed_all {payload} {a} h k =
      let l = still_long in
      let n = k.area.size in
      let none_left : session_count - s ≡ 0 = omega arith in
      let f = length_regions region_formed t in
      let read = reading_in t in
      let m = length_regions (session_of read) t in
      becomes_of long (front_size t a l n ∙ w.size) (front_past t a l n ∙ w.past)
      (subst (Holds payload (spaces 25) (settings_of payload).last []) (sym (front_shared t a l n)) k)
      (ap (all (λ (b : Bool). b)) (front_regions t a l n region_formed
      ∙ filled (regions region_formed t) s (omega arith) (rw none_left) ∙ w.formed))
      (front_sessions t a l n ∙ filled (regions (session_of read) t) s (omega arith) (rw none_left) ∙ w.sessions read)
