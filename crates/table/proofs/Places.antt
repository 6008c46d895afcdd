-- 02, P7: a free place is found, and what is put there changes no meaning.
use mathlib.Core.Path.{◌≡◌, refl, sym, ap, subst, ◌∙◌, fun_ext}
use Prim.Native.Nat.{ℕ, ◌+◌, ◌*◌, ◌≤◌, ◌<◌}
use native.Mathlib.Omega.{arith}
use mathlib.Core.Bool.{Bool, true, false, cond}
use Rattle.std.specs.Prelude.{Option, Some, None, IfSome}
use mathlib.Core.List.{List, []}
use lib.ListN.{length, get_or, drop, replicate, drop_of_length-le}
use lib.Dec.{eqb}
use borrow.Author.Tests.{ne_eqb, eqb-true, eqb-false}
use Rattle.model.specs.Limits.{session_count}
use Rattle.model.specs.Kinds.{tightenings}
use Rattle.text.proofs.Lists.{drop_next, all_at}
use Rattle.frame.specs.Places.{notice_in}
use Rattle.places.specs.Places.{place_count, places_size, place_in, Putting, Puts}
use Rattle.places.specs.Free.{lacks, is_free, marked, marked_by_all, first_free, FirstFree}
use Rattle.places.proofs.Marks.{Fewer, free_there, first_some}
use Rattle.lane.specs.Kinds.{most}
use Rattle.region.specs.Region.{region_size, region_formed, session_of, places_held}
use Rattle.region.proofs.Places.{Agree, areas_alike, same_session, holds_few}
use Rattle.table.specs.Table.{places_area, region_at, region_in, regions, reading, reading_in, decode, Table}
use Rattle.table.specs.Passes.{Stands, Adds, no_more, AddsIf, held_by, Roomy, StandLent, Stood, TellsOne, OneCopy, Notes}
use Rattle.table.specs.declared.Next.{Next}
use Rattle.table.proofs.Regions.{part_in, region_good, length_regions, region_read, formed_parts, becomes_of, holds_as_before}
use Rattle.table.proofs.Regions.{length_places, middle, middle_size, middle_past, middle_shared, middle_places, middle_region}
use Rattle.table.proofs.Regions.{middle_regions}

-- the places that each session has open or waiting
abbrev pub each_holds : List ℕ → List (List ℕ)
each_holds t = regions places_held t

module _ (t : List ℕ) (h : Table t) where
  holds_at : (s : ℕ) → s < session_count → get_or (each_holds t) s [] ≡ places_held (region_in s t)
  holds_at s few = region_read places_held t s [] few ∙ ap places_held (part_in t s)

  -- one session is to hold one more: none of the others holds more than it may
  fewer : (room : Roomy t) → Fewer (most tightenings) (each_holds t) room.session
  fewer room =
      let n = length_regions places_held t in
      record {
        most_each = λ i few. let k : i < session_count = omega arith in
            rw (holds_at i k) (holds_few (region_in i t) (region_good t i h k));
        session = rw n room.there;
        fewer = rw (holds_at room.session room.there) room.fewer;
      }

  -- so there is one: there are as many places as all may hold
  module _ {used : List ℕ} (room : Roomy t) (e : used ≡ marked_by_all (replicate place_count 0) (each_holds t)) where
    there : (first_free used < place_count) × (is_free (first_free used) (each_holds t) ≡ true)
    there =
        let many : length (each_holds t) * most tightenings ≡ place_count = ap (λ (n : ℕ). n * most tightenings)
        (length_regions places_held t) in
        rw e (rw many at (free_there (most tightenings) (each_holds t) room.session (fewer room)))

    pub found_some : {r : Option ℕ} → length used ≡ place_count → FirstFree used r → r ≡ Some (first_free used)
    found_some {r} size f = first_some used r f (rw size there.0)

  pub found : {used : List ℕ} {p : ℕ} → Roomy t → used ≡ marked_by_all (replicate place_count 0) (each_holds t) → p ≡ first_free used
      → (p < place_count) × (is_free p (each_holds t) ≡ true)
  found room e q = rw q (there room e)

  -- a loop that marks them, one session after the other
  pub marks_next : (used : List ℕ) (s : ℕ) → s < session_count
      → marked_by_all used (drop s (each_holds t)) ≡ marked_by_all (marked used (places_held (region_in s t))) (drop (s + 1) (each_holds t))
  unfolding marked_by_all
  marks_next used s few =
      ap (marked_by_all used) (drop_next (each_holds t) s [] (rw (length_regions places_held t) few))
      ∙ ap (λ (ps : List ℕ). marked_by_all (marked used ps) (drop (s + 1) (each_holds t))) (holds_at s few)

  pub marks_all : (used : List ℕ) (s : ℕ) → session_count ≤ s → marked_by_all used (drop s (each_holds t)) ≡ used
  unfolding marked_by_all
  marks_all used s all =
      let n = length_regions places_held t in
      ap (marked_by_all used) (drop_of_length-le (each_holds t) {i = s} (omega arith))

  -- ==== a result is put in one that is free

  module _ {q : ℕ} {p a : List ℕ} (few : q < place_count) (free : is_free q (each_holds t) ≡ true) (w : Puts q p (places_area t) a) where
    agree : Agree q (reading a) (reading_in t)
    agree = record {
      unplaced = λ kind ne. fun_ext λ slot.
          let e = ne_eqb kind tightenings ne in
          ap (λ (b : Bool). notice_in kind (cond b (place_in (get_or slot 0 0) a) slot)) e
          ∙ ap (λ (b : Bool). notice_in kind (cond b (place_in (get_or slot 0 0) (places_area t)) slot)) (sym e);
      placed = λ slot ne. ap (notice_in tightenings) (w.others (get_or slot 0 0) ne);
    }

    long : length a ≡ places_size
    long = w.size ∙ length_places t h.size

    none_holds : (s : ℕ) → s < session_count → lacks q (places_held (region_in s t)) ≡ true
    none_holds s k =
        ap (lacks q) (sym (holds_at s k)) ∙ all_at (lacks q) (each_holds t) s [] free (rw (length_regions places_held t) k)

    pub put_there : Stood t p None q (middle t a)
    unfolding decode
    put_there = record {
      same = tt;
      stands = record { there = few; bytes = ap (place_in q) (middle_places t a h.size long) ∙ w.there };
      becomes = becomes_of h.size (middle_size t a h.size long) (middle_past t a h.size long)
          (holds_as_before t (middle t a) h (middle_shared t a h.size long))
          (rw (middle_regions t a h.size long region_formed) (formed_parts t h).1)
          (ap (λ (z : List ℕ). regions (session_of (reading z)) (middle t a)) (middle_places t a h.size long)
          ∙ middle_regions t a h.size long (session_of (reading a))
          ∙ areas_alike (λ (s : ℕ). session_of (reading a)) (λ (s : ℕ). session_of (reading_in t)) region_at (λ (s : ℕ). region_size) t 0
          session_count (λ j k. let b : j < session_count = omega arith in
          same_session q (reading a) (reading_in t) agree (region_in j t) (region_good t j h b) (none_holds j b)));
      shared = middle_shared t a h.size long;
      regions = λ s k. middle_region t a h.size long s;
    }

  -- it stands in one already
  pub stands_there : {p : List ℕ} {q : ℕ} → Stands t p q → Stood t p (Some q) q t
  stands_there s = record {
    same = refl;
    stands = s;
    becomes = record { table = h; size = refl; past = refl; meaning = refl };
    shared = refl;
    regions = λ s k. refl;
  }

pub putting : {t p : List ℕ} {place : Option ℕ} {q : ℕ} → StandLent t p place → q < place_count → Putting q p (places_area t)
putting {t} k few = record { size = length_places t k.table.size; place = few; whole = k.result }

-- ==== one copy, session by session

adds_still : (held : List ℕ) (place q : Option ℕ) (after : List ℕ) → IfSome place (λ before. q ≡ Some before) → AddsIf held place after
    → AddsIf held q after
adds_still held None None after same adds = adds
adds_still held None (Some q) after same adds = subst (Adds held q) (sym adds) no_more
adds_still held (Some place) q after same adds = subst (λ (z : Option ℕ). AddsIf held z after) (sym same) adds

module _ (kind : ℕ) (t₀ : List ℕ) where
  -- those before s have had their turn, and those from s on hold what they held
  pub record Copying (t : List ℕ) (place : Option ℕ) (s : ℕ) : Type 0 where
    pub before : kind ≡ tightenings → (j : ℕ) → j < s → AddsIf (held_by j t₀) place (held_by j t)
    pub from : (j : ℕ) → s ≤ j → j < session_count → held_by j t ≡ held_by j t₀

  pub copying_none : (place : Option ℕ) → Copying t₀ place 0
  copying_none place = record { before = λ e j h. absurd (omega arith); from = λ j h k. refl }

  pub copying_next : {t o t₁ o₁ : List ℕ} {n n₁ : Next} {p : List ℕ} {taken : Bool} → n.to.session < session_count
      → Copying t n.place n.to.session → TellsOne t o n kind p taken t₁ o₁ n₁ → Copying t₁ n₁.place (n.to.session + 1)
  copying_next {t} {t₁ = t₁} {n = n} {n₁} few w v = record {
    before = λ e j h. turn e j h (eqb j n.to.session) refl;
    from = λ j h k. v.others j k (λ z. omega arith) ∙ w.from j (omega arith) k;
  }
    where
      turn : kind ≡ tightenings → (j : ℕ) → j < n.to.session + 1 → (b : Bool) → eqb j n.to.session ≡ b
          → AddsIf (held_by j t₀) n₁.place (held_by j t₁)
      turn e j h true q =
          let z = eqb-true j n.to.session q in
          subst (λ (i : ℕ). AddsIf (held_by i t₀) n₁.place (held_by i t₁)) (sym z)
          (subst (λ (ps : List ℕ). AddsIf ps n₁.place (held_by n.to.session t₁)) (w.from n.to.session (omega arith) few)
          (v.adds e))
      turn e j h false q =
          let ne = eqb-false j n.to.session q in
          let less : j < n.to.session = omega (arith, ne) in
          subst (AddsIf (held_by j t₀) n₁.place) (sym (v.others j (omega arith) ne))
          (adds_still (held_by j t₀) n.place n₁.place (held_by j t) v.same (w.before e j less))

  -- where the result stands in no place, it is in none that a session came to hold
  pub copied_all : {t : List ℕ} (place : Option ℕ) {s : ℕ} → session_count ≤ s → Copying t place s → OneCopy kind t₀ t
  copied_all None h w = record {
    place = 0;
    each = λ e j k. subst (Adds (held_by j t₀) 0) (sym (w.before e j (omega arith))) no_more;
  }
  copied_all (Some place) h w = record { place = place; each = λ e j k. w.before e j (omega arith) }

  -- and behind what is left to all
  pub copied_then : {t t₁ p : List ℕ} → OneCopy kind t₀ t → Notes t kind p t₁ → OneCopy kind t₀ t₁
  copied_then w v = record {
    place = w.place;
    each = λ e s k. subst (λ (r : List ℕ). Adds (held_by s t₀) w.place (places_held r)) (sym (v.regions s)) (w.each e s k);
  }
