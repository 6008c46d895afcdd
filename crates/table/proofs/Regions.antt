-- The areas of the table: what is known of each, and what the table means after one of them was replaced.
use mathlib.Core.Path.{◌≡◌, refl, sym, ap, subst, ◌∙◌}
use Prim.Native.Nat.{ℕ, ◌+◌, ◌-◌, ◌≤◌, ◌<◌}
use native.Mathlib.Nat.{add-sub_cancel_left}
use native.Mathlib.Omega.{arith}
use mathlib.Core.Bool.{Bool, true, false, and-eq-true_iff}
use mathlib.Core.List.{List, []}
use lib.Dec.{lit≤}
use lib.ListN.{length, get_or, set, drop, replicate, length-drop}
use lib.Seq.{drop-drop, length-take-le, get_or-set_other}
use borrow.Rule.Slice.PartMut.{put_mid, mid_of, mid_len, same_len_mid}
use Rattle.model.specs.Limits.{session_count, table_least, identifier_length}
use Rattle.model.specs.Bytes.{all}
use Rattle.model.specs.Records.{settings_of, settings_length}
use Rattle.model.specs.Events.{Result}
use Rattle.model.specs.Session.{Session, closed}
use Rattle.model.specs.World.{session_at}
use Rattle.text.specs.Areas.{Apart}
use Rattle.text.proofs.Lists.{drop_after}
use Rattle.text.proofs.Cells.{area_same, area_before, area_after}
use Rattle.text.proofs.Areas.{length_areas, areas_at, areas_put, areas_same, all_set, passes}
use Rattle.shared.specs.Shared.{shared_size, settings_part, in_force_of, last_of, kept_of, shared_formed, Area, Holds}
use Rattle.places.specs.Places.{places_size}
use Rattle.lane.specs.Lane.{Reading}
use Rattle.region.specs.Region.{region_size, session_of, region_formed, Good}
use Rattle.table.specs.Table.{
  shared_area,
  places_area,
  region_at,
  region_in,
  table_used,
  regions,
  reading,
  reading_in,
  shared_of,
  decode,
  settings_in,
  table_formed,
  Table,
  Becomes,
}

-- the regions stand one behind the other, behind what is shared
regions_apart : Apart region_at (λ (s : ℕ). region_size) session_count table_used
regions_apart = record { order = λ i j h b. omega arith; ends = λ i h. omega arith }

-- a region, and the table with ys for it, as lending `&mut table[a..a + SIZE]` has them
abbrev pub part : List ℕ → ℕ → List ℕ
part t s = mid_of (region_at s) (region_at s + region_size - region_at s) t

abbrev pub put : List ℕ → ℕ → List ℕ → List ℕ
put t s ys = put_mid (region_at s) (region_at s + region_size - region_at s) t ys

part_size : (s : ℕ) → region_at s + region_size - region_at s ≡ region_size
part_size s = add-sub_cancel_left (region_at s) region_size

pub part_in : (t : List ℕ) (s : ℕ) → part t s ≡ region_in s t
part_in t s = ap (λ (w : ℕ). mid_of (region_at s) w t) (part_size s)

-- ==== what is known of each

pub length_regions : {A : Type 0} (f : List ℕ → A) (t : List ℕ) → length (regions f t) ≡ session_count
length_regions f t = length_areas (λ (s : ℕ). f) region_at (λ (s : ℕ). region_size) 0 session_count t

pub region_read : {A : Type 0} (f : List ℕ → A) (t : List ℕ) (s : ℕ) (d : A) → s < session_count → get_or (regions f t) s d ≡ f (part t s)
region_read f t s d h =
    areas_at (λ (s : ℕ). f) region_at (λ (s : ℕ). region_size) session_count s t d h ∙ ap f (sym (part_in t s))

-- there are as many sessions, whatever the bytes
pub so_many_sessions : (t : List ℕ) → length (decode t).sessions ≡ session_count
unfolding decode
so_many_sessions t = length_regions (session_of (reading_in t)) t

-- the session that a region means
pub part_is : (t : List ℕ) (s : ℕ) → s < session_count → session_at (decode t) s ≡ session_of (reading_in t) (part t s)
unfolding decode
part_is t s h = region_read (session_of (reading_in t)) t s closed h

pub formed_parts : (t : List ℕ) → Table t
    → (shared_formed (shared_area t) ≡ true) × (all (λ (b : Bool). b) (regions region_formed t) ≡ true)
unfolding table_formed
formed_parts t h = (and-eq-true_iff (shared_formed (shared_area t)) (all (λ (b : Bool). b) (regions region_formed t))).0 h.formed

pub length_shared : (t : List ℕ) → table_least ≤ length t → length (shared_area t) ≡ shared_size
length_shared t h = mid_len 0 shared_size t (omega arith)

pub length_places : (t : List ℕ) → table_least ≤ length t → length (places_area t) ≡ places_size
length_places t h = mid_len shared_size (shared_size + places_size) t (omega arith)

pub length_part : (t : List ℕ) (s : ℕ) → table_least ≤ length t → s < session_count → length (part t s) ≡ region_size
length_part t s h b = mid_len (region_at s) (region_at s + region_size) t (omega arith) ∙ part_size s

pub length_in : (t : List ℕ) (s : ℕ) → table_least ≤ length t → s < session_count → length (region_in s t) ≡ region_size
length_in t s h b = ap length (sym (part_in t s)) ∙ length_part t s h b

pub shared_good : (t : List ℕ) → Table t → Area (shared_area t)
shared_good t h = record { size = length_shared t h.size; formed = (formed_parts t h).0 }

pub part_good : (t : List ℕ) (s : ℕ) → Table t → s < session_count → Good (part t s)
part_good t s h b = record {
  size = length_part t s h.size b;
  formed =
      ap region_formed (part_in t s)
      ∙ passes (λ (s : ℕ). region_formed) region_at (λ (s : ℕ). region_size) session_count t (formed_parts t h).1 s b;
}

pub region_good : (t : List ℕ) (s : ℕ) → Table t → s < session_count → Good (region_in s t)
region_good t s h few = subst Good (part_in t s) (part_good t s h few)

-- the parts of what is shared are as long as they are to be
pub length_settings : (a : List ℕ) → length a ≡ shared_size → length (settings_part a) ≡ settings_length
unfolding settings_part
length_settings a e = length-take-le 33 (drop 16 a) (simp length-drop (omega arith))

pub in_force_size : (a : List ℕ) → length a ≡ shared_size → length (in_force_of a) ≡ identifier_length
unfolding in_force_of
in_force_size a e = length-take-le 25 (drop 56 a) (simp length-drop (omega arith))

-- ==== what has become of it

-- it has become so: as long as it was and the same past what is used, with what all share as it is held, and with regions that are well
-- formed and mean those sessions
pub becomes_of : {t t' payload x : List ℕ} {n : ℕ} {rs : List Result} {ss : List Session} → table_least ≤ length t → length t' ≡ length t
    → drop table_used t' ≡ drop table_used t → Holds payload x n rs (shared_area t')
    → all (λ (b : Bool). b) (regions region_formed t') ≡ true → regions (session_of (reading_in t')) t' ≡ ss
    → Becomes t (record {
      shared = record { settings = settings_of payload; in_force = x; last = n; kept = rs; events = 0 };
      sessions = ss;
    }) t'
unfolding decode table_formed
becomes_of l s p h formed e = record {
  table = record { size = rw s l; formed = rw (h.area.formed, formed) };
  size = s;
  past = p;
  meaning = λ i. record {
    shared = record {
      settings = settings_of (h.settings i);
      in_force = h.in_force i;
      last = h.last i;
      kept = h.kept i;
      events = 0;
    };
    sessions = e i;
  };
}

-- what is shared, as the table means it
pub holds_as_before : (t t' : List ℕ) → Table t → shared_area t' ≡ shared_area t
    → let a = shared_area t in Holds (settings_part a) (in_force_of a) (last_of a) (kept_of a) (shared_area t')
holds_as_before t t' h e = record {
  area = subst Area (sym e) (shared_good t h);
  settings = ap settings_part e;
  in_force = ap in_force_of e;
  last = ap last_of e;
  kept = ap kept_of e;
}

-- ==== a region was replaced

module _ (t : List ℕ) (s : ℕ) (ys : List ℕ) (long : table_least ≤ length t) (h : s < session_count) (len : length ys ≡ region_size) where
  abbrev at : ℕ
  at = region_at s

  fits : at + (at + region_size - at) ≤ length t
  fits = omega (arith, part_size s)

  len_part : length ys ≡ at + region_size - at
  len_part = len ∙ sym (part_size s)

  pub put_size : length (put t s ys) ≡ length t
  put_size = same_len_mid at (at + region_size - at) t ys (len ∙ sym (length_part t s long h))

  pub put_past : drop table_used (put t s ys) ≡ drop table_used t
  put_past = drop_after t ys at (at + region_size - at) table_used len_part fits (omega (arith, part_size s))

  pub put_shared : shared_area (put t s ys) ≡ shared_area t
  put_shared = area_before at (at + region_size - at) t ys len_part fits 0 shared_size (omega arith)

  pub put_places : places_area (put t s ys) ≡ places_area t
  put_places = area_before at (at + region_size - at) t ys len_part fits shared_size places_size (omega arith)

  pub put_reading : reading_in (put t s ys) ≡ reading_in t
  put_reading = ap reading put_places

  pub put_settings : settings_in (put t s ys) ≡ settings_in t
  put_settings = ap (λ (a : List ℕ). settings_of (settings_part a)) put_shared

  pub put_same_to_all : (decode (put t s ys)).shared ≡ (decode t).shared
  unfolding decode
  put_same_to_all = ap shared_of put_shared

  pub put_regions : {A : Type 0} (f : List ℕ → A) → regions f (put t s ys) ≡ set (regions f t) s (f ys)
  put_regions f = areas_put (λ (s : ℕ). f) region_at (λ (s : ℕ). region_size) regions_apart t ys s h len (omega arith)

  -- it stands there
  pub put_same : part (put t s ys) s ≡ ys
  put_same = area_same at (at + region_size - at) t ys len_part fits

  pub put_in : region_in s (put t s ys) ≡ ys
  put_in = sym (part_in (put t s ys) s) ∙ put_same

  -- and the others as they stood
  pub put_other : (j : ℕ) → j < session_count → (j ≡ s → ⊥) → region_in j (put t s ys) ≡ region_in j t
  put_other j few ne =
      sym (region_read (λ r. r) (put t s ys) j [] few ∙ part_in (put t s ys) j)
      ∙ ap (λ (l : List (List ℕ)). get_or l j []) (put_regions (λ r. r))
      ∙ get_or-set_other (regions (λ r. r) t) s j ys [] ne ∙ region_read (λ r. r) t j [] few ∙ part_in t j

-- ==== what is shared was replaced

abbrev pub front : List ℕ → List ℕ → List ℕ
front t ys = put_mid 0 shared_size t ys

module _ (t ys : List ℕ) (long : table_least ≤ length t) (len : length ys ≡ shared_size) where
  front_fits : 0 + shared_size ≤ length t
  front_fits = omega arith

  pub front_size : length (front t ys) ≡ length t
  front_size = same_len_mid 0 shared_size t ys (len ∙ sym (length_shared t long))

  pub front_past : drop table_used (front t ys) ≡ drop table_used t
  front_past = drop_after t ys 0 shared_size table_used len front_fits (lit≤ tt)

  pub front_shared : shared_area (front t ys) ≡ ys
  front_shared = area_same 0 shared_size t ys len front_fits

  pub front_regions : {A : Type 0} (f : List ℕ → A) → regions f (front t ys) ≡ regions f t
  front_regions f =
      areas_same (λ (s : ℕ). f) region_at (λ (s : ℕ). region_size) t (front t ys) 0 session_count
      (λ j p q. area_after 0 shared_size t ys len front_fits (region_at j) region_size (omega arith))

  pub front_region : (s : ℕ) → region_in s (front t ys) ≡ region_in s t
  front_region s = area_after 0 shared_size t ys len front_fits (region_at s) region_size (omega arith)

  pub front_places : places_area (front t ys) ≡ places_area t
  front_places = area_after 0 shared_size t ys len front_fits shared_size places_size (omega arith)

  pub front_sessions : regions (session_of (reading_in (front t ys))) (front t ys) ≡ regions (session_of (reading_in t)) t
  front_sessions =
      ap (λ (a : List ℕ). regions (session_of (reading a)) (front t ys)) front_places ∙ front_regions (session_of (reading_in t))

-- ==== 02, P7: the places were replaced

abbrev pub middle : List ℕ → List ℕ → List ℕ
middle t ys = put_mid shared_size (shared_size + places_size - shared_size) t ys

module _ (t ys : List ℕ) (long : table_least ≤ length t) (len : length ys ≡ places_size) where
  middle_fits : shared_size + places_size ≤ length t
  middle_fits = omega arith

  pub middle_size : length (middle t ys) ≡ length t
  middle_size = same_len_mid shared_size places_size t ys (len ∙ sym (mid_len shared_size (shared_size + places_size) t middle_fits))

  pub middle_past : drop table_used (middle t ys) ≡ drop table_used t
  middle_past = drop_after t ys shared_size places_size table_used len middle_fits (lit≤ tt)

  pub middle_shared : shared_area (middle t ys) ≡ shared_area t
  middle_shared = area_before shared_size places_size t ys len middle_fits 0 shared_size (omega arith)

  pub middle_places : places_area (middle t ys) ≡ ys
  middle_places = area_same shared_size places_size t ys len middle_fits

  pub middle_region : (s : ℕ) → region_in s (middle t ys) ≡ region_in s t
  middle_region s = area_after shared_size places_size t ys len middle_fits (region_at s) region_size (omega arith)

  pub middle_regions : {A : Type 0} (f : List ℕ → A) → regions f (middle t ys) ≡ regions f t
  middle_regions f =
      areas_same (λ (s : ℕ). f) region_at (λ (s : ℕ). region_size) t (middle t ys) 0 session_count (λ j p q. middle_region j)

-- session s becomes what r means, and nothing else changes
pub put_means : (t : List ℕ) (s : ℕ) (r : List ℕ) (ss : List Session) → Table t → s < session_count → Good r
    → set (regions (session_of (reading_in t)) t) s (session_of (reading_in t) r) ≡ ss
    → Becomes t (record { shared = (decode t).shared; sessions = ss }) (put t s r)
unfolding decode
put_means t s r ss h b g e =
    let l = h.size in
    let n = g.size in
    becomes_of l (put_size t s r l b n) (put_past t s r l b n) (holds_as_before t (put t s r) h (put_shared t s r l b n))
    (rw (put_regions t s r l b n region_formed, g.formed) (all_set (regions region_formed t) s (formed_parts t h).1))
    (ap (λ (read : Reading). regions (session_of read) (put t s r)) (put_reading t s r l b n)
    ∙ put_regions t s r l b n (session_of (reading_in t)) ∙ e)

-- ==== what is past the bytes that have to be lent is past those that are used

pub past_least : (t t' : List ℕ) → drop table_used t' ≡ drop table_used t → drop table_least t' ≡ drop table_least t
past_least t t' e =
    let more = table_least - table_used in
    sym (drop-drop more table_used t') ∙ ap (drop more) e ∙ drop-drop more table_used t

-- ==== a table of zeros is none that a start has made

pub zeros_not_formed : table_formed (replicate table_least 0) ≡ false
unfolding table_formed shared_formed
zeros_not_formed = refl
