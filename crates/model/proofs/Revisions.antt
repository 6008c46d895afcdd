-- 02, P4: each revision of 0061 from 3 on begins with the data of the one before; of any rows, of which each has the first so many.
use Prim.Native.Nat.{ℕ, zero, suc, ◌+◌, ◌-◌, ◌≤◌}
use mathlib.Core.Path.{◌≡◌, refl, sym, ap, ◌∙◌}
use mathlib.Core.Bool.{Bool, true, ◌&&◌}
use mathlib.Core.List.{List, [], ◌∷◌, ◌++◌}
use native.Mathlib.Omega.{arith}
use lib.Dec.{leb}
use lib.ListN.{length, get_or, take, drop, get_or-map}
use lib.Seq.{take-add}
use borrow.Author.Tests.{leb-true}
use Rattle.model.specs.Limits.{header_length}
use Rattle.model.specs.Bytes.{digits}
use Rattle.model.specs.Records.{Settings}
use Rattle.model.specs.Layouts.{Sources, Row, data_from, data_of, Layout, first_of, layout_at, layouts_0061}
use Rattle.model.specs.Layouts.{later_rows, older_counts, newest_count, later_count}
use Rattle.model.specs.Events.{Result, tightened, told_of}
use Rattle.model.specs.Frames.{header, frame, sources, event_frame}
use Rattle.model.proofs.Framed.{both}
use Rattle.model.proofs.ReadBack.{data_append}

-- ==== fewer rows, and more

-- the second begins with the first
pub record Begins (xs ys : List ℕ) : Type 0 where
  pub more : List ℕ
  pub behind : ys ≡ xs ++ more

begins_as : {xs xs' ys ys' : List ℕ} → xs ≡ xs' → ys ≡ ys' → Begins xs' ys' → Begins xs ys
begins_as e f h = record { more = h.more; behind = f ∙ h.behind ∙ ap (λ (l : List ℕ). l ++ h.more) (sym e) }

-- of any rows, numbered or not
pub more_rows : (b : Sources) (rows : List Row) (numbered : Bool) (m n : ℕ) → m ≤ n
    → Begins (data_of (first_of rows numbered m) b) (data_of (first_of rows numbered n) b)
more_rows b rows numbered m n h = record {
  more = data_from numbered (1 + length (take m rows)) (take (n - m) (drop m rows)) b;
  behind =
      let e : n ≡ m + (n - m) = omega arith in
      ap (λ (k : ℕ). data_from numbered 1 (take k rows) b) e
      ∙ ap (λ (l : List Row). data_from numbered 1 l b) (take-add m (n - m) rows)
      ∙ data_append b numbered (take m rows) (take (n - m) (drop m rows)) 1;
}

-- ==== how many each has: none has fewer than the one before

abbrev ascending : List ℕ → ℕ → Bool
ascending [] newest = true
ascending (n ∷ ns) newest = leb n (get_or ns 0 newest) && ascending ns newest

grows : (ns : List ℕ) (newest : ℕ) → ascending ns newest ≡ true → (i j : ℕ) → i ≤ j → get_or ns i newest ≤ get_or ns j newest
grows [] newest h i j l = omega arith
grows (n ∷ ns) newest h zero zero l = omega arith
grows (n ∷ ns) newest h (suc i) zero l = absurd (omega arith)
grows (n ∷ ns) newest h zero (suc j) l =
    let t = both (leb n (get_or ns 0 newest)) (ascending ns newest) h in
    omega (arith, leb-true n (get_or ns 0 newest) t.0, grows ns newest t.1 0 j (omega arith))
grows (n ∷ ns) newest h (suc i) (suc j) l =
    grows ns newest (both (leb n (get_or ns 0 newest)) (ascending ns newest) h).1 i j (omega arith)

pub count_grows : (q r : ℕ) → q ≤ r → later_count q ≤ later_count r
count_grows q r h = grows older_counts newest_count refl (q - 2) (r - 2) (omega arith)

-- ==== the revisions of 0061

-- so many fields has each from 2 on
pub later_layout : (r : ℕ) → 2 ≤ r → layout_at layouts_0061 r ≡ first_of later_rows true (later_count r)
later_layout r h =
    let e : r - 1 ≡ suc (r - 2) = omega arith in
    ap (λ (k : ℕ). get_or layouts_0061.older k layouts_0061.newest) e
    ∙ get_or-map (first_of later_rows true) older_counts (r - 2) newest_count

later_data : (b : Sources) (r : ℕ) → 2 ≤ r
    → data_of (layout_at layouts_0061 r) b ≡ data_of (first_of later_rows true (later_count r)) b
later_data b r h = ap (λ (l : Layout). data_of l b) (later_layout r h)

later_begins : (b : Sources) (r : ℕ) → 3 ≤ r
    → Begins (data_of (layout_at layouts_0061 (r - 1)) b) (data_of (layout_at layouts_0061 r) b)
later_begins b r h =
    begins_as (later_data b (r - 1) (omega arith)) (later_data b r (omega arith))
    (more_rows b later_rows true (later_count (r - 1)) (later_count r) (count_grows (r - 1) r (omega arith)))

-- the data of a frame that goes out begins with the data of the one before
pub revision_begins : (st : Settings) (t : Result) (no_acknowledge : Bool) (r : ℕ) → 3 ≤ r
    → Begins (drop header_length (event_frame st (r - 1) no_acknowledge (tightened t)))
    (drop header_length (event_frame st r no_acknowledge (tightened t)))
unfolding event_frame frame header digits
revision_begins st t no_acknowledge r h = later_begins (sources st (told_of (tightened t))) r h
