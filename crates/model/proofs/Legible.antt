-- What a reader gets out of the frames that we write: rows that have room for whatever the items say are legible, whatever values within
-- the items there are. So the data of our frames reads back as the values that they were made of.
use Prim.Native.Nat.{ℕ, zero, suc, ◌≤◌, ◌<◌, ◌^◌}
use mathlib.Core.Path.{◌≡◌, refl, sym, ap, ◌∙◌}
use mathlib.Core.Bool.{Bool, true, false, cond, true≢false}
use mathlib.Core.List.{List, [], ◌∷◌, ◌++◌, append-nil}
use mathlib.Core.Option.{Option, none, some}
use native.Mathlib.Omega.{arith}
use lib.Dec.{leb, ltb, eqb}
use lib.ListN.{length, drop}
use borrow.Author.Tests.{leb-true, ltb-true, eqb-true, le-leb, lt-ltb, eq-eqb}
use Rattle.model.specs.Limits.{identifier_length, number_length, number_greatest, results_kept}
use Rattle.model.specs.Bytes.{space, digit_0, digit_1, all, digits}
use Rattle.model.specs.Records.{Item, number as number_item, limit as limit_item, text as text_item, time, Value, counted, limited}
use Rattle.model.specs.Records.{said, number_at, limit_at, text_at}
use Rattle.model.specs.Records.{Settings, settings_items, tightening_items, result_items, scanned_items, alarm_items}
use Rattle.model.specs.Layouts.{Sources, settings, source, Row, number, limit, text, blank, unreported, known, characters, Layout}
use Rattle.model.specs.Layouts.{data_from, data_of, layout_0002, layout_0004, layout_0005, layout_0065, layouts_0052}
use Rattle.model.specs.Layouts.{layouts_0061, layouts_0071}
use Rattle.model.specs.Kinds.{kind_at}
use Rattle.model.specs.Events.{Result, Event, identified, tightened, alarmed, kind_of, told_of}
use Rattle.model.specs.Frames.{header, frame, sources, nothing, frame_0002, frame_0004, frame_0005, kept_sources, frame_0065}
use Rattle.model.specs.Frames.{event_frame}
use Rattle.model.specs.FieldsRead.{limit_legible, legible, read_fields, read_frame, values_in, number_below, limit_below, text_of}
use Rattle.model.specs.FieldsRead.{passes_at, row_fits, layout_for, ReadsBack, limit_within, is_within, all_within, items_of}
use Rattle.model.specs.FieldsRead.{settings_within, told_within}
use Rattle.model.specs.Wire.{Every}
use Rattle.model.proofs.Framed.{both, every_append, every_take, at_every, Fit, Identifier, CleanSettings, CleanResult, CleanEvent}
use Rattle.model.proofs.ReadBack.{read_back}

-- ==== rows that fit the items are legible, whatever values within them the sources have

pub number_within : (bound : ℕ) (es : List Item) (vs : List Value) (i : ℕ) → all_within es vs ≡ true
    → passes_at (number_below bound) es i ≡ true → number_at vs i < bound
number_within bound [] vs i a f = absurd (true≢false (sym f))
number_within bound (e ∷ es) [] i a f = absurd (true≢false (sym a))
number_within bound (e ∷ es) (v ∷ vs) (suc i) a f = number_within bound es vs i (both (is_within e v) (all_within es vs) a).1 f
number_within bound (number_item size greatest ∷ es) (counted n ∷ vs) zero a f =
    omega (arith, leb-true n greatest (both (leb n greatest) (all_within es vs) a).0, ltb-true greatest bound f)
number_within bound (number_item size greatest ∷ es) (limited l ∷ vs) zero a f = absurd (true≢false (sym a))
number_within bound (number_item size greatest ∷ es) (said bs ∷ vs) zero a f = absurd (true≢false (sym a))
number_within bound (limit_item size greatest ∷ es) (v ∷ vs) zero a f = absurd (true≢false (sym f))
number_within bound (text_item size ∷ es) (v ∷ vs) zero a f = absurd (true≢false (sym f))
number_within bound (time ∷ es) (v ∷ vs) zero a f = absurd (true≢false (sym f))

limit_in_width : (w greatest : ℕ) (l : Option ℕ) → ltb 0 w ≡ true → limit_within greatest l ≡ true → ltb greatest (10 ^ w) ≡ true
    → limit_legible w l ≡ true
limit_in_width w greatest none o a f = o
limit_in_width w greatest (some n) o a f = lt-ltb n (10 ^ w) (omega (arith, leb-true n greatest a, ltb-true greatest (10 ^ w) f))

limits_within : (w : ℕ) (es : List Item) (vs : List Value) (i : ℕ) → ltb 0 w ≡ true → all_within es vs ≡ true
    → passes_at (limit_below (10 ^ w)) es i ≡ true → limit_legible w (limit_at vs i) ≡ true
limits_within w [] vs i o a f = absurd (true≢false (sym f))
limits_within w (e ∷ es) [] i o a f = absurd (true≢false (sym a))
limits_within w (e ∷ es) (v ∷ vs) (suc i) o a f = limits_within w es vs i o (both (is_within e v) (all_within es vs) a).1 f
limits_within w (number_item size greatest ∷ es) (v ∷ vs) zero o a f = absurd (true≢false (sym f))
limits_within w (limit_item size greatest ∷ es) (counted n ∷ vs) zero o a f = absurd (true≢false (sym a))
limits_within w (limit_item size greatest ∷ es) (limited l ∷ vs) zero o a f =
    limit_in_width w greatest l o (both (limit_within greatest l) (all_within es vs) a).0 f
limits_within w (limit_item size greatest ∷ es) (said bs ∷ vs) zero o a f = absurd (true≢false (sym a))
limits_within w (text_item size ∷ es) (v ∷ vs) zero o a f = absurd (true≢false (sym f))
limits_within w (time ∷ es) (v ∷ vs) zero o a f = absurd (true≢false (sym f))

text_within : (w : ℕ) (es : List Item) (vs : List Value) (i : ℕ) → all_within es vs ≡ true → passes_at (text_of w) es i ≡ true
    → eqb (length (text_at vs i)) w ≡ true
text_within w [] vs i a f = absurd (true≢false (sym f))
text_within w (e ∷ es) [] i a f = absurd (true≢false (sym a))
text_within w (e ∷ es) (v ∷ vs) (suc i) a f = text_within w es vs i (both (is_within e v) (all_within es vs) a).1 f
text_within w (number_item size greatest ∷ es) (v ∷ vs) zero a f = absurd (true≢false (sym f))
text_within w (limit_item size greatest ∷ es) (v ∷ vs) zero a f = absurd (true≢false (sym f))
text_within w (text_item size ∷ es) (counted n ∷ vs) zero a f = absurd (true≢false (sym a))
text_within w (text_item size ∷ es) (limited l ∷ vs) zero a f = absurd (true≢false (sym a))
text_within w (text_item size ∷ es) (said bs ∷ vs) zero a f =
    eq-eqb (length bs) w (eqb-true (length bs) size (both (eqb (length bs) size) (all_within es vs) a).0 ∙ eqb-true size w f)
text_within w (time ∷ es) (counted n ∷ vs) zero a f = absurd (true≢false (sym a))
text_within w (time ∷ es) (limited l ∷ vs) zero a f = absurd (true≢false (sym a))
text_within w (time ∷ es) (said bs ∷ vs) zero a f =
    eq-eqb (length bs) w (eqb-true (length bs) _ (both _ (all_within es vs) a).0 ∙ eqb-true _ w f)

-- sources whose values are within these items
module _ (ss ts : List Item) (b : Sources) (s : all_within ss b.settings ≡ true) (t : all_within ts b.told ≡ true) where
  source_within : (from : ℕ) → all_within (cond (eqb from settings) ss ts) (source b from) ≡ true
  source_within from = go (eqb from settings)
    where
      go : (c : Bool) → all_within (cond c ss ts) (cond c b.settings b.told) ≡ true
      go true = s
      go false = t

  fit_legible : (row : Row) → row_fits ss ts row ≡ true → legible b row ≡ true
  fit_legible (number w from i) f =
      lt-ltb (number_at (source b from) i) (10 ^ w)
      (number_within (10 ^ w) (cond (eqb from settings) ss ts) (source b from) i (source_within from) f)
  fit_legible (limit w from i) f =
      let es = cond (eqb from settings) ss ts in
      let t = both (ltb 0 w) (passes_at (limit_below (10 ^ w)) es i) f in
      limits_within w es (source b from) i t.0 (source_within from) t.1
  fit_legible (text w from i) f = text_within w (cond (eqb from settings) ss ts) (source b from) i (source_within from) f
  fit_legible (blank w) f = refl
  fit_legible (unreported w) f = refl
  fit_legible (known w n) f = f

  pub all_legible : (rows : List Row) → all (row_fits ss ts) rows ≡ true → all (legible b) rows ≡ true
  all_legible [] f = refl
  all_legible (row ∷ rows) f =
      let g = both (row_fits ss ts row) (all (row_fits ss ts) rows) f in
      rw (fit_legible row g.0) (all_legible rows g.1)

  -- so a frame that has them reads back
  pub frame_back : (mid revision byte_12 : ℕ) (l : Layout) → all (row_fits ss ts) l.rows ≡ true
      → read_frame l (frame mid revision byte_12 (data_of l b)) ≡ values_in b l
  unfolding frame header digits
  frame_back mid revision byte_12 l f =
      ap (read_fields l.numbered l.rows) (sym (append-nil (data_of l b)))
      ∙ read_back b l.numbered l.rows 1 [] (all_legible l.rows f)

-- what a tool reports besides the identifier
abbrev pub reported_items : List Item
reported_items = drop 1 tightening_items

-- ==== replies

pub back_0002 : (st : Settings) → settings_within st ≡ true → read_frame layout_0002 (frame_0002 st) ≡ values_in (sources st []) layout_0002
unfolding frame_0002
back_0002 st h = frame_back settings_items [] (sources st []) h refl 2 1 space layout_0002 refl

pub back_0004 : (mid error : ℕ) → mid < 10_000 → error < 100
    → read_frame (layout_0004 mid error) (frame_0004 mid error) ≡ counted mid ∷ counted error ∷ []
unfolding frame_0004
back_0004 mid error h k =
    frame_back [] [] nothing refl refl 4 1 space (layout_0004 mid error) (rw (lt-ltb mid 10_000 h, lt-ltb error 100 k))

pub back_0005 : (mid : ℕ) → mid < 10_000 → read_frame (layout_0005 mid) (frame_0005 mid) ≡ counted mid ∷ []
unfolding frame_0005
back_0005 mid h = frame_back [] [] nothing refl refl 5 1 space (layout_0005 mid) (rw (lt-ltb mid 10_000 h))

pub back_0065 : (r : Result) → CleanResult r
    → read_frame (layout_0065 r.number) (frame_0065 r) ≡ values_in (kept_sources r) (layout_0065 r.number)
unfolding frame_0065
back_0065 r h =
    let n = h.number in
    frame_back [] tightening_items (kept_sources r) refl h.within 65 1 space (layout_0065 r.number)
    (rw (lt-ltb r.number 10_000_000_000 (omega arith)))

-- ==== notices, whatever the kind and the revision: by the layout of these

notice_fits : (e : Event) (revision : ℕ) → all (row_fits settings_items (items_of e)) (layout_for e revision).rows ≡ true
notice_fits (identified x) revision = at_every (λ l. all (row_fits settings_items scanned_items) l.rows) layouts_0052 refl revision
notice_fits (tightened r) revision = at_every (λ l. all (row_fits settings_items result_items) l.rows) layouts_0061 refl revision
notice_fits (alarmed vs) revision = at_every (λ l. all (row_fits settings_items alarm_items) l.rows) layouts_0071 refl revision

pub event_back : (st : Settings) (e : Event) → settings_within st ≡ true → told_within e ≡ true → (revision : ℕ) (no_acknowledge : Bool)
    → read_frame (layout_for e revision) (event_frame st revision no_acknowledge e)
    ≡ values_in (sources st (told_of e)) (layout_for e revision)
unfolding event_frame
event_back st e h k revision no_acknowledge =
    frame_back settings_items (items_of e) (sources st (told_of e)) h k (kind_at (kind_of e)).notice revision
    (cond no_acknowledge digit_1 digit_0) (layout_for e revision) (notice_fits e revision)

-- 02, P1: what 0052 says in revision 1 is the identifier, from byte 21 on
pub identifier_alone : (st : Settings) (no_acknowledge : Bool) (x : List ℕ)
    → event_frame st 1 no_acknowledge (identified x) ≡ frame 0052 1 (cond no_acknowledge digit_1 digit_0) x
unfolding event_frame data_from characters digits
identifier_alone st no_acknowledge x = ap (frame 0052 1 (cond no_acknowledge digit_1 digit_0)) (append-nil x)

-- a copy of it
pub copy_back : (st : Settings) (e : Event) → CleanSettings st → CleanEvent e → (id revision : ℕ) (no_acknowledge : Bool)
    → ReadsBack st (record { notice = record { id = id; event = e }; frame = event_frame st revision no_acknowledge e })
copy_back st e h k id revision no_acknowledge = record {
  revision = revision;
  no_acknowledge = no_acknowledge;
  made = refl;
  back = event_back st e h.within k.within revision no_acknowledge;
}

-- ==== events: an identifier, a tightening whose values are good and whose number there is, an alarm whose values are good

pub identified_clean : (x : List ℕ) → Identifier x → CleanEvent (identified x)
identified_clean x h = record {
  texts = (h.clean, tt);
  within = rw (eq-eqb (length x) identifier_length h.whole);
  last = λ n k. k;
  in_force = λ y k. h;
  kept = λ rs k. k;
}

all_within_append : (es : List Item) (vs : List Value) (fs : List Item) (ws : List Value) → all_within es vs ≡ true
    → all_within fs ws ≡ true → all_within (es ++ fs) (vs ++ ws) ≡ true
all_within_append [] [] fs ws h k = k
all_within_append [] (v ∷ vs) fs ws h k = absurd (true≢false (sym h))
all_within_append (e ∷ es) [] fs ws h k = absurd (true≢false (sym h))
all_within_append (e ∷ es) (v ∷ vs) fs ws h k =
    let t = both (is_within e v) (all_within es vs) h in
    rw t.0 (all_within_append es vs fs ws t.1 k)

pub tightened_clean : (r : Result) → Identifier r.identifier → Every Fit r.tightening
    → all_within reported_items r.tightening ≡ true → r.number ≤ number_greatest → CleanEvent (tightened r)
tightened_clean r h k w n =
    let number_items = number_item number_length number_greatest ∷ [] in
    let numbers = counted r.number ∷ [] in
    let own : CleanResult r = record {
      texts = (h.clean, k);
      within = rw (eq-eqb (length r.identifier) identifier_length h.whole) w;
      number = n;
    } in
    record {
      texts = (h.clean, every_append Fit r.tightening numbers k (tt, tt));
      within =
          rw (eq-eqb (length r.identifier) identifier_length h.whole)
          (all_within_append reported_items r.tightening number_items numbers w (rw (le-leb r.number number_greatest n)));
      last = λ m l. n;
      in_force = λ y l. l;
      kept = λ rs l. every_take CleanResult results_kept (r ∷ rs) (own, l);
    }

pub alarmed_clean : (vs : List Value) → Every Fit vs → all_within alarm_items vs ≡ true → CleanEvent (alarmed vs)
alarmed_clean vs k w = record { texts = k; within = w; last = λ n l. l; in_force = λ y l. l; kept = λ rs l. l }
