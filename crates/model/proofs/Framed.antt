-- The frames that we write, as a line server reads them: no NUL in them, and the length that they begin with is their own. It holds of
-- every frame whose fields are numbers in so many digits, whatever the number, and texts without NUL.
use Prim.Native.Nat.{ℕ, zero, suc, ◌+◌, ◌*◌, ◌-◌, ◌/◌, ◌%◌, ◌≤◌, ◌<◌}
use mathlib.Core.Path.{◌≡◌, refl, ◌∙◌}
use mathlib.Core.Bool.{Bool, true, false, cond, ◌&&◌, ◌||◌, and-eq-true_iff}
use mathlib.Core.List.{List, [], ◌∷◌, ◌++◌}
use mathlib.Core.Option.{Option, none, some}
use native.Mathlib.Omega.{arith}
use lib.Dec.{leb, eqb}
use lib.ListN.{length, get_or, take, replicate, length-append, length-replicate}
use borrow.Author.Tests.{le-leb, leb-true, eqb-true}
use Rattle.model.specs.Limits.{identifier_length, number_greatest}
use Rattle.model.specs.Bytes.{NUL, space, dash, colon, digit_0, digit_1, is_digit, is_text, all, spaces, decimal, digits}
use Rattle.model.specs.Records.{Value, counted, limited, said, text_in, value_at, number_at, limit_at, text_at, Settings}
use Rattle.model.specs.Records.{tightening_items, good_in_time}
use Rattle.model.specs.Layouts.{Sources, settings, source, Row, number, limit, text, blank, unreported, known, width_of}
use Rattle.model.specs.Layouts.{limit_characters, characters}
use Rattle.model.specs.Layouts.{label_length, Layout, data_from, data_of, layout_0002, layout_0004, layout_0005, layout_0065}
use Rattle.model.specs.Layouts.{Layouts, layout_at, layouts_0052, layouts_0061, layouts_0071}
use Rattle.model.specs.Kinds.{kind_at}
use Rattle.model.specs.Events.{Result, Event, identified, tightened, alarmed, kind_of, result_values, told_of}
use Rattle.model.specs.Sharing.{last_after, in_force_after, kept_after}
use Rattle.model.specs.Frames.{header, frame, sources, nothing, frame_0002, frame_0004, frame_0005, kept_sources, frame_0065}
use Rattle.model.specs.Frames.{event_frame}
use Rattle.model.specs.FieldsRead.{all_within, settings_within, told_within}
use Rattle.model.specs.Wire.{Every, NoNUL, Framed, is_notice}

pub both : (a b : Bool) → (a && b) ≡ true → (a ≡ true) × (b ≡ true)
both a b h = (and-eq-true_iff a b).0 h

-- (the halves, for `search` to go by)
pub left : (a b : Bool) → (a && b) ≡ true → a ≡ true
left a b h = (both a b h).0

pub right : (a b : Bool) → (a && b) ≡ true → b ≡ true
right a b h = (both a b h).1

-- ==== lists of which each element is so

module _ {A : Type 0} (P : A → Type 0) where
  pub every_append : (xs ys : List A) → Every P xs → Every P ys → Every P (xs ++ ys)
  every_append [] ys h k = k
  every_append (x ∷ xs) ys h k = (h.0, every_append xs ys h.1 k)

  pub every_take : (n : ℕ) (xs : List A) → Every P xs → Every P (take n xs)
  every_take zero xs h = tt
  every_take (suc n) [] h = tt
  every_take (suc n) (x ∷ xs) h = (h.0, every_take n xs h.1)

  pub every_replicate : (n : ℕ) (x : A) → P x → Every P (replicate n x)
  every_replicate zero x h = tt
  every_replicate (suc n) x h = (h, every_replicate n x h)

  pub every_at : (xs : List A) (i : ℕ) (d : A) → P d → Every P xs → P (get_or xs i d)
  every_at [] i d h k = h
  every_at (x ∷ xs) zero d h k = k.0
  every_at (x ∷ xs) (suc i) d h k = every_at xs i d h k.1

-- each passes a test that all pass
pub every_of : {A : Type 0} (test : A → Bool) (xs : List A) → all test xs ≡ true → Every (λ x. test x ≡ true) xs
every_of test [] h = tt
every_of test (x ∷ xs) h = let k = both (test x) (all test xs) h in (k.0, every_of test xs k.1)

-- what there is, if there is any, is so
abbrev pub IfAny : {A : Type 0} → (A → Type 0) → Option A → Type 0
IfAny P none = Unit {0}
IfAny P (some a) = P a

-- of two, whichever is chosen is so
pub either : {A : Type 0} (P : A → Type 0) (b : Bool) (x y : A) → P x → P y → P (cond b x y)
either P true x y h k = h
either P false x y h k = k

-- a function of a choice is a choice of its values
pub chosen : {A B : Type 0} (f : A → B) (b : Bool) (x y : A) → cond b (f x) (f y) ≡ f (cond b x y)
chosen f true x y = refl
chosen f false x y = refl

-- ==== the layouts of a notice: what a test finds of each of them it finds of every revision

pub at_every : (test : Layout → Bool) (ls : Layouts) → all test (ls.newest ∷ ls.older) ≡ true → (revision : ℕ)
    → test (layout_at ls revision) ≡ true
at_every test ls h revision =
    let t = every_of test (ls.newest ∷ ls.older) h in
    every_at (λ l. test l ≡ true) ls.older (revision - 1) ls.newest t.0 t.1

-- ==== bytes that are no NUL

-- a byte that is none
abbrev pub Shown : ℕ → Type 0
Shown b = b ≡ NUL → ⊥

pub nul_append : (xs ys : List ℕ) → NoNUL xs → NoNUL ys → NoNUL (xs ++ ys)
nul_append xs ys h k = every_append Shown xs ys h k

pub nul_digits : (width n : ℕ) → NoNUL (digits width n)
unfolding digits
nul_digits zero n = tt
nul_digits (suc width) n = nul_append (digits width (n / 10)) ((0x30 + n % 10) ∷ []) (nul_digits width (n / 10)) (λ e. omega arith, tt)

nul_replicate : (c : ℕ) → Shown c → (n : ℕ) → NoNUL (replicate n c)
nul_replicate c h zero = tt
nul_replicate c h (suc n) = (h, nul_replicate c h n)

pub nul_spaces : (n : ℕ) → NoNUL (spaces n)
nul_spaces n = nul_replicate space (λ e. omega arith) n

pub nul_text : (bs : List ℕ) → all is_text bs ≡ true → NoNUL bs
nul_text [] h = tt
nul_text (b ∷ bs) h =
    let k = (and-eq-true_iff (is_text b) (all is_text bs)).0 h in
    let least = leb-true 0x20 b ((and-eq-true_iff (leb 0x20 b) (leb b 0x7E)).0 k.0).0 in
    (λ e. omega arith, nul_text bs k.1)

-- (an edit in must-fail/ turns it, so nothing in this file rests on it)
pub nul_in_time : (place b : ℕ) → good_in_time place b ≡ true → Shown b
nul_in_time place b h =
    go (eqb place 5 || eqb place 8) (eqb place 11 || eqb place 14 || eqb place 17) h
  where
    go : (x y : Bool) → cond x (eqb b dash) (cond y (eqb b colon) (is_digit b)) ≡ true → Shown b
    go true y k e = omega (arith, eqb-true b dash k)
    go false true k e = omega (arith, eqb-true b colon k)
    go false false k e = omega (arith, leb-true 0x30 b (both (leb 0x30 b) (leb b 0x39) k).0)

pub length_digits : (width n : ℕ) → length (digits width n) ≡ width
unfolding digits
length_digits zero n = refl
length_digits (suc width) n =
    let ih = length_digits width (n / 10) in omega (arith, length-append (digits width (n / 10)) ((0x30 + n % 10) ∷ []))

-- ==== a frame

-- the digits of a frame's length
four_digits : (n : ℕ) → n < 10_000 → decimal (digits 4 n) ≡ n
unfolding digits
four_digits n h = omega arith

digit_test : (n : ℕ) → is_digit (0x30 + n % 10) ≡ true
digit_test n = rw (le-leb 0x30 (0x30 + n % 10) (omega arith), le-leb (0x30 + n % 10) 0x39 (omega arith))

all_append : (test : ℕ → Bool) (xs ys : List ℕ) → all test xs ≡ true → all test ys ≡ true → all test (xs ++ ys) ≡ true
all_append test [] ys h k = k
all_append test (x ∷ xs) ys h k = let t = both (test x) (all test xs) h in rw t.0 (all_append test xs ys t.1 k)

pub digits_test : (width n : ℕ) → all is_digit (digits width n) ≡ true
unfolding digits
digits_test zero n = refl
digits_test (suc width) n =
    all_append is_digit (digits width (n / 10)) ((0x30 + n % 10) ∷ []) (digits_test width (n / 10)) (rw (digit_test n))

module _ (mid revision byte_12 : ℕ) (bs : List ℕ) where
  nul_frame : Shown byte_12 → NoNUL bs → NoNUL (frame mid revision byte_12 bs)
  unfolding frame header
  nul_frame h k = search (nul_append, nul_digits, nul_spaces)

  framed : Shown byte_12 → NoNUL bs → length bs < 9_980 → Framed (frame mid revision byte_12 bs)
  unfolding frame header digits
  framed h k short = record {
    no_NUL = nul_frame h k;
    has_header = omega arith;
    in_digits = digits_test 4 (20 + length bs);
    own_length = four_digits (20 + length bs) (omega arith) ∙ omega arith;
  }

-- ==== fields: a text that can stand in one has no NUL and is no longer than 25 bytes

pub record Text (bs : List ℕ) : Type 0 where
  pub no_NUL : NoNUL bs
  pub short : length bs ≤ identifier_length

-- a value that can stand in one
abbrev pub Fit : Value → Type 0
Fit (counted n) = Unit {0}
Fit (limited l) = Unit {0}
Fit (said bs) = Text bs

-- sources of which each can
pub record Fits (b : Sources) : Type 0 where
  pub settings : Every Fit b.settings
  pub told : Every Fit b.told

fit_text : (v : Value) → Fit v → Text (text_in v)
fit_text (counted n) h = record { no_NUL = tt; short = omega arith }
fit_text (limited l) h = record { no_NUL = tt; short = omega arith }
fit_text (said bs) h = h

-- a limit has its width, be it a number or none, and no NUL
pub limit_fits : (width : ℕ) (l : Option ℕ) → NoNUL (limit_characters width l) × (length (limit_characters width l) ≡ width)
limit_fits width none = (nul_spaces width, length-replicate width space)
limit_fits width (some n) = (nul_digits width n, length_digits width n)

-- ==== layouts of which no field is longer, and which have so few that a frame's length goes into its digits

abbrev slim_row : Row → Bool
slim_row row = leb (width_of row) identifier_length

abbrev slim : Layout → Bool
slim l = leb (length l.rows) 300 && all slim_row l.rows

module _ (b : Sources) (h : Fits b) where
  fit_source : (from i : ℕ) → Text (text_at (source b from) i)
  fit_source from i =
      let texts = either (Every Fit) (eqb from settings) b.settings b.told h.settings h.told in
      fit_text (value_at (source b from) i) (every_at Fit (source b from) i (counted 0) tt texts)

  field_fits : (row : Row) → NoNUL (characters b row) × (slim_row row ≡ true → length (characters b row) ≤ identifier_length)
  unfolding characters
  field_fits (number width from i) =
      let n = number_at (source b from) i in
      (nul_digits width n, λ e. omega (arith, length_digits width n, leb-true width identifier_length e))
  field_fits (limit width from i) =
      let f = limit_fits width (limit_at (source b from) i) in (f.0, λ e. omega (arith, f.1, leb-true width identifier_length e))
  field_fits (text width from i) = let f = fit_source from i in (f.no_NUL, λ e. f.short)
  field_fits (blank width) = (nul_spaces width, λ e. omega (arith, length-replicate width space, leb-true width identifier_length e))
  field_fits (unreported width) =
      let n = length-replicate width digit_0 in
      (nul_replicate digit_0 (λ e. omega arith) width, λ e. omega (arith, n, leb-true width identifier_length e))
  field_fits (known width n) = (nul_digits width n, λ e. omega (arith, length_digits width n, leb-true width identifier_length e))

  data_fits : (numbered : Bool) (i : ℕ) (rows : List Row)
      → NoNUL (data_from numbered i rows b) × (all slim_row rows ≡ true → length (data_from numbered i rows b) ≤ 27 * length rows)
  unfolding data_from
  data_fits numbered i [] = (tt, λ e. omega arith)
  data_fits numbered i (row ∷ rows) =
      let f = field_fits row in
      let more = data_fits numbered (suc i) rows in
      let few = either (λ (n : ℕ). n ≤ 2) numbered 2 0 (omega arith) (omega arith) in (
        search (nul_append, nul_digits),
        λ e.
            let t = both (slim_row row) (all slim_row rows) e in
            simp length-append (omega (arith, length_digits (label_length numbered) i, f.1 t.0, more.1 t.1)),
      )

  framed_layout : (mid revision byte_12 : ℕ) (l : Layout) → Shown byte_12 → slim l ≡ true
      → Framed (frame mid revision byte_12 (data_of l b))
  framed_layout mid revision byte_12 l k e =
      let t = both (leb (length l.rows) 300) (all slim_row l.rows) e in
      let d = data_fits l.numbered 1 l.rows in
      framed mid revision byte_12 (data_of l b) k d.0 (omega (arith, d.1 t.1, leb-true (length l.rows) 300 t.0))

-- ==== the frames

-- an identifier: a text of its length
pub record Identifier (x : List ℕ) : Type 0 where
  pub clean : Text x
  pub whole : length x ≡ identifier_length

pub identifier_spaces : Identifier (spaces identifier_length)
identifier_spaces = record { clean = record { no_NUL = nul_spaces identifier_length; short = omega arith }; whole = refl }

-- settings, results and events, whose texts can stand in fields, and whose values are within their items; the last number that they leave
-- is one that there is, what an event leaves in force is an identifier, and what it leaves in the memory are such results
pub record CleanSettings (st : Settings) : Type 0 where
  pub texts : Every Fit st.values
  pub within : settings_within st ≡ true
  pub last : st.last ≤ number_greatest

pub record CleanResult (r : Result) : Type 0 where
  pub texts : Every Fit (result_values r)
  pub within : all_within tightening_items (result_values r) ≡ true
  pub number : r.number ≤ number_greatest

pub record CleanEvent (e : Event) : Type 0 where
  pub texts : Every Fit (told_of e)
  pub within : told_within e ≡ true
  pub last : (n : ℕ) → n ≤ number_greatest → last_after n e ≤ number_greatest
  pub in_force : (x : List ℕ) → Identifier x → Identifier (in_force_after x e)
  pub kept : (rs : List Result) → Every CleanResult rs → Every CleanResult (kept_after rs e)

pub framed_0002 : (st : Settings) → CleanSettings st → Framed (frame_0002 st)
unfolding frame_0002
framed_0002 st h =
    framed_layout (sources st []) (record { settings = h.texts; told = tt }) 2 1 space layout_0002 (λ e. omega arith) refl

pub framed_0004 : (mid error : ℕ) → Framed (frame_0004 mid error)
unfolding frame_0004
framed_0004 mid error =
    framed_layout nothing (record { settings = tt; told = tt }) 4 1 space (layout_0004 mid error) (λ e. omega arith) refl

pub framed_0005 : (mid : ℕ) → Framed (frame_0005 mid)
unfolding frame_0005
framed_0005 mid = framed_layout nothing (record { settings = tt; told = tt }) 5 1 space (layout_0005 mid) (λ e. omega arith) refl

pub framed_0065 : (r : Result) → CleanResult r → Framed (frame_0065 r)
unfolding frame_0065
framed_0065 r h =
    framed_layout (kept_sources r) (record { settings = tt; told = h.texts }) 65 1 space (layout_0065 r.number) (λ e. omega arith) refl

slim_notice : (e : Event) (revision : ℕ) → slim (layout_at (kind_at (kind_of e)).layouts revision) ≡ true
slim_notice (identified x) revision = at_every slim layouts_0052 refl revision
slim_notice (tightened r) revision = at_every slim layouts_0061 refl revision
slim_notice (alarmed vs) revision = at_every slim layouts_0071 refl revision

module _ (st : Settings) (clean : CleanSettings st) (revision : ℕ) (no_acknowledge : Bool) where
  pub framed_event : (e : Event) → CleanEvent e → Framed (event_frame st revision no_acknowledge e)
  unfolding event_frame
  framed_event e h =
      let shown = either Shown no_acknowledge digit_1 digit_0 (λ z. omega arith) (λ z. omega arith) in
      let kind = kind_at (kind_of e) in
      framed_layout (sources st (told_of e)) (record { settings = clean.texts; told = h.texts }) kind.notice revision
      (cond no_acknowledge digit_1 digit_0) (layout_at kind.layouts revision) shown (slim_notice e revision)

  pub notice_event : (e : Event) → is_notice (event_frame st revision no_acknowledge e) ≡ true
  unfolding event_frame frame header digits
  notice_event (identified x) = refl
  notice_event (tightened r) = refl
  notice_event (alarmed vs) = refl
