-- Fields one behind the other, and the field of each sort of row.
use mathlib.Core.Path.{◌≡◌, refl, sym, ap, ap₂, subst, ◌∙◌}
use Prim.Native.Nat.{ℕ, zero, suc, ◌+◌, ◌≤◌, ◌<◌}
use native.Mathlib.Nat.{add-zero}
use native.Mathlib.Numerals.{add-one}
use native.Mathlib.Omega.{arith}
use mathlib.Core.Bool.{true}
use mathlib.Core.List.{List, [], ◌∷◌, ◌++◌}
use lib.ListN.{length, take, drop, take-append-drop, replicate, length-drop, length-replicate, replicate-append-replicate}
use lib.Seq.{length-take-le, take_all}
use Rattle.model.specs.Bytes.{digit_0, digits, spaces}
use Rattle.model.specs.Records.{limit_of, number_at, limit_at, text_at}
use Rattle.model.specs.Layouts.{Sources, source, Row, number, limit, text, blank, unreported, known, limit_characters, characters}
use Rattle.model.specs.Layouts.{width_of, data_from, rows_length}
use Rattle.model.specs.Frames.{nothing}
use Rattle.model.proofs.ReadBack.{data_append}
use Rattle.text.specs.Put.{Put, Written}
use Rattle.text.proofs.Puts.{put_then, put_as}
use Rattle.frame.specs.Layout.{numbered, FieldsPut, FixedPut, unreported_rows}

-- how long a part of a text is
pub part_length : (l : List ℕ) (place width : ℕ) → place + width ≤ length l → length (take width (drop place l)) ≡ width
part_length l place width h = length-take-le width (drop place l) (rw length-drop (omega arith))

pub front_length : (l : List ℕ) (width : ℕ) → width ≤ length l → length (take width l) ≡ width
front_length l width h = length-take-le width l h

-- all of a text
pub whole_text : (s : List ℕ) (width : ℕ) → length s ≡ width → s ≡ take width s
whole_text s width e = sym (take_all width s (omega arith))

-- a field: its number, and behind it so many characters
pub field_put : (field width : ℕ) {o o₁ o₂ cs : List ℕ} {at r₁ r₂ : ℕ} → r₁ ≡ at + 2 → Put o at (digits 2 field) r₁ o₁ → r₂ ≡ r₁ + width
    → Put o₁ r₁ cs r₂ o₂ → Written o at (2 + width) (numbered field cs) r₂ o₂
field_put field width e p f q = record { place = omega arith; put = put_then p q }

-- ==== some rows and then others

pub length_append_rows : (xs ys : List Row) → rows_length true (xs ++ ys) ≡ rows_length true xs + rows_length true ys
length_append_rows [] ys = omega arith
length_append_rows (x ∷ xs) ys = let e = length_append_rows xs ys in omega arith

module _ (b : Sources) where
  pub fields_then : (n : ℕ) (xs ys : List Row) {o o₁ o₂ : List ℕ} {at r₁ r₂ : ℕ} → FieldsPut b n xs o at r₁ o₁
      → FieldsPut b (n + length xs) ys o₁ r₁ r₂ o₂ → FieldsPut b n (xs ++ ys) o at r₂ o₂
  fields_then n xs ys p q = record {
    place = let e = length_append_rows xs ys in let f = p.place in let g = q.place in omega arith;
    put = put_as (sym (data_append b true xs ys n)) (put_then p.put q.put);
  }

  -- ==== one field, whose number is m, and then others

  module _ {o o₁ o₂ : List ℕ} {at r₁ r₂ : ℕ} (n m : ℕ) where
    field_then : (row : Row) (rows : List Row) {width : ℕ} {cs : List ℕ} → width ≡ width_of row → cs ≡ characters b row
        → Written o at (2 + width) (numbered m cs) r₁ o₁ → m ≡ n → FieldsPut b (n + 1) rows o₁ r₁ r₂ o₂
        → FieldsPut b n (row ∷ rows) o at r₂ o₂
    unfolding data_from
    field_then row rows e f p g q = record {
      place = let y = p.place in let z = q.place in omega arith;
      put =
          put_as (ap (λ (k : ℕ). numbered n (characters b row) ++ data_from true k rows b) (add-one n))
          (put_then (put_as (ap₂ numbered g f) p.put) q.put);
    }

    pub number_then : (width from i : ℕ) (rows : List Row) {v : ℕ}
        → Written o at (2 + width) (numbered m (digits width v)) r₁ o₁ → m ≡ n → v ≡ number_at (source b from) i
        → FieldsPut b (n + 1) rows o₁ r₁ r₂ o₂ → FieldsPut b n (number width from i ∷ rows) o at r₂ o₂
    unfolding characters
    number_then width from i rows p f e q = field_then (number width from i) rows refl (ap (digits width) e) p f q

    pub limit_then : (width from i : ℕ) (rows : List Row) (v : ℕ)
        → Written o at (2 + width) (numbered m (limit_characters width (limit_of v))) r₁ o₁ → m ≡ n
        → limit_of v ≡ limit_at (source b from) i → FieldsPut b (n + 1) rows o₁ r₁ r₂ o₂
        → FieldsPut b n (limit width from i ∷ rows) o at r₂ o₂
    unfolding characters
    limit_then width from i rows v p f e q =
        field_then (limit width from i) rows refl (ap (limit_characters width) e) p f q

    pub known_then : (width v : ℕ) (rows : List Row) → Written o at (2 + width) (numbered m (digits width v)) r₁ o₁ → m ≡ n
        → FieldsPut b (n + 1) rows o₁ r₁ r₂ o₂ → FieldsPut b n (known width v ∷ rows) o at r₂ o₂
    unfolding characters
    known_then width v rows p f q = field_then (known width v) rows refl refl p f q

    pub text_then : (width from i : ℕ) (rows : List Row) {s : List ℕ}
        → Written o at (2 + length s) (numbered m s) r₁ o₁ → m ≡ n → length s ≡ width → s ≡ text_at (source b from) i
        → FieldsPut b (n + 1) rows o₁ r₁ r₂ o₂ → FieldsPut b n (text width from i ∷ rows) o at r₂ o₂
    unfolding characters
    text_then width from i rows p f l e q = field_then (text width from i) rows l e p f q

    pub blank_then : (width : ℕ) (rows : List Row) → Written o at (2 + width) (numbered m (spaces width)) r₁ o₁ → m ≡ n
        → FieldsPut b (n + 1) rows o₁ r₁ r₂ o₂ → FieldsPut b n (blank width ∷ rows) o at r₂ o₂
    unfolding characters
    blank_then width rows p f q = field_then (blank width) rows refl refl p f q

    pub unreported_then : (width : ℕ) (rows : List Row) → Written o at (2 + width) (numbered m (replicate width digit_0)) r₁ o₁ → m ≡ n
        → FieldsPut b (n + 1) rows o₁ r₁ r₂ o₂ → FieldsPut b n (unreported width ∷ rows) o at r₂ o₂
    unfolding characters
    unreported_then width rows p f q = field_then (unreported width) rows refl refl p f q

  pub fields_none : {o : List ℕ} {at : ℕ} (n : ℕ) → FieldsPut b n [] o at at o
  unfolding data_from
  fields_none {at = at} n = record { place = sym (add-zero at); put = record { output = refl; place = sym (add-zero at) } }

  -- ==== three limits, and the value that they are of, of one width

  pub limits_then_value : (n width from i : ℕ) {o o₁ o₂ o₃ o₄ : List ℕ} {at r₁ r₂ r₃ r₄ v₁ v₂ v₃ v₄ x₁ x₂ x₃ : ℕ}
      → v₁ ≡ x₁ → limit_of x₁ ≡ limit_at (source b from) i
      → Written o at (2 + width) (numbered n (limit_characters width (limit_of v₁))) r₁ o₁
      → v₂ ≡ x₂ → limit_of x₂ ≡ limit_at (source b from) (i + 1)
      → Written o₁ r₁ (2 + width) (numbered (n + 1) (limit_characters width (limit_of v₂))) r₂ o₂
      → v₃ ≡ x₃ → limit_of x₃ ≡ limit_at (source b from) (i + 2)
      → Written o₂ r₂ (2 + width) (numbered (n + 1 + 1) (limit_characters width (limit_of v₃))) r₃ o₃
      → v₄ ≡ number_at (source b from) (i + 3) → Written o₃ r₃ (2 + width) (numbered (n + 1 + 1 + 1) (digits width v₄)) r₄ o₄
      → FieldsPut b n (limit width from i ∷ limit width from (i + 1) ∷ limit width from (i + 2) ∷ number width from (i + 3) ∷ []) o at r₄ o₄
  limits_then_value n width from i {v₁ = v₁} {v₂ = v₂} {v₃ = v₃} e e' p f f' q g g' s h t =
      limit_then n n width from i _ v₁ p refl (ap (λ (k : ℕ). limit_of k) e ∙ e')
      (limit_then (n + 1) (n + 1) width from (i + 1) _ v₂ q refl (ap (λ (k : ℕ). limit_of k) f ∙ f')
      (limit_then (n + 1 + 1) (n + 1 + 1) width from (i + 2) _ v₃ s refl (ap (λ (k : ℕ). limit_of k) g ∙ g')
      (number_then (n + 1 + 1 + 1) (n + 1 + 1 + 1) width from (i + 3) [] t refl h (fields_none (n + 1 + 1 + 1 + 1)))))

  -- ==== fields of one width that the tool does not report: one more behind so many

  pub one_more : (n i width : ℕ) {o o₁ o₂ : List ℕ} {at r₁ r₂ : ℕ} → FieldsPut b n (unreported_rows i width) o at r₁ o₁
      → Written o₁ r₁ (2 + width) (numbered (n + i) (replicate width digit_0)) r₂ o₂
      → FieldsPut b n (unreported_rows (i + 1) width) o at r₂ o₂
  one_more n i width {o} {o₁} {o₂} {at} {r₁} {r₂} p q =
      let one = unreported_then (n + i) (n + i) width [] q refl (fields_none (n + i + 1)) in
      let e = length-replicate i (unreported width) in
      subst (λ (rows : List Row). FieldsPut b n rows o at r₂ o₂) (replicate-append-replicate i 1 (unreported width))
      (fields_then n (unreported_rows i width) (unreported width ∷ []) p
      (subst (λ (k : ℕ). FieldsPut b (n + k) (unreported width ∷ []) o₁ r₁ r₂ o₂) (sym e) one))

-- of any sources, and of each
pub fixed : {n : ℕ} {rows : List Row} {o o' : List ℕ} {at r : ℕ} → FixedPut n rows o at r o' → (b : Sources) → FieldsPut b n rows o at r o'
fixed h b = record { place = h.place; put = h.put b }

pub of_each : {n : ℕ} {rows : List Row} {o o' : List ℕ} {at r : ℕ} → ((b : Sources) → FieldsPut b n rows o at r o')
    → FixedPut n rows o at r o'
of_each h = record { place = (h nothing).place; put = λ b. (h b).put }

pub fixed_then : (n : ℕ) (xs ys : List Row) {o o₁ o₂ : List ℕ} {at r₁ r₂ : ℕ} → FixedPut n xs o at r₁ o₁
    → FixedPut (n + length xs) ys o₁ r₁ r₂ o₂ → FixedPut n (xs ++ ys) o at r₂ o₂
fixed_then n xs ys p q = of_each (λ b. fields_then b n xs ys (fixed p b) (fixed q b))

-- what is left has room for one more
pub room_left : (i count width : ℕ) → i < count
    → rows_length true (unreported_rows i width) + (2 + width) ≤ rows_length true (unreported_rows count width)
room_left i zero width h = absurd (omega arith)
room_left zero (suc count) width h = omega arith
room_left (suc i) (suc count) width h = let r = room_left i count width (omega arith) in omega arith

-- ==== the first of some rows, whose first has number m, tell nothing, and others are behind them

pub fixed_none : {o : List ℕ} {at : ℕ} (n : ℕ) → FixedPut n [] o at at o
fixed_none n = of_each (λ b. fields_none b n)

module _ {o o₁ o₂ : List ℕ} {at r₁ r₂ : ℕ} (n m : ℕ) where
  pub then_told : (b : Sources) (xs rows : List Row) → FixedPut m xs o at r₁ o₁ → m ≡ n → take (length xs) rows ≡ xs
      → FieldsPut b (n + length xs) (drop (length xs) rows) o₁ r₁ r₂ o₂ → FieldsPut b n rows o at r₂ o₂
  then_told b xs rows p f e q =
      let more = drop (length xs) rows in
      let parts : rows ≡ xs ++ more = sym (take-append-drop (length xs) rows) ∙ ap (λ (l : List Row). l ++ more) e in
      subst (λ (l : List Row). FieldsPut b n l o at r₂ o₂) (sym parts)
      (fields_then b n xs more (fixed (subst (λ (k : ℕ). FixedPut k xs o at r₁ o₁) f p) b) q)

  pub then_fixed : (xs rows : List Row) → FixedPut m xs o at r₁ o₁ → m ≡ n → take (length xs) rows ≡ xs
      → FixedPut (n + length xs) (drop (length xs) rows) o₁ r₁ r₂ o₂ → FixedPut n rows o at r₂ o₂
  then_fixed xs rows p f e q = of_each (λ b. then_told b xs rows p f e (fixed q b))

  pub known_fixed : (width v : ℕ) (rows : List Row) → Written o at (2 + width) (numbered m (digits width v)) r₁ o₁ → m ≡ n
      → FixedPut (n + 1) rows o₁ r₁ r₂ o₂ → FixedPut n (known width v ∷ rows) o at r₂ o₂
  known_fixed width v rows p f q = of_each (λ b. known_then b n m width v rows p f (fixed q b))

-- ==== what functions of a few fields are searched by

-- the limits of two numbers that are the same
pub limit_same : {v x : ℕ} → v ≡ x → limit_of v ≡ limit_of x
limit_same e = ap (λ (n : ℕ). limit_of n) e

-- the second and the third number behind a number
pub second_next : (n : ℕ) → n + 2 ≡ n + 1 + 1
second_next n = omega arith

pub third_next : (n : ℕ) → n + 3 ≡ n + 1 + 1 + 1
third_next n = omega arith

-- the field of each sort of row, and how long a part of a text is
pub ruleset fields = (
  number_then,
  limit_then,
  limit_same,
  known_then,
  text_then,
  part_length,
  front_length,
  whole_text,
  blank_then,
  second_next,
  third_next,
  fields_none,
)

-- where some of the rows tell nothing, and where all of them do
pub ruleset later_fields = (fields, then_told)

pub ruleset fixed_fields = (then_fixed, known_fixed, fixed_none)
