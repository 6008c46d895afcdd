-- A reader gets back what was written, by the same rows, and needs to know no more rows than it wants.
use mathlib.Core.Path.{◌≡◌, refl, ap, ◌∙◌}
use Prim.Native.Nat.{ℕ, zero, suc, ◌+◌, ◌-◌, ◌*◌, ◌/◌, ◌%◌, ◌^◌, ◌<◌}
use native.Mathlib.Nat.{add-zero, div-add-mod', div-lt_iff_lt-mul, pow-suc}
use native.Mathlib.Omega.{arith}
use mathlib.Core.Bool.{Bool, true, and-eq-true_iff}
use mathlib.Core.List.{List, [], ◌∷◌, ◌++◌, map, append_assoc}
use mathlib.Core.Option.{Option, none, some}
use lib.ListN.{length, length-replicate}
use lib.Seq.{take_at, drop_at}
use borrow.Author.Tests.{ltb-true, eqb-true}
use Rattle.model.specs.Bytes.{space, digit_0, is_space, all, spaces, digits, decimal, decimal_from}
use Rattle.model.specs.Records.{counted, limited, number_at, limit_at, text_at}
use Rattle.model.specs.Layouts.{Sources, source, Row, number, limit, text, blank, unreported, known, width_of, limit_characters}
use Rattle.model.specs.Layouts.{characters, label_length, label, data_from}
use Rattle.model.specs.FieldsRead.{read_number, read_limit, read_field, read_fields, value_in, limit_legible, legible}
use Rattle.model.proofs.Framed.{length_digits, digits_test, limit_fits}

-- ==== digits, read

decimal_last : (m : ℕ) (l : List ℕ) (x : ℕ) → decimal_from m (l ++ x ∷ []) ≡ decimal_from m l * 10 + (x - 0x30)
decimal_last m [] x = refl
decimal_last m (y ∷ l) x = decimal_last (m * 10 + (y - 0x30)) l x

decimal_digits : (w n : ℕ) → n < 10 ^ w → decimal (digits w n) ≡ n
unfolding digits
decimal_digits zero n h = let z : n < 1 = h in omega arith
decimal_digits (suc w) n h =
    let less : n / 10 < 10 ^ w = (div-lt_iff_lt-mul {k = 10} {x = n} {y = 10 ^ w} (omega arith)).1 (rw pow-suc at h) in
    decimal_last 0 (digits w (n / 10)) (0x30 + n % 10)
    ∙ ap (λ (k : ℕ). k * 10 + (0x30 + n % 10 - 0x30)) (decimal_digits w (n / 10) less)
    ∙ ap (λ (k : ℕ). n / 10 * 10 + k) (omega arith) ∙ div-add-mod' n 10

number_back : (w n : ℕ) → n < 10 ^ w → read_number (digits w n) ≡ counted n
number_back w n h = rw (digits_test w n) (ap counted (decimal_digits w n h))

all_spaces : (n : ℕ) → all is_space (spaces n) ≡ true
all_spaces zero = refl
all_spaces (suc n) = all_spaces n

-- a limit: digits are a number, and spaces, of which there is one at least, are none
limit_back : (w : ℕ) (l : Option ℕ) → limit_legible w l ≡ true → read_limit (limit_characters w l) ≡ limited l
limit_back zero none e = absurd (omega (arith, ltb-true 0 0 e))
limit_back (suc w) none e = rw (all_spaces w)
limit_back w (some n) e = rw (digits_test w n) (ap (λ (k : ℕ). limited (some k)) (decimal_digits w n (ltb-true n (10 ^ w) e)))

-- ==== one field

module _ (b : Sources) where
  -- what is legible has the row's width, and reads back
  field_back : (row : Row) → legible b row ≡ true
      → (length (characters b row) ≡ width_of row) × (read_field row (characters b row) ≡ value_in b row)
  unfolding characters
  field_back (number w f i) e =
      let n = number_at (source b f) i in (length_digits w n, number_back w n (ltb-true n (10 ^ w) e))
  field_back (limit w f i) e = let l = limit_at (source b f) i in ((limit_fits w l).1, limit_back w l e)
  field_back (text w f i) e = (eqb-true (length (text_at (source b f) i)) w e, refl)
  field_back (blank w) e = (length-replicate w space, refl)
  field_back (unreported w) e = (length-replicate w digit_0, refl)
  field_back (known w n) e = (length_digits w n, number_back w n (ltb-true n (10 ^ w) e))

  -- ==== all of them

  module _ (numbered : Bool) where
    -- whatever stands behind them
    pub read_back : (rows : List Row) (i : ℕ) (more : List ℕ) → all (legible b) rows ≡ true
        → read_fields numbered rows (data_from numbered i rows b ++ more) ≡ map (value_in b) rows
    unfolding read_fields data_from
    read_back [] i more ok = refl
    read_back (row ∷ rows) i more ok =
        let t = (and-eq-true_iff (legible b row) (all (legible b) rows)).0 ok in
        let v = characters b row in
        let d = data_from numbered (suc i) rows b in
        let w = field_back row t.0 in
        let e : label numbered i ++ v ++ d ++ more ≡ label numbered i ++ (v ++ (d ++ more)) = simp append_assoc in
        rw (
          e,
          drop_at (label numbered i) (v ++ (d ++ more)) _ (length_digits (label_length numbered) i),
          take_at v (d ++ more) (width_of row) w.0,
          drop_at v (d ++ more) (width_of row) w.0,
          w.1,
          read_back rows (suc i) more t.1,
        )

    -- the data of two lists of rows, the second numbered on from the first
    pub data_append : (xs ys : List Row) (i : ℕ)
        → data_from numbered i (xs ++ ys) b ≡ data_from numbered i xs b ++ data_from numbered (i + length xs) ys b
    unfolding data_from
    data_append [] ys i = rw add-zero
    data_append (x ∷ xs) ys i =
        let n : suc i + length xs ≡ i + suc (length xs) = omega arith in
        rw (data_append xs ys (suc i), n) (simp append_assoc)

    -- so by fewer rows a reader gets the values of these out of data that has more
    pub read_fewer : (xs ys : List Row) → all (legible b) xs ≡ true
        → read_fields numbered xs (data_from numbered 1 (xs ++ ys) b) ≡ map (value_in b) xs
    read_fewer xs ys ok =
        rw (data_append xs ys 1) (read_back xs 1 (data_from numbered (1 + length xs) ys b) ok)
