-- Laws of the header's tests, over any run.
use mathlib.Core.Path.{◌≡◌}
use Prim.Native.Nat.{ℕ, ◌≤◌}
use mathlib.Core.Bool.{Bool, true, ◌||◌, and-eq-true_iff}
use mathlib.Core.List.{List}
use lib.Dec.{leb, eqb}
use lib.ListN.{length}
use borrow.Author.Tests.{leb-true}
use Rattle.model.specs.Limits.{header_length, message_longest}
use Rattle.model.specs.Bytes.{is_digit, is_space, all, places, decimal}
use Rattle.model.specs.Runs.{is_flag, is_message}

-- ==== the parts of a header

abbrev length_part : List ℕ → List ℕ
length_part bs = places 1 4 bs

abbrev number_part : List ℕ → List ℕ
number_part bs = places 5 8 bs

abbrev revision_part : List ℕ → List ℕ
revision_part bs = places 9 11 bs

abbrev good_revision : List ℕ → Bool
good_revision bs = all is_digit (revision_part bs) || all is_space (revision_part bs)

abbrev flag_part : List ℕ → List ℕ
flag_part bs = places 12 12 bs

-- what a message's header has
pub record SoundHeader (bs : List ℕ) (count : ℕ) : Type 0 where
  pub whole : header_length ≤ length bs
  pub mid : all is_digit (number_part bs) ≡ true
  pub revision : good_revision bs ≡ true

pub header_sound : (bs : List ℕ) (count : ℕ) → is_message (record { kept = bs; count = count }) ≡ true → SoundHeader bs count
header_sound bs count e =
    let g = (and-eq-true_iff _ (all is_flag (flag_part bs))).0 e in
    let f = (and-eq-true_iff _ (good_revision bs)).0 g.0 in
    let d = (and-eq-true_iff _ (all is_digit (number_part bs))).0 f.0 in
    let c = (and-eq-true_iff _ (eqb (decimal (length_part bs)) count)).0 d.0 in
    let b = (and-eq-true_iff _ (all is_digit (length_part bs))).0 c.0 in
    let a = (and-eq-true_iff (leb header_length (length bs)) (leb count message_longest)).0 b.0 in
    record { whole = leb-true header_length (length bs) a.0; mid = d.1; revision = f.1 }
