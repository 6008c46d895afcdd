-- What all sessions share, as the first bytes of the table hold it: the settings, the identifier in force, the last tightening
-- number and the last tightenings. 01, "What the product holds"; 02, P2.
use Rattle.std.specs.Prelude.{◌≡◌, ℕ, suc, Bool, true, ◌&&◌, List, [], ◌∷◌, leb, eqb, length, take, drop}
use Rattle.model.specs.Limits.{identifier_length, number_length, results_kept}
use Rattle.model.specs.Bytes.{little}
use Rattle.model.specs.Records.{payload_length, settings_length, tightening_length, result_items}
use Rattle.model.specs.Events.{Result}
use Rattle.shared.specs.Memory.{results}

-- so many bytes
abbrev pub shared_size : ℕ
shared_size = 8_192

-- where each part of it begins: the mark, of so many bytes, stands at the front
abbrev pub mark_length : ℕ
mark_length = 8

abbrev pub last_at : ℕ
last_at = 8

abbrev pub count_at : ℕ
count_at = 12

abbrev pub settings_at : ℕ
settings_at = 16

abbrev pub in_force_at : ℕ
in_force_at = 56

-- 01, "House records": the settings, as the payload of the record that a start was given
unfoldable pub settings_part : List ℕ → List ℕ
settings_part a = take settings_length (drop settings_at a)

-- 01, "What the product holds": the identifier in force
unfoldable pub in_force_of : List ℕ → List ℕ
in_force_of a = take identifier_length (drop in_force_at a)

-- 01, "Frames we write": the last tightening number, after the tightenings since the start. The settings keep the one at the start
unfoldable pub last_of : List ℕ → ℕ
last_of a = little (take number_length (drop last_at a))

-- 02, P2: how many tightenings are kept
unfoldable pub count_of : List ℕ → ℕ
count_of a = little (take 1 (drop count_at a))

-- 02, P2: the tightenings that are kept, the newest first: it has the last number
unfoldable pub kept_of : List ℕ → List Result
kept_of a = results (last_of a) (count_of a) a

-- 01, "What the product holds": a rule of ours for what is well formed. The mark at the front is the text SERIFLA and the number of the
-- table's map, 4; by it a table that a start has made is told from zeros, and from one of an earlier map
abbrev pub mark : List ℕ
mark = 0x53 ∷ 0x45 ∷ 0x52 ∷ 0x49 ∷ 0x46 ∷ 0x4C ∷ 0x41 ∷ 0x34 ∷ []

-- 01, "What the product holds", number 2, and 02, P2: the mark stands, no more tightenings are kept than may be, and no more than there
-- were numbers. No more is asked: whatever the other bytes are, they are settings, an identifier, a number and tightenings of their
-- lengths, and the frames made of them have their lengths; and a start writes good settings only
unfoldable pub shared_formed : List ℕ → Bool
shared_formed a =
    eqb (little (take mark_length a)) (little mark) && leb (count_of a) results_kept && leb (count_of a) (last_of a)

-- 01, "What the product holds": all of it, well formed
pub record Area (a : List ℕ) : Type 0 where
  pub size : length a ≡ shared_size
  pub formed : shared_formed a ≡ true

-- 02, P2: well formed, and a tightening comes: its payload, and its number behind it, which is the next
pub record Next (a p : List ℕ) : Type 0 where
  pub area : Area a
  pub size : length p ≡ payload_length result_items
  pub number : little (take number_length (drop tightening_length p)) ≡ suc (last_of a)

-- 01, "What the product holds", and 02, P2: well formed, with these settings, this identifier in force, this last number and these
-- tightenings kept
pub record Holds (payload x : List ℕ) (n : ℕ) (rs : List Result) (a : List ℕ) : Type 0 where
  pub area : Area a
  pub settings : settings_part a ≡ payload
  pub in_force : in_force_of a ≡ x
  pub last : last_of a ≡ n
  pub kept : kept_of a ≡ rs
