-- A session's run as the table holds it, in 48 bytes: how many bytes it has in two of them, then those that are kept.
-- 01, "Runs and headers".
use Rattle.std.specs.Prelude.{◌≡◌, ℕ, ◌≤◌, min, Bool, true, List, ◌++◌, leb, ltb, eqb, length, take, drop}
use Rattle.model.specs.Limits.{run_kept, run_counted}
use Rattle.model.specs.Bytes.{NUL, little}
use Rattle.model.specs.Runs.{Run, empty_run, longer as longer_run, cut}

abbrev pub run_size : ℕ
run_size = 48

unfoldable pub run_of : List ℕ → Run
run_of a = record { kept = take (min run_kept (little (take 2 a))) (drop 2 a); count = little (take 2 a) }

-- well formed: the count is one that a run can have
unfoldable pub run_formed : List ℕ → Bool
run_formed a = leb (little (take 2 a)) run_counted

pub record Area (a : List ℕ) : Type 0 where
  pub size : length a ≡ run_size
  pub formed : run_formed a ≡ true

-- its bytes, or those of the one before, where it is over: so many places as are kept
abbrev pub bytes_of : List ℕ → List ℕ
bytes_of a = take run_kept (drop 2 a)

-- it is over, and its bytes stand as they stood
pub record Over (a a' : List ℕ) : Type 0 where
  pub area : Area a'
  pub none : run_of a' ≡ empty_run
  pub bytes : bytes_of a' ≡ bytes_of a

-- it has these bytes more
pub record Lengthened (a bs a' : List ℕ) : Type 0 where
  pub area : Area a'
  pub longer : run_of a' ≡ longer_run (run_of a) bs

-- how far a piece of received bytes was looked through: what was passed has no NUL, and the rest is to be looked at
pub record Passed (bs : List ℕ) (i : ℕ) : Type 0 where
  pub within : i ≤ length bs
  pub bytes : (cut bs).bytes ≡ take i bs ++ (cut (drop i bs)).bytes
  pub ends : (cut bs).ends ≡ (cut (drop i bs)).ends

abbrev pub is_NUL : ℕ → Bool
is_NUL b = eqb b NUL

-- where a piece of received bytes ends: before the first NUL, or with the last byte
pub record Ends (bs : List ℕ) (n : ℕ) : Type 0 where
  pub within : n ≤ length bs
  pub bytes : (cut bs).bytes ≡ take n bs
  pub ends : (cut bs).ends ≡ ltb n (length bs)
