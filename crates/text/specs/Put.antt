-- What a writer does to the bytes that it is lent.
use Rattle.std.specs.Prelude.{◌≡◌, ℕ, ◌+◌, ◌-◌, ◌≤◌, List, length, take, drop}
use Rattle.std.proofs.lemmas.List.Edits.{sets}

-- bs stand in o from `at` on, o is otherwise as it was, and `next` is the place behind them
pub record Put (o : List ℕ) (at : ℕ) (bs : List ℕ) (next : ℕ) (o' : List ℕ) : Type 0 where
  pub output : o' ≡ sets o at bs
  pub place : next ≡ at + length bs

-- so many bytes were written, or no more than so many
pub record Written (o : List ℕ) (at n : ℕ) (bs : List ℕ) (next : ℕ) (o' : List ℕ) : Type 0 where
  pub place : next ≡ at + n
  pub put : Put o at bs next o'

pub record WrittenUpTo (o : List ℕ) (at most : ℕ) (bs : List ℕ) (next : ℕ) (o' : List ℕ) : Type 0 where
  pub within : next ≤ at + most
  pub put : Put o at bs next o'

-- bs stand in o, from `from` up to `at`
pub record Stands (o : List ℕ) (from at : ℕ) (bs : List ℕ) : Type 0 where
  pub ends : at ≡ from + length bs
  pub bytes : take (at - from) (drop from o) ≡ bs
