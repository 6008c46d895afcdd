-- 02, P2: the tightenings that are kept, by what the tests of a message look at, and the reply that tells of one.
use mathlib.Core.Path.{◌≡◌, refl, sym, ap, ◌∙◌}
use Prim.Native.Nat.{ℕ, ◌-◌}
use native.Mathlib.Omega.{arith}
use mathlib.Core.Bool.{Bool, true, false, cond, ◌&&◌}
use mathlib.Core.List.{List}
use Rattle.std.specs.Prelude.{Option, Some, None}
use mathlib.Core.Option.{none, some}
use lib.Dec.{leb, ltb, eqb}
use lib.ListN.{take}
use borrow.Author.Tests.{le-leb}
use Rattle.model.specs.Limits.{header_length}
use Rattle.model.specs.Events.{Result, result_as}
use Rattle.model.specs.Memory.{numbered, newest, asked_for, is_there}
use Rattle.model.specs.Hearing.{fetched}
use Rattle.message.specs.Meaning.{Remembers}
use Rattle.message.specs.declared.Common.{Common}
use Rattle.session.specs.Effects.{replies, written}
use Rattle.session.specs.declared.Reply.{Reply}
use Rattle.session.specs.declared.Reply.TheVariants.{Started, Accepted, Error, Kept, Mirrored}
use Rattle.region.specs.Said.{Shows}
use Rattle.shared.specs.Memory.{payload_kept}
use Rattle.shared.specs.Shared.{last_of, count_of, kept_of, Area}
use Rattle.shared.proofs.Results.{numbered_is, newest_is}
use Rattle.shared.proofs.Areas.{kept_numbered}
use Rattle.table.specs.Table.{shared_area, decode, settings_in, Table}
use Rattle.table.specs.Says.{told_by}
use Rattle.table.proofs.Regions.{shared_good}

module _ (a : List ℕ) (h : Area a) where
  -- the number is one of those that are kept
  abbrev among : ℕ → Bool
  among n = leb n (last_of a) && ltb (last_of a - n) (count_of a)

  abbrev result_at : ℕ → Result
  result_at n = result_as n (payload_kept n a)

  at_number : (n : ℕ) → numbered n (kept_of a) ≡ cond (among n) (some (result_at n)) none
  unfolding kept_of
  at_number n = numbered_is a n (last_of a) (count_of a) (kept_numbered a h)

  there_if : (b : Bool) (r : Result) → is_there (cond b (some r) none) ≡ b
  there_if true r = refl
  there_if false r = refl

  -- the newest has the last number
  at_last : newest (kept_of a) ≡ numbered (last_of a) (kept_of a)
  unfolding kept_of
  at_last =
      let zero : last_of a - last_of a ≡ 0 = omega arith in
      newest_is a (last_of a) (count_of a) ∙ sym (at_number (last_of a) ∙ rw (le-leb (last_of a) (last_of a) (omega arith), zero))

  module _ (x : Common) (last : x.newest ≡ last_of a) (count : x.kept ≡ count_of a) where
    asked : (n : ℕ) (b : Bool) → cond b (newest (kept_of a)) (numbered n (kept_of a)) ≡ numbered (cond b x.newest n) (kept_of a)
    asked n true = at_last ∙ ap (λ (m : ℕ). numbered m (kept_of a)) (sym last)
    asked n false = refl

    pub remembers : Remembers x (kept_of a)
    unfolding asked_for
    remembers = record {
      kept = λ n. ap is_there (at_number n) ∙ there_if (among n) (result_at n) ∙ rw (last, count);
      asked_for = λ n. asked n (eqb n 0);
    }

  -- where one has that number, it is the one at the number's place
  found : (n : ℕ) → is_there (numbered n (kept_of a)) ≡ true → numbered n (kept_of a) ≡ some (result_at n)
  found n e =
      let b : among n ≡ true = sym (ap is_there (at_number n) ∙ there_if (among n) (result_at n)) ∙ e in at_number n ∙ rw b

-- what the tests of a message look at of what all share
pub shown : {x : Common} (t : List ℕ) → Table t → x.granted ≡ (settings_in t).granted → x.newest ≡ (decode t).shared.last
    → x.kept ≡ count_of (shared_area t) → Shows x (decode t).shared
unfolding decode
shown {x} t h granted newest kept = record { granted = granted; remembers = remembers (shared_area t) (shared_good t h) x newest kept }

-- a reply as it is written is the reply by what all share
module _ (t : List ℕ) (h : Table t) (run : List ℕ) where
  pub reply_said : (r : Option Reply) → ((n : ℕ) → r ≡ Some (Kept n) → is_there (numbered n (decode t).shared.kept) ≡ true)
      → written (settings_in t) (told_by (shared_area t) run r) r ≡ replies (decode t).shared (take header_length run) r
  unfolding decode
  reply_said None k = refl
  reply_said (Some Started) k = refl
  reply_said (Some (Accepted mid)) k = refl
  reply_said (Some (Error mid code)) k = refl
  reply_said (Some (Kept n)) k = sym (ap fetched (found (shared_area t) (shared_good t h) n (k n refl)))
  reply_said (Some Mirrored) k = refl
