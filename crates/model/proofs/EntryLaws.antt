-- What the proofs ask of an entry of the table of messages: one computed test over the table, and its law for any number.
use Prim.Native.Nat.{ℕ}
use mathlib.Core.Path.{◌≡◌, refl}
use mathlib.Core.Bool.{Bool, true, false, not, ◌&&◌, ◌||◌}
use mathlib.Core.Option.{some}
use lib.Dec.{leb, eqb}
use borrow.Author.Tests.{eqb-true, not-true}
use Rattle.model.specs.Limits.{header_length}
use Rattle.model.specs.Bytes.{all, decimal, digits}
use Rattle.model.specs.Kinds.{kinds}
use Rattle.model.specs.Messages.{Revisions, not_read, revisions, Entry, table, entry_of, gets_reply}
use Rattle.model.specs.Wire.{has_notice}
use Rattle.model.proofs.Framed.{left, right}
use Rattle.model.proofs.Clean.{entry_at}

-- ==== the test

-- a number of the frames that we write of ourselves
abbrev pub is_ours : ℕ → Bool
is_ours mid = eqb mid 0002 || eqb mid 0004 || eqb mid 0005 || has_notice kinds mid

abbrev pub is_not_read : Revisions → Bool
is_not_read not_read = true
is_not_read (revisions least greatest) = false

-- nothing but its length can be wrong: it starts nothing, its revision is not read, and it has no data
abbrev pub has_length_only : Entry → Bool
has_length_only e = not (eqb e.mid 0001) && is_not_read e.revision && leb e.greatest header_length

-- its number has four digits and is none of ours; and if it never gets a reply, only its length can be wrong
abbrev sound : Entry → Bool
sound e =
    eqb (decimal (digits 4 e.mid)) e.mid
    && not (is_ours e.mid)
    && (gets_reply e.effect || has_length_only e)

the_table_is_sound : all sound table ≡ true
unfolding digits
the_table_is_sound = refl

-- ==== its law

pub record SoundEntry (mid : ℕ) (e : Entry) : Type 0 where
  pub number : e.mid ≡ mid
  pub four_digits : decimal (digits 4 mid) ≡ mid
  pub not_ours : is_ours mid ≡ false
  pub by_length : (gets_reply e.effect || has_length_only e) ≡ true

pub entry_sound : (mid : ℕ) (e : Entry) → entry_of mid ≡ some e → SoundEntry mid e
entry_sound mid e q =
    let s = entry_at sound the_table_is_sound mid e q in
    let h = s.1 in
    record {
      number = s.0;
      four_digits = rw (← s.0) (eqb-true (decimal (digits 4 e.mid)) e.mid (search (left, right)));
      not_ours = rw (← s.0) (not-true (is_ours e.mid) (search (left, right)));
      by_length = search right;
    }
