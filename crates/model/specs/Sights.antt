-- What a call is to session s, if it is done, whatever the world: one table, off which a history is read.
use Rattle.std.specs.Prelude.{ℕ, Bool, true, false, cond, eqb}
use Rattle.std.proofs.Math.Option.{Option, none, some}
use Rattle.model.specs.Records.{Tool, read_tool}
use Rattle.model.specs.Runs.{Piece, cut}
use Rattle.model.specs.Calls.{Call, start, open_session, hang_up_session, bytes, one_tick, tool}

pub record Sight : Type 0 where
  -- it is for the session, alone or among others
  pub own : Bool
  pub starts : Bool
  pub opens : Bool
  pub hangs_up : Bool
  pub ticks : Bool
  -- what it reads of the session's bytes
  pub given : Option Piece
  -- what the tool reports, and the session whose bytes they are
  pub reports : Option Tool
  pub speaker : Option ℕ

abbrev pub sighted : Bool → Bool → Bool → Bool → Bool → Option Piece → Option Tool → Option ℕ → Sight
sighted own starts opens hangs_up ticks given reports speaker = record {
  own = own;
  starts = starts;
  opens = opens;
  hangs_up = hangs_up;
  ticks = ticks;
  given = given;
  reports = reports;
  speaker = speaker;
}

-- for the session; a start, its opening, its hang-up, a tick; its bytes; a tool's report; whose bytes
abbrev pub sight : ℕ → Call → Sight
sight s (start slice) = sighted true true false false false none none none
sight s (open_session t) = sighted (eqb s t) false (eqb s t) false false none none none
sight s (hang_up_session t) = sighted (eqb s t) false false (eqb s t) false none none none
sight s (bytes t bs) = sighted (eqb s t) false false false false (cond (eqb s t) (some (cut bs)) none) none (some t)
sight s one_tick = sighted true false false false true none none none
sight s (tool slice) = sighted true false false false false none (read_tool slice) none

-- what is the same, whichever session looks
abbrev pub starts : Call → Bool
starts c = (sight 0 c).starts

abbrev pub reports : Call → Option Tool
reports c = (sight 0 c).reports

abbrev pub speaker : Call → Option ℕ
speaker c = (sight 0 c).speaker
