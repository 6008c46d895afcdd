-- 01, "Counted and compared": the program's table and its lines, beside a state of the model's program.
use Rattle.std.specs.Prelude.{◌≡◌, ℕ, ◌+◌, ◌≤◌, Bool, true, not, cond, ◌&&◌, List, [], ◌++◌, leb, eqb, length}
use Rattle.model.specs.Limits.{session_count, output_least}
use Rattle.model.specs.Program.{State, all_given, printed}
use Rattle.model.specs.Erased.{erase_world}
use Rattle.table.specs.Table.{decode, table_formed}
use Rattle.replay.specs.declared.TheConstants.{BUFFER}
use Rattle.replay.specs.declared.Program.{Program}
use Rattle.replay.specs.Whole.{too_long, records, waits}

-- a table means a state: it has as many sessions, is well formed where the state is, and has then the state's world, but for the numbers
-- of events, of which it keeps none
pub record Means (t : List ℕ) (x : State) : Type 0 where
  pub sessions : length x.world.sessions ≡ session_count
  pub formed : table_formed t ≡ x.formed
  pub world : x.formed ≡ true → decode t ≡ erase_world x.world

-- the table t, which meant a state, has become t', which means f of that state; and the bytes of its new lines are `new`
pub record Leads (f : State → State) (t new t' : List ℕ) : Type 0 where
  pub state : (x : State) → Means t x → Means t' (f x)
  pub lines : (x : State) → Means t x → printed (f x).lines ≡ printed x.lines ++ new

-- the lines that wait when one more call has room for its own: they are written out where there is no room behind them
abbrev pub room_made : ℕ → List ℕ → List ℕ
room_made room waited = cond (leb (length waited + output_least) room) waited []

-- new lines come behind those that waited. Then `waits` still wait, and those before them were written out, which are none as long as
-- there is room for one more call's
pub record Behind (room : ℕ) (waited new waits : List ℕ) : Type 0 where
  pub written : List ℕ
  pub order : written ++ waits ≡ waited ++ new
  pub none : length (waited ++ new) + output_least ≤ room → written ≡ []

-- the table has become what f leads to, and the lines of that come behind those that waited
pub record Follows (f : State → State) (room : ℕ) (t waited t' waits : List ℕ) : Type 0 where
  pub new : List ℕ
  pub leads : Leads f t new t'
  pub behind : Behind room waited new waits

-- the same of the program: p has become q
abbrev pub ProgramFollows : (State → State) → Program → Program → Type 0
ProgramFollows f p q = Follows f BUFFER p.table p.lines q.table q.lines

-- ==== what was read, which nothing says, and what was written out

-- what waited stays, and what was read waits behind it; `some` tells whether that is anything
pub record Filled (waited waits : List ℕ) (some : Bool) : Type 0 where
  pub read : List ℕ
  pub behind : waits ≡ waited ++ read
  pub any : some ≡ not (eqb (length read) 0)

-- `read` came behind what waited, the whole records in that were served, the bytes of their lines were written out, and the rest waits
pub record Turned (t waited t' waiting : List ℕ) : Type 0 where
  pub read : List ℕ
  pub written : List ℕ
  pub leads : Leads (λ x. all_given x (records (waited ++ read))) t written t'
  pub left : waiting ≡ waits (waited ++ read)

-- such a turn: the run goes on where something was read, and what waits is no record that is too long
pub record OneTurn (t waited t' waiting : List ℕ) (on : Bool) : Type 0 where
  pub turned : Turned t waited t' waiting
  pub goes_on : on ≡ (not (eqb (length turned.read) 0) && not (too_long waiting))

-- the same, of all that was read: nothing waited before
pub record Ran (t t' : List ℕ) : Type 0 where
  pub waiting : List ℕ
  pub turned : Turned t [] t' waiting
