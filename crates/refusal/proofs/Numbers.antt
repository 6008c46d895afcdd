-- What the numbers of calls come to.
use mathlib.Core.Path.{◌≡◌, refl, sym}
use Prim.Native.Nat.{ℕ, ◌≤◌, ◌<◌}
use native.Mathlib.Omega.{arith}
use mathlib.Core.Bool.{Bool, true, false, not, cond, and-eq-true_iff}
use mathlib.Core.List.{List, [], ◌∷◌}
use mathlib.Core.Option.{none, some}
use lib.Dec.{leb, ltb, eqb}
use lib.ListN.{length}
use borrow.Author.Tests.{ltb-false, leb-false, eqb-true}
use Rattle.std.specs.Prelude.{Option, Some, None}
use Rattle.model.specs.Limits.{session_count, table_least, output_least}
use Rattle.model.specs.Tests.{◌gives◌, first}
use Rattle.model.specs.Records.{payload, Item, is_record, payload_length, parts, good_parts, good_payload, good_record, settings_of}
use Rattle.model.specs.Records.{settings_record_kind, settings_items, settings_length, read_settings, read_tool}
use Rattle.model.specs.Session.{is_closed}
use Rattle.model.specs.World.{session_at}
use Rattle.model.specs.Calls.{start, hang_up_session, bytes, tool, refusal, is_none}
use Rattle.record.specs.declared.ToolRecord.{ToolRecord}
use Rattle.record.specs.declared.ToolRecord.TheVariants.{Tightening, Scanned, Alarm}
use Rattle.record.specs.Tools.{tool_in}
use Rattle.table.specs.Table.{decode, table_formed}
use Rattle.refusal.specs.Numbers.{Ready, number, tool_number}

-- how long the payload of a good record is
pub good_length : (record_kind : ℕ) (es : List Item) (slice : List ℕ) → good_record record_kind es slice ≡ true
    → length (payload slice) ≡ payload_length es
unfolding good_record good_payload
good_length record_kind es slice e =
    let p = (and-eq-true_iff (is_record record_kind slice) (good_payload es (payload slice))).0 e in
    eqb-true _ _ ((and-eq-true_iff (eqb (length (payload slice)) (payload_length es)) (good_parts es (parts es (payload slice)))).0
    p.1).0

-- a tool record of that kind
pub tool_refused : {r : ℕ} (t : List ℕ) (n : ℕ) (record_kind : Option ToolRecord) (slice : List ℕ) → r ≡ tool_number t n record_kind
    → tool_in record_kind slice ≡ read_tool slice → r ≡ number t n (tool slice)
unfolding refusal tool_number
tool_refused t n None slice q e = rw (sym e) q
tool_refused t n (Some Tightening) slice q e = rw (sym e) q
tool_refused t n (Some Scanned) slice q e = rw (sym e) q
tool_refused t n (Some Alarm) slice q e = rw (sym e) q

-- received bytes are refused as a hang-up is
pub bytes_refused : {r : ℕ} (t : List ℕ) (n s : ℕ) (bs : List ℕ) → r ≡ number t n (hang_up_session s) → r ≡ number t n (bytes s bs)
unfolding refusal
bytes_refused t n s bs e = e

-- what is known of a hang-up that is not refused: what is lent will do, and the session is one that is not closed
pub hang_up_passes : (t : List ℕ) (n s : ℕ) → number t n (hang_up_session s) ≡ 0
    → Ready t n × (s < session_count) × (is_closed (session_at (decode t) s) ≡ false)
unfolding refusal
hang_up_passes t n s e =
    go (ltb (length t) table_least) (table_formed t) (ltb n output_least) (leb session_count s) (is_closed (session_at (decode t) s))
    refl refl refl refl refl e
  where
    go : (a b c d f : Bool) → ltb (length t) table_least ≡ a → table_formed t ≡ b → ltb n output_least ≡ c → leb session_count s ≡ d
        → is_closed (session_at (decode t) s) ≡ f
        → ◌≡◌ {A = ℕ} (first 0 (a gives 1 ∷ not b gives 2 ∷ c gives 3 ∷ d gives 4 ∷ f gives 5 ∷ [])) 0
        → Ready t n × (s < session_count) × (is_closed (session_at (decode t) s) ≡ false)
    go true b c d f p q r k g z = absurd (omega arith)
    go false false c d f p q r k g z = absurd (omega arith)
    go false true true d f p q r k g z = absurd (omega arith)
    go false true false true f p q r k g z = absurd (omega arith)
    go false true false false true p q r k g z = absurd (omega arith)
    go false true false false false p q r k g z =
        (record { table = record { size = ltb-false _ _ p; formed = q }; room = ltb-false _ _ r }, leb-false session_count s k, g)

-- what is known of a start that is not refused: good settings, and a table that is long enough
pub start_passes : (t slice : List ℕ) → number t 0 (start slice) ≡ 0
    → (table_least ≤ length t) × (read_settings slice ≡ some (settings_of (payload slice))) × (length (payload slice) ≡ settings_length)
unfolding refusal read_settings
start_passes t slice e =
    let p = go (ltb (length t) table_least) (good_record settings_record_kind settings_items slice) refl refl e in
    (p.0, rw p.1, good_length settings_record_kind settings_items slice p.1)
  where
    go : (a b : Bool) → ltb (length t) table_least ≡ a → good_record settings_record_kind settings_items slice ≡ b
        → ◌≡◌ {A = ℕ} (first 0 (a gives 1 ∷ is_none (cond b (some (settings_of (payload slice))) none) gives 9 ∷ [])) 0
        → (table_least ≤ length t) × (good_record settings_record_kind settings_items slice ≡ true)
    go true b p q z = absurd (omega arith)
    go false false p q z = absurd (omega arith)
    go false true p q z = (ltb-false _ _ p, q)
