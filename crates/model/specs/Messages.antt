-- 01, "What a message does": the table of messages, and the tests that a message meets. 02, P2: 0064.
use Rattle.std.specs.Prelude.{ℕ, suc, Bool, true, false, not, cond, ◌&&◌, List, [], ◌∷◌, ◌++◌, eqb, take}
use Rattle.std.proofs.Math.Option.{Option, none, some}
use Rattle.model.specs.Limits.{number_digits}
use Rattle.model.specs.Bytes.{within, is_digit, is_text, all, decimal}
use Rattle.model.specs.Tests.{Test, ◌gives◌, first}
use Rattle.model.specs.Layouts.{revision_count}
use Rattle.model.specs.Kinds.{Kind, kinds}

-- ==== the table: each message's lengths, its revisions, its effect and its own error

pub data Revisions : Type 0 where
  not_read : Revisions
  revisions : ℕ → ℕ → Revisions

-- a number after a name is the kind of notice, and behind it the message's own error
pub data Effect : Type 0 where
  starts : Effect
  stops : Effect
  identifies : ℕ → Effect
  subscribes : ℕ → ℕ → Effect
  unsubscribes : ℕ → ℕ → Effect
  acknowledges : ℕ → Effect
  -- (here the number is the own error alone, as of `identifies`)
  fetches : ℕ → Effect
  mirrors : Effect

pub record Entry : Type 0 where
  pub mid : ℕ
  pub least : ℕ
  pub greatest : ℕ
  pub revision : Revisions
  pub effect : Effect

abbrev pub entry : ℕ → ℕ → ℕ → Revisions → Effect → Entry
entry mid least greatest rs effect =
    record { mid = mid; least = least; greatest = greatest; revision = rs; effect = effect }

-- the messages of kinds of notice, the first of them having that place
abbrev pub kind_rows : ℕ → List Kind → List Entry
kind_rows place [] = []
kind_rows place (k ∷ ks) =
    entry k.subscribe 20 20 (revisions 1 (revision_count k.layouts)) (subscribes place k.already)
    ∷ entry k.acknowledge 20 20 not_read (acknowledges place)
    ∷ entry k.unsubscribe 20 20 not_read (unsubscribes place k.not_subscribed)
    ∷ kind_rows (suc place) ks

-- (row by row: proofs/Bounds, the_table)
abbrev pub table : List Entry
table =
    entry 0001 20 20 (revisions 1 1) starts
    ∷ entry 0003 20 20 not_read stops
    ∷ entry 0050 21 45 (revisions 1 1) (identifies 08)
    ∷ kind_rows 0 kinds
    ++ entry 0064 30 30 (revisions 1 1) (fetches 15)
    ∷ entry 9999 20 20 not_read mirrors
    ∷ []

abbrev pub listed : List Entry → ℕ → Option Entry
listed [] mid = none
listed (e ∷ es) mid = let r = listed es mid in cond (eqb e.mid mid) (some e) r

-- the entry of a message number; none where it is not known
unfoldable pub entry_of : ℕ → Option Entry
entry_of mid = listed table mid

-- what a message is, by its effect, to the session that sends it and to its notices of each kind: one table, off which a history is read
pub record Bearing : Type 0 where
  pub stops : Bool
  pub identifies : Bool
  -- of that kind
  pub subscribes : ℕ → Bool
  pub unsubscribes : ℕ → Bool
  pub acknowledges : ℕ → Bool

abbrev pub bears : Bool → Bool → (ℕ → Bool) → (ℕ → Bool) → (ℕ → Bool) → Bearing
bears stop identifier subscribe unsubscribe acknowledge = record {
  stops = stop;
  identifies = identifier;
  subscribes = subscribe;
  unsubscribes = unsubscribe;
  acknowledges = acknowledge;
}

-- the kind with that place alone, or none
abbrev pub the_kind : ℕ → ℕ → Bool
the_kind place kind = eqb kind place

abbrev pub no_kind : ℕ → Bool
no_kind kind = false

-- it stops, it identifies; the kind that it subscribes to, that it unsubscribes from, that it acknowledges a notice of
abbrev pub bearing : Effect → Bearing
bearing starts = bears false false no_kind no_kind no_kind
bearing stops = bears true false no_kind no_kind no_kind
bearing (identifies n) = bears false true no_kind no_kind no_kind
bearing (subscribes kind n) = bears false false (the_kind kind) no_kind no_kind
bearing (unsubscribes kind n) = bears false false no_kind (the_kind kind) no_kind
bearing (acknowledges kind) = bears false false no_kind no_kind (the_kind kind)
bearing (fetches n) = bears false false no_kind no_kind no_kind
bearing mirrors = bears false false no_kind no_kind no_kind

-- of the message with that entry; one that is not known is none of these
abbrev pub entry_bearing : Option Entry → Bearing
entry_bearing none = bears false false no_kind no_kind no_kind
entry_bearing (some e) = bearing e.effect

-- whether a message ever gets a reply: an acknowledge does not
abbrev pub gets_reply : Effect → Bool
gets_reply starts = true
gets_reply stops = true
gets_reply (identifies n) = true
gets_reply (subscribes kind n) = true
gets_reply (unsubscribes kind n) = true
gets_reply (acknowledges kind) = false
gets_reply (fetches n) = true
gets_reply mirrors = true

-- ==== errors, and the number that a reply gives for each

pub data Error : Type 0 where
  unknown_message : Error
  already_started : Error
  wrong_length : Error
  wrong_revision : Error
  wrong_data : Error
  own : ℕ → Error

abbrev pub code : Error → ℕ
code unknown_message = 99
code already_started = 96
code wrong_length = 01
code wrong_revision = 97
code wrong_data = 01
code (own n) = n

-- ==== the tests

-- what they look at besides the message: whether the session is started, whether identifiers are granted over the net, to which kinds
-- of notice the session is subscribed, and which tightenings are kept, by the number that asks for them
pub record Standing : Type 0 where
  pub started : Bool
  pub granted : Bool
  pub subscribed : ℕ → Bool
  pub kept : ℕ → Bool

abbrev pub good_length : Entry → ℕ → Bool
good_length e size = within e.least e.greatest size

abbrev pub good_among : Revisions → ℕ → Bool
good_among not_read revision = true
good_among (revisions least greatest) revision = within least greatest revision

-- whether the data have to be digits, as those of 0064, or else text
abbrev pub in_digits : Effect → Bool
in_digits starts = false
in_digits stops = false
in_digits (identifies n) = false
in_digits (subscribes kind n) = false
in_digits (unsubscribes kind n) = false
in_digits (acknowledges kind) = false
in_digits (fetches n) = true
in_digits mirrors = false

-- (only 0050 and 0064 have data when their length is good)
abbrev pub good_data : Effect → List ℕ → Bool
good_data e bs = cond (in_digits e) (all is_digit bs) (all is_text bs)

-- 02, P2: the number that 0064 asks for, in its ten digits
abbrev pub number_asked : List ℕ → ℕ
number_asked bs = decimal (take number_digits bs)

-- the message's own: 0050 wants the grant; who is subscribed cannot subscribe again, who is not cannot unsubscribe; what 0064 asks for
-- has to be kept
abbrev pub own_test : Standing → Effect → List ℕ → Test (Option Error)
own_test x starts bs = false gives none
own_test x stops bs = false gives none
own_test x (identifies n) bs = not x.granted gives some (own n)
own_test x (subscribes kind n) bs = x.subscribed kind gives some (own n)
own_test x (unsubscribes kind n) bs = not (x.subscribed kind) gives some (own n)
own_test x (acknowledges kind) bs = false gives none
own_test x (fetches n) bs = not (x.kept (number_asked bs)) gives some (own n)
own_test x mirrors bs = false gives none

-- in the paper's order, by the entry of the message's number in the table
abbrev pub tested : Standing → Option Entry → ℕ → ℕ → List ℕ → Option Error
tested x none size revision bs = some unknown_message
tested x (some e) size revision bs =
    first none
    ((x.started && eqb e.mid 0001) gives some already_started
    ∷ not (good_length e size) gives some wrong_length
    ∷ not (good_among e.revision revision) gives some wrong_revision
    ∷ not (good_data e.effect bs) gives some wrong_data
    ∷ own_test x e.effect bs
    ∷ [])

-- the error, if there is one, of a message of that number, length and revision, with that data
unfoldable pub error_of : Standing → ℕ → ℕ → ℕ → List ℕ → Option Error
error_of x mid size revision bs = tested x (entry_of mid) size revision bs
