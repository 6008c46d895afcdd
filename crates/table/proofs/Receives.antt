-- Received bytes: what they do to their session, and the identifier that they may make known to all.
use mathlib.Core.Path.{◌≡◌, refl, sym, ap, ◌∙◌}
use mathlib.Core.Bool.{true, cond}
use mathlib.Core.List.{List, [], ◌∷◌}
use mathlib.Core.Option.{none, some}
use Rattle.std.specs.Prelude.{Some, None}
use Prim.Native.Nat.{ℕ, ◌+◌, ◌-◌, ◌≤◌, ◌<◌}
use native.Mathlib.Nat.{sub-zero}
use native.Mathlib.Omega.{arith}
use lib.Dec.{leb}
use lib.ListN.{length, take}
use lib.Seq.{take_all}
use borrow.Author.Tests.{lt-ltb, le-ltb, leb-true}
use Rattle.model.specs.Limits.{session_count, header_length, identifier_length}
use Rattle.model.specs.Records.{settings_of, settings_length}
use Rattle.model.specs.Session.{Emission}
use Rattle.model.specs.Runs.{Piece, cut, longer}
use Rattle.model.specs.Named.{place_of}
use Rattle.model.specs.declared.Kind.{Kind}
use Rattle.model.proofs.Named.{place_within}
use Rattle.model.specs.Kinds.{kinds, kind_at, copy_most, copies_most, identifiers, reply_most, session_most, event_most, receive_most}
use Rattle.model.specs.Events.{identified}
use Rattle.model.specs.Local.{receives, announces, step}
use Rattle.model.specs.World.{session_at, hears, happens, uncounted, next}
use Rattle.model.proofs.InTurn.{emits_to}
use Rattle.text.specs.Put.{Put}
use Rattle.text.proofs.Puts.{put_nothing, put_as, put_then, put_length}
use Rattle.text.proofs.Areas.{each_below}
use Rattle.frame.specs.declared.To.{To}
use Rattle.message.specs.declared.Common.{Common}
use Rattle.session.specs.Effects.{out_bytes, replies, written, ReplyLent}
use Rattle.session.proofs.Hearing.{run_goes_on}
use Rattle.session.proofs.Replies.{out_append}
use Rattle.run.specs.Area.{run_of, Ends}
use Rattle.head.specs.Head.{head_of}
use Rattle.region.specs.Region as region
use Rattle.region.specs.Region.{head_area, run_area, subscriptions_in, subscription_in, session_of, run_bytes}
use Rattle.region.specs.Said.{due_copy, copy_due, ending, known_as, Shows, ended_in, end_said, RunEnds}
use Rattle.region.specs.declared.Ended.{Ended}
use Rattle.region.proofs.Areas.{means}
use Rattle.shared.specs.Shared.{settings_part}
use Rattle.shared.proofs.Results.{payload_long}
use Rattle.table.specs.Table.{shared_area, region_in, reading_in, decode, settings_in, Table, Becomes, Went}
use Rattle.table.specs.Says.{Lent, Wrote, OpenLent, told_by, EndLent}
use Rattle.table.specs.Passes.{EventTo, unended, heard_by_all, Received}
use Rattle.table.proofs.Regions.{part, put, part_is, length_shared, so_many_sessions, put_same_to_all, put_reading}
use Rattle.table.proofs.Memory.{reply_said}
use Rattle.table.proofs.Alone.{became_alone, went_one, went_then, uncounted_yet}
use Rattle.table.proofs.Events.{identifier_to}
use Rattle.table.proofs.Passes.{still_lent, there, passed}

-- ==== bytes that end no run

module _ (t : List ℕ) (s : ℕ) (bs : List ℕ) (table : Table t) (few : s < session_count) where
  abbrev r : List ℕ
  r = part t s

  goes_on : (step (decode t).shared (receives (unended bs)) (session_at (decode t) s)
      ≡ (region.meaning (head_of (head_area r)) (longer (run_of (run_area r)) bs) (subscriptions_in (reading_in t) r), []))
      × (announces (decode t).shared (unended bs) (session_at (decode t) s) ≡ none)
  unfolding session_of decode
  goes_on =
      let x = head_of (head_area r) in
      let w = run_goes_on (decode t).shared (run_of (run_area r)) (subscriptions_in (reading_in t) r) (unended bs) refl x.phase
      x.idle in
      (rw (part_is t s few) w.0, rw (part_is t s few) w.1)

  pub lengthened : {r' : List ℕ}
      → region.Becomes (reading_in t) r (head_of (head_area r)) (longer (run_of (run_area r)) bs) (subscriptions_in (reading_in t) r) r'
      → Becomes t (uncounted (next (decode t) (hears s (unended bs)))) (put t s r')
  lengthened b =
      became_alone t s (receives (unended bs)) table few _ b.good (rw (← part_is t s few, goes_on.0) (means (reading_in t) b))

-- ==== what all are told

module _ (t : List ℕ) (s : ℕ) (p : Piece) {t₁ o o₁ : List ℕ} {at to : ℕ} (w : Went t o at (hears s p ∷ []) to t₁ o₁) where
  pub not_told : none ≡ announces (decode t).shared p (session_at (decode t) s) → Went t o at (heard_by_all (decode t) s p) to t₁ o₁
  not_told k = rw (← k) w

  pub all_told : {x t₂ o₂ : List ℕ} {next : ℕ} → some x ≡ announces (decode t).shared p (session_at (decode t) s)
      → Went t₁ o₁ to (happens (identified x) ∷ []) next t₂ o₂ → Went t o at (heard_by_all (decode t) s p) next t₂ o₂
  all_told k v = rw (← k) (went_then (uncounted_yet t s (receives p)) w v)

-- ==== a piece of the bytes

-- (a slice from 0 to i is i - 0 long)
pub piece_is : (bs : List ℕ) (i : ℕ) → Ends bs i → i < length bs → ending (take (i - 0) bs) ≡ cut bs
piece_is bs i e h =
    let b = ap (λ (n : ℕ). take n bs) (sub-zero i) ∙ sym e.bytes in
    let f = sym (e.ends ∙ lt-ltb i (length bs) h) in
    λ j. record { bytes = b j; ends = f j }

pub piece_goes_on : (bs : List ℕ) (i : ℕ) → Ends bs i → length bs ≤ i → unended bs ≡ cut bs
piece_goes_on bs i e h =
    let b = sym (e.bytes ∙ take_all i bs h) in
    let f = sym (e.ends ∙ le-ltb i (length bs) h) in
    λ j. record { bytes = b j; ends = f j }

-- ==== bytes that end no run: the table has heard them

pub goes_on_so : {t o : List ℕ} {to : To} {bs : List ℕ} {end : ℕ} → Lent t o to receive_most → Ends bs end → length bs ≤ end
    → {t' : List ℕ} → Becomes t (uncounted (next (decode t) (hears to.session (unended bs)))) t' → Received t o to (cut bs) to.at t' o
goes_on_so {t} {o} {to} {bs} {end} l e h b =
    let s = to.session in
    let w = goes_on t s bs l.table l.session in
    let many : s < length (decode t).sessions = rw (so_many_sessions t) l.session in
    rw (← piece_goes_on bs end e h) record {
      within = omega arith;
      went = rw w.1 (went_one b (rw (emits_to (decode t) s (receives (unended bs)) many, w.0) (put_nothing o to.at)));
    }

-- ==== what the end of a run leaves to say

-- a copy of one kind has room where there is room for one of each
copy_among : (kind : Kind) → copy_most (kind_at (place_of kind)) ≤ copies_most kinds
copy_among kind =
    leb-true _ _ (each_below (length kinds) (λ (k : ℕ). leb (copy_most (kind_at k)) (copies_most kinds)) refl (place_of kind)
    (place_within kind))

-- the bytes of the run, as they are lent on
module _ {t o : List ℕ} {to : To} {bs : List ℕ} {e : Ended} (l : EndLent t o to bs e) where
  abbrev region_now : List ℕ
  region_now = region_in to.session t

  pub run_is : {g kept run : List ℕ} → g ≡ region_now → kept ≡ run_bytes g → run ≡ cond e.whole bs kept
      → run ≡ ended_in e.whole bs region_now
  run_is eg ek er = er ∙ ap (cond e.whole bs) (ek ∙ ap run_bytes eg)

  pub reply_lent : {payload run told : List ℕ} → length payload ≡ settings_length → run ≡ ended_in e.whole bs region_now
      → told ≡ told_by (shared_area t) run e.reply → ReplyLent o payload told to e.reply
  reply_lent {run = run} es er et =
      let room = l.lent.room in
      record {
        output = record { room = omega arith; numbered = omega arith };
        settings = es;
        header = λ q. rw (et, q, er) (l.whole q);
        kept = λ number q.
            ap length (et ∙ ap (told_by (shared_area t) run) q)
            ∙ payload_long number (shared_area t) (length_shared t l.lent.table.size);
      }

  -- what is written is what is replied, by what all share
  pub replied : (run : List ℕ) → written (settings_in t) (told_by (shared_area t) run e.reply) e.reply
      ≡ replies (decode t).shared (take header_length run) e.reply
  replied run = reply_said t l.lent.table run e.reply l.kept

  pub say_lent : {bytes o₁ : List ℕ} {at : ℕ} {kind : Kind} → e.due ≡ Some kind → at ≤ to.at + reply_most → Put o to.at bytes at o₁
      → OpenLent t o₁ (record { session = to.session; at = at }) (place_of kind)
  say_lent {kind = kind} due few p =
      let room = l.lent.room in
      let size = put_length p in
      let among = copy_among kind in
      record {
        lent = record { table = l.lent.table; session = l.lent.session; room = omega arith };
        one = rw due at l.ready;
      }

  -- the reply was written, and what is due behind it
  pub answered : {payload run told o₁ o' : List ℕ} {at next : ℕ} → payload ≡ settings_part (shared_area t)
      → run ≡ ended_in e.whole bs region_now
      → told ≡ told_by (shared_area t) run e.reply
      → at ≤ to.at + reply_most
      → Put o to.at (out_bytes to.session (written (settings_of payload) told e.reply)) at o₁
      → Wrote (copies_most kinds) (copy_due (reading_in t) (settings_in t) e.due region_now)
      (record { session = to.session; at = at }) o₁ next o'
      → Wrote session_most (end_said (reading_in t) (decode t).shared bs e region_now) to o next o'
  unfolding decode
  answered {payload} {run} {told} ep er et few p w =
      let within = w.within in
      let run_now = ended_in e.whole bs region_now in
      let same : written (settings_of payload) told e.reply ≡ replies (decode t).shared (take header_length run_now) e.reply =
      rw (ep, et, er) (replied run_now) in
      record {
        within = omega arith;
        bytes = rw out_append (put_then (put_as (ap (out_bytes to.session) same) p) w.bytes);
      }

  pub due_said : {o₁ o' : List ℕ} {at next : ℕ} {kind : Kind} → e.due ≡ Some kind
      → Wrote (copy_most (kind_at (place_of kind)))
      (due_copy (settings_in t) (place_of kind) true (subscription_in (reading_in t) (place_of kind) region_now))
      (record { session = to.session; at = at }) o₁ next o'
      → Wrote (copies_most kinds) (copy_due (reading_in t) (settings_in t) e.due region_now)
      (record { session = to.session; at = at }) o₁ next o'
  due_said {kind = kind} due w =
      let among = copy_among kind in
      let within = w.within in
      rw due record { within = omega arith; bytes = w.bytes }

  pub none_said : {o₁ : List ℕ} {at : ℕ} → e.due ≡ None
      → Wrote (copies_most kinds) (copy_due (reading_in t) (settings_in t) e.due region_now)
      (record { session = to.session; at = at }) o₁ at o₁
  none_said due = rw due record { within = omega arith; bytes = put_nothing _ _ }

-- ==== the end of a run: first the region changes, and then what it has to say is written

module _ {t o : List ℕ} {to : To} {bs : List ℕ} (l : Lent t o to receive_most) {common : Common} {e : Ended} {r' : List ℕ}
    (shows : Shows common (decode t).shared) (w : RunEnds (reading_in t) common bs (part t to.session) e r') where
  own : Lent t o to session_most
  own = let room = l.room in record { table = l.table; session = l.session; room = omega arith }

  pub end_lent : EndLent (put t to.session r') o to bs e
  end_lent = record {
    lent = still_lent own w.good;
    ready = rw (there l w.good, put_reading t to.session r' l.table.size l.session w.good.size) w.ready;
    whole = λ q. rw (there l w.good) (w.whole q);
    kept = λ number q. rw (put_same_to_all t to.session r' l.table.size l.session w.good.size)
        (shows.remembers.kept number ∙ w.kept number q);
  }

  pub heard : {next : ℕ} {o' : List ℕ}
      → Wrote session_most (end_said (reading_in (put t to.session r')) (decode (put t to.session r')).shared bs e
      (region_in to.session (put t to.session r')))
      to o next o'
      → Went t o to.at (hears to.session (ending bs) ∷ []) next (put t to.session r') o'
  heard v = passed own w.good (receives (ending bs)) (λ read g z. end_said read g bs e z) (w.steps (decode t).shared shows) v.bytes

  -- an identifier is an event to all, and there is room for its notices
  pub identifier_lent : {x : List ℕ} {es : List Emission} {next : ℕ} {o' : List ℕ} → length x ≡ identifier_length
      → Wrote session_most es to o next o'
      → EventTo (put t to.session r') identifiers x × (next + event_most identifiers ≤ length o')
  identifier_lent size v =
      let within = v.within in
      let long = put_length v.bytes in
      let room = l.room in (identifier_to (still_lent own w.good).table size, omega arith)

  pub knows : known_as e.identified ≡ announces (decode t).shared (ending bs) (session_at (decode t) to.session)
  knows = rw (part_is t to.session l.session) (w.knows (decode t).shared shows)
