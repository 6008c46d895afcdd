-- What a moment does to a session, as it is read off the calls: the reading stays true, and to the notices of each kind one of the
-- things is done that a call can do.
use Prim.Native.Nat.{ℕ, suc, ◌-◌, ◌≤◌, ◌<◌}
use mathlib.Core.Path.{◌≡◌, refl, sym, ◌∙◌, ap, subst}
use mathlib.Core.Bool.{Bool, true, false, cond, ◌&&◌, ◌||◌, not, and-true, and-false, or-false, true≢false}
use mathlib.Core.List.{List, [], ◌∷◌, ◌++◌, map}
use mathlib.Core.Option.{Option, none, some, map as option_map}
use native.Mathlib.Omega.{arith}
use native.Mathlib.Nat.{le_refl}
use lib.Dec.{leb, eqb}
use lib.ListN.{length, get_or, take, drop, get_or-replicate, length-take, drop_of_length-le}
use lib.Seq.{take-take}
use borrow.Author.Tests.{eqb-true, leb-true, not-true}
use Rattle.model.specs.Limits.{header_length, run_kept, idle_limit}
use Rattle.model.specs.Records.{Settings}
use Rattle.model.specs.Bytes.{places, decimal}
use Rattle.model.specs.Tests.{◌gives◌, first}
use Rattle.model.specs.Kinds.{kinds, room_of}
use Rattle.model.specs.Runs.{Run, empty_run, longer, Piece, Message, is_message, message_of, read_run}
use Rattle.model.specs.Messages.{Effect, starts, stops, identifies, subscribes, unsubscribes, acknowledges as acknowledging, fetches}
use Rattle.model.specs.Messages.{mirrors}
use Rattle.model.specs.Messages.{Revisions, not_read, revisions, Entry, entry_of, bearing, entry_bearing, gets_reply, Error}
use Rattle.model.specs.Messages.{unknown_message, already_started, wrong_length, wrong_revision, wrong_data, own, code, good_length}
use Rattle.model.specs.Messages.{good_among, good_data, Standing, number_asked, tested, error_of}
use Rattle.model.specs.Events.{Result, Event, identified, kind_of, Notice}
use Rattle.model.specs.Memory.{asked_for}
use Rattle.model.specs.Sharing.{Shared, notice_of, shared_with}
use Rattle.model.specs.Frames.{frame_0002, frame_0004, frame_0005, frame_0065}
use Rattle.model.specs.Notices.{Subscription, unsubscribed, is_subscribed, Deed, nothing as no_deed, beats, news, asks, drops, acks, act}
use Rattle.model.specs.Row.{Tagged, row, said}
use Rattle.model.specs.Session.{Session, closed, opened, started, is_closed, fresh, no_subscriptions, Copy, Emission, reply, copy, close}
use Rattle.model.specs.Session.{copies_to, deal, dealt, only}
use Rattle.model.specs.Hearing.{started_standing, opened_standing, message_error, error_reply, fetched, carry_out, judged, hear, begin}
use Rattle.model.specs.Hearing.{identifier_told, identifier_judged, identifier_heard}
use Rattle.model.specs.Local.{end_run, end_run_opened, Local, opening, hang_up, receives, tick, elsewhere, step, takes}
use Rattle.model.specs.Local.{identifier_run, announces}
use Rattle.model.specs.Sights.{Sight}
use Rattle.model.specs.Wire.{has_notice, is_notice}
use Rattle.model.proofs.RowLaws.{row_at, said_at, length_row}
use Rattle.model.proofs.Cuts.{longer_longer}
use Rattle.model.proofs.Framed.{both, either}
use Rattle.model.proofs.Clean.{there, passed}
use Rattle.model.proofs.KindLaws.{neither}
use Rattle.model.proofs.EntryLaws.{has_length_only, is_not_read, SoundEntry, entry_sound}
use Rattle.model.proofs.Sights.{Sees, nothing, a_start, its_opening, its_hang_up, a_tick, its_bytes, told}
use Rattle.text.proofs.Lists.{drop-take}
use Rattle.watch.specs.Course.{Eff, rest}
use Rattle.history.specs.Turns.{mid_of}
use Rattle.history.specs.Past.{run_with, ended, Wish, wish_of, is_some, asks_acknowledge, well_made, acknowledges}
use Rattle.history.specs.Past.{identifier_event, frame_for, of_kind}
use Rattle.history.specs.Demand.{copies_in, seen, seen_in}
use Rattle.history.proofs.Subscriptions.{wish_in, as_seen, view, Done, unchanged, wiped, beats_does, news_does, asks_does}
use Rattle.history.proofs.Subscriptions.{drops_does, acks_does, asks_wish}
use Rattle.history.proofs.Signals.{Signals, signals, silence, copies_silent, reply_first, silent_0004, welcome_0002, silent_other}
use Rattle.history.proofs.Signals.{silent_0065, accepting, accepting_0005, closing}
use Rattle.history.proofs.Sendings.{Sent, sent_dealt, own_0002, own_0004, own_0005, own_0065}

-- ==== what is read of a session

pub record SessionRead : Type 0 where
  pub run : List ℕ
  pub started : Bool
  pub wish : ℕ → Option Wish

-- after a call that leaves that run, ends that message, is a hang-up, and shows that in the output
abbrev pub next : List ℕ → Option Message → Bool → Signals → SessionRead → SessionRead
next bs o hung sg r = record {
  run = bs;
  started = cond ((hung || sg.closes) || sg.accepts (λ m. m.stops)) false (cond sg.welcomes true r.started);
  wish = λ kind.
      cond ((hung || sg.closes) || sg.accepts (λ m. m.stops) || sg.accepts (λ m. m.unsubscribes kind)) none
      (cond (sg.accepts (λ m. m.subscribes kind)) (wish_of o) (r.wish kind));
}

-- the session is as it is read
abbrev pub Like : SessionRead → Session → Type 0
Like r closed = (r.started ≡ false) × ((kind : ℕ) → r.wish kind ≡ none)
Like r (opened idle run) = (longer empty_run r.run ≡ run) × (r.started ≡ false) × ((kind : ℕ) → r.wish kind ≡ none)
Like r (started idle run subs) =
    (longer empty_run r.run ≡ run)
    × (r.started ≡ true)
    × ((kind : ℕ) → kind < length kinds → r.wish kind ≡ wish_in (get_or subs kind unsubscribed))
    × (length subs ≡ length kinds)

abbrev pub sub_at : ℕ → Session → Subscription
sub_at kind closed = unsubscribed
sub_at kind (opened idle run) = unsubscribed
sub_at kind (started idle run subs) = get_or subs kind unsubscribed

-- what is done to the notices of one kind; y is the subscription before
abbrev pub StepOfKind : Shared → ℕ → Option (List ℕ) → Bool → Bool → Bool → ℕ → Subscription → Session × List Emission → Type 0
StepOfKind g k' e o cl t kind y r =
    Eff (room_of kind) g.events k' e o (asks_acknowledge (wish_in y)) cl t (is_subscribed y) (is_subscribed (sub_at kind r.0))
    (view g.settings y) (view g.settings (sub_at kind r.0)) (seen_in kind r.1)

-- the session x becomes r .0 and is sent r .1, by a call that is no event (b: an identifier is accepted, which is one afterwards)
pub record StepAsRead (g : Shared) (bs : List ℕ) (o : Option Message) (hung t b : Bool) (R : SessionRead) (x : Session)
    (r : Session × List Emission) : Type 0 where
  pub tells : (signals r.1).accepts (λ m. m.identifies) ≡ b
  pub like : Like (next bs o hung (signals r.1) R) r.0
  pub does : (kind : ℕ) → kind < length kinds
      → StepOfKind g g.events none false (closing kind o hung (signals r.1)) t kind (sub_at kind x) r
  pub sent : Sent (is_some o) r.1
  -- an identifier is accepted: nothing else happens
  pub mild : b ≡ true → (kind : ℕ) → kind < length kinds
      → (closing kind o hung (signals r.1) ≡ false) × (sub_at kind r.0 ≡ sub_at kind x) × (seen_in kind r.1 ≡ [])

-- with the signals as they come out
module _ {g : Shared} {bs : List ℕ} {o : Option Message} {hung t b : Bool} {R : SessionRead} {x : Session} (r : Session × List Emission)
    (sg : Signals) (e : signals r.1 ≡ sg) (n : sg.accepts (λ m. m.identifies) ≡ b) (l : Like (next bs o hung sg R) r.0)
    (d : (kind : ℕ) → kind < length kinds → StepOfKind g g.events none false (closing kind o hung sg) t kind (sub_at kind x) r)
    (v : Sent (is_some o) r.1) where
  steps_with : (b ≡ true → (kind : ℕ) → kind < length kinds
      → (closing kind o hung sg ≡ false) × (sub_at kind r.0 ≡ sub_at kind x) × (seen_in kind r.1 ≡ []))
      → StepAsRead g bs o hung t b R x r
  steps_with f = record {
    tells = ap (λ (s : Signals). s.accepts (λ m. m.identifies)) e ∙ n;
    like = subst (λ (s : Signals). Like (next bs o hung s R) r.0) (sym e) l;
    does = λ kind h.
        subst (λ (s : Signals). StepOfKind g g.events none false (closing kind o hung s) t kind (sub_at kind x) r) (sym e) (d kind h);
    sent = v;
    mild = λ u kind h. let m = f u kind h in (ap (closing kind o hung) e ∙ m.0, m.1, m.2);
  }

  steps_by : b ≡ false → StepAsRead g bs o hung t b R x r
  steps_by f = steps_with (λ u. absurd (true≢false (sym u ∙ f)))

-- nothing is done to its notices
still : (g : Shared) (kind : ℕ) (x : Subscription)
    → Done (room_of kind) g.settings g.events g.events none false false false x (x, [])
still g kind x = unchanged (room_of kind) g.settings g.events g.events none x (le_refl g.events)

-- ==== a deed to each kind

pub copies_copied : (xs : List (Tagged Copy)) → copies_in (map copy xs) ≡ xs
copies_copied [] = refl
copies_copied (x ∷ xs) = ap (x ∷◌) (copies_copied xs)

module _ (g : Shared) (D : ℕ → Deed) (subs : List Subscription) (all_of : length subs ≡ length kinds)
    (kind : ℕ) (h : kind < length kinds) where
  abbrev acted : Subscription × List Notice
  acted = act (room_of kind) (D kind) (get_or subs kind unsubscribed)

  pub dealt_at : get_or (row (deal g.settings D) 0 subs) kind unsubscribed ≡ acted.0
  dealt_at = row_at (deal g.settings D) subs kind unsubscribed (omega arith)

  seen_copies : (x : Subscription) (ns : List Notice) → map seen (copies_to g.settings x ns) ≡ map (as_seen g.settings x) ns
  seen_copies x [] = refl
  seen_copies x (n ∷ ns) = ap (as_seen g.settings x n ∷◌) (seen_copies x ns)

  pub dealt_does : (k' : ℕ) (i : ℕ) (run : Run) {e : Option (List ℕ)} {o cl t : Bool}
      → Done (room_of kind) g.settings g.events k' e o cl t (get_or subs kind unsubscribed) acted
      → StepOfKind g k' e o cl t kind (get_or subs kind unsubscribed) (dealt g.settings i run D subs)
  dealt_does k' i run x =
      rw (
        copies_copied (said (deal g.settings D) 0 subs),
        dealt_at,
        said_at (deal g.settings D) subs kind unsubscribed (omega arith),
        seen_copies (get_or subs kind unsubscribed) acted.1,
      ) x

-- ==== what the tests say

-- what is true of every message that a run gives
abbrev pub Real : Message → Type 0
Real m = (m.size ≤ header_length → m.data_field ≡ []) × (mid_of m.header ≡ m.mid)

-- a message whose length alone can be wrong has no error where its length is good
fine : (x : Standing) (e : Entry) (m : Message) (kind : ℕ) → Real m → e.effect ≡ acknowledging kind → has_length_only e ≡ true
    → good_length e m.size ≡ true → tested x (some e) m.size m.revision m.data_field ≡ none
fine x e m kind real q h good =
    let a = both (not (eqb e.mid 0001) && is_not_read e.revision) (leb e.greatest header_length) h in
    let b = both (not (eqb e.mid 0001)) (is_not_read e.revision) a.0 in
    let c = both (leb e.least m.size) (leb m.size e.greatest) good in
    let n : m.size ≤ header_length =
    omega (arith, leb-true e.greatest header_length a.1, leb-true m.size e.greatest c.1) in
    rw (q, not-true (eqb e.mid 0001) b.0, and-false x.started, good, unread e.revision b.1, real.0 n)
  where
    unread : (r : Revisions) → is_not_read r ≡ true → good_among r m.revision ≡ true
    unread not_read u = refl
    unread (revisions least greatest) u = absurd (true≢false (sym u))

-- one that subscribes has none only where the session is not subscribed
free : (a b c d f : Bool) (n : ℕ)
    → first none
    (a gives some already_started
    ∷ b gives some wrong_length
    ∷ c gives some wrong_revision
    ∷ d gives some wrong_data
    ∷ f gives some (own n)
    ∷ []) ≡ none
    → f ≡ false
free true b c d f n e = absurd (there e)
free false true c d f n e = absurd (there e)
free false false true d f n e = absurd (there e)
free false false false true f n e = absurd (there e)
free false false false false true n e = absurd (there e)
free false false false false false n e = refl

-- ==== a message to a started session

module _ (g : Shared) (R : SessionRead) (i : ℕ) (run : Run) (subs : List Subscription) (like : Like R (started i run subs))
    (m : Message) where
  abbrev Goal : Bool → Session × List Emission → Type 0
  Goal b r = StepAsRead g [] (some m) false false b R (started i run subs) r

  abbrev sub : ℕ → Subscription
  sub kind = get_or subs kind unsubscribed

  abbrev standing : Standing
  standing = started_standing g subs

  abbrev tests : Option Entry → Option Error
  tests o = tested standing o m.size m.revision m.data_field

  -- nothing is done to the subscriptions, and the output shows nothing
  idle : (es : List Emission) → signals es ≡ silence → ((kind : ℕ) → seen_in kind es ≡ [])
      → ((kind : ℕ) → acknowledges kind (some m) ≡ false) → Sent true es → Goal false (started 0 empty_run subs, es)
  idle es e s a v =
      steps_by (started 0 empty_run subs, es) silence e refl (refl, like.1, like.2, like.3)
      (λ kind h. rw (s kind, a kind) (still g kind (sub kind))) v refl

  refused : (error : ℕ) → ((kind : ℕ) → acknowledges kind (some m) ≡ false)
      → Goal false (started 0 empty_run subs, reply (frame_0004 m.mid error) ∷ [])
  refused error a =
      let f = frame_0004 m.mid error in
      idle (reply f ∷ []) (reply_first f [] refl ∙ silent_0004 m.mid error) (λ kind. refl) a (refl, own_0004 m.mid error, tt)

  -- a deed to each kind, with the signals that come along
  dealt_steps : (D : ℕ → Deed) (es : List Emission) (sg : Signals) → signals es ≡ sg
      → ((kind : ℕ) → seen_in kind es ≡ seen_in kind (map copy (said (deal g.settings D) 0 subs)))
      → (next [] (some m) false sg R).started ≡ true
      → ((kind : ℕ) → kind < length kinds
      → (next [] (some m) false sg R).wish kind ≡ wish_in (act (room_of kind) (D kind) (sub kind)).0)
      → ((kind : ℕ) → Done (room_of kind) g.settings g.events g.events none false (closing kind (some m) false sg) false (sub kind)
      (act (room_of kind) (D kind) (sub kind)))
      → sg.accepts (λ m. m.identifies) ≡ false → Sent true es
      → Goal false (started 0 empty_run (row (deal g.settings D) 0 subs), es)
  dealt_steps D es sg e s a w d n v =
      steps_by (started 0 empty_run (row (deal g.settings D) 0 subs), es) sg e n (
        refl,
        a,
        λ kind h. w kind h ∙ sym (ap wish_in (dealt_at g D subs like.3 kind h)),
        length_row (deal g.settings D) 0 subs ∙ like.3,
      )
      (λ kind h. rw (s kind) (dealt_does g D subs like.3 kind h g.events 0 empty_run (d kind))) v refl

  module _ (real : Real m) (e : Entry) (known : entry_of m.mid ≡ some e) (f : Effect) (does : e.effect ≡ f) where
    law : SoundEntry m.mid e
    law = entry_sound m.mid e known

    -- what its acceptance shows
    accepts : (es : List Emission) → signals es ≡ silence → signals (reply (frame_0005 m.mid) ∷ es) ≡ accepting (bearing f)
    accepts es h =
        reply_first (frame_0005 m.mid) es h
        ∙ accepting_0005 m.mid (bearing f) law.four_digits (ap entry_bearing known ∙ ap bearing does)

    -- whether it is a well-made acknowledge
    acks_if : (kind : ℕ) → acknowledges kind (some m) ≡ ((bearing f).acknowledges kind && good_length e m.size)
    acks_if kind =
        ap (well_made kind m.size) known
        ∙ ap (λ (h : Effect). (bearing h).acknowledges kind && good_length e m.size) does

    -- what it mirrors shows nothing, and is no notice
    mirrored : (signals (reply m.header ∷ []) ≡ silence) × (is_notice m.header ≡ false)
    mirrored =
        let mid = m.mid in
        let a = neither (eqb mid 0002 || eqb mid 0004 || eqb mid 0005) (has_notice kinds mid) law.not_ours in
        let b = neither (eqb mid 0002 || eqb mid 0004) (eqb mid 0005) a.0 in
        let c = neither (eqb mid 0002) (eqb mid 0004) b.0 in (
          reply_first m.header [] refl
              ∙ silent_other m.header (ap (λ (n : ℕ). eqb n 0002) real.1 ∙ c.0) (ap (λ (n : ℕ). eqb n 0005) real.1 ∙ b.1),
          ap (has_notice kinds) real.1 ∙ a.1,
        )

  -- an error: no acknowledge that has one is well made
  unmade : Real m → (e : Entry) → entry_of m.mid ≡ some e → (f : Effect) → e.effect ≡ f → (x : Error) → tests (some e) ≡ some x
      → (kind : ℕ) → acknowledges kind (some m) ≡ false
  unmade real e known starts q x h kind = acks_if real e known starts q kind
  unmade real e known stops q x h kind = acks_if real e known stops q kind
  unmade real e known (identifies n) q x h kind = acks_if real e known (identifies n) q kind
  unmade real e known (subscribes j n) q x h kind = acks_if real e known (subscribes j n) q kind
  unmade real e known (unsubscribes j n) q x h kind = acks_if real e known (unsubscribes j n) q kind
  unmade real e known (fetches n) q x h kind = acks_if real e known (fetches n) q kind
  unmade real e known mirrors q x h kind = acks_if real e known mirrors q kind
  unmade real e known (acknowledging j) q x h kind =
      acks_if real e known (acknowledging j) q kind ∙ ap (eqb kind j &&◌) (go (good_length e m.size) refl) ∙ and-false (eqb kind j)
    where
      go : (b : Bool) → good_length e m.size ≡ b → b ≡ false
      go true good =
          let l = rw q at (law real e known (acknowledging j) q).by_length in
          absurd (there (sym h ∙ fine standing e m j real q l good))
      go false good = refl

  error_steps : Real m → (e : Entry) → entry_of m.mid ≡ some e → (x : Error) → tests (some e) ≡ some x
      → Goal false (started 0 empty_run subs, error_reply m (some e) x)
  error_steps real e known x h =
      let a = unmade real e known e.effect refl x h in
      either (λ (es : List Emission). Goal false (started 0 empty_run subs, es)) (gets_reply e.effect)
      (reply (frame_0004 m.mid (code x)) ∷ []) [] (refused (code x) a) (idle [] refl (λ kind. refl) a tt)

  -- none: what it does
  carry_steps : Real m → (e : Entry) → entry_of m.mid ≡ some e → tests (some e) ≡ none → (f : Effect) → e.effect ≡ f
      → Goal (is_some (identifier_told m f)) (carry_out g subs m f)
  carry_steps real e known h starts q = idle [] refl (λ kind. refl) (acks_if real e known starts q) tt
  carry_steps real e known h stops q =
      steps_by (fresh, reply (frame_0005 m.mid) ∷ []) (accepting (bearing stops)) (accepts real e known stops q [] refl) refl
      (refl, refl, λ kind. refl) (λ kind u. wiped (room_of kind) g.settings g.events false (sub kind))
      (refl, own_0005 m.mid, tt) refl
  carry_steps real e known h (identifies n) q =
      let a = acks_if real e known (identifies n) q in
      steps_with (started 0 empty_run subs, reply (frame_0005 m.mid) ∷ []) (accepting (bearing (identifies n)))
      (accepts real e known (identifies n) q [] refl) refl (refl, like.1, like.2, like.3)
      (λ kind u. rw (a kind) (still g kind (sub kind))) (refl, own_0005 m.mid, tt)
      (λ t kind u. (a kind, refl, refl))
  carry_steps real e known h (subscribes j n) q =
      let D = only j (asks m.revision m.no_acknowledge) in
      let es = map copy (said (deal g.settings D) 0 subs) in
      dealt_steps D (reply (frame_0005 m.mid) ∷ es) (accepting (bearing (subscribes j n)))
      (accepts real e known (subscribes j n) q es (copies_silent g.settings D subs)) (λ kind. refl) like.1
      (λ kind u. wished (eqb kind j) kind refl u)
      (λ kind.
      rw (acks_if real e known (subscribes j n) q kind)
      (asks_does (room_of kind) g.settings g.events (eqb kind j) m.revision m.no_acknowledge (sub kind))) refl
      (refl, own_0005 m.mid, sent_dealt g.settings false D subs like.3)
    where
      lone : is_subscribed (sub j) ≡ false
      lone =
          free (true && eqb e.mid 0001) (not (good_length e m.size)) (not (good_among e.revision m.revision))
          (not (good_data (subscribes j n) m.data_field)) (is_subscribed (sub j)) n (rw q at h)

      wished : (b : Bool) (kind : ℕ) → eqb kind j ≡ b → kind < length kinds
          → cond b (wish_of (some m)) (R.wish kind)
          ≡ wish_in (act (room_of kind) (cond b (asks m.revision m.no_acknowledge) no_deed) (sub kind)).0
      wished true kind p u =
          sym (asks_wish (room_of kind) m.revision m.no_acknowledge (sub kind)
          (ap (λ (k : ℕ). is_subscribed (sub k)) (eqb-true kind j p) ∙ lone))
      wished false kind p u = like.2 kind u
  carry_steps real e known h (unsubscribes j n) q =
      let es = map copy (said (deal g.settings (only j drops)) 0 subs) in
      dealt_steps (only j drops) (reply (frame_0005 m.mid) ∷ es) (accepting (bearing (unsubscribes j n)))
      (accepts real e known (unsubscribes j n) q es (copies_silent g.settings (only j drops) subs)) (λ kind. refl) like.1
      (λ kind u. wished (eqb kind j) kind u)
      (λ kind.
      rw (acks_if real e known (unsubscribes j n) q kind, or-false (eqb kind j))
      (drops_does (room_of kind) g.settings g.events (eqb kind j) (sub kind))) refl
      (refl, own_0005 m.mid, sent_dealt g.settings false (only j drops) subs like.3)
    where
      wished : (b : Bool) (kind : ℕ) → kind < length kinds
          → cond b none (R.wish kind) ≡ wish_in (act (room_of kind) (cond b drops no_deed) (sub kind)).0
      wished true kind u = refl
      wished false kind u = like.2 kind u
  carry_steps real e known h (acknowledging j) q =
      let good = (passed standing e m.size m.revision m.data_field h).0 in
      dealt_steps (only j acks) (map copy (said (deal g.settings (only j acks)) 0 subs)) silence
      (copies_silent g.settings (only j acks) subs) (λ kind. refl) like.1
      (λ kind u. like.2 kind u ∙ sym (acks_does (room_of kind) g.settings g.events (eqb kind j) (sub kind)).1)
      (λ kind.
      rw (acks_if real e known (acknowledging j) q kind, good, and-true (eqb kind j))
      (acks_does (room_of kind) g.settings g.events (eqb kind j) (sub kind)).0) refl
      (sent_dealt g.settings true (only j acks) subs like.3)
  carry_steps real e known h (fetches n) q = go (asked_for (number_asked m.data_field) g.kept)
    where
      go : (o : Option Result) → Goal false (started 0 empty_run subs, fetched o)
      go none = idle [] refl (λ kind. refl) (acks_if real e known (fetches n) q) tt
      go (some r) =
          idle (reply (frame_0065 r) ∷ []) (reply_first (frame_0065 r) [] refl ∙ silent_0065 r) (λ kind. refl)
          (acks_if real e known (fetches n) q) (refl, own_0065 r, tt)
  carry_steps real e known h mirrors q =
      let c = mirrored real e known mirrors q in
      idle (reply m.header ∷ []) c.0 (λ kind. refl) (acks_if real e known mirrors q) (refl, c.1, tt)

  hear_steps : Real m → Goal (is_some (identifier_heard g subs m)) (hear g subs m)
  unfolding error_of
  hear_steps real = by_entry (entry_of m.mid) refl
    where
      by_error : (e : Entry) (x : Option Error) → entry_of m.mid ≡ some e → tests (some e) ≡ x
          → Goal (is_some (identifier_judged m (some e) x)) (judged g subs m (some e) x)
      by_error e (some x) known h = error_steps real e known x h
      by_error e none known h = carry_steps real e known h e.effect refl

      by_entry : (o : Option Entry) → entry_of m.mid ≡ o
          → Goal (is_some (identifier_judged m o (tests o))) (judged g subs m o (tests o))
      by_entry none known = refused (code unknown_message) (λ kind. ap (well_made kind m.size) known)
      by_entry (some e) known = by_error e (tests (some e)) known refl

-- ==== a message to one that is not started

module _ (g : Shared) (R : SessionRead) (i : ℕ) (run : Run) (like : Like R (opened i run)) where
  abbrev GoalOpened : Option Message → Session × List Emission → Type 0
  GoalOpened o r = StepAsRead g [] o false false false R (opened i run) r

  unsubscribed_at : (kind : ℕ) → kind < length kinds → get_or no_subscriptions kind unsubscribed ≡ unsubscribed
  unsubscribed_at kind h = get_or-replicate (length kinds) kind unsubscribed unsubscribed h

  idle_opened : (o : Option Message) (es : List Emission) → signals es ≡ silence → ((kind : ℕ) → seen_in kind es ≡ [])
      → Sent (is_some o) es → GoalOpened o (opened i empty_run, es)
  idle_opened o es e s v =
      steps_by (opened i empty_run, es) silence e refl (refl, like.1, like.2) (λ kind h. rw (s kind) (rest (le_refl g.events))) v refl

  begin_steps : (m : Message) (x : Option Error) → GoalOpened (some m) (begin g i m x)
  begin_steps m none =
      let f = frame_0002 g.settings in
      steps_by (started 0 empty_run no_subscriptions, reply f ∷ []) (record { closes = false; welcomes = true; accepts = λ so. false })
      (reply_first f [] refl ∙ welcome_0002 g.settings) refl
      (refl, refl, λ kind h. like.2 kind ∙ sym (ap wish_in (unsubscribed_at kind h)), refl)
      (λ kind h. rw (unsubscribed_at kind h) (rest (le_refl g.events))) (refl, own_0002 g.settings, tt) refl
  begin_steps m (some error) =
      let f = frame_0004 m.mid (code error) in
      idle_opened (some m) (reply f ∷ []) (reply_first f [] refl ∙ silent_0004 m.mid (code error)) (λ kind. refl)
      (refl, own_0004 m.mid (code error), tt)

  end_opened_steps : (o : Option Message) → GoalOpened o (end_run_opened g i o)
  end_opened_steps none = idle_opened none [] refl (λ kind. refl) tt
  end_opened_steps (some m) =
      either (GoalOpened (some m)) (eqb m.mid 0001) (begin g i m (message_error (opened_standing g) m)) (opened i empty_run, [])
      (begin_steps m (message_error (opened_standing g) m)) (idle_opened (some m) [] refl (λ kind. refl) tt)

-- ==== the messages that runs give

header_mid : (l : List ℕ) → places 5 8 (take header_length l) ≡ places 5 8 l
header_mid l = ap (take 4) (drop-take 4 header_length l (omega arith)) ∙ take-take 4 (header_length - 4) (drop 4 l) (omega arith)

real_message : (bs : List ℕ) → Real (message_of (longer empty_run bs))
real_message bs =
    let kept = take run_kept bs in
    (λ e. drop_of_length-le kept {i = header_length} (let h = length-take run_kept bs in omega arith), ap decimal (header_mid kept))

abbrev pub RealEnd : Option Message → Type 0
RealEnd none = Unit {0}
RealEnd (some m) = Real m

pub real_end : (bs : List ℕ) → RealEnd (read_run (longer empty_run bs))
unfolding read_run
real_end bs = either RealEnd (is_message (longer empty_run bs)) (some (message_of (longer empty_run bs))) none (real_message bs) tt

-- the run of what is read
pub longer_read : (bs more : List ℕ) (run : Run) → longer empty_run bs ≡ run → longer empty_run (bs ++ more) ≡ longer run more
longer_read bs more run e = sym (longer_longer empty_run bs more) ∙ ap (λ (r : Run). longer r more) e

-- ==== what a session sees

module _ (g : Shared) (R : SessionRead) where
  -- nothing concerns it
  pub elsewhere_steps : (x : Session) → Like R x → StepAsRead g R.run none false false false R x (step g elsewhere x)
  elsewhere_steps x l = steps_by (x, []) silence refl refl l (λ kind h. still g kind (sub_at kind x)) tt refl

  pub opening_steps : (x : Session) → is_closed x ≡ true → Like R x → StepAsRead g [] none false false false R x (step g opening x)
  opening_steps closed c l = steps_by (fresh, []) silence refl refl (refl, l.0, l.1) (λ kind h. rest (le_refl g.events)) tt refl
  opening_steps (opened i run) c l = absurd (true≢false (sym c))
  opening_steps (started i run subs) c l = absurd (true≢false (sym c))

  pub hang_up_steps : (x : Session) → Like R x → StepAsRead g R.run none true false false R x (step g hang_up x)
  hang_up_steps x l =
      steps_by (closed, []) silence refl refl (refl, λ kind. refl)
      (λ kind h. wiped (room_of kind) g.settings g.events false (sub_at kind x)) tt refl

  abbrev shut : Signals
  shut = record { closes = true; welcomes = false; accepts = λ so. false }

  abbrev Ticked : Session → Session × List Emission → Type 0
  Ticked x r = StepAsRead g R.run none false true false R x r

  pub tick_steps : (x : Session) → Like R x → Ticked x (step g tick x)
  tick_steps closed l = steps_by (closed, []) silence refl refl l (λ kind h. rest (le_refl g.events)) tt refl
  tick_steps (opened i run) l =
      either (Ticked (opened i run)) (eqb (suc i) idle_limit) (closed, close ∷ []) (opened (suc i) run, [])
      (steps_by (closed, close ∷ []) shut refl refl (refl, λ kind. refl) (λ kind h. rest (le_refl g.events)) tt refl)
      (steps_by (opened (suc i) run, []) silence refl refl l (λ kind h. rest (le_refl g.events)) tt refl)
  tick_steps (started i run subs) l =
      let D : ℕ → Deed = λ kind. beats in
      let r = dealt g.settings (suc i) run D subs in
      either (Ticked (started i run subs)) (eqb (suc i) idle_limit) (closed, close ∷ []) r
      (steps_by (closed, close ∷ []) shut refl refl (refl, λ kind. refl)
      (λ kind h. wiped (room_of kind) g.settings g.events true (get_or subs kind unsubscribed)) tt refl)
      (steps_by r silence (copies_silent g.settings D subs) refl (
        l.0,
        l.1,
        λ kind h.
            l.2 kind h
            ∙ sym (ap wish_in (dealt_at g D subs l.3 kind h)
            ∙ (beats_does (room_of kind) g.settings g.events (get_or subs kind unsubscribed)).1),
        length_row (deal g.settings D) 0 subs ∙ l.3,
      )
      (λ kind h.
      dealt_does g D subs l.3 kind h g.events (suc i) run
      (beats_does (room_of kind) g.settings g.events (get_or subs kind unsubscribed)).0)
      (sent_dealt g.settings false D subs l.3) refl)

  -- bytes; b: a NUL ends the run
  abbrev piece : List ℕ → Bool → Piece
  piece bs b = record { bytes = bs; ends = b }

  abbrev Received : Piece → Session → Type 0
  Received p x =
      StepAsRead g (run_with (some p) false R.run) (ended R.run (some p)) false false (is_some (announces g p x)) R x
      (step g (receives p) x)

  end_steps : (i : ℕ) (run : Run) (subs : List Subscription) → Like R (started i run subs) → (o : Option Message) → RealEnd o
      → StepAsRead g [] o false false (is_some (identifier_run g subs o)) R (started i run subs) (end_run g i subs o)
  end_steps i run subs l none real =
      steps_by (started i empty_run subs, []) silence refl refl (refl, l.1, l.2, l.3)
      (λ kind h. still g kind (get_or subs kind unsubscribed)) tt refl
  end_steps i run subs l (some m) real = hear_steps g R i run subs l m real

  pub receives_steps : (bs : List ℕ) (b : Bool) (x : Session) → Like R x → Received (piece bs b) x
  receives_steps bs b closed l = steps_by (closed, []) silence refl refl l (λ kind h. rest (le_refl g.events)) tt refl
  receives_steps bs false (opened i run) l =
      steps_by (opened i (longer run bs), []) silence refl refl (longer_read R.run bs run l.0, l.1, l.2)
      (λ kind h. rest (le_refl g.events)) tt refl
  receives_steps bs true (opened i run) l =
      rw (← longer_read R.run bs run l.0) (end_opened_steps g R i run l (read_run (longer empty_run (R.run ++ bs))))
  receives_steps bs false (started i run subs) l =
      steps_by (started i (longer run bs) subs, []) silence refl refl (longer_read R.run bs run l.0, l.1, l.2, l.3)
      (λ kind h. still g kind (get_or subs kind unsubscribed)) tt refl
  receives_steps bs true (started i run subs) l =
      rw (← longer_read R.run bs run l.0)
      (end_steps i run subs l (read_run (longer empty_run (R.run ++ bs))) (real_end (R.run ++ bs)))

  -- ==== whatever it sees but a start

  -- an identifier is accepted
  abbrev pub tells_of : Option Piece → Session → Bool
  tells_of none x = false
  tells_of (some p) x = is_some (announces g p x)

  pub sees_steps : {z : Sight} {l : Local} → Sees z l → z.starts ≡ false → (x : Session) → (z.opens ≡ true → is_closed x ≡ true)
      → Like R x
      → StepAsRead g (run_with z.given z.opens R.run) (ended R.run z.given) z.hangs_up z.ticks
      (tells_of z.given x) R x
      (step g l x)
  sees_steps nothing s x c l = elsewhere_steps x l
  sees_steps a_start s x c l = absurd (true≢false s)
  sees_steps its_opening s x c l = opening_steps x (c refl) l
  sees_steps its_hang_up s x c l = hang_up_steps x l
  sees_steps a_tick s x c l = tick_steps x l
  sees_steps (its_bytes {p = p}) s x c l = receives_steps p.bytes p.ends x l

  -- ==== the identifier that is accepted

  told_judged : (m : Message) (o : Option Entry) (x : Option Error)
      → option_map identified (identifier_judged m o x) ≡ cond (is_some (identifier_judged m o x)) (identifier_event (some m)) none
  told_judged m o (some error) = refl
  told_judged m none none = refl
  told_judged m (some e) none = go e.effect
    where
      go : (f : Effect)
          → option_map identified (identifier_told m f) ≡ cond (is_some (identifier_told m f)) (identifier_event (some m)) none
      go starts = refl
      go stops = refl
      go (identifies n) = refl
      go (subscribes kind n) = refl
      go (unsubscribes kind n) = refl
      go (acknowledging kind) = refl
      go (fetches n) = refl
      go mirrors = refl

  told_run : (subs : List Subscription) (o : Option Message)
      → option_map identified (identifier_run g subs o) ≡ cond (is_some (identifier_run g subs o)) (identifier_event o) none
  told_run subs none = refl
  told_run subs (some m) = told_judged m (entry_of m.mid) (message_error (started_standing g subs) m)

  pub told_steps : (p : Piece) (x : Session) → Like R x
      → option_map identified (announces g p x) ≡ cond (is_some (announces g p x)) (identifier_event (ended R.run (some p))) none
  told_steps p closed l = refl
  told_steps p (opened i run) l = refl
  told_steps p (started i run subs) l = rw (longer_read R.run p.bytes run l.0) (go p.ends)
    where
      o : Option Message
      o = read_run (longer run p.bytes)

      go : (b : Bool) → let a = cond b (identifier_run g subs o) none in
          option_map identified a ≡ cond (is_some a) (identifier_event (cond b o none)) none
      go true = told_run subs o
      go false = refl

-- ==== and then the event, if there is one

-- no event has no frame
pub frame_none : (st : Settings) (kind : ℕ) (o : Option Wish) → frame_for st kind o none ≡ none
frame_none st kind none = refl
frame_none st kind (some w) = refl

-- the session x, read as R, becomes r .0 and is sent r .1
pub record EventAsRead (g : Shared) (o : Option Event) (R : SessionRead) (x : Session) (r : Session × List Emission) : Type 0 where
  pub silent : signals r.1 ≡ silence
  pub like : Like R r.0
  pub sent : Sent false r.1
  pub does : (kind : ℕ) → kind < length kinds
      → StepOfKind g (shared_with g o).events (frame_for g.settings kind (wish_in (sub_at kind x)) o)
      (of_kind kind o && takes kind x) false false kind (sub_at kind x) r

pub event_steps : (g : Shared) (o : Option Event) (R : SessionRead) (x : Session) → Like R x → EventAsRead g o R x (told g o x)
event_steps g none R x l = record {
  silent = refl;
  like = l;
  sent = tt;
  does = λ kind h. rw (frame_none g.settings kind (wish_in (sub_at kind x))) (still g kind (sub_at kind x));
}
event_steps g (some e) R closed l = record {
  silent = refl;
  like = l;
  sent = tt;
  does = λ kind h. rw (and-false (eqb kind (kind_of e))) (rest (omega arith));
}
event_steps g (some e) R (opened i run) l = record {
  silent = refl;
  like = l;
  sent = tt;
  does = λ kind h. rw (and-false (eqb kind (kind_of e))) (rest (omega arith));
}
event_steps g (some e) R (started i run subs) l =
    let D = only (kind_of e) (news (notice_of g e)) in
    let new : (kind : ℕ) → kind < length kinds → _ = λ kind h.
    news_does (room_of kind) g.settings g.events e kind (get_or subs kind unsubscribed) in
    record {
      silent = copies_silent g.settings D subs;
      like = (
        l.0,
        l.1,
        λ kind h. l.2 kind h ∙ sym (ap wish_in (dealt_at g D subs l.3 kind h) ∙ (new kind h).1),
        length_row (deal g.settings D) 0 subs ∙ l.3,
      );
      sent = sent_dealt g.settings false D subs l.3;
      does = λ kind h. dealt_does g D subs l.3 kind h (suc g.events) i run (new kind h).0;
    }

-- after a step
pub then_steps : {g : Shared} {bs : List ℕ} {m : Option Message} {hung t b : Bool} {R : SessionRead} {x : Session}
    {r : Session × List Emission} (o : Option Event) → StepAsRead g bs m hung t b R x r
    → EventAsRead g o (next bs m hung (signals r.1) R) r.0 (told g o r.0)
then_steps {g} {bs} {m} {hung} {t} {b} {R} {x} {r} o q = event_steps g o (next bs m hung (signals r.1) R) r.0 q.like
