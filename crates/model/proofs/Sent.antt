-- What goes out to one session, whatever its number: copies of notices, whose texts were clean when they came and stay so, and before them
-- a reply to the message that the session has sent. Each is a frame that is read alike by its NUL and by its length, and reads back as what
-- it was made of. Proved once over the kind of a notice.
use Prim.Native.Nat.{ℕ, suc, ◌-◌, ◌%◌, ◌≤◌, ◌<◌}
use mathlib.Core.Path.{◌≡◌, refl}
use mathlib.Core.Bool.{Bool, true, false, cond}
use mathlib.Core.List.{List, [], ◌∷◌, ◌++◌, map}
use mathlib.Core.Option.{Option, none, some}
use native.Mathlib.Omega.{arith}
use lib.Dec.{eqb}
use lib.ListN.{length, length-append, length-take, length-replicate}
use borrow.Author.Tests.{leb-true, ltb-true, eqb-true}
use Rattle.model.specs.Limits.{header_length, identifier_length, run_kept, idle_limit, copy_every, given_up_at}
use Rattle.model.specs.Bytes.{space, within, spaces}
use Rattle.model.specs.Records.{Settings}
use Rattle.model.specs.Runs.{Run, empty_run, longer, Piece, Message, read_run}
use Rattle.model.specs.Messages.{Effect, starts, stops, identifies, subscribes, unsubscribes, acknowledges, fetches, mirrors}
use Rattle.model.specs.Messages.{Entry, entry_of, gets_reply, number_asked, good_data, Error, code, tested, error_of}
use Rattle.model.specs.Events.{Result, Notice, kind_of}
use Rattle.model.specs.Memory.{numbered, newest, asked_for}
use Rattle.model.specs.Sharing.{Shared, notice_of}
use Rattle.model.specs.Frames.{frame_0004, event_frame}
use Rattle.model.specs.Kinds.{Room, the_newest, up_to, kinds, room_of}
use Rattle.model.specs.Notices.{Pending, empty, busy, Subscription, unsubscribed, plain, acked}
use Rattle.model.specs.Notices.{has_room, Deed, nothing, beats, news, asks, drops, acks, next_one, waits, act}
use Rattle.model.specs.Row.{Tagged, tag, row, said}
use Rattle.model.specs.Session.{Session, closed, opened, started, fresh, Copy, Emission, reply, copy, close}
use Rattle.model.specs.Session.{copies_to, deal, dealt, only}
use Rattle.model.specs.Hearing.{message_error, started_standing, opened_standing, error_reply, accepted, fetched, carry_out, judged}
use Rattle.model.specs.Hearing.{hear, begin, hear_opened, identifier_told, identifier_judged, identifier_heard}
use Rattle.model.specs.Local.{end_run, end_run_opened, Local, opening, hang_up, receives, tick, event, elsewhere, tick_at}
use Rattle.model.specs.Local.{receive_opened, receive, step, identifier_run, announces}
use Rattle.model.specs.Wire.{Every, NoNUL, Framed, Answers, welcomes, refuses, accepts, tells, mirrors as mirror, is_notice}
use Rattle.model.specs.FieldsRead.{ReadsBack, ReplyReads, reads_0002, reads_0004, reads_0005, reads_0065, reads_9999}
use Rattle.model.proofs.Framed.{left, right, every_append, every_replicate, either, IfAny, nul_append, nul_spaces}
use Rattle.model.proofs.Framed.{nul_text, Identifier}
use Rattle.model.proofs.Framed.{CleanSettings, CleanResult, CleanEvent, framed_0002, framed_0004, framed_0005, framed_0065}
use Rattle.model.proofs.Framed.{framed_event, notice_event}
use Rattle.model.proofs.Legible.{back_0002, back_0004, back_0005, back_0065, copy_back}
use Rattle.model.proofs.Clean.{CleanRun, clean_longer, CleanMessage, clean_end}
use Rattle.model.proofs.Clean.{as_listed, listed_so, short_code, code_short, passed}

-- ==== a subscription

abbrev pub CleanNotice : Notice → Type 0
CleanNotice n = CleanEvent n.event

abbrev pub CleanSub : Subscription → Type 0
CleanSub unsubscribed = Unit {0}
CleanSub (plain revision) = Unit {0}
CleanSub (acked revision empty) = Unit {0}
CleanSub (acked revision (busy x clock waiting)) = CleanNotice x × Every CleanNotice waiting

abbrev CleanDeed : Deed → Type 0
CleanDeed nothing = Unit {0}
CleanDeed beats = Unit {0}
CleanDeed (news n) = CleanNotice n
CleanDeed (asks revision no_acknowledge) = Unit {0}
CleanDeed drops = Unit {0}
CleanDeed acks = Unit {0}

waits_clean : (room : Room) (n : Notice) (q : List Notice) → CleanNotice n → Every CleanNotice q → Every CleanNotice (waits room n q)
waits_clean the_newest n q h k = (h, tt)
waits_clean (up_to most) n q h k =
    either (Every CleanNotice) (has_room (up_to most) q) (q ++ n ∷ []) q (every_append CleanNotice q (n ∷ []) k (h, tt)) k

-- ==== what goes out, with these settings: a reply, if there is one, comes first, and then copies of notices and orders to close

abbrev pub CleanCopy : Settings → Copy → Type 0
CleanCopy st c = Framed c.frame × (is_notice c.frame ≡ true) × ReadsBack st c

abbrev pub Follows : Settings → Emission → Type 0
Follows st (reply frame) = ⊥
Follows st (copy c) = CleanCopy st c.what
Follows st close = Unit {0}

-- to one session, which has been sent that message, if any
pub data Says (st : Settings) (o : Option Message) : List Emission → Type 0 where
  quiet : {es : List Emission} → Every (Follows st) es → Says st o es
  answers : {m : Message} {frame : List ℕ} {es : List Emission}
      → o ≡ some m → Answers m frame → Framed frame → ReplyReads st m frame → Every (Follows st) es → Says st o (reply frame ∷ es)

-- ==== a row of cells

pub tag_every : {E : Type 0} (Q : E → Type 0) (i : ℕ) (es : List E) → Every Q es → Every (λ t. Q t.what) (tag i es)
tag_every Q i [] h = tt
tag_every Q i (e ∷ es) h = (h.0, tag_every Q i es h.1)

module _ {X E : Type 0} (act : ℕ → X → X × List E) (P : X → Type 0) where
  pub row_every : ((i : ℕ) (x : X) → P x → P (act i x).0) → (i : ℕ) (xs : List X) → Every P xs → Every P (row act i xs)
  row_every keeps i [] h = tt
  row_every keeps i (x ∷ xs) h = (keeps i x h.0, row_every keeps (suc i) xs h.1)

  pub said_every : (Q : E → Type 0) → ((i : ℕ) (x : X) → P x → Every Q (act i x).1) → (i : ℕ) (xs : List X) → Every P xs
      → Every (λ t. Q t.what) (said act i xs)
  said_every Q says i [] h = tt
  said_every Q says i (x ∷ xs) h =
      every_append (λ t. Q t.what) (tag i (act i x).1) (said act (suc i) xs) (tag_every Q i (act i x).1 (says i x h.0))
      (said_every Q says (suc i) xs h.1)

-- ==== a session

abbrev pub CleanSession : Session → Type 0
CleanSession closed = Unit {0}
CleanSession (opened idle run) = CleanRun run
CleanSession (started idle run subs) = CleanRun run × Every CleanSub subs

-- a moment, as one session sees it
abbrev pub CleanLocal : Local → Type 0
CleanLocal opening = Unit {0}
CleanLocal hang_up = Unit {0}
CleanLocal (receives p) = NoNUL p.bytes
CleanLocal tick = Unit {0}
CleanLocal (event e) = CleanEvent e
CleanLocal elsewhere = Unit {0}

-- the message that a piece of bytes completes there
abbrev pub completes : Session → Piece → Option Message
completes closed p = none
completes (opened idle run) p = cond p.ends (read_run (longer run p.bytes)) none
completes (started idle run subs) p = cond p.ends (read_run (longer run p.bytes)) none

abbrev pub heard : Local → Session → Option Message
heard opening x = none
heard hang_up x = none
heard (receives p) x = completes x p
heard tick x = none
heard (event e) x = none
heard elsewhere x = none

-- what a session becomes, and what goes out to it
abbrev pub Goes : Settings → Option Message → Session × List Emission → Type 0
Goes st o r = CleanSession r.0 × Says st o r.1

-- the same, where no reply goes out
abbrev Still : Settings → Session × List Emission → Type 0
Still st r = CleanSession r.0 × Every (Follows st) r.1

-- what a subscription becomes, and the copies that are sent by it
abbrev CleanAct : Settings → Subscription → Subscription × List Notice → Type 0
CleanAct st s a = CleanSub a.0 × Every (CleanCopy st) (copies_to st s a.1)

module _ (st : Settings) (clean : CleanSettings st) where
  copy_clean : (revision : ℕ) (no_acknowledge : Bool) (n : Notice) → CleanNotice n
      → CleanCopy st (record { notice = n; frame = event_frame st revision no_acknowledge n.event })
  copy_clean r a n h = (
    framed_event st clean r a n.event h,
    notice_event st clean r a n.event,
    copy_back st n.event clean h n.id r a,
  )

  next_one_clean : (r : ℕ) (p : Pending) (q : List Notice) → Every CleanNotice q → CleanAct st (acked r p) (next_one r q)
  next_one_clean r p [] h = (tt, tt)
  next_one_clean r p (x ∷ q) h = (h, (copy_clean r false x h.0, tt))

  act_clean : (room : Room) (d : Deed) (s : Subscription) → CleanDeed d → CleanSub s → CleanAct st s (act room d s)
  act_clean room nothing s h k = (k, tt)
  act_clean room beats unsubscribed h k = (tt, tt)
  act_clean room beats (plain r) h k = (tt, tt)
  act_clean room beats (acked r empty) h k = (tt, tt)
  act_clean room beats (acked r (busy x c q)) h k =
      let s = acked r (busy x c q) in
      let due = eqb (suc c % copy_every) 0 in
      either (CleanAct st s) (eqb (suc c) given_up_at) (next_one r q) (acked r (busy x (suc c) q), cond due (x ∷ []) [])
      (next_one_clean r (busy x c q) q k.1)
      (k, either (λ ns. Every (CleanCopy st) (copies_to st s ns)) due (x ∷ []) [] (copy_clean r false x k.0, tt) tt)
  act_clean room (news n) unsubscribed h k = (tt, tt)
  act_clean room (news n) (plain r) h k = (tt, (copy_clean r true n h, tt))
  act_clean room (news n) (acked r empty) h k = ((h, tt), (copy_clean r false n h, tt))
  act_clean room (news n) (acked r (busy x c q)) h k = ((k.0, waits_clean room n q h k.1), tt)
  act_clean room (asks r true) unsubscribed h k = (tt, tt)
  act_clean room (asks r false) unsubscribed h k = (tt, tt)
  act_clean room (asks r a) (plain c) h k = (tt, tt)
  act_clean room (asks r a) (acked c q) h k = (k, tt)
  act_clean room drops s h k = (tt, tt)
  act_clean room acks unsubscribed h k = (tt, tt)
  act_clean room acks (plain r) h k = (tt, tt)
  act_clean room acks (acked r empty) h k = (tt, tt)
  act_clean room acks (acked r (busy x c q)) h k = next_one_clean r (busy x c q) q k.1

  dealt_clean : (D : ℕ → Deed) → ((kind : ℕ) → CleanDeed (D kind)) → (idle : ℕ) (run : Run) (subs : List Subscription) → CleanRun run
      → Every CleanSub subs → Still st (dealt st idle run D subs)
  dealt_clean D deeds idle run subs h k = (
    (h, row_every (deal st D) CleanSub (λ kind s c. (acts kind s c).0) 0 subs k),
    copied (said (deal st D) 0 subs) (said_every (deal st D) CleanSub (CleanCopy st) (λ kind s c. (acts kind s c).1) 0 subs k),
  )
    where
      acts : (kind : ℕ) (s : Subscription) → CleanSub s → CleanAct st s (act (room_of kind) (D kind) s)
      acts kind s = act_clean (room_of kind) (D kind) s (deeds kind)

      copied : (cs : List (Tagged Copy)) → Every (λ c. CleanCopy st c.what) cs → Every (Follows st) (map copy cs)
      copied [] h = tt
      copied (c ∷ cs) h = (h.0, copied cs h.1)

  only_dealt : (idle : ℕ) (run : Run) (kind : ℕ) (d : Deed) (subs : List Subscription) → CleanDeed d → CleanRun run → Every CleanSub subs
      → Still st (dealt st idle run (only kind d) subs)
  only_dealt idle run kind d subs h = dealt_clean (only kind d) (λ other. either CleanDeed (eqb other kind) d nothing h tt) idle run subs

-- ==== the memory

numbered_clean : (n : ℕ) (rs : List Result) → Every CleanResult rs → IfAny CleanResult (numbered n rs)
numbered_clean n [] h = tt
numbered_clean n (r ∷ rs) h =
    either (IfAny CleanResult) (eqb r.number n) (some r) (numbered n rs) h.0 (numbered_clean n rs h.1)

newest_clean : (rs : List Result) → Every CleanResult rs → IfAny CleanResult (newest rs)
newest_clean [] h = tt
newest_clean (r ∷ rs) h = h.0

asked_clean : (n : ℕ) (rs : List Result) → Every CleanResult rs → IfAny CleanResult (asked_for n rs)
unfolding asked_for
asked_clean n rs h = either (IfAny CleanResult) (eqb n 0) (newest rs) (numbered n rs) (newest_clean rs h) (numbered_clean n rs h)

-- a step, by what all share
module _ (g : Shared) (clean : CleanSettings g.settings) (old : Every CleanResult g.kept) where
  -- a message that is heard
  accepted_clean : (m : Message) → m.mid < 10_000 → (r : Session × List Emission) → Still g.settings r
      → Goes g.settings (some m) (accepted m r)
  accepted_clean m n r h = (h.0, answers refl accepts (framed_0005 m.mid) (reads_0005 (back_0005 m.mid n)) h.1)

  fetched_clean : (m : Message) → m.mid ≡ 0064 → (o : Option Result) → IfAny CleanResult o
      → Says g.settings (some m) (fetched o)
  fetched_clean m e none h = quiet tt
  fetched_clean m e (some r) h = answers refl (tells r e) (framed_0065 r h) (reads_0065 r (back_0065 r h)) tt

  -- what a message does, and the identifier that it makes known
  carry_out_clean : (subs : List Subscription) (m : Message) (f : Effect) → CleanMessage m → Every CleanSub subs → (least greatest : ℕ)
      → as_listed f m.mid least greatest ≡ true → within least greatest m.size ≡ true → good_data f m.data_field ≡ true
      → Goes g.settings (some m) (carry_out g subs m f) × IfAny Identifier (identifier_told m f)
  carry_out_clean subs m starts c h least greatest u v w = (((tt, h), quiet tt), tt)
  carry_out_clean subs m stops c h least greatest u v w = (accepted_clean m c.mid (fresh, []) (tt, tt), tt)
  carry_out_clean subs m (identifies n) c h least greatest u v w =
      let room = identifier_length - length m.data_field in
      let short = c.short in
      let n : length (m.data_field ++ spaces room) ≡ identifier_length =
      omega (arith, length-append m.data_field (spaces room), length-replicate room space) in (
        accepted_clean m c.mid (started 0 empty_run subs, []) ((tt, h), tt),
        record {
          clean = record {
            no_NUL = nul_append m.data_field (spaces room) (nul_text m.data_field w) (nul_spaces room);
            short = omega arith;
          };
          whole = n;
        },
      )
  carry_out_clean subs m (subscribes kind n) c h least greatest u v w =
      let d = asks m.revision m.no_acknowledge in
      let r = dealt g.settings 0 empty_run (only kind d) subs in
      (accepted_clean m c.mid r (only_dealt g.settings clean 0 empty_run kind d subs tt tt h), tt)
  carry_out_clean subs m (unsubscribes kind n) c h least greatest u v w =
      let r = dealt g.settings 0 empty_run (only kind drops) subs in
      (accepted_clean m c.mid r (only_dealt g.settings clean 0 empty_run kind drops subs tt tt h), tt)
  carry_out_clean subs m (acknowledges kind) c h least greatest u v w =
      let r = only_dealt g.settings clean 0 empty_run kind acks subs tt tt h in ((r.0, quiet r.1), tt)
  carry_out_clean subs m (fetches n) c h least greatest u v w =
      let asked = number_asked m.data_field in (
        ((tt, h), fetched_clean m (eqb-true m.mid 0064 u) (asked_for asked g.kept) (asked_clean asked g.kept old)),
        tt,
      )
  carry_out_clean subs m mirrors c h least greatest u v w =
      let mid = eqb-true m.mid 9999 (search (left, right)) in
      let from = eqb-true least header_length (search (left, right)) in
      let to = eqb-true greatest header_length (search (left, right)) in
      let fits = leb-true least m.size (search left) in
      let size : m.size ≡ header_length = omega (arith, leb-true m.size greatest (search (left, right))) in
      (((tt, h), answers refl (mirror mid size) (c.own size) reads_9999 tt), tt)

  refused_clean : (m : Message) (x : Error) → m.mid < 10_000 → code x < 100
      → Says g.settings (some m) (reply (frame_0004 m.mid (code x)) ∷ [])
  refused_clean m x n k =
      answers refl (refuses (code x)) (framed_0004 m.mid (code x)) (reads_0004 (code x) (back_0004 m.mid (code x) n k)) tt

  error_clean : (m : Message) (o : Option Entry) (x : Error) → m.mid < 10_000 → code x < 100
      → Says g.settings (some m) (error_reply m o x)
  error_clean m none x n k = refused_clean m x n k
  error_clean m (some e) x n k =
      either (Says g.settings (some m)) (gets_reply e.effect) (reply (frame_0004 m.mid (code x)) ∷ []) []
      (refused_clean m x n k) (quiet tt)

  hear_clean : (subs : List Subscription) (m : Message) → CleanMessage m → Every CleanSub subs
      → Goes g.settings (some m) (hear g subs m) × IfAny Identifier (identifier_heard g subs m)
  unfolding error_of
  hear_clean subs m c h = go (entry_of m.mid) refl (message_error (started_standing g subs) m) refl
    where
      go : (o : Option Entry) → entry_of m.mid ≡ o → (x : Option Error)
          → tested (started_standing g subs) o m.size m.revision m.data_field ≡ x
          → Goes g.settings (some m) (judged g subs m o x) × IfAny Identifier (identifier_judged m o x)
      go o q (some x) e =
          let short = code_short (started_standing g subs) m.mid o q m.size m.revision m.data_field in
          (((tt, h), error_clean m o x c.mid (ltb-true (code x) 100 (rw e at short))), tt)
      go none q none e = (((tt, h), quiet tt), tt)
      go (some f) q none e =
          let p = passed (started_standing g subs) f m.size m.revision m.data_field e in
          carry_out_clean subs m f.effect c h f.least f.greatest (listed_so m.mid f q) p.0 p.1

  hear_opened_clean : (idle : ℕ) (m : Message) → Goes g.settings (some m) (hear_opened g idle m)
  unfolding error_of
  hear_opened_clean idle m =
      go (eqb m.mid 0001) refl (message_error (opened_standing g) m)
      (code_short (opened_standing g) m.mid (entry_of m.mid) refl m.size m.revision m.data_field)
    where
      go : (b : Bool) → eqb m.mid 0001 ≡ b → (x : Option Error) → short_code x ≡ true
          → Goes g.settings (some m) (cond b (begin g idle m x) (opened idle empty_run, []))
      go true e none k =
          let st = g.settings in
          let reads = reads_0002 (back_0002 st clean.within) in
          let none_held = every_replicate CleanSub (length kinds) unsubscribed tt in
          ((tt, none_held), answers refl (welcomes st (eqb-true m.mid 0001 e)) (framed_0002 st clean) reads tt)
      go true e (some x) k = (tt, refused_clean m x (omega (arith, eqb-true m.mid 0001 e)) (ltb-true (code x) 100 k))
      go false e x k = (tt, quiet tt)

  -- the end of a run, and bytes
  receive_clean : (idle : ℕ) (r : Run) (subs : List Subscription) (b : Bool) → CleanRun r → length r.kept ≤ run_kept
      → Every CleanSub subs
      → Goes g.settings (cond b (read_run r) none) (receive g idle r subs b)
      × IfAny Identifier (cond b (identifier_run g subs (read_run r)) none)
  receive_clean idle r subs false h n k = (((h, k), quiet tt), tt)
  receive_clean idle r subs true h n k = go (read_run r) (clean_end r h n)
    where
      go : (o : Option Message) → IfAny CleanMessage o
          → Goes g.settings o (end_run g idle subs o) × IfAny Identifier (identifier_run g subs o)
      go none c = (((tt, k), quiet tt), tt)
      go (some m) c = hear_clean subs m c k

  longer_clean : (p : Piece) (idle : ℕ) (run : Run) (subs : List Subscription) → NoNUL p.bytes → CleanSession (started idle run subs)
      → Goes g.settings (completes (started idle run subs) p) (step g (receives p) (started idle run subs))
      × IfAny Identifier (announces g p (started idle run subs))
  longer_clean p idle run subs c h =
      receive_clean idle (longer run p.bytes) subs p.ends (clean_longer run p.bytes h.0 c)
      (omega (arith, length-take run_kept (run.kept ++ p.bytes))) h.1

  receive_opened_clean : (idle : ℕ) (r : Run) (b : Bool) → CleanRun r
      → Goes g.settings (cond b (read_run r) none) (receive_opened g idle r b)
  receive_opened_clean idle r false h = (h, quiet tt)
  receive_opened_clean idle r true h = go (read_run r)
    where
      go : (o : Option Message) → Goes g.settings o (end_run_opened g idle o)
      go none = (tt, quiet tt)
      go (some m) = hear_opened_clean idle m

  tick_at_clean : (idle : ℕ) (r : Session × List Emission) → Still g.settings r → Goes g.settings none (tick_at idle r)
  tick_at_clean idle r h =
      let st = g.settings in
      let shut : Session × List Emission = (closed, close ∷ []) in
      either (Goes st none) (eqb idle idle_limit) shut r (tt, quiet (tt, tt)) (h.0, quiet h.1)

  -- A STEP of a session
  pub step_clean : (l : Local) (x : Session) → CleanLocal l → CleanSession x → Goes g.settings (heard l x) (step g l x)
  step_clean elsewhere x c h = (h, quiet tt)
  step_clean hang_up x c h = (tt, quiet tt)
  step_clean opening closed c h = (tt, quiet tt)
  step_clean opening (opened i run) c h = (h, quiet tt)
  step_clean opening (started i run subs) c h = (h, quiet tt)
  step_clean (receives p) closed c h = (tt, quiet tt)
  step_clean (receives p) (opened i run) c h = receive_opened_clean i (longer run p.bytes) p.ends (clean_longer run p.bytes h c)
  step_clean (receives p) (started i run subs) c h = (longer_clean p i run subs c h).0
  step_clean tick closed c h = (tt, quiet tt)
  step_clean tick (opened i run) c h = tick_at_clean (suc i) (opened (suc i) run, []) (h, tt)
  step_clean tick (started i run subs) c h =
      tick_at_clean (suc i) (dealt g.settings (suc i) run (λ kind. beats) subs)
      (dealt_clean g.settings clean (λ kind. beats) (λ kind. tt) (suc i) run subs h.0 h.1)
  step_clean (event e) closed c h = (tt, quiet tt)
  step_clean (event e) (opened i run) c h = (h, quiet tt)
  step_clean (event e) (started i run subs) c h =
      let r = only_dealt g.settings clean i run (kind_of e) (news (notice_of g e)) subs c h.0 h.1 in (r.0, quiet r.1)

  -- the identifier that bytes make known
  pub announces_clean : (p : Piece) (x : Session) → NoNUL p.bytes → CleanSession x → IfAny Identifier (announces g p x)
  announces_clean p closed c h = tt
  announces_clean p (opened i run) c h = tt
  announces_clean p (started i run subs) c h = (longer_clean p i run subs c h).1
