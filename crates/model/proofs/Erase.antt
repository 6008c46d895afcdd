-- Event numbers are for speaking of histories only: a program need not keep them. From a world whose notices are all numbered 0
-- each call gives the same answer and the same output bytes, and goes on to the same world but for the numbers; so what is proved
-- of the numbered run speaks of the program's own.
use Prim.Native.Nat.{ℕ, zero, suc, ◌%◌}
use mathlib.Core.Path.{◌≡◌, refl, ◌∙◌, ap, fun_ext}
use mathlib.Core.Bool.{Bool, true, false, cond}
use mathlib.Core.List.{List, [], ◌∷◌, ◌++◌, map, map-append, append_assoc, map-map}
use mathlib.Core.Option.{Option, none, some, map as option_map}
use lib.Dec.{eqb}
use lib.ListN.{get_or, length-map, get_or-map}
use Rattle.model.specs.Limits.{given_up_at, copy_every, idle_limit}
use Rattle.model.specs.Records.{Settings, Tool, scanned, tightening, alarm, read_settings, read_tool}
use Rattle.model.specs.Kinds.{Room, the_newest, up_to, room_of}
use Rattle.model.specs.Runs.{Run, empty_run, longer, Piece, cut, Message, read_run}
use Rattle.model.specs.Messages.{Effect, starts, stops, identifies, subscribes, unsubscribes, acknowledges, fetches, mirrors}
use Rattle.model.specs.Messages.{Entry, entry_of, gets_reply, number_asked, Error, code}
use Rattle.model.specs.Events.{Result, Event, identified, Notice, kind_of}
use Rattle.model.specs.Memory.{asked_for}
use Rattle.model.specs.Sharing.{Shared, unnumbered, notice_of, reported}
use Rattle.model.specs.Frames.{frame_0004}
use Rattle.model.specs.Notices.{empty, busy, Subscription, unsubscribed, plain, acked, is_subscribed, has_room, takes as takes_event}
use Rattle.model.specs.Notices.{Deed, nothing, beats, news, asks, drops, acks, next_one, waits, act}
use Rattle.model.specs.Row.{Tagged, said}
use Rattle.model.specs.Session.{Session, closed, opened, started, is_closed, Copy, Emission, reply, copy, close}
use Rattle.model.specs.Session.{frame_to, copies_to, deal, dealt, only}
use Rattle.model.specs.Hearing.{message_error, started_standing, opened_standing, accepted, fetched, carry_out, judged, begin}
use Rattle.model.specs.Local.{end_run, end_run_opened, Local, opening, hang_up, receives, tick, event, elsewhere, tick_at, receive}
use Rattle.model.specs.Local.{receive_opened, step as session_step, takes, identifier_run, announces}
use Rattle.model.specs.World.{World, uncounted, session_at, Change, no_change, by_event, by_start, Moment, to, opens, hangs_up, hears}
use Rattle.model.specs.World.{ticks, happens, begins, changed, each, next, emits, after, emitted}
use Rattle.model.specs.Calls.{Call, start, open_session, hang_up_session, bytes, one_tick, tool, Lent, refusal, at_most_one}
use Rattle.model.specs.Calls.{happening, moments, output_record, output, takers, taken_by, does, Answer, answered, step, run}
use Rattle.model.specs.Erased.{erase, erase_sub, erase_session, erase_world, observed}
use Rattle.model.proofs.Framed.{chosen}
use Rattle.model.proofs.RowLaws.{retag, row_map, said_map}

-- ==== a subscription

abbrev erase_deed : Deed → Deed
erase_deed nothing = nothing
erase_deed beats = beats
erase_deed (news n) = news (erase n)
erase_deed (asks revision a) = asks revision a
erase_deed drops = drops
erase_deed acks = acks

abbrev erased : Subscription × List Notice → Subscription × List Notice
erased a = (erase_sub a.0, map erase a.1)

next_one_erased : (r : ℕ) (q : List Notice) → next_one r (map erase q) ≡ erased (next_one r q)
next_one_erased r [] = refl
next_one_erased r (x ∷ q) = refl

has_room_erased : (room : Room) (q : List Notice) → has_room room (map erase q) ≡ has_room room q
has_room_erased the_newest q = refl
has_room_erased (up_to most) q = rw (length-map q erase)

waits_erased : (room : Room) (n : Notice) (q : List Notice) → waits room (erase n) (map erase q) ≡ map erase (waits room n q)
waits_erased the_newest n q = refl
waits_erased (up_to most) n q =
    rw (has_room_erased (up_to most) q, ← map-append erase q (n ∷ []))
    (chosen (map erase) (has_room (up_to most) q) (q ++ n ∷ []) q)

act_erased : (room : Room) (d : Deed) (s : Subscription) → act room (erase_deed d) (erase_sub s) ≡ erased (act room d s)
act_erased room nothing s = refl
act_erased room beats unsubscribed = refl
act_erased room beats (plain r) = refl
act_erased room beats (acked r empty) = refl
act_erased room beats (acked r (busy x c q)) =
    let due = eqb (suc c % copy_every) 0 in
    rw (next_one_erased r q, chosen (map erase) due (x ∷ []) [])
    (chosen erased (eqb (suc c) given_up_at) (next_one r q) (acked r (busy x (suc c) q), cond due (x ∷ []) []))
act_erased room (news n) unsubscribed = refl
act_erased room (news n) (plain r) = refl
act_erased room (news n) (acked r empty) = refl
act_erased room (news n) (acked r (busy x c q)) = rw (waits_erased room n q)
act_erased room (asks r a) unsubscribed = ap (λ s. (s, [])) (chosen erase_sub a (plain r) (acked r empty))
act_erased room (asks r a) (plain c) = refl
act_erased room (asks r a) (acked c empty) = refl
act_erased room (asks r a) (acked c (busy x k q)) = refl
act_erased room drops s = refl
act_erased room acks unsubscribed = refl
act_erased room acks (plain r) = refl
act_erased room acks (acked r empty) = refl
act_erased room acks (acked r (busy x c q)) = next_one_erased r q

-- what is read of it but its notices
kept : (s : Subscription)
    → (is_subscribed (erase_sub s) ≡ is_subscribed s) × ((room : Room) → takes_event room (erase_sub s) ≡ takes_event room s)
    × ((st : Settings) (n : Notice) → frame_to st (erase_sub s) (erase n) ≡ frame_to st s n)
kept unsubscribed = (refl, λ room. refl, λ st n. refl)
kept (plain r) = (refl, λ room. refl, λ st n. refl)
kept (acked r empty) = (refl, λ room. refl, λ st n. refl)
kept (acked r (busy x c q)) = (refl, λ room. has_room_erased room q, λ st n. refl)

-- ==== a session

abbrev pub erase_copy : Copy → Copy
erase_copy c = record { notice = erase c.notice; frame = c.frame }

abbrev pub erase_emission : Emission → Emission
erase_emission (reply frame) = reply frame
erase_emission (copy c) = copy (retag erase_copy c)
erase_emission close = close

abbrev both : Session × List Emission → Session × List Emission
both a = (erase_session a.0, map erase_emission a.1)

copies_to_erased : (st : Settings) (s : Subscription) (ns : List Notice)
    → copies_to st (erase_sub s) (map erase ns) ≡ map erase_copy (copies_to st s ns)
copies_to_erased st s [] = refl
copies_to_erased st s (n ∷ ns) = rw ((kept s).2 st n, copies_to_erased st s ns)

module _ (st : Settings) where
  dealt_erased : (i : ℕ) (run : Run) (C D : ℕ → Deed) (subs : List Subscription) → ((j : ℕ) → C j ≡ erase_deed (D j))
      → dealt st i run C (map erase_sub subs) ≡ both (dealt st i run D subs)
  dealt_erased i run C D subs h =
      rw (
        row_map (deal st D) (deal st C) erase_sub erase_copy same 0 subs,
        said_map (deal st D) (deal st C) erase_sub erase_copy same 0 subs,
        map-map copy (retag erase_copy) (said (deal st D) 0 subs),
        map-map erase_emission copy (said (deal st D) 0 subs),
      )
    where
      same : (j : ℕ) (x : Subscription)
          → deal st C j (erase_sub x) ≡ (erase_sub (deal st D j x).0, map erase_copy (deal st D j x).1)
      same j x = rw (h j, act_erased (room_of j) (D j) x, copies_to_erased st x (act (room_of j) (D j) x).1)

  only_dealt : (i : ℕ) (run : Run) (kind : ℕ) (d : Deed) (subs : List Subscription)
      → dealt st i run (only kind (erase_deed d)) (map erase_sub subs) ≡ both (dealt st i run (only kind d) subs)
  only_dealt i run kind d subs =
      dealt_erased i run (only kind (erase_deed d)) (only kind d) subs (λ j. chosen erase_deed (eqb j kind) d nothing)

-- what is shared counts no events on the changed

module _ (g : Shared) where
  standing_erased : (subs : List Subscription) → started_standing (unnumbered g) (map erase_sub subs) ≡ started_standing g subs
  standing_erased subs =
      rw (fun_ext λ kind. ap is_subscribed (get_or-map erase_sub subs kind unsubscribed) ∙ (kept (get_or subs kind unsubscribed)).0)

  fetched_erased : (o : Option Result) → map erase_emission (fetched o) ≡ fetched o
  fetched_erased none = refl
  fetched_erased (some r) = refl

  carry_out_erased : (subs : List Subscription) (m : Message) (e : Effect)
      → carry_out (unnumbered g) (map erase_sub subs) m e ≡ both (carry_out g subs m e)
  carry_out_erased subs m starts = refl
  carry_out_erased subs m stops = refl
  carry_out_erased subs m (identifies error) = refl
  carry_out_erased subs m (subscribes kind error) =
      ap (accepted m) (only_dealt g.settings 0 empty_run kind (asks m.revision m.no_acknowledge) subs)
  carry_out_erased subs m (unsubscribes kind error) = ap (accepted m) (only_dealt g.settings 0 empty_run kind drops subs)
  carry_out_erased subs m (acknowledges kind) = only_dealt g.settings 0 empty_run kind acks subs
  carry_out_erased subs m (fetches error) = rw (fetched_erased (asked_for (number_asked m.data_field) g.kept))
  carry_out_erased subs m mirrors = refl

  judged_erased : (subs : List Subscription) (m : Message) (o : Option Entry) (error : Option Error)
      → judged (unnumbered g) (map erase_sub subs) m o error ≡ both (judged g subs m o error)
  judged_erased subs m none (some error) = refl
  judged_erased subs m (some e) (some error) =
      rw (← chosen (map erase_emission) (gets_reply e.effect) (reply (frame_0004 m.mid (code error)) ∷ []) [])
  judged_erased subs m (some e) none = carry_out_erased subs m e.effect
  judged_erased subs m none none = refl

  receive_erased : (i : ℕ) (run : Run) (subs : List Subscription) (b : Bool)
      → receive (unnumbered g) i run (map erase_sub subs) b ≡ both (receive g i run subs b)
  receive_erased i run subs false = refl
  receive_erased i run subs true = go (read_run run)
    where
      go : (o : Option Message) → end_run (unnumbered g) i (map erase_sub subs) o ≡ both (end_run g i subs o)
      go none = refl
      go (some m) = rw (standing_erased subs) (judged_erased subs m (entry_of m.mid) (message_error (started_standing g subs) m))

  begin_erased : (b : Bool) (i : ℕ) (m : Message) (error : Option Error)
      → cond b (begin (unnumbered g) i m error) (opened i empty_run, []) ≡ both (cond b (begin g i m error) (opened i empty_run, []))
  begin_erased true i m none = refl
  begin_erased true i m (some error) = refl
  begin_erased false i m error = refl

  receive_opened_erased : (i : ℕ) (run : Run) (b : Bool) → receive_opened (unnumbered g) i run b ≡ both (receive_opened g i run b)
  receive_opened_erased i run false = refl
  receive_opened_erased i run true = go (read_run run)
    where
      go : (o : Option Message) → end_run_opened (unnumbered g) i o ≡ both (end_run_opened g i o)
      go none = refl
      go (some m) = begin_erased (eqb m.mid 0001) i m (message_error (opened_standing g) m)

  tick_at_erased : (i : ℕ) (a b : Session × List Emission) → a ≡ both b → tick_at i a ≡ both (tick_at i b)
  tick_at_erased i a b h = rw h (chosen both (eqb i idle_limit) (closed, close ∷ []) b)

  step_erased : (l : Local) (x : Session) → session_step (unnumbered g) l (erase_session x) ≡ both (session_step g l x)
  step_erased elsewhere x = refl
  step_erased hang_up x = refl
  step_erased opening closed = refl
  step_erased opening (opened i run) = refl
  step_erased opening (started i run subs) = refl
  step_erased (receives p) closed = refl
  step_erased (receives p) (opened i run) = receive_opened_erased i (longer run p.bytes) p.ends
  step_erased (receives p) (started i run subs) = receive_erased i (longer run p.bytes) subs p.ends
  step_erased tick closed = refl
  step_erased tick (opened i run) = tick_at_erased (suc i) (opened (suc i) run, []) (opened (suc i) run, []) refl
  step_erased tick (started i run subs) =
      let st = g.settings in
      tick_at_erased (suc i) (dealt st (suc i) run (λ j. beats) (map erase_sub subs)) (dealt st (suc i) run (λ j. beats) subs)
      (dealt_erased st (suc i) run (λ j. beats) (λ j. beats) subs (λ j. refl))
  step_erased (event e) closed = refl
  step_erased (event e) (opened i run) = refl
  step_erased (event e) (started i run subs) = only_dealt g.settings i run (kind_of e) (news (notice_of g e)) subs

-- ==== what the others learn of a session

session_kept : (x : Session)
    → (is_closed (erase_session x) ≡ is_closed x) × ((kind : ℕ) → takes kind (erase_session x) ≡ takes kind x)
    × ((g : Shared) (p : Piece) → announces (unnumbered g) p (erase_session x) ≡ announces g p x)
session_kept closed = (refl, λ kind. refl, λ g p. refl)
session_kept (opened i run) = (refl, λ kind. refl, λ g p. refl)
session_kept (started i run subs) = (
  refl,
  λ kind.
      ap (takes_event (room_of kind)) (get_or-map erase_sub subs kind unsubscribed)
      ∙ (kept (get_or subs kind unsubscribed)).1 (room_of kind),
  λ g p. ap (λ o. cond p.ends o none) (go g (read_run (longer run p.bytes))),
)
  where
    go : (g : Shared) (o : Option Message) → identifier_run (unnumbered g) (map erase_sub subs) o ≡ identifier_run g subs o
    go g none = refl
    go g (some m) = rw (standing_erased g subs)

takers_erased : (kind s : ℕ) (xs : List Session) → takers kind s (map erase_session xs) ≡ takers kind s xs
takers_erased kind s [] = refl
takers_erased kind s (x ∷ xs) = rw ((session_kept x).1 kind, takers_erased kind (suc s) xs)

-- ==== the output

record_erased : (s : ℕ) (e : Emission)
    → output_record (record { who = s; what = erase_emission e }) ≡ output_record (record { who = s; what = e })
record_erased s (reply frame) = refl
record_erased s (copy c) = refl
record_erased s close = refl

output_erased : (xs : List (Tagged Emission)) → output (map (retag erase_emission) xs) ≡ output xs
output_erased [] = refl
output_erased (x ∷ xs) = rw (record_erased x.who x.what, output_erased xs)

pub output_append : (xs ys : List (Tagged Emission)) → output (xs ++ ys) ≡ output xs ++ output ys
output_append [] ys = refl
output_append (x ∷ xs) ys = rw (output_append xs ys, append_assoc)

-- ==== the world

left_erased : (g : Shared) (c : Change) → unnumbered (changed (unnumbered g) c) ≡ unnumbered (changed g c)
left_erased g no_change = refl
left_erased g (by_event e) = refl
left_erased g (by_start st) = refl

session_erased : (w : World) (s : ℕ) → session_at (erase_world w) s ≡ erase_session (session_at w s)
session_erased w s = get_or-map erase_session w.sessions s closed

module _ (w : World) (m : Moment) where
  each_erased : (s : ℕ) (x : Session) → each (erase_world w) m s (erase_session x) ≡ both (each w m s x)
  each_erased s x = step_erased w.shared (m.sees s) x

  next_erased : uncounted (next (erase_world w) m) ≡ erase_world (next w m)
  next_erased =
      rw (
        row_map (each w m) (each (erase_world w) m) erase_session erase_emission each_erased 0 w.sessions,
        left_erased w.shared m.leaves,
      )

  first_alike : output (emits (erase_world w) m) ≡ output (emits w m)
  first_alike =
      ap output (said_map (each w m) (each (erase_world w) m) erase_session erase_emission each_erased 0 w.sessions)
      ∙ output_erased (emits w m)

-- ==== calls

-- the moments ms, from w and from w without numbers: the same world but for the count, and the same bytes
abbrev Alike : World → List Moment → Type 0
Alike w ms =
    (uncounted (after (erase_world w) ms) ≡ erase_world (after w ms))
    × (output (emitted (erase_world w) ms) ≡ output (emitted w ms))

-- the last moment may be an event; the one before it may not, since it leaves a count
alike_one : (w : World) (m : Moment) → Alike w (m ∷ [])
alike_one w m = (next_erased w m, simp (output_append, first_alike))

alike_to : (w : World) (s : ℕ) (l : Local) (ms : List Moment) → Alike (next w (to s l)) ms → Alike w (to s l ∷ ms)
alike_to w s l ms h =
    let m = to s l in
    let e : next (erase_world w) m ≡ erase_world (next w m) = next_erased w m in (
      ap (λ v. uncounted (after v ms)) e ∙ h.0,
      simp (output_append, first_alike, ap (λ v. output (emitted v ms)) e ∙ h.1),
    )

alike_happening : (w : World) (o : Option Event) → Alike w (happening o)
alike_happening w none = (refl, refl)
alike_happening w (some e) = alike_one w (happens e)

alike_start : (w : World) (o : Option Settings) → Alike w (at_most_one (option_map begins o) ++ [])
alike_start w none = (refl, refl)
alike_start w (some st) = alike_one w (begins st)

taken_erased : (xs : List Session) (o : Option Event) → taken_by (map erase_session xs) o ≡ taken_by xs o
taken_erased xs none = refl
taken_erased xs (some e) = takers_erased (kind_of e) 0 xs

reported_erased : (g : Shared) (o : Option Tool) → option_map (reported (unnumbered g)) o ≡ option_map (reported g) o
reported_erased g none = refl
reported_erased g (some (scanned x)) = refl
reported_erased g (some (tightening x t)) = refl
reported_erased g (some (alarm vs)) = refl

alike : (w : World) (c : Call) → Alike w (moments w c)
alike w (start slice) = alike_start w (read_settings slice)
alike w (open_session s) = alike_one w (opens s)
alike w (hang_up_session s) = alike_one w (hangs_up s)
alike w (bytes s bs) =
    let o = option_map identified (announces w.shared (cut bs) (session_at w s)) in
    alike_to w s (receives (cut bs)) (happening o) (alike_happening (next w (hears s (cut bs))) o)
alike w one_tick = alike_one w ticks
alike w (tool slice) = alike_happening w (option_map (reported w.shared) (read_tool slice))

-- the table of calls
does_erased : (w : World) (c : Call) → does (erase_world w) c ≡ does w c
does_erased w (start slice) = refl
does_erased w (open_session s) = rw (session_erased w s, (session_kept (session_at w s)).0)
does_erased w (hang_up_session s) = rw (session_erased w s, (session_kept (session_at w s)).0)
does_erased w (bytes s bs) =
    rw (session_erased w s, (session_kept (session_at w s)).0, (session_kept (session_at w s)).2 w.shared (cut bs))
does_erased w one_tick = refl
does_erased w (tool slice) =
    let t = read_tool slice in
    rw (reported_erased w.shared t, taken_erased w.sessions (option_map (reported w.shared) t))

-- two outcomes of a call: the same world but for the numbers, the same answer, the same bytes
pub record SameButNumbers (q r : World × Answer × List (Tagged Emission)) : Type 0 where
  pub world : uncounted q.0 ≡ erase_world r.0
  pub answer : q.1 ≡ r.1
  pub bytes : output q.2 ≡ output r.2

answered_erased : (w : World) (c : Call) (n : ℕ) → SameButNumbers (answered (erase_world w) c n) (answered w c n)
answered_erased w c zero =
    let a = alike w c in
    record {
      world = rw (does_erased w c) a.0;
      answer = rw (does_erased w c, a.1);
      bytes = rw (does_erased w c) a.1;
    }
answered_erased w c (suc n) = record { world = refl; answer = refl; bytes = refl }

-- A CALL, with the numbers of events and without
pub step_without_numbers : (l : Lent) (w : World) (c : Call) → SameButNumbers (step l (erase_world w) c) (step l w c)
unfolding step refusal
step_without_numbers l w c = rw (does_erased w c) (answered_erased w c (refusal l w c))

-- ==== runs

-- a run that forgets the count after each call, as a program does that keeps none
abbrev pub run_uncounted : World → List (Lent × Call) → List (Answer × List ℕ)
run_uncounted w [] = []
run_uncounted w (c ∷ cs) =
    let r = step c.0 w c.1 in
    (r.1, output r.2) ∷ run_uncounted (uncounted r.0) cs

-- A RUN, with the numbers of events and without
pub run_without_numbers : (w : World) (cs : List (Lent × Call)) → run_uncounted (erase_world w) cs ≡ observed (run w cs)
run_without_numbers w [] = refl
run_without_numbers w (c ∷ cs) =
    let h = step_without_numbers c.0 w c.1 in
    rw (h.world, h.answer, h.bytes, run_without_numbers (step c.0 w c.1).0 cs)
