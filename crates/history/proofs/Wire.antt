-- WHAT A LINE SERVER SEES, OF THE PRODUCT: whatever calls are made after a start that is done, whatever they are lent, and only they write
-- the table. Each frame is read alike by its NUL and by its length; a reply is the first that its call wrote, and answers the message that
-- this call completed, to the session that sent it.
use Prim.Native.Nat.{ℕ, suc, ◌<◌}
use mathlib.Core.Path.{◌≡◌, refl, sym, ◌∙◌, ap, subst}
use mathlib.Core.Bool.{Bool, true, false, cond, true≢false}
use mathlib.Core.List.{List, [], ◌∷◌, ◌++◌, map}
use mathlib.Core.Option.{Option, none, some}
use native.Mathlib.Omega.{arith}
use lib.Dec.{eqb, eqb-suc-zero}
use lib.ListN.{length, take, get_or-replicate}
use borrow.Author.Tests.{eqb-true}
use Rattle.model.specs.Limits.{session_count}
use Rattle.model.specs.Bytes.{NUL}
use Rattle.model.specs.Records.{payload, Settings, settings_of}
use Rattle.model.specs.Runs.{Run, empty_run, longer, Piece, cut, consumed_by, Message, read_run}
use Rattle.model.specs.Events.{Event}
use Rattle.model.specs.Sharing.{Shared}
use Rattle.model.specs.Row.{Tagged}
use Rattle.model.specs.Session.{Session, closed, opened, started, is_closed, Emission, reply, copy, close}
use Rattle.model.specs.Local.{Local, step as session_step}
use Rattle.model.specs.World.{World, session_at, begun, after}
use Rattle.model.specs.Calls.{Call, Lent, does, at_most_one, Answer as ModelAnswer, answered, step}
use Rattle.model.specs.Sights.{Sight, sight}
use Rattle.model.specs.Wire.{Every}
use Rattle.model.specs.Erased.{erase_world}
use Rattle.model.proofs.Clean.{nul_cut, there}
use Rattle.model.proofs.Sent.{Follows, completes}
use Rattle.model.proofs.Sights.{Sees, nothing, a_start, its_opening, its_hang_up, a_tick, its_bytes, coherent, given_by, told, goes_to}
use Rattle.model.proofs.Wire.{CleanWorld, begun_clean, settings_clean, Silent, completes_given, completed}
use Rattle.model.proofs.Wire.{Sends, none_replies as none_speaks, replies as speaks, step_sends}
use Rattle.table.specs.Table.{decode, Table}
use Rattle.refusal.proofs.Numbers.{start_passes}
use Rattle.controller.specs.Contract.{model_answer}
use Rattle.controller.specs.Trace.{Made, Trace, none as no_call, and, History}
use Rattle.controller.proofs.Outputs.{Below, step_below, step_many}
use Rattle.controller.proofs.Traces.{number_is, table_left, table_begun}
use Rattle.controller.proofs.Modelled.{lending, one_call, begun_meaning}
use Rattle.history.specs.Turns.{Turn}
use Rattle.history.specs.Past.{run_with, run, Wish}
use Rattle.history.specs.Output.{as_read, record_of}
use Rattle.history.specs.Exports.{Export, ExportHistory, CallsOf}
use Rattle.history.specs.Wire.{Whole, a_frame, an_order, asked, Completes, NoReply, a_notice, to_close, Replies, none_replies}
use Rattle.history.specs.Wire.{replies}
use Rattle.history.specs.Wire.{OnTheWire, InTurn}
use Rattle.history.proofs.Output.{read_written}
use Rattle.history.proofs.Sessions.{SessionRead, Like, longer_read, opening_steps, hang_up_steps, tick_steps, receives_steps}
use Rattle.history.proofs.Sessions.{event_steps}
use Rattle.history.proofs.Calls.{by_refusal}
use Rattle.history.proofs.Exports.{called_so}

-- ==== a session's run is what is read off the calls

-- these bytes are the run of the session, which has one unless it is closed: it is like some reading that has them
abbrev Kept : List ℕ → Session → Type 0
Kept bs x = (b : Bool) × (f : ℕ → Option Wish) × Like (record { run = bs; started = b; wish = f }) x

abbrev reading : (bs : List ℕ) (x : Session) → Kept bs x → SessionRead
reading bs x k = record { run = bs; started = k.0; wish = k.1 }

-- whatever it sees
sees_kept : (g : Shared) {z : Sight} {l : Local} → Sees z l → (bs : List ℕ) (x : Session) → (z.opens ≡ true → is_closed x ≡ true)
    → Kept bs x → Kept (run_with z.given z.opens bs) (session_step g l x).0
sees_kept g a_start bs x c k = (false, λ kind. none, (refl, λ kind. refl))
sees_kept g nothing bs x c k = k
sees_kept g its_opening bs x c k = (_, _, (opening_steps g (reading bs x k) x (c refl) k.2).like)
sees_kept g its_hang_up bs x c k = (_, _, (hang_up_steps g (reading bs x k) x k.2).like)
sees_kept g a_tick bs x c k = (_, _, (tick_steps g (reading bs x k) x k.2).like)
sees_kept g (its_bytes {p = p}) bs x c k = (_, _, (receives_steps g (reading bs x k) p.bytes p.ends x k.2).like)

told_kept : (g : Shared) (bs : List ℕ) (o : Option Event) (x : Session) → Kept bs x → Kept bs (told g o x).0
told_kept g bs o x k = (_, _, (event_steps g o (reading bs x k) x k.2).like)

-- ==== a call

abbrev Runs : World → (ℕ → List ℕ) → Type 0
Runs w run_of = (s : ℕ) → s < session_count → Kept (run_of s) (session_at w s)

-- a call and its answer, after those
abbrev with_call : Call → ModelAnswer → List Turn → List Turn
with_call c a past = record { call = c; answer = a; out = [] } ∷ past

call_runs : (l : Lent) (w : World) (c : Call) (past : List Turn) → length w.sessions ≡ session_count → Runs w (λ s. run s past)
    → Runs (step l w c).0 (λ s. run s (with_call c (step l w c).1 past))
call_runs l w c past AllThere k =
    by_refusal l w c (λ q. Runs q.0 (λ s. run s (with_call c q.1 past)))
    (λ e s u.
    let o = (does w c).moment in
    rw (goes_to w s (omega arith) o (does w c).event).0
    (told_kept (after w (at_most_one o)).shared (run_with (sight s c).given (sight s c).opens (run s past)) (does w c).event _
    (sees_kept w.shared ((coherent l w c e).sees s) (run s past) (session_at w s) ((coherent l w c e).opens s) (k s u))))
    (λ n. rw (eqb-suc-zero n) k)

-- ==== the message that a call completes

-- up to its NUL, bytes are consumed
cut_taken : (bs : List ℕ) → (cut bs).ends ≡ true → take (suc (length (cut bs).bytes)) bs ≡ (cut bs).bytes ++ NUL ∷ []
unfolding cut
cut_taken [] e = absurd (true≢false (sym e))
cut_taken (b ∷ bs) e = go (eqb b NUL) refl (λ q. cut_taken bs q) e
  where
    piece : Bool → Piece
    piece t = cond t (record { bytes = []; ends = true }) (record { bytes = b ∷ (cut bs).bytes; ends = (cut bs).ends })

    go : (t : Bool) → eqb b NUL ≡ t → ((cut bs).ends ≡ true → take (suc (length (cut bs).bytes)) bs ≡ (cut bs).bytes ++ NUL ∷ [])
        → (piece t).ends ≡ true → take (suc (length (piece t).bytes)) (b ∷ bs) ≡ (piece t).bytes ++ NUL ∷ []
    go true z ih q = ap (◌∷ []) (eqb-true b NUL z)
    go false z ih q = ap (b ∷◌) (ih q)

abbrev Completed : List ℕ → List ℕ → Message → Bool → Type 0
Completed bs more m ends = (ends ≡ true) × (read_run (longer empty_run (bs ++ more)) ≡ some m)

read_by : (run : Run) (bs more : List ℕ) (m : Message) → longer empty_run bs ≡ run
    → (b : Bool) → cond b (read_run (longer run more)) none ≡ some m → Completed bs more m b
read_by run bs more m k true e = (refl, ap read_run (longer_read bs more run k) ∙ e)
read_by run bs more m k false e = absurd (there (sym e))

ended_by : (x : Session) (bs : List ℕ) (p : Piece) (m : Message) → Kept bs x → completes x p ≡ some m
    → Completed bs p.bytes m p.ends
ended_by closed bs p m k e = absurd (there (sym e))
ended_by (opened i run) bs p m k e = read_by run bs p.bytes m k.2.0 p.ends e
ended_by (started i run subs) bs p m k e = read_by run bs p.bytes m k.2.0 p.ends e

-- ==== the records of what goes out

module _ (st : Settings) where
  -- what follows is no reply, and whole
  follows_read : (s : ℕ) (e : Emission) → s < session_count → Follows st e → NoReply (as_read s e) × Whole (as_read s e)
  follows_read s (reply frame) u h = absurd h
  follows_read s (copy c) u h = (a_notice s c.what.frame h.1, a_frame s c.what.frame u h.0)
  follows_read s close u h = (to_close s, an_order s u)

  all_read : (es : List (Tagged Emission)) → Below session_count es → Silent st es
      → Every NoReply (map record_of es) × Every Whole (map record_of es)
  all_read [] b h = (tt, tt)
  all_read (x ∷ xs) b h =
      let a = follows_read x.who x.what b.0 h.0 in
      let r = all_read xs b.1 h.1 in
      ((a.0, r.0), (a.1, r.1))

sends_whole : {w : World} {c : Call} {es : List (Tagged Emission)} → Below session_count es → Sends w c es → Every Whole (map record_of es)
sends_whole {w = w} b (none_speaks {es = es} h) = (all_read w.shared.settings es b h).1
sends_whole {w = w} b (speaks {s = s} {frame = frame} {es = es} e a f r h) =
    (a_frame s frame b.0 f, (all_read w.shared.settings es b.1 h).1)

module _ (past : List Made) (m : Made) (w : World) (k : Runs w (λ t. run t (map asked past))) where
  -- a message that a call completes came in bytes
  completes_it : (s : ℕ) → s < session_count → model_answer m.answer ≡ (answered w m.call 0).1 → (x : Message)
      → completed w m.call s ≡ some x → Completes past m s x
  completes_it s u a x = go (sight s m.call).given refl
    where
      go : (o : Option Piece) → (sight s m.call).given ≡ o → completes_given (session_at w s) o ≡ some x → Completes past m s x
      go none e h = absurd (there (sym h))
      go (some p) e h =
          let b = given_by s m.call p e in
          let bs = b.0 in
          let q =
          ended_by (session_at w s) (run s (map asked past)) (cut bs) x (k s u) (ap (completes (session_at w s)) (sym b.2) ∙ h) in
          let n : m.answer.consumed ≡ consumed_by (cut bs) =
          ap (λ (r : ModelAnswer). r.consumed) a ∙ ap (λ (c : Call). (does w c).consumed) b.1 in
          record {
            done = ap (λ (r : ModelAnswer). r.number) a;
            given = bs;
            call = b.1;
            piece = (cut bs).bytes;
            no_NUL = nul_cut bs;
            consumed =
                ap (λ (j : ℕ). take j bs)
                (n ∙ ap (λ (t : Bool). cond t (suc (length (cut bs).bytes)) (length (cut bs).bytes)) q.0) ∙ cut_taken bs q.0;
            read = q.1;
          }

  call_replies : (l : Lent) → let q = step l w m.call in
      model_answer m.answer ≡ q.1 → Below session_count q.2 → Sends w m.call q.2 → Replies past m (map record_of q.2)
  call_replies l =
      by_refusal l w m.call
      (λ q. model_answer m.answer ≡ q.1 → Below session_count q.2 → Sends w m.call q.2 → Replies past m (map record_of q.2))
      (λ e. by) (λ n a b h. none_replies tt)
    where
      by : {es : List (Tagged Emission)} → model_answer m.answer ≡ (answered w m.call 0).1 → Below session_count es
          → Sends w m.call es → Replies past m (map record_of es)
      by a b (none_speaks {es = es} h) = none_replies (all_read w.shared.settings es b h).0
      by a b (speaks {s = s} {m = x} {es = es} e f g r h) =
          replies (completes_it s b.0 a x e) f (all_read w.shared.settings es b.1 h).0

-- ==== histories

on_the_wire_from : {t t' : List ℕ} {ms : List Made} (w : World) (past : List Made) → length w.sessions ≡ session_count → CleanWorld w
    → Runs w (λ s. run s (map asked past)) → Table t → decode t ≡ erase_world w → Trace t ms t' → InTurn OnTheWire past ms
on_the_wire_from w past AllThere clean k h e no_call = tt
on_the_wire_from {t = t} w past AllThere clean k h e (and {m = m} out rest) =
    let l = lending (length t) (length m.output) in
    let q = step l w m.call in
    let call = one_call w h e out in
    let sends = step_sends l w m.call clean in
    let below = step_below session_count l w m.call AllThere in (
      record {
        records = map record_of q.2;
        read = read_written q.2 below m.answer.written m.output_left call.bytes out.fits;
        whole = sends_whole below sends.1;
        replies = call_replies past m w k l call.answer below sends.1;
      },
      on_the_wire_from q.0 (m ∷ past) (step_many session_count l w m.call AllThere) sends.0
          (subst (λ (a : ModelAnswer). Runs q.0 (λ s. run s (with_call m.call a (map asked past)))) (sym call.answer)
          (call_runs l w m.call (map asked past) AllThere k))
          (table_left h out) call.world rest,
    )

-- the frames, and the replies among them
pub on_the_wire : {t t' : List ℕ} {ms : List Made} → History t ms t' → InTurn OnTheWire [] ms
on_the_wire h =
    let st = settings_of (payload h.settings) in
    let given = (start_passes h.before h.settings (sym (number_is h.begins) ∙ h.done)).1 in
    on_the_wire_from (begun st 0) [] refl (begun_clean st 0 (settings_clean h.settings given))
    (λ s u. rw (get_or-replicate session_count s closed closed u) (false, λ kind. none, (refl, λ kind. refl)))
    (table_begun h.begins h.done) (begun_meaning h.begins h.done) h.then

-- the same of the six functions that C calls: of those of their calls that are made; the others leave the output as it was
pub on_the_wire_of_the_exports : {t t' : List ℕ} {ps : List Export} → ExportHistory t ps t'
    → (ms : List Made) × CallsOf ps ms × InTurn OnTheWire [] ms
on_the_wire_of_the_exports h = let k = called_so h in (k.calls, k.are, on_the_wire k.history)
