-- DEMAND 3, OF THE PRODUCT: whatever calls are made after a start that is done, whatever they are lent, and only they write the table.
use Prim.Native.Nat.{ℕ, ◌<◌}
use mathlib.Core.Path.{◌≡◌, refl, sym, ◌∙◌, ap, ap₂}
use mathlib.Core.Bool.{Bool, true, false, cond, ◌&&◌, ◌||◌, and-false}
use mathlib.Core.List.{List, [], ◌∷◌, ◌++◌, map}
use mathlib.Core.Option.{none}
use native.Mathlib.Omega.{arith}
use lib.Dec.{eqb}
use lib.ListN.{length}
use Rattle.model.specs.Limits.{session_count, tightenings_held, alarms_held}
use Rattle.model.specs.Records.{Settings, payload, settings_of}
use Rattle.model.specs.Kinds.{tightenings, alarms}
use Rattle.model.specs.World.{World, begun}
use Rattle.model.specs.Calls.{Call, Answer as ModelAnswer, step}
use Rattle.model.specs.Sights.{starts}
use Rattle.model.specs.Erased.{erase_world}
use Rattle.table.specs.Table.{decode, Table}
use Rattle.refusal.proofs.Numbers.{start_passes}
use Rattle.controller.specs.Trace.{Made, Trace, none as no_call, and, History, lendings}
use Rattle.controller.proofs.Outputs.{step_below, step_many}
use Rattle.controller.proofs.Traces.{number_is, table_left, table_begun}
use Rattle.controller.proofs.Modelled.{lending, one_call, begun_meaning}
use Rattle.watch.specs.Marks.{copies, Demand3, InTime}
use Rattle.history.specs.Turns.{Turn, turns, stops, subscribes, unsubscribes}
use Rattle.history.specs.Past.{message, parts, started, wish_of, wish, is_some, subscribed, shared}
use Rattle.history.specs.Output.{record_of}
use Rattle.history.specs.Demand.{mark, marks, past_after, NoStart}
use Rattle.history.specs.Product.{Tells, turns_of, Once, Meets}
use Rattle.history.proofs.Output.{read_written, sent_back}
use Rattle.history.proofs.Turns.{demand_3_of_runs, in_time_of_runs}
use Rattle.history.proofs.Frames.{marks_append, few_frames_of_runs}
use Rattle.history.proofs.Replies.{told_apart_in_runs}

-- ==== a trace is a run of the model, with the numbers of events

told : {t t' : List ℕ} {ms : List Made} (w : World) → length w.sessions ≡ session_count → Table t → decode t ≡ erase_world w
    → Trace t ms t' → Tells ms (turns w (lendings (length t) ms))
told w AllThere h e no_call = tt
told {t = t} w AllThere h e (and {t₁ = t₁} {m = m} {ms = ms} out rest) =
    let k = one_call w h e out in
    let l = lending (length t) (length m.output) in
    let q = step l w m.call in
    let below = step_below session_count l w m.call AllThere in (
      record {
        call = refl;
        answer = sym k.answer;
        bytes = sym k.bytes;
        records = map record_of q.2;
        read = read_written q.2 below m.answer.written m.output_left k.bytes out.fits;
        frames = λ s u. sym (sent_back s u q.2 below).0;
        closes = λ s u. sym (sent_back s u q.2 below).1;
      },
      rw out.size at (told q.0 (step_many session_count l w m.call AllThere) (table_left h out) k.world rest),
    )

-- no second start
pub no_start : (ms : List Made) (xs : List Turn) → Tells ms xs → Once ms → NoStart xs
no_start [] [] h o = tt
no_start [] (x ∷ xs) h o = absurd h
no_start (m ∷ ms) [] h o = absurd h
no_start (m ∷ ms) (x ∷ xs) h o = (
  ap₂ (λ (n : ℕ) (c : Call). eqb n 0 && starts c) (ap (λ (a : ModelAnswer). a.number) h.0.answer) h.0.call ∙ o.0,
  no_start ms xs h.1 o.1,
)

pub demand_3_of_the_product : {t t' : List ℕ} {ms : List Made} (h : History t ms t') → Once ms → Meets h.settings (length t) ms
demand_3_of_the_product {t = t} {ms = ms} h o =
    let st = settings_of (payload h.settings) in
    let cs = lendings (length t) ms in
    let k = told (begun st 0) refl (table_begun h.begins h.done) (begun_meaning h.begins h.done) h.then in
    let ns = no_start ms (turns (begun st 0) cs) k o in
    record {
      settings = st;
      given = (start_passes h.before h.settings (sym (number_is h.begins) ∙ h.done)).1;
      tells = k;
      told_apart = λ s u. told_apart_in_runs st cs ns s u;
      notices = λ s u. demand_3_of_runs st cs ns s u;
      in_time = λ s u. in_time_of_runs st cs ns s u;
      few_frames = λ s u. few_frames_of_runs st s u cs ns;
    }

-- so a taken tightening goes out within 840 ticks
pub tightenings_in_time : {slice : List ℕ} {size : ℕ} {ms : List Made} (h : Meets slice size ms) (s : ℕ) → s < session_count
    → InTime tightenings_held (marks h.settings s tightenings [] (turns_of h.settings size ms))
tightenings_in_time h s u = h.in_time s u tightenings tightenings_held (omega arith) refl

-- and a taken alarm within 360
pub alarms_in_time : {slice : List ℕ} {size : ℕ} {ms : List Made} (h : Meets slice size ms) (s : ℕ) → s < session_count
    → InTime alarms_held (marks h.settings s alarms [] (turns_of h.settings size ms))
alarms_in_time h s u = h.in_time s u alarms alarms_held (omega arith) refl

-- ==== the story of the server that came back, of any turns that meet demand 3

-- a hang-up, a time-out, an accepted stop and an accepted unsubscribe each leave the session not started and subscribed
pub ends_subscription : (s kind : ℕ) (past : List Turn) (x : Turn)
    → (parts s x || stops s x || unsubscribes s kind x) ≡ true
    → subscribed s kind (x ∷ past) ≡ false
ends_subscription s kind past x e =
    let other = cond (subscribes s kind x) (wish_of (message s past x)) (wish s kind past) in
    ap (λ (b : Bool). started s (x ∷ past) && is_some (cond b none other)) e ∙ and-false (started s (x ∷ past))

-- so from such a call on no copy goes out of an event that came before it, whether it had been sent or waited
pub none_kept : (st : Settings) (s kind : ℕ) (before : List Turn) (x : Turn) (later : List Turn) → let past = past_after [] before in
    Demand3 (marks st s kind [] (before ++ x ∷ later)) → (parts s x || stops s x || unsubscribes s kind x) ≡ true
    → (n : ℕ) → n < (shared st past).events → copies n (marks st s kind past (x ∷ later)) ≡ 0
none_kept st s kind before x later d e n l =
    let past = past_after [] before in
    d.never_kept n (marks st s kind [] before) (mark st s kind past x) (marks st s kind (x ∷ past) later)
    (marks_append st s kind [] before (x ∷ later)) (ends_subscription s kind past x e) l
