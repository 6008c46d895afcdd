-- Every call of the model does, to the notices of each kind to each session, one of the things that a call can do. No call is looked at
-- for itself: what it does is read off the model's two tables of calls.
use Prim.Native.Nat.{ℕ, suc, ◌<◌}
use mathlib.Core.Path.{◌≡◌, refl, sym, ◌∙◌, ap, subst}
use mathlib.Core.Bool.{Bool, true, false, cond, ◌&&◌}
use mathlib.Core.List.{List, [], ◌∷◌, ◌++◌}
use mathlib.Core.Option.{Option, none, some, map as option_map}
use native.Mathlib.Omega.{arith}
use lib.Dec.{eqb, eqb-suc-zero}
use lib.ListN.{length, get_or-replicate}
use borrow.Author.Tests.{eqb-true, eq-eqb}
use Rattle.model.specs.Limits.{session_count}
use Rattle.model.specs.Records.{Settings, Tool}
use Rattle.model.specs.Kinds.{up_to, kinds, identifiers, room_of}
use Rattle.model.specs.Runs.{Piece}
use Rattle.model.specs.Events.{Event, identified, kind_of}
use Rattle.model.specs.Sharing.{Shared, shared_with, reported}
use Rattle.model.specs.Notices.{Subscription, unsubscribed, plain, acked, empty, busy, takes as takes_event}
use Rattle.model.specs.Row.{pick}
use Rattle.model.specs.Session.{Session, closed, opened, started, Emission}
use Rattle.model.specs.Local.{receives, elsewhere, step as session_step, takes as takes_in, announces}
use Rattle.model.specs.World.{World, session_at, Moment, hears, begun, after}
use Rattle.model.specs.Calls.{Call, Lent, does, refusal, moments, in_sum, taken_by, answered, step}
use Rattle.model.specs.Sights.{Sight, sight, starts, reports, speaker}
use Rattle.model.proofs.Clean.{there}
use Rattle.model.proofs.Takers.{in_takers}
use Rattle.model.proofs.Sights.{its_part, Sees, nothing, its_bytes, coherent}
use Rattle.model.proofs.Sights.{Source, no_event, a_report, from_session, told, goes_to, after_length, after_shared}
use Rattle.watch.specs.Marks.{Demand3, InTime}
use Rattle.watch.specs.Course.{empty as none_waits, Course, end, call}
use Rattle.watch.proofs.Theorem.{demand_3, goes_out_in_time}
use Rattle.history.specs.Turns.{Turn, turn, turns, is_start}
use Rattle.history.specs.Past.{run_with, run, ended, message, wish, is_some, spoken, event, shared}
use Rattle.history.specs.Demand.{seen_in, marks, NoStart}
use Rattle.history.proofs.Subscriptions.{wish_in, view}
use Rattle.history.proofs.Signals.{Signals, signals, closing, silent_after}
use Rattle.history.proofs.Sendings.{Sent, sent_append}
use Rattle.history.proofs.Sessions.{Like, sub_at, StepAsRead, elsewhere_steps, tells_of, sees_steps, told_steps}
use Rattle.history.proofs.Sessions.{then_steps}
use Rattle.history.proofs.Calls.{session_read, sub_of, like_wish, by_refusal, Moves, Beside, moves_by}

-- ==== what a session does not see, and what it hears

module _ (g : Shared) (bs : List ℕ) (x : Session) where
  -- nothing is done to its notices
  abbrev Mild : ℕ → Sight → Session × List Emission → Type 0
  Mild kind z r =
      (closing kind (ended bs z.given) z.hangs_up (signals r.1) ≡ false) × (sub_at kind r.0 ≡ sub_at kind x)
      × (seen_in kind r.1 ≡ [])

  unseen : {z : Sight} → Sees z elsewhere → (z.ticks ≡ false) × ((kind : ℕ) → Mild kind z (session_step g elsewhere x))
  unseen nothing = (refl, λ kind. (refl, refl, refl))

pub heard : {z : Sight} {p : Piece} → Sees z (receives p) → (z.given ≡ some p) × (z.ticks ≡ false)
heard its_bytes = (refl, refl)

-- a session takes what its subscription takes, and of identifiers all
takes_sub : (kind : ℕ) (x : Session) → takes_in kind x ≡ takes_event (room_of kind) (sub_at kind x)
takes_sub kind closed = refl
takes_sub kind (opened i run) = refl
takes_sub kind (started i run subs) = refl

takes_identifier : (x : Subscription) → takes_event (room_of identifiers) x ≡ is_some (wish_in x)
takes_identifier unsubscribed = refl
takes_identifier (plain r) = refl
takes_identifier (acked r empty) = refl
takes_identifier (acked r (busy n c q)) = refl

-- of the kind that it is of
at_kind : (f h : ℕ → Bool) (kind j : ℕ) → f j ≡ h j → (eqb kind j && f kind) ≡ (eqb kind j && h kind)
at_kind f h kind j e = go (eqb kind j) refl
  where
    go : (b : Bool) → eqb kind j ≡ b → (b && f kind) ≡ (b && h kind)
    go true q = rw (eqb-true kind j q) e
    go false q = refl

-- ==== a call that is done, and no start

module _ (w : World) (past : List Turn) (size : length w.sessions ≡ session_count)
    (like : (s : ℕ) → s < session_count → Like (session_read s past) (session_at w s))
    (l : Lent) (c : Call) (done : refusal l w c ≡ 0) (no_start : starts c ≡ false) where
  abbrev g : Shared
  g = w.shared

  abbrev moment : Option Moment
  moment = (does w c).moment

  abbrev x : Turn
  x = turn c (answered w c 0)

  -- what session s does first
  abbrev y : ℕ → Session × List Emission
  y s = session_step g (its_part s moment) (session_at w s)

  abbrev tells : ℕ → Bool
  tells s = tells_of g (session_read s past) (sight s c).given (session_at w s)

  pub call_steps : (s : ℕ) → s < session_count
      → StepAsRead g (run_with (sight s c).given (sight s c).opens (run s past)) (ended (run s past) (sight s c).given)
      (sight s c).hangs_up (sight s c).ticks (tells s) (session_read s past) (session_at w s) (y s)
  call_steps s h =
      sees_steps g (session_read s past) ((coherent l w c done).sees s) ((coherent l w c done).alike s ∙ no_start) (session_at w s)
      ((coherent l w c done).opens s)
      (like s h)

  -- and then: the session and what it is sent, by the event
  pub goes : (s : ℕ) → s < session_count → let z = told g (does w c).event (y s).0 in
      (session_at (after w (moments w c)) s ≡ z.0) × (pick s x.out ≡ (y s).1 ++ z.1)
  goes s h = rw ((coherent l w c done).leaves no_start) at (goes_to w s (omega arith) moment (does w c).event)

  pub leaves : (after w (moments w c)).shared ≡ shared_with g (does w c).event
  leaves = after_shared w moment (does w c).event ∙ rw ((coherent l w c done).leaves no_start)

  -- ---- what is read of the event

  sees : {o : Option Moment} → moment ≡ o → (s : ℕ) → Sees (sight s c) (its_part s o)
  sees e s = rw (← e) ((coherent l w c done).sees s)

  -- the speaker's
  hears_it : (t : ℕ) {p : Piece} → moment ≡ some (hears t p) → Sees (sight t c) (receives p)
  hears_it t e = rw (eq-eqb t t refl) at (sees e t)

  -- the identifier that is read is the one that its bytes make known
  speaks : (t : ℕ) (p : Piece) → speaker c ≡ some t → moment ≡ some (hears t p)
      → (does w c).event ≡ option_map identified (announces g p (session_at w t)) → spoken past x (some t) ≡ (does w c).event
  speaks t p sp mom ev =
      let inside = (coherent l w c done).speaks t sp in
      let given = (heard (hears_it t mom)).0 in
      let a = announces g p (session_at w t) in
      let o = (does w c).event in
      let shows : signals (pick t x.out) ≡ signals (y t).1 =
      ap signals (goes t inside).1
      ∙ silent_after (y t).1 (told g o (y t).0).1 (then_steps o (call_steps t inside)).silent in
      let told_so = ap (λ (sg : Signals). sg.accepts (λ m. m.identifies)) shows ∙ (call_steps t inside).tells in
      rw (told_so, given, ev) (sym (told_steps g (session_read t past) p (session_at w t) (like t inside)))

  event_is : event g past x ≡ (does w c).event
  event_is = go (coherent l w c done).event
    where
      go : Source w c → event g past x ≡ (does w c).event
      go (no_event r sp ev) = rw (r, sp) (sym ev)
      go (a_report t r mom ev tk) = rw r (sym ev)
      go (from_session t p r sp mom ev) = rw (r, sp) (speaks t p sp mom ev)

  -- ---- what else the call is, where it is an event

  module _ (e : Event) (is : (does w c).event ≡ some e) (s : ℕ) (h : s < session_count) where
    -- the tool's report
    report_beside : (r : Tool) → reports c ≡ some r → moment ≡ none → (does w c).event ≡ some (reported g r)
        → (does w c).taken ≡ taken_by w.sessions (some (reported g r)) → Beside w past x e s (y s)
    report_beside r rep mom ev tk =
        let q = unseen g (run s past) (session_at w s) (sees mom s) in
        let same : reported g r ≡ e = cc in
        record {
          mild = λ kind u. rw mom (q.1 kind);
          no_tick = q.0;
          taken = λ kind u.
              rw (event_is ∙ is, rep)
              (at_kind (λ j. in_sum s (does w c).taken) (λ j. takes_in j (y s).0) kind (kind_of e)
              (ap (in_sum s) tk ∙ in_takers (kind_of (reported g r)) s w.sessions ∙ rw (mom, same)));
        }

    -- the identifier that a session's bytes make known
    comes : (o : Option (List ℕ)) → option_map identified o ≡ some e → (is_some o ≡ true) × (kind_of e ≡ identifiers)
    comes none q = absurd (there (sym q))
    comes (some i) q = let same : identified i ≡ e = cc in (refl, ap kind_of (sym same))

    session_beside : (t : ℕ) (p : Piece) → reports c ≡ none → moment ≡ some (hears t p)
        → (does w c).event ≡ option_map identified (announces g p (session_at w t)) → Beside w past x e s (y s)
    session_beside t p rep mom ev = record {
      mild = λ kind u. known.1 kind u;
      no_tick = known.0;
      taken = λ kind u.
          rw (event_is ∙ is, rep)
          (at_kind (λ j. is_some (wish s j past)) (λ j. takes_in j (y s).0) kind (kind_of e) (rw told_as.1 taken_so));
    }
      where
        told_as : (is_some (announces g p (session_at w t)) ≡ true) × (kind_of e ≡ identifiers)
        told_as = comes (announces g p (session_at w t)) (sym ev ∙ is)

        by : (b : Bool) → eqb s t ≡ b → Sees (sight s c) (cond b (receives p) elsewhere)
            → ((sight s c).ticks ≡ false)
            × ((kind : ℕ) → kind < length kinds → Mild g (run s past) (session_at w s) kind (sight s c) (y s))
        by true q z =
            let k = heard z in (
              k.1,
              (call_steps s h).mild (rw (k.0, eqb-true s t q) told_as.0),
            )
        by false q z = let k = unseen g (run s past) (session_at w s) z in (k.0, λ kind u. rw (mom, q) (k.1 kind))

        known : ((sight s c).ticks ≡ false)
            × ((kind : ℕ) → kind < length kinds → Mild g (run s past) (session_at w s) kind (sight s c) (y s))
        known = by (eqb s t) refl (sees mom s)

        taken_so : is_some (wish s identifiers past) ≡ takes_in identifiers (y s).0
        taken_so =
            ap is_some (like_wish (session_read s past) (session_at w s) (like s h) identifiers (omega arith))
            ∙ sym (takes_sub identifiers (y s).0 ∙ ap (takes_event (room_of identifiers)) (known.1 identifiers (omega arith)).1
            ∙ takes_identifier (sub_of s identifiers w))

    beside : Beside w past x e s (y s)
    beside = go (coherent l w c done).event
      where
        go : Source w c → Beside w past x e s (y s)
        go (no_event r sp ev) = absurd (there (sym is ∙ ev))
        go (a_report t r mom ev tk) = report_beside t r mom ev tk
        go (from_session t p r sp mom ev) = session_beside t p r mom ev

  -- ---- so it moves

  abbrev w' : World
  w' = after w (moments w c)

  done_moves : Moves g.settings g w past x w'
  done_moves =
      let o = (does w c).event in
      moves_by w past like x w' (after_length w moment o ∙ size) y tells call_steps o event_is leaves goes beside

  done_sent : (s : ℕ) → s < session_count → Sent (is_some (message s past x)) (pick s x.out)
  done_sent s h =
      let o = (does w c).event in
      rw (goes s h).1
      (sent_append (is_some (message s past x)) (y s).1 (told g o (y s).0).1 (call_steps s h).sent
      (then_steps o (call_steps s h)).sent)

-- ==== any call but a start that is done

-- the world after those turns is as it is read
pub record Agrees (st : Settings) (w : World) (past : List Turn) : Type 0 where
  pub sharing : w.shared ≡ shared st past
  pub size : length w.sessions ≡ session_count
  pub like : (s : ℕ) → s < session_count → Like (session_read s past) (session_at w s)

settings_stay : (st : Settings) (past : List Turn) → (shared st past).settings ≡ st
settings_stay st [] = refl
settings_stay st (x ∷ past) = go (event (shared st past) past x) (settings_stay st past)
  where
    go : (o : Option Event) → (shared st past).settings ≡ st → (shared_with (shared st past) o).settings ≡ st
    go none ih = ih
    go (some e) ih = ih

module _ (st : Settings) (w : World) (past : List Turn) (l : Lent) (c : Call) (a : Agrees st w past) where
  abbrev here : Shared
  here = w.shared

  refused_moves : (n : ℕ) → Moves here.settings here w past (turn c (answered w c (suc n))) w
  refused_moves n =
      moves_by w past a.like (turn c (answered w c (suc n))) w a.size (λ s. (session_at w s, [])) (λ s. false)
      (λ s h. rw (eqb-suc-zero n) (elsewhere_steps here (session_read s past) (session_at w s) (a.like s h))) none (rw (eqb-suc-zero n))
      refl (λ s h. (refl, refl)) (λ e q. absurd (there (sym q)))

  call_moves : is_start (turn c (step l w c)) ≡ false → Moves here.settings here w past (turn c (step l w c)) (step l w c).0
  call_moves =
      by_refusal l w c (λ q. is_start (turn c q) ≡ false → Moves here.settings here w past (turn c q) q.0)
      (done_moves w past a.size a.like l c) (λ n f. refused_moves n)

  pub moves : is_start (turn c (step l w c)) ≡ false → Moves st (shared st past) w past (turn c (step l w c)) (step l w c).0
  moves ns =
      rw (settings_stay st past) at
      (subst (λ (v : Shared). Moves v.settings v w past (turn c (step l w c)) (step l w c).0) a.sharing (call_moves ns))

  -- what goes out to session s
  pub sent_turn : (s : ℕ) → s < session_count → is_start (turn c (step l w c)) ≡ false
      → Sent (is_some (message s past (turn c (step l w c)))) (pick s (step l w c).2)
  sent_turn s h =
      by_refusal l w c (λ q. is_start (turn c q) ≡ false → Sent (is_some (message s past (turn c q))) (pick s q.2))
      (λ e f. done_sent w past a.size a.like l c e f s h) (λ n f. tt)

-- ==== whole histories

module _ (st : Settings) where
  pub agrees_on : {w : World} {past : List Turn} {x : Turn} {w' : World} → Moves st (shared st past) w past x w' → Agrees st w' (x ∷ past)
  agrees_on m = record { sharing = m.sharing; size = m.size; like = m.like }

  pub agrees_begun : Agrees st (begun st 0) []
  agrees_begun = record {
    sharing = refl;
    size = refl;
    like = λ s h. rw (get_or-replicate session_count s closed closed h) (refl, λ kind. refl);
  }

  pub course_of : (w : World) (past : List Turn) (cs : List (Lent × Call)) → Agrees st w past → NoStart (turns w cs)
      → (s : ℕ) → s < session_count → (kind : ℕ) → kind < length kinds
      → Course (room_of kind) w.shared.events (view st (sub_of s kind w)) (marks st s kind past (turns w cs))
  course_of w past [] a ns s h kind u = end
  course_of w past (c ∷ cs) a ns s h kind u =
      let m = moves st w past c.0 c.1 a ns.0 in
      call (sym (ap (λ (g : Shared). g.events) a.sharing)) (m.rises kind (wish s kind past)) (m.does s h kind u)
      (course_of (step c.0 w c.1).0 (turn c.1 (step c.0 w c.1) ∷ past) cs (agrees_on m) ns.1 s h kind u)

  view_begun : (s : ℕ) → s < session_count → (kind : ℕ) → view st (sub_of s kind (begun st 0)) ≡ none_waits
  view_begun s h kind = ap (λ (x : Session). view st (sub_at kind x)) (get_or-replicate session_count s closed closed h)

  -- DEMAND 3, of every run of the model's calls after a start
  module _ (cs : List (Lent × Call)) (ns : NoStart (turns (begun st 0) cs)) (s : ℕ) (h : s < session_count) where
    begun_course : (kind : ℕ) → kind < length kinds → Course (room_of kind) 0 none_waits (marks st s kind [] (turns (begun st 0) cs))
    begun_course kind u = rw (view_begun s h kind) at (course_of (begun st 0) [] cs agrees_begun ns s h kind u)

    pub demand_3_of_runs : (kind : ℕ) → kind < length kinds → Demand3 (marks st s kind [] (turns (begun st 0) cs))
    demand_3_of_runs kind u = demand_3 (begun_course kind u)

    pub in_time_of_runs : (kind most : ℕ) → kind < length kinds → room_of kind ≡ up_to most
        → InTime most (marks st s kind [] (turns (begun st 0) cs))
    in_time_of_runs kind most u e = goes_out_in_time (rw e at (begun_course kind u))
