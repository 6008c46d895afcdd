-- 02, P2, OF THE PRODUCT: what a server fetches by its number is what was tightened.
use Prim.Native.Nat.{ℕ, suc, ◌+◌, ◌<◌}
use native.Mathlib.Nat.{add-zero}
use native.Mathlib.Numerals.{add-one}
use native.Mathlib.Omega.{arith}
use mathlib.Core.Path.{◌≡◌, refl, sym, ◌∙◌, ap}
use mathlib.Core.Bool.{Bool, true, false, cond, ◌&&◌, true≢false}
use mathlib.Core.List.{List, [], ◌∷◌, ◌++◌, append-nil}
use mathlib.Core.Option.{Option, none, some, map as option_map}
use lib.Dec.{eqb, eqb-suc-zero}
use lib.ListN.{length, take}
use lib.Seq.{take-take}
use borrow.Author.Tests.{eqb-true}
use Rattle.model.specs.Limits.{session_count, results_kept}
use Rattle.model.specs.Bytes.{is_digit, all}
use Rattle.model.specs.Records.{Settings, Tool, scanned, tightening, alarm}
use Rattle.model.specs.Runs.{empty_run, longer, Piece, Message, read_run}
use Rattle.model.specs.Messages.{number_asked, entry_of, error_of}
use Rattle.model.specs.Events.{Result, Event, identified, tightened, alarmed}
use Rattle.model.specs.Memory.{kept_with, asked_for}
use Rattle.model.specs.Sharing.{Shared, shared_with}
use Rattle.model.specs.Notices.{Subscription}
use Rattle.model.specs.Session.{Session, closed, opened, started, Emission, reply}
use Rattle.model.specs.Hearing.{identifier_heard, fetched, hear}
use Rattle.model.specs.Local.{Local, receives, elsewhere, step as session_step, receive, identifier_run, announces}
use Rattle.model.specs.World.{World, session_at, begun}
use Rattle.model.specs.Calls.{Call, Lent, does, refusal, answered, step}
use Rattle.model.specs.Sights.{Sight, sight, starts, reports, speaker}
use Rattle.model.proofs.Framed.{both, either}
use Rattle.model.proofs.Clean.{there}
use Rattle.model.proofs.Sights.{its_part, Sees, nothing, a_start, its_opening, its_hang_up, a_tick, its_bytes, coherent}
use Rattle.model.proofs.Sights.{Source, no_event, a_report, from_session, told}
use Rattle.controller.specs.Trace.{Made, Trace, History, lendings}
use Rattle.history.specs.Turns.{Turn, turn, turns, is_done, is_start, frames_in, frames_to, identifies}
use Rattle.history.specs.Past.{ended, message, started as is_started, identifier_event, spoken, call_event, event, shared}
use Rattle.history.specs.Demand.{past_after, NoStart}
use Rattle.history.specs.Product.{turns_of, Once, Meets}
use Rattle.history.specs.Exports.{Export, ExportHistory, OnceTold, CallsOf}
use Rattle.history.specs.Memory.{and_of, tightenings_in, Counted, last_ones, asks_well, frame_back, Fetches, FetchesAll, Remembers}
use Rattle.history.proofs.Sessions.{SessionRead, Like, longer_read}
use Rattle.history.proofs.Calls.{session_read, by_refusal}
use Rattle.history.proofs.Turns.{heard, goes, Agrees, moves, agrees_on, agrees_begun}
use Rattle.history.proofs.Product.{no_start, demand_3_of_the_product}
use Rattle.history.proofs.Exports.{once_made, demand_3_of_the_exports}

-- ==== what is kept are the last ones, and they are counted

take_first : (k : ℕ) (r : Result) (rs : List Result) → take (suc k) (r ∷ take (suc k) rs) ≡ take (suc k) (r ∷ rs)
take_first k r rs = ap (r ∷◌) (take-take k (suc k) rs (omega arith))

kept_last : (st : Settings) (past : List Turn) → (shared st past).kept ≡ last_ones st past
kept_last st [] = refl
kept_last st (x ∷ past) = go (event (shared st past) past x) (kept_last st past)
  where
    go : (o : Option Event) → (shared st past).kept ≡ last_ones st past
        → (shared_with (shared st past) o).kept ≡ take results_kept (and_of o (tightenings_in st past))
    go none e = e
    go (some (identified y)) e = e
    go (some (alarmed vs)) e = e
    go (some (tightened r)) e = ap (kept_with r) e ∙ take_first 63 r (tightenings_in st past)

-- what a tightening has that is an event: the next number
abbrev Next : Shared → Option Event → Type 0
Next g none = Unit {0}
Next g (some (identified y)) = Unit {0}
Next g (some (tightened r)) = r.number ≡ suc g.last
Next g (some (alarmed vs)) = Unit {0}

module _ (g : Shared) (past : List Turn) (x : Turn) where
  named_next : (o : Option Message) → Next g (identifier_event o)
  named_next none = tt
  named_next (some m) = tt

  spoken_next : (o : Option ℕ) → Next g (spoken past x o)
  spoken_next none = tt
  spoken_next (some t) =
      either (Next g) (identifies t x) (identifier_event (message t past x)) none (named_next (message t past x)) tt

  call_next : (o : Option Tool) → Next g (call_event g past x o)
  call_next none = spoken_next (speaker x.call)
  call_next (some (scanned y)) = tt
  call_next (some (tightening y t)) = add-one g.last
  call_next (some (alarm vs)) = tt

  event_next : Next g (event g past x)
  event_next = either (Next g) (is_done x) (call_event g past x (reports x.call)) none (call_next (reports x.call)) tt

counted_so : (st : Settings) (past : List Turn)
    → ((shared st past).last ≡ st.last + length (tightenings_in st past)) × Counted st.last (tightenings_in st past)
counted_so st [] = (sym (add-zero st.last), tt)
counted_so st (x ∷ past) = go (event (shared st past) past x) (event_next (shared st past) past x) (counted_so st past)
  where
    go : (o : Option Event) → Next (shared st past) o
        → ((shared st past).last ≡ st.last + length (tightenings_in st past)) × Counted st.last (tightenings_in st past)
        → let rs = and_of o (tightenings_in st past) in
        ((shared_with (shared st past) o).last ≡ st.last + length rs) × Counted st.last rs
    go none n h = h
    go (some (identified y)) n h = h
    go (some (alarmed vs)) n h = h
    go (some (tightened r)) n h =
        let e : r.number ≡ st.last + suc (length (tightenings_in st past)) = omega (arith, h.0) in (e, (e, h.1))

-- ==== a message that asks for one, to a session that is started

module _ (g : Shared) (subs : List Subscription) (m : Message) (h : asks_well m ≡ true) where
  abbrev asked : Option Result
  asked = asked_for (number_asked m.data_field) g.kept

  -- its reply, and it makes no identifier known
  abbrev Answered : Option Result → Type 0
  Answered o = ((hear g subs m).1 ≡ reply (frame_back o) ∷ []) × (identifier_heard g subs m ≡ none)

  answered_so : (o : Option Result) → asked ≡ o → Answered o
  unfolding error_of entry_of
  answered_so o e =
      let a = both (eqb m.mid 64 && eqb m.size 30 && eqb m.revision 1) (all is_digit m.data_field) h in
      let b = both (eqb m.mid 64 && eqb m.size 30) (eqb m.revision 1) a.0 in
      let c = both (eqb m.mid 64) (eqb m.size 30) b.0 in
      go (eqb-true m.mid 64 c.0) (eqb-true m.size 30 c.1) (eqb-true m.revision 1 b.1) a.1 o e
    where
      go : m.mid ≡ 64 → m.size ≡ 30 → m.revision ≡ 1 → all is_digit m.data_field ≡ true → (o : Option Result) → asked ≡ o → Answered o
      go mid size revision digits none e = rw (mid, size, revision, digits, e) (refl, refl)
      go mid size revision digits (some r) e = rw (mid, size, revision, digits, e) (ap fetched e, refl)

-- ==== what a session sees

module _ (g : Shared) (R : SessionRead) (x : Session) (like : Like R x) (is_on : R.started ≡ true) (m : Message)
    (h : asks_well m ≡ true) where
  -- what it is sent, and that those bytes make no identifier known
  abbrev Sent : Piece → List Emission → Type 0
  Sent p es =
      (es ≡ reply (frame_back (asked_for (number_asked m.data_field) g.kept)) ∷ []) × (announces g p x ≡ none)

  received_so : (p : Piece) → ended R.run (some p) ≡ some m → Sent p (session_step g (receives p) x).1
  received_so p e = go x like
    where
      go : (y : Session) → Like R y
          → ((session_step g (receives p) y).1 ≡ reply (frame_back (asked_for (number_asked m.data_field) g.kept)) ∷ [])
          × (announces g p y ≡ none)
      go closed l = absurd (true≢false (sym is_on ∙ l.0))
      go (opened i run) l = absurd (true≢false (sym is_on ∙ l.1))
      go (started i run subs) l = by_end p.ends e
        where
          by_end : (b : Bool) → cond b (read_run (longer empty_run (R.run ++ p.bytes))) none ≡ some m
              → ((receive g i (longer run p.bytes) subs b).1
              ≡ reply (frame_back (asked_for (number_asked m.data_field) g.kept)) ∷ [])
              × (cond b (identifier_run g subs (read_run (longer run p.bytes))) none ≡ none)
          by_end true q = rw (← longer_read R.run p.bytes run l.0, q) (answered_so g subs m h _ refl)
          by_end false q = absurd (there (sym q))

  seen_so : {z : Sight} {l : Local} → Sees z l → ended R.run z.given ≡ some m
      → (p : Piece) × (z.given ≡ some p) × Sent p (session_step g l x).1
  seen_so nothing e = absurd (there (sym e))
  seen_so a_start e = absurd (there (sym e))
  seen_so its_opening e = absurd (there (sym e))
  seen_so its_hang_up e = absurd (there (sym e))
  seen_so a_tick e = absurd (there (sym e))
  seen_so (its_bytes {p = p}) e = (p, refl, received_so p e)

-- ==== a call that is done, and no start

unheard : {z : Sight} → Sees z elsewhere → z.given ≡ none
unheard nothing = refl

module _ (w : World) (past : List Turn) (size : length w.sessions ≡ session_count)
    (like : (s : ℕ) → s < session_count → Like (session_read s past) (session_at w s))
    (l : Lent) (c : Call) (done : refusal l w c ≡ 0) (no_start : starts c ≡ false) where
  abbrev x : Turn
  x = turn c (answered w c 0)

  module _ (s : ℕ) (few : s < session_count) (p : Piece) (given : (sight s c).given ≡ some p)
      (quiet : announces w.shared p (session_at w s) ≡ none) where
    -- the call is no event: the session was given bytes, and they make nothing known
    no_news : (does w c).event ≡ none
    no_news = go (coherent l w c done).event
      where
        not_unseen : Sees (sight s c) elsewhere → ⊥
        not_unseen z = there (sym given ∙ unheard z)

        by : (t : ℕ) (q : Piece) (b : Bool) → eqb s t ≡ b → Sees (sight s c) (cond b (receives q) elsewhere)
            → announces w.shared q (session_at w t) ≡ none
        by t q true e z =
            let same : p ≡ q = let k = (heard z).0 in cc in rw (← eqb-true s t e, ← same) quiet
        by t q false e z = absurd (not_unseen z)

        go : Source w c → (does w c).event ≡ none
        go (no_event r sp ev) = ev
        go (a_report t r mom ev tk) = absurd (not_unseen (rw mom at ((coherent l w c done).sees s)))
        go (from_session t q r sp mom ev) =
            ev ∙ ap (option_map identified) (by t q (eqb s t) refl (rw mom at ((coherent l w c done).sees s)))

  done_fetches : (s : ℕ) → s < session_count → (m : Message) → is_started s past ≡ true → message s past x ≡ some m
      → asks_well m ≡ true
      → frames_to s x ≡ frame_back (asked_for (number_asked m.data_field) w.shared.kept) ∷ []
  done_fetches s few m on e h =
      let k = seen_so w.shared (session_read s past) (session_at w s) (like s few) on m h ((coherent l w c done).sees s) e in
      let n = no_news s few k.0 k.1 k.2.1 in
      let y = session_step w.shared (its_part s (does w c).moment) (session_at w s) in
      ap frames_in ((goes w past size like l c done no_start s few).1
      ∙ ap (λ (o : Option Event). y.1 ++ (told w.shared o y.0).1) n ∙ append-nil y.1 ∙ k.2.0)

-- ==== any call but a start that is done, and whole histories

module _ (st : Settings) (s : ℕ) (few : s < session_count) where
  fetches : (w : World) (past : List Turn) (l : Lent) (c : Call) → Agrees st w past → is_start (turn c (step l w c)) ≡ false
      → Fetches st s past (turn c (step l w c))
  fetches w past l c a ns m on e h =
      by_refusal l w c
      (λ q. is_start (turn c q) ≡ false → message s past (turn c q) ≡ some m
      → frames_to s (turn c q) ≡ frame_back (asked_for (number_asked m.data_field) (last_ones st past)) ∷ [])
      (λ d f k. done_fetches w past a.size a.like l c d f s few m on k h
      ∙ ap (λ (rs : List Result). frame_back (asked_for (number_asked m.data_field) rs) ∷ [])
      (ap (λ (g : Shared). g.kept) a.sharing ∙ kept_last st past))
      (λ n f k. absurd (there (sym (rw (eqb-suc-zero n) at k))))
      ns e

  fetches_all : (w : World) (past : List Turn) (cs : List (Lent × Call)) → Agrees st w past → NoStart (turns w cs)
      → FetchesAll st s past (turns w cs)
  fetches_all w past [] a ns = tt
  fetches_all w past (c ∷ cs) a ns = (
    fetches w past c.0 c.1 a ns.0,
    fetches_all (step c.0 w c.1).0 (turn c.1 (step c.0 w c.1) ∷ past) cs
        (agrees_on st (moves st w past c.0 c.1 a ns.0)) ns.1,
  )

-- WHAT IS FETCHED IS WHAT WAS TIGHTENED, of any calls that meet demand 3
remembers : {slice : List ℕ} {size : ℕ} {ms : List Made} → Meets slice size ms → Once ms → Remembers slice size ms
remembers {size = size} {ms = ms} m o =
    let st = m.settings in
    record {
      meets = m;
      counted = (counted_so st (past_after [] (turns_of st size ms))).1;
      fetches = λ s few. fetches_all st s few (begun st 0) [] (lendings size ms) (agrees_begun st) (no_start ms _ m.tells o);
    }

-- of every history of the calls, and of the six functions that C calls
pub old_results_of_the_product : {t t' : List ℕ} {ms : List Made} (h : History t ms t') → Once ms → Remembers h.settings (length t) ms
old_results_of_the_product h o = remembers (demand_3_of_the_product h o) o

pub old_results_of_the_exports : {t t' : List ℕ} {ps : List Export} (h : ExportHistory t ps t') → OnceTold ps
    → (ms : List Made) × CallsOf ps ms × Trace t ms t' × Remembers h.settings (length t) ms
old_results_of_the_exports {ps = ps} h o =
    let k = demand_3_of_the_exports h o in
    (k.0, k.1, k.2, remembers k.3 (once_made ps k.0 k.1 o))
