-- What a call is to a session, by the table of sights, is what the call does: what the session sees of its moment, and the event that it
-- is. So a call goes for a session.
use Prim.Native.Nat.{ℕ, ◌<◌}
use mathlib.Core.Path.{◌≡◌, refl, sym, ◌∙◌, ap}
use mathlib.Core.Bool.{Bool, true, false, not, cond, true≢false}
use mathlib.Core.List.{List, [], ◌++◌, append-nil}
use mathlib.Core.Option.{Option, none, some, map as option_map}
use lib.Dec.{leb, eqb}
use lib.ListN.{length}
use borrow.Author.Tests.{eqb-true, leb-false, not-false}
use Rattle.model.specs.Limits.{session_count}
use Rattle.model.specs.Records.{Settings, read_settings, Tool, read_tool}
use Rattle.model.specs.Runs.{Piece, cut}
use Rattle.model.specs.Events.{Event, identified}
use Rattle.model.specs.Sharing.{Shared, shared_with, reported}
use Rattle.model.specs.Row.{pick}
use Rattle.model.specs.Session.{Session, is_closed, Emission}
use Rattle.model.specs.Local.{Local, opening, hang_up, receives, tick, event, elsewhere, step, announces}
use Rattle.model.specs.World.{World, session_at, Moment, begins, hears, after, emitted}
use Rattle.model.specs.Calls.{Call, start, open_session, hang_up_session, bytes, one_tick, tool, Lent, is_none, taken_by, does}
use Rattle.model.specs.Calls.{refusal, at_most_one, happening}
use Rattle.model.specs.Own.{seen_of, lived}
use Rattle.model.specs.Sights.{Sight, sighted, sight, starts, reports, speaker}
use Rattle.model.proofs.Refusals.{past, done}
use Rattle.model.proofs.Lived.{length_after, lives}
use Rattle.model.proofs.Clean.{there}

-- ==== what a session sees of the moment of a call

abbrev pub its_part : ℕ → Option Moment → Local
its_part s none = elsewhere
its_part s (some m) = m.sees s

-- one thing at most, and the sight says which
pub data Sees : Sight → Local → Type 0 where
  nothing : {o : Bool} {r : Option Tool} {t : Option ℕ} → Sees (sighted o false false false false none r t) elsewhere
  a_start : {o : Bool} {r : Option Tool} {t : Option ℕ} → Sees (sighted o true false false false none r t) hang_up
  its_opening : {o : Bool} {r : Option Tool} {t : Option ℕ} → Sees (sighted o false true false false none r t) opening
  its_hang_up : {o : Bool} {r : Option Tool} {t : Option ℕ} → Sees (sighted o false false true false none r t) hang_up
  a_tick : {o : Bool} {r : Option Tool} {t : Option ℕ} → Sees (sighted o false false false true none r t) tick
  its_bytes : {o : Bool} {p : Piece} {r : Option Tool} {t : Option ℕ}
      → Sees (sighted o false false false false (some p) r t) (receives p)

-- only bytes are given
pub given_by : (s : ℕ) (c : Call) (p : Piece) → (sight s c).given ≡ some p → (bs : List ℕ) × (c ≡ bytes s bs) × (p ≡ cut bs)
given_by s (start slice) p e = absurd (there (sym e))
given_by s (open_session t) p e = absurd (there (sym e))
given_by s (hang_up_session t) p e = absurd (there (sym e))
given_by s (bytes t bs) p e = go (eqb s t) refl e
  where
    go : (b : Bool) → eqb s t ≡ b → cond b (some (cut bs)) none ≡ some p → (cs : List ℕ) × (bytes t bs ≡ bytes s cs) × (p ≡ cut cs)
    go true q h = (bs, ap (λ (n : ℕ). bytes n bs) (sym (eqb-true s t q)), cc)
    go false q h = absurd (there (sym h))
given_by s one_tick p e = absurd (there (sym e))
given_by s (tool slice) p e = absurd (there (sym e))

-- ==== the event that a call is

pub data Source (w : World) (c : Call) : Type 0 where
  no_event : reports c ≡ none → speaker c ≡ none → (does w c).event ≡ none → Source w c
  -- the tool's report: no moment comes before it, and the answer says who takes it
  a_report : (r : Tool) → reports c ≡ some r → (does w c).moment ≡ none → (does w c).event ≡ some (reported w.shared r)
      → (does w c).taken ≡ taken_by w.sessions (some (reported w.shared r)) → Source w c
  -- the identifier that a session's bytes make known
  from_session : (t : ℕ) (p : Piece) → reports c ≡ none → speaker c ≡ some t → (does w c).moment ≡ some (hears t p)
      → (does w c).event ≡ option_map identified (announces w.shared p (session_at w t)) → Source w c

-- ==== the two tables of calls go together: what is asked of a row, of a call that is done

pub record Coherent (w : World) (c : Call) : Type 0 where
  pub sees : (s : ℕ) → Sees (sight s c) (its_part s (does w c).moment)
  -- what is opened was closed
  pub opens : (s : ℕ) → (sight s c).opens ≡ true → is_closed (session_at w s) ≡ true
  -- its event; and who speaks is a session
  pub event : Source w c
  pub speaks : (t : ℕ) → speaker c ≡ some t → t < session_count
  -- a start is one for every session, and what is none leaves all what they share
  pub alike : (s : ℕ) → (sight s c).starts ≡ starts c
  pub leaves : starts c ≡ false → (after w (at_most_one (does w c).moment)).shared ≡ w.shared

module _ (l : Lent) (w : World) where
  -- a call that opens nothing, and by which nobody speaks
  silent : (c : Call) → ((s : ℕ) → Sees (sight s c) (its_part s (does w c).moment)) → ((s : ℕ) → (sight s c).opens ≡ false)
      → Source w c → speaker c ≡ none → ((s : ℕ) → (sight s c).starts ≡ starts c)
      → (starts c ≡ false → (after w (at_most_one (does w c).moment)).shared ≡ w.shared) → Coherent w c
  silent c sees shut source none_speaks alike leaves = record {
    sees = sees;
    opens = λ s e. absurd (true≢false (sym e ∙ shut s));
    event = source;
    speaks = λ t e. absurd (there (sym e ∙ none_speaks));
    alike = alike;
    leaves = leaves;
  }

  pub coherent : (c : Call) → refusal l w c ≡ 0 → Coherent w c
  coherent (start slice) h =
      silent (start slice) (λ s. go s (read_settings slice) (past (is_none (read_settings slice)) 8 0 (done l w (start slice) h).1).0)
      (λ s. refl) (no_event refl refl refl) refl (λ s. refl) (λ e. absurd (true≢false e))
    where
      go : (s : ℕ) (o : Option Settings) → is_none o ≡ false → Sees (sight s (start slice)) (its_part s (option_map begins o))
      go s none e = absurd (true≢false e)
      go s (some st) e = a_start
  coherent (open_session t) h = record {
    sees = λ s. go (eqb s t);
    opens = λ s e.
        rw (eqb-true s t e)
        (not-false (is_closed (session_at w t))
        (past (not (is_closed (session_at w t))) 5 0 (past (leb session_count t) 3 _ (done l w (open_session t) h).1).1).0);
    event = no_event refl refl refl;
    speaks = λ s e. absurd (there (sym e));
    alike = λ s. refl;
    leaves = λ e. refl;
  }
    where
      go : (b : Bool) → Sees (sighted b false b false false none none none) (cond b opening elsewhere)
      go true = its_opening
      go false = nothing
  coherent (hang_up_session t) h =
      silent (hang_up_session t) (λ s. go (eqb s t)) (λ s. refl) (no_event refl refl refl) refl (λ s. refl) (λ e. refl)
    where
      go : (b : Bool) → Sees (sighted b false false b false none none none) (cond b hang_up elsewhere)
      go true = its_hang_up
      go false = nothing
  coherent (bytes t bs) h = record {
    sees = λ s. go (eqb s t);
    opens = λ s e. absurd (true≢false (sym e));
    event = from_session t (cut bs) refl refl refl refl;
    speaks = λ s e.
        let q : t ≡ s = cc in
        rw (← q) (leb-false session_count t (past (leb session_count t) 3 _ (done l w (bytes t bs) h).1).0);
    alike = λ s. refl;
    leaves = λ e. refl;
  }
    where
      go : (b : Bool)
          → Sees (sighted b false false false false (cond b (some (cut bs)) none) none (some t)) (cond b (receives (cut bs)) elsewhere)
      go true = its_bytes
      go false = nothing
  coherent one_tick h = silent one_tick (λ s. a_tick) (λ s. refl) (no_event refl refl refl) refl (λ s. refl) (λ e. refl)
  coherent (tool slice) h = silent (tool slice) (λ s. nothing) (λ s. refl) (go (read_tool slice) refl) refl (λ s. refl) (λ e. refl)
    where
      go : (o : Option Tool) → read_tool slice ≡ o → Source w (tool slice)
      go none e = no_event e refl (rw e)
      go (some r) e = a_report r e refl (rw e) (rw e)

-- ==== SO A CALL GOES FOR SESSION s: its own step, by what it sees of the moment, and then the event

abbrev pub told : Shared → Option Event → Session → Session × List Emission
told g none x = (x, [])
told g (some e) x = step g (event e) x

module _ (w : World) (s : ℕ) (h : s < length w.sessions) where
  abbrev pub first_of : Option Moment → Session × List Emission
  first_of o = step w.shared (its_part s o) (session_at w s)

  abbrev pub then_of : Option Moment → Option Event → Session × List Emission
  then_of o e = told (after w (at_most_one o)).shared e (first_of o).0

  pub goes_to : (o : Option Moment) (e : Option Event) → let ms = at_most_one o ++ happening e in
      (session_at (after w ms) s ≡ (then_of o e).0) × (pick s (emitted w ms) ≡ (first_of o).1 ++ (then_of o e).1)
  goes_to o e =
      let q = lives s w h (at_most_one o ++ happening e) ∙ both_of o e in
      (ap (λ (r : Session × List Emission). r.0) q, ap (λ (r : Session × List Emission). r.1) q)
    where
      both_of : (o : Option Moment) (e : Option Event)
          → lived w.shared (session_at w s) (seen_of s (at_most_one o ++ happening e))
          ≡ ((then_of o e).0, (first_of o).1 ++ (then_of o e).1)
      both_of none none = refl
      both_of none (some e) = simp append-nil
      both_of (some m) none = refl
      both_of (some m) (some e) = simp append-nil

module _ (w : World) where
  pub after_length : (o : Option Moment) (e : Option Event)
      → length (after w (at_most_one o ++ happening e)).sessions ≡ length w.sessions
  after_length o e = length_after w (at_most_one o ++ happening e)

  pub after_shared : (o : Option Moment) (e : Option Event)
      → (after w (at_most_one o ++ happening e)).shared ≡ shared_with (after w (at_most_one o)).shared e
  after_shared none none = refl
  after_shared none (some e) = refl
  after_shared (some m) none = refl
  after_shared (some m) (some e) = refl
