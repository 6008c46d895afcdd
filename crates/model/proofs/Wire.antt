-- What a call sends, whatever came before it: frames that a line server reads alike by their NUL and by their length, and at most one
-- reply, the first of them, to the session whose bytes completed the message that it answers. Each reads back.
use Prim.Native.Nat.{ℕ, zero, suc, ◌+◌, ◌≤◌}
use mathlib.Core.Path.{◌≡◌, refl, sym, ◌∙◌, subst}
use mathlib.Core.Bool.{Bool, false, cond}
use mathlib.Core.List.{List, [], ◌∷◌, ◌++◌}
use mathlib.Core.Option.{Option, none, some, map as option_map}
use native.Mathlib.Omega.{arith}
use lib.Dec.{eqb}
use lib.ListN.{replicate}
use borrow.Author.Tests.{eqb-false, eq-eqb}
use Rattle.model.specs.Limits.{session_count, number_greatest}
use Rattle.model.specs.Bytes.{is_space, all}
use Rattle.model.specs.Records.{Settings, read_settings, Tool, scanned, tightening, alarm, read_tool}
use Rattle.model.specs.Runs.{Piece, cut, Message}
use Rattle.model.specs.Events.{Event, identified, identifier_of}
use Rattle.model.specs.Sharing.{reported}
use Rattle.model.specs.Row.{Tagged, tag}
use Rattle.model.specs.Session.{Session, closed, Emission, reply}
use Rattle.model.specs.Local.{Local, opening, hang_up, receives, elsewhere, announces}
use Rattle.model.specs.World.{World, session_at, Change, no_change, by_event, by_start, Moment, to, begins, hears, ticks, happens}
use Rattle.model.specs.World.{begun, each, sessions_after, changed, next, emits, after, emitted}
use Rattle.model.specs.Calls.{Call, start, open_session, hang_up_session, bytes, one_tick, tool, Lent, refusal}
use Rattle.model.specs.Calls.{is_none, is_tightening, at_most_one, happening, moments, answered, step}
use Rattle.model.specs.Sights.{sight}
use Rattle.model.specs.Wire.{Every, Framed, Answers}
use Rattle.model.specs.FieldsRead.{ReplyReads}
use Rattle.model.proofs.Framed.{every_append, every_at, IfAny, either, Identifier, identifier_spaces, CleanSettings, CleanResult}
use Rattle.model.proofs.Framed.{CleanEvent}
use Rattle.model.proofs.Legible.{identified_clean, tightened_clean, alarmed_clean}
use Rattle.model.proofs.Clean.{clean_start, CleanTool, clean_tool, nul_cut, there}
use Rattle.model.proofs.Sent.{Follows, Says, quiet, answers, row_every, said_every, CleanSession, CleanLocal, completes, heard}
use Rattle.model.proofs.Sent.{tag_every, step_clean, announces_clean}
use Rattle.model.proofs.Refusals.{past, done}
use Rattle.model.proofs.InTurn.{either_emits}

-- ==== the world, and a moment

pub record CleanWorld (w : World) : Type 0 where
  pub settings : CleanSettings w.shared.settings
  pub in_force : Identifier w.shared.in_force
  pub last : w.shared.last ≤ number_greatest
  pub kept : Every CleanResult w.shared.kept
  pub sessions : Every CleanSession w.sessions

abbrev CleanChange : Change → Type 0
CleanChange no_change = Unit {0}
CleanChange (by_event e) = CleanEvent e
CleanChange (by_start st) = CleanSettings st

record CleanMoment (m : Moment) : Type 0 where
  pub sees : (s : ℕ) → CleanLocal (m.sees s)
  pub leaves : CleanChange m.leaves

to_clean : (s : ℕ) (l : Local) → CleanLocal l → CleanMoment (to s l)
to_clean s l c = record { sees = λ t. either CleanLocal (eqb t s) l elsewhere c tt; leaves = tt }

-- closed sessions, as a start leaves them
closed_clean : (n : ℕ) → Every CleanSession (replicate n closed)
closed_clean zero = tt
closed_clean (suc n) = (tt, closed_clean n)

pub begun_clean : (st : Settings) (events : ℕ) → CleanSettings st → CleanWorld (begun st events)
begun_clean st events h =
    record { settings = h; in_force = identifier_spaces; last = h.last; kept = tt; sessions = closed_clean session_count }

next_clean : (w : World) → CleanWorld w → (m : Moment) → CleanMoment m → CleanWorld (next w m)
next_clean w h m c = go m.leaves c.leaves
  where
    sessions : Every CleanSession (sessions_after w m)
    sessions =
        row_every (each w m) CleanSession (λ s x k. (step_clean w.shared h.settings h.kept (m.sees s) x (c.sees s) k).0)
        0 w.sessions h.sessions

    go : (l : Change) → CleanChange l → CleanWorld (record { shared = changed w.shared l; sessions = sessions_after w m })
    go no_change k =
        record { settings = h.settings; in_force = h.in_force; last = h.last; kept = h.kept; sessions = sessions }
    go (by_event e) k = record {
      settings = h.settings;
      in_force = k.in_force w.shared.in_force h.in_force;
      last = k.last w.shared.last h.last;
      kept = k.kept w.shared.kept h.kept;
      sessions = sessions;
    }
    go (by_start st) k = record { settings = k; in_force = identifier_spaces; last = k.last; kept = tt; sessions = sessions }

-- ==== what goes out, by session

-- copies of notices and orders to close
abbrev pub Silent : Settings → List (Tagged Emission) → Type 0
Silent st es = Every (λ t. Follows st t.what) es

-- to whom no message is heard, no reply goes
unheard : {st : Settings} {o : Option Message} {es : List Emission} → o ≡ none → Says st o es → Every (Follows st) es
unheard n (quiet h) = h
unheard n (answers e a f b h) = absurd (there (sym e ∙ n))

-- a moment of which no session hears a message
abbrev Unheard : Moment → Type 0
Unheard m = (s : ℕ) (x : Session) → heard (m.sees s) x ≡ none

to_unheard : (s : ℕ) (l : Local) → ((x : Session) → heard l x ≡ none) → Unheard (to s l)
to_unheard s l h t x = either (λ i. heard i x ≡ none) (eqb t s) l elsewhere (h x) refl

-- ==== moments one after another

after_clean : (w : World) (ms : List Moment) → CleanWorld w → Every CleanMoment ms → CleanWorld (after w ms)
after_clean w [] h c = h
after_clean w (m ∷ ms) h c = after_clean (next w m) ms (next_clean w h m c.0) c.1

-- one that none hears
one_silent : (w : World) → CleanWorld w → (m : Moment) → CleanMoment m → Unheard m
    → Every CleanMoment (m ∷ []) × Silent w.shared.settings (emitted w (m ∷ []))
one_silent w h m c u =
    let st = w.shared.settings in (
      (c, tt),
      every_append (λ t. Follows st t.what) (emits w m) []
          (said_every (each w m) CleanSession (Follows st)
          (λ s x k. unheard (u s x) (step_clean w.shared h.settings h.kept (m.sees s) x (c.sees s) k).1) 0 w.sessions
          h.sessions)
          tt,
    )

-- ==== the moments of a call: settings, tool records and identifiers over the net are tested before they come in

happening_silent : (w : World) → CleanWorld w → (o : Option Event) → IfAny CleanEvent o
    → Every CleanMoment (happening o) × Silent w.shared.settings (emitted w (happening o))
happening_silent w h none k = (tt, tt)
happening_silent w h (some e) k = one_silent w h (happens e) (record { sees = λ s. k; leaves = k }) (λ s x. refl)

told_clean : (o : Option (List ℕ)) → IfAny Identifier o → IfAny CleanEvent (option_map identified o)
told_clean none h = tt
told_clean (some x) h = identified_clean x h

-- (a tightening is refused where the last number is reached)
abbrev reaches_last : World → Option Tool → Bool
reaches_last w o = cond (is_tightening o) (eqb w.shared.last number_greatest) false

reported_clean : (w : World) (o : Option Tool) → CleanWorld w → IfAny CleanTool o → reaches_last w o ≡ false
    → IfAny CleanEvent (option_map (reported w.shared) o)
reported_clean w none h c e = tt
reported_clean w (some (scanned x)) h c e = identified_clean x c
reported_clean w (some (alarm vs)) h c e = alarmed_clean vs c.0 c.1
reported_clean w (some (tightening x t)) h c e =
    let last = h.last in
    tightened_clean (record { number = w.shared.last + 1; identifier = identifier_of x w.shared.in_force; tightening = t })
    (either Identifier (all is_space x) w.shared.in_force x h.in_force c.0) c.1 c.2
    (omega (arith, eqb-false w.shared.last number_greatest e))

not_last : (l : Lent) (w : World) (slice : List ℕ) → refusal l w (tool slice) ≡ 0 → reaches_last w (read_tool slice) ≡ false
not_last l w slice e =
    (past (reaches_last w (read_tool slice)) 7 0 (past (is_none (read_tool slice)) 6 _ (done l w (tool slice) e).1).1).0

-- ==== a call

-- the message that a call completes of session s
abbrev pub completes_given : Session → Option Piece → Option Message
completes_given x none = none
completes_given x (some p) = completes x p

abbrev pub completed : World → Call → ℕ → Option Message
completed w c s = completes_given (session_at w s) (sight s c).given

-- copies of notices and orders to close, and before them a reply, if there is one, to the session of which the call completes a message
pub data Sends (w : World) (c : Call) : List (Tagged Emission) → Type 0 where
  none_replies : {es : List (Tagged Emission)} → Silent w.shared.settings es → Sends w c es
  replies : {s : ℕ} {m : Message} {frame : List ℕ} {es : List (Tagged Emission)} → completed w c s ≡ some m → Answers m frame
      → Framed frame → ReplyReads w.shared.settings m frame → Silent w.shared.settings es
      → Sends w c (record { who = s; what = reply frame } ∷ es)

-- what goes out to one session, and after it what is silent
sends_to : {w : World} {c : Call} (s : ℕ) {o : Option Message} {es : List Emission} (more : List (Tagged Emission))
    → Says w.shared.settings o es → completed w c s ≡ o → Silent w.shared.settings more → Sends w c (tag s es ++ more)
sends_to s more (quiet {es = es} h) e k = none_replies (every_append (λ t. Follows _ t.what) (tag s es) more (tag_every _ s es h) k)
sends_to s more (answers {es = es} f a b r h) e k =
    replies (e ∙ f) a b r (every_append (λ t. Follows _ t.what) (tag s es) more (tag_every _ s es h) k)

module _ (w : World) (h : CleanWorld w) where
  one_sends : (c : Call) (m : Moment) → CleanMoment m → Unheard m → Every CleanMoment (m ∷ []) × Sends w c (emitted w (m ∷ []))
  one_sends c m k u = let q = one_silent w h m k u in (q.0, none_replies q.1)

  hears_sends : (s : ℕ) (bs : List ℕ) (o : Option Event) → IfAny CleanEvent o
      → let m = hears s (cut bs) in Every CleanMoment (m ∷ happening o) × Sends w (bytes s bs) (emitted w (m ∷ happening o))
  hears_sends s bs o k =
      let c = bytes s bs in
      let m = hears s (cut bs) in
      let clean = to_clean s (receives (cut bs)) (nul_cut bs) in
      let more = emitted (next w m) (happening o) in
      let news = happening_silent (next w m) (next_clean w h m clean) o k in
      let x = session_at w s in
      let said = (step_clean w.shared h.settings h.kept (receives (cut bs)) x (nul_cut bs)
      (every_at CleanSession w.sessions s closed tt h.sessions)).1 in (
        (clean, news.0),
        either_emits w s (receives (cut bs)) (λ es. Sends w c (es ++ more)) (none_replies news.1)
            (sends_to s more said (rw (eq-eqb s s refl)) news.1),
      )

  -- whatever the call, if it is not refused: its moments are clean, and so is what they send
  done_sends : (l : Lent) (c : Call) → refusal l w c ≡ 0 → Every CleanMoment (moments w c) × Sends w c (emitted w (moments w c))
  done_sends l (start slice) e = go (read_settings slice) (clean_start slice)
    where
      go : (o : Option Settings) → IfAny CleanSettings o
          → let ms = at_most_one (option_map begins o) ++ [] in Every CleanMoment ms × Sends w (start slice) (emitted w ms)
      go none k = (tt, none_replies tt)
      go (some st) k = one_sends (start slice) (begins st) (record { sees = λ s. tt; leaves = k }) (λ s x. refl)
  done_sends l (open_session s) e =
      one_sends (open_session s) (to s opening) (to_clean s opening tt) (to_unheard s opening (λ x. refl))
  done_sends l (hang_up_session s) e =
      one_sends (hang_up_session s) (to s hang_up) (to_clean s hang_up tt) (to_unheard s hang_up (λ x. refl))
  done_sends l (bytes s bs) e =
      let x = session_at w s in
      hears_sends s bs (option_map identified (announces w.shared (cut bs) x))
      (told_clean (announces w.shared (cut bs) x)
      (announces_clean w.shared h.settings h.kept (cut bs) x (nul_cut bs)
      (every_at CleanSession w.sessions s closed tt h.sessions)))
  done_sends l one_tick e = one_sends one_tick ticks (record { sees = λ s. tt; leaves = tt }) (λ s x. refl)
  done_sends l (tool slice) e =
      let o = option_map (reported w.shared) (read_tool slice) in
      let q = happening_silent w h o (reported_clean w (read_tool slice) h (clean_tool slice) (not_last l w slice e)) in
      (q.0, none_replies q.1)

-- A CALL leaves a clean world, and sends frames only that are read alike by NUL and by length, a reply first
pub step_sends : (l : Lent) (w : World) (c : Call) → CleanWorld w → CleanWorld (step l w c).0 × Sends w c (step l w c).2
unfolding step
step_sends l w c h = go (refusal l w c) refl
  where
    go : (n : ℕ) → refusal l w c ≡ n → CleanWorld (answered w c n).0 × Sends w c (answered w c n).2
    go zero e = let d = done_sends w h l c e in (after_clean w (moments w c) h d.0, d.1)
    go (suc n) e = (h, none_replies tt)

-- what a start takes is clean
pub settings_clean : {st : Settings} (slice : List ℕ) → read_settings slice ≡ some st → CleanSettings st
settings_clean slice e = subst (IfAny CleanSettings) e (clean_start slice)
