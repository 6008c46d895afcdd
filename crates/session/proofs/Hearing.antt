-- What a run does to a session by value is what the model has it do, whatever subscriptions the session has.
use mathlib.Core.Path.{◌≡◌, refl, sym, ◌∙◌, ap}
use mathlib.Core.Bool.{Bool, true, false, cond}
use mathlib.Core.List.{List, [], ◌∷◌, ◌++◌, map, append-nil}
use mathlib.Core.Option.{Option as Maybe, none, some}
use Rattle.std.specs.Prelude.{Some, None}
use Prim.Native.Nat.{ℕ, suc}
use lib.Dec.{ltb, eqb}
use lib.ListN.{length, take, drop}
use borrow.Author.Tests.{eqb-true, ltb-true}
use Rattle.model.specs.Limits.{header_length}
use Rattle.model.specs.Records.{Settings}
use Rattle.model.specs.Runs.{Run, empty_run, longer, Piece, message_of, is_message, read_run}
use Rattle.model.specs.Runs as runs
use Rattle.model.specs.Kinds.{kinds}
use Rattle.model.specs.Named.{place_of, named}
use Rattle.model.proofs.Named.{place_named}
use Rattle.model.proofs.Clean.{entry_at}
use Rattle.model.specs.Messages as model
use Rattle.model.specs.Messages.{Entry, entry_of, starts, stops, identifies, subscribes, unsubscribes, acknowledges, fetches, mirrors}
use Rattle.model.specs.Messages.{gets_reply, number_asked, code, error_of}
use Rattle.model.specs.Memory.{numbered}
use Rattle.model.specs.Frames.{frame_0004}
use Rattle.model.specs.Notices.{Subscription, nothing}
use Rattle.model.specs.Session as sessions
use Rattle.model.specs.Session.{closed, opened, started, no_subscriptions, Emission, reply, copy, deal, only}
use Rattle.model.specs.Row.{row, said}
use Rattle.model.specs.Hearing.{started_standing, opened_standing, message_error, fetched, carry_out, judged, begin, identifier_told}
use Rattle.model.specs.Hearing.{identifier_judged}
use Rattle.model.specs.Local.{end_run, end_run_opened, receives, step, identifier_run, announces}
use Rattle.model.specs.Sharing.{Shared}
use Rattle.message.specs.Meaning.{meant, Remembers, standing_of, effect_listed, error_number}
use Rattle.message.specs.declared.Common.{Common}
use Rattle.message.specs.declared.Standing.{Standing}
use Rattle.frame.specs.Header.{shown, header_of}
use Rattle.session.specs.Meaning.{session_as}
use Rattle.session.specs.Control.{session}
use Rattle.session.specs.Decisions.{begun, replied, start, no_error, accepted, decided_started, decision}
use Rattle.session.specs.Effects.{standing_in, decision_on, carried_out, announced}
use Rattle.session.specs.declared.Phase.{Phase}
use Rattle.session.specs.declared.Phase.TheVariants.{Closed, Opened, Started}
use Rattle.session.specs.declared.Session.{Session}
use Rattle.session.specs.declared.Reply.TheVariants.{Error}
use Rattle.session.specs.declared.Decision.{Decision}

-- ==== where nothing is done to any kind, the subscriptions are as they were, and nothing is sent

module _ (st : Settings) where
  pub row_still : (i : ℕ) (subs : List Subscription) → row (deal st (λ kind. nothing)) i subs ≡ subs
  row_still i [] = refl
  row_still i (s ∷ subs) = rw (row_still (suc i) subs)

  pub said_still : (i : ℕ) (subs : List Subscription) → said (deal st (λ kind. nothing)) i subs ≡ []
  said_still i [] = refl
  said_still i (s ∷ subs) = said_still (suc i) subs

module _ (st : Settings) (p : Phase) (idle : ℕ) (subs : List Subscription) where
  -- so the session is as it is named, and sends what is said besides
  alone : (es : List Emission)
      → ◌≡◌ {A = sessions.Session × List Emission} (session_as p idle empty_run subs, es ++ [])
      (session_as p idle empty_run (row (deal st (λ kind. nothing)) 0 subs), es ++ map copy (said (deal st (λ kind. nothing)) 0 subs))
  alone es = rw (row_still st 0 subs, said_still st 0 subs)

-- ==== what is to be shown: the model does what the decision does, and tells of the identifier that the decision makes known

abbrev Right : Shared → List ℕ → List ℕ → List Subscription → sessions.Session × List Emission → Maybe (List ℕ) → Decision → Type 0
Right g header field subs did told d = (did ≡ carried_out g header d subs) × (told ≡ announced d.identifies field)

-- ==== the kinds that the table of messages names are those that there are, by one computed test

abbrev kind_known : model.Effect → Bool
kind_known starts = true
kind_known stops = true
kind_known (identifies n) = true
kind_known (subscribes kind n) = ltb kind (length kinds)
kind_known (unsubscribes kind n) = ltb kind (length kinds)
kind_known (acknowledges kind) = ltb kind (length kinds)
kind_known (fetches n) = true
kind_known mirrors = true

named_known : (kind : ℕ) → ltb kind (length kinds) ≡ true → place_of (named kind) ≡ kind
named_known kind known = place_named kind (ltb-true kind (length kinds) known)

-- ==== to one that is started

module _ (g : Shared) (x : Common) (remembers : Remembers x g.kept) (m : runs.Message) (subs : List Subscription) where
  abbrev st : Settings
  st = g.settings

  abbrev number : ℕ
  number = meant x (number_asked m.data_field)

  by_effect : (e : model.Effect) → kind_known e ≡ true → Right g m.header m.data_field subs (carry_out g subs m e) (identifier_told m e)
      (accepted m.mid m.revision m.no_acknowledge number (some e))
  by_effect starts known = (alone st Started 0 subs [], refl)
  by_effect stops known = (alone st Opened 0 subs (_ ∷ []), refl)
  by_effect (identifies n) known = (alone st Started 0 subs (_ ∷ []), refl)
  by_effect (subscribes kind n) known = rw (named_known kind known) (refl, refl)
  by_effect (unsubscribes kind n) known = rw (named_known kind known) (refl, refl)
  by_effect (acknowledges kind) known = rw (named_known kind known) (refl, refl)
  by_effect (fetches n) known =
      let o = numbered number g.kept in
      let said = ap fetched (remembers.asked_for (number_asked m.data_field)) ∙ sym (append-nil (fetched o)) in
      (ap (λ es. (started 0 empty_run subs, es)) said ∙ alone st Started 0 subs (fetched o), refl)
  by_effect mirrors known = (alone st Started 0 subs (_ ∷ []), refl)

  by_answer : (n : ℕ) (answers : Bool)
      → (started 0 empty_run subs, cond answers (reply (frame_0004 m.mid n) ∷ []) [])
      ≡ carried_out g m.header (replied (cond answers (Some (Error m.mid n)) None) begun) subs
  by_answer n true = alone st Started 0 subs (_ ∷ [])
  by_answer n false = alone st Started 0 subs []

  by_error : (entry : Maybe Entry) → entry_of m.mid ≡ entry → (error : Maybe model.Error)
      → Right g m.header m.data_field subs (judged g subs m entry error) (identifier_judged m entry error)
      (decided_started m.mid m.revision m.no_acknowledge number (effect_listed entry) error)
  by_error none q none = (alone st Started 0 subs [], refl)
  by_error none q (some error) = (alone st Started 0 subs (_ ∷ []), refl)
  by_error (some e) q none = by_effect e.effect (entry_at (λ e. kind_known e.effect) refl m.mid e q).1
  by_error (some e) q (some error) = (by_answer (code error) (gets_reply e.effect), refl)

-- ==== to one that is not started

-- of 0001 the tests look only at whether the session is started
same_error : (s s' : model.Standing) (mid size revision : ℕ) (bs : List ℕ) → s.started ≡ false → s'.started ≡ false → mid ≡ 1
    → error_of s mid size revision bs ≡ error_of s' mid size revision bs
unfolding error_of entry_of
same_error s s' mid size revision bs p q e = rw (e, p, q)

module _ (g : Shared) (m : runs.Message) (idle : ℕ) (subs : List Subscription) where
  abbrev x : Session
  x = session Opened idle

  begins : (error : Maybe model.Error) → Right g m.header m.data_field subs (begin g idle m error) none
      (cond (no_error error) start (replied (Some (Error m.mid (error_number error))) x))
  begins none = (alone g.settings Started 0 no_subscriptions (_ ∷ []), refl)
  begins (some error) = (alone g.settings Opened idle subs (_ ∷ []), refl)

  module _ (s : model.Standing) (unstarted : s.started ≡ false) where
    abbrev found : Maybe model.Error
    found = error_of s m.mid m.size m.revision m.data_field

    by_mid : (b : Bool) → eqb m.mid 1 ≡ b → Right g m.header m.data_field subs
        (cond b (begin g idle m (message_error (opened_standing g) m)) (opened idle empty_run, [])) none
        (cond b (cond (no_error found) start (replied (Some (Error m.mid (error_number found))) x)) (replied None x))
    by_mid false e = (alone g.settings Opened idle subs [], refl)
    by_mid true e =
        rw (same_error (opened_standing g) s m.mid m.size m.revision m.data_field refl unstarted
        (eqb-true m.mid 1 e)) (begins found)

-- ==== a run at its end

module _ (g : Shared) (idle : ℕ) (subs : List Subscription) (standing : Standing) (r : Run) where
  abbrev read_if : Bool → Maybe runs.Message
  read_if b = cond b (some (message_of r)) none

  abbrev Ends : Phase → Bool → sessions.Session × List Emission → Maybe (List ℕ) → Type 0
  Ends p b did told =
      let field = drop header_length r.kept in
      Right g (take header_length r.kept) field subs did told (decision (session p idle) standing (shown (read_if b)) field)

  started_run : standing_of standing ≡ standing_in g Started subs → Remembers standing.common g.kept → (b : Bool)
      → Ends Started b (end_run g idle subs (read_if b)) (identifier_run g subs (read_if b))
  unfolding decision
  started_run stands remembers false = (alone g.settings Started idle subs [], refl)
  started_run stands remembers true =
      rw stands (by_error g standing.common remembers (message_of r) subs (entry_of (message_of r).mid) refl
      (message_error (started_standing g subs) (message_of r)))

  opened_run : standing_of standing ≡ standing_in g Opened subs → (b : Bool)
      → Ends Opened b (end_run_opened g idle (read_if b)) none
  unfolding decision
  opened_run stands false = (alone g.settings Opened idle subs [], refl)
  opened_run stands true =
      let m = message_of r in
      by_mid g m idle subs (standing_of standing) (ap (λ (s : model.Standing). s.started) stands) (eqb m.mid 1) refl

  closed_run : (b : Bool) → Ends Closed b (closed, []) none
  unfolding decision
  closed_run false = (alone g.settings Closed idle subs [], refl)
  closed_run true = (alone g.settings Closed idle subs [], refl)

module _ (g : Shared) (run : Run) (subs : List Subscription) (piece : Piece) (ends : piece.ends ≡ true) (standing : Standing)
    (remembers : Remembers standing.common g.kept) where
  abbrev whole : Run
  whole = longer run piece.bytes

  hears : (p : Phase) (idle : ℕ) → standing_of standing ≡ standing_in g p subs
      → Right g (take header_length whole.kept) (drop header_length whole.kept) subs
      (step g (receives piece) (session_as p idle run subs))
      (announces g piece (session_as p idle run subs)) (decision_on (session p idle) standing whole)
  unfolding header_of read_run
  hears Closed idle stands = closed_run g idle subs standing whole (is_message whole)
  hears Opened idle stands = rw ends (opened_run g idle subs standing whole stands (is_message whole))
  hears Started idle stands = rw ends (started_run g idle subs standing whole stands remembers (is_message whole))

  module _ (x : Session) (stands : standing_of standing ≡ standing_in g x.phase subs) where
    -- bytes that end a run do what `session::decide` decides on it
    pub decide_right : step g (receives piece) (session_as x.phase x.idle run subs)
        ≡ carried_out g (take header_length whole.kept) (decision_on x standing whole) subs
    decide_right = (hears x.phase x.idle stands).0

    -- and they make the data field known as an identifier where it decides so
    pub identify_right : announces g piece (session_as x.phase x.idle run subs)
        ≡ announced (decision_on x standing whole).identifies (drop header_length whole.kept)
    identify_right = (hears x.phase x.idle stands).1

-- bytes that end no run change only the run
module _ (g : Shared) (run : Run) (subs : List Subscription) (piece : Piece) (more : piece.ends ≡ false) where
  pub run_goes_on : (p : Phase) (idle : ℕ)
      → (step g (receives piece) (session_as p idle run subs) ≡ (session_as p idle (longer run piece.bytes) subs, []))
      × (announces g piece (session_as p idle run subs) ≡ none)
  run_goes_on Closed idle = (refl, refl)
  run_goes_on Opened idle = (rw more, refl)
  run_goes_on Started idle = (rw more, rw more)
