-- What a call does, as it is read off the calls: the reading of every session stays true, and to the notices of each kind to each
-- session one of the things is done that a call can do.
use Prim.Native.Nat.{ℕ, zero, suc, ◌<◌}
use mathlib.Core.Path.{◌≡◌, refl, sym, ◌∙◌, ap, ap₂, subst}
use mathlib.Core.Bool.{Bool, false, ◌&&◌}
use mathlib.Core.List.{List, [], ◌∷◌, ◌++◌, map, map-append, append-nil}
use mathlib.Core.Option.{Option, none, some}
use native.Mathlib.Omega.{arith}
use native.Mathlib.Nat.{le_refl}
use lib.Dec.{eqb}
use lib.ListN.{length, get_or}
use Rattle.model.specs.Limits.{session_count}
use Rattle.model.specs.Records.{Settings}
use Rattle.model.specs.Kinds.{Room, kinds, room_of}
use Rattle.model.specs.Events.{Event, kind_of}
use Rattle.model.specs.Sharing.{Shared, shared_with}
use Rattle.model.specs.Frames.{event_frame}
use Rattle.model.specs.Notices.{Subscription, unsubscribed, is_subscribed}
use Rattle.model.specs.Row.{Tagged, pick}
use Rattle.model.specs.Session.{Session, closed, opened, started, Copy, Emission, reply, copy, close}
use Rattle.model.specs.Local.{takes as takes_in}
use Rattle.model.specs.World.{World, session_at}
use Rattle.model.specs.Calls.{Call, Lent, refusal, answered, step}
use Rattle.model.proofs.Framed.{either}
use Rattle.model.proofs.RowLaws.{pick_append}
use Rattle.model.proofs.Sights.{told}
use Rattle.controller.specs.Contract.{Said}
use Rattle.watch.specs.Marks.{Seen}
use Rattle.watch.specs.Course.{PendingSeen, Eff, Rises}
use Rattle.history.specs.Turns.{Turn, hangs_up, ticks}
use Rattle.history.specs.Past.{run, message, started as is_started, Wish, wish, is_some, asks_acknowledge, subscribed, closes}
use Rattle.history.specs.Past.{event, frame_for, takes}
use Rattle.history.specs.Demand.{copies_in, seen, seen_in}
use Rattle.history.proofs.Subscriptions.{wish_in, is_some_wish, view}
use Rattle.history.proofs.Signals.{Signals, signals, closing, silent_after}
use Rattle.history.proofs.Sessions.{SessionRead, next, Like, sub_at, StepOfKind, StepAsRead, frame_none, then_steps}

-- ==== what is read of a session

abbrev pub session_read : ℕ → List Turn → SessionRead
session_read s past = record { run = run s past; started = is_started s past; wish = λ kind. wish s kind past }

abbrev pub sub_of : ℕ → ℕ → World → Subscription
sub_of s kind w = sub_at kind (session_at w s)

module _ (R : SessionRead) where
  pub like_wish : (x : Session) → Like R x → (kind : ℕ) → kind < length kinds → R.wish kind ≡ wish_in (sub_at kind x)
  like_wish closed l kind h = l.1 kind
  like_wish (opened i run) l kind h = l.2 kind
  like_wish (started i run subs) l kind h = l.2 kind h

  like_started : (x : Session) → Like R x → (kind : ℕ) → kind < length kinds
      → (R.started && is_some (R.wish kind)) ≡ is_subscribed (sub_at kind x)
  like_started closed l kind h = rw l.0
  like_started (opened i run) l kind h = rw l.1
  like_started (started i run subs) l kind h = rw (l.1, l.2 kind h) (is_some_wish (get_or subs kind unsubscribed))

-- ==== what was seen

copies_append : (xs ys : List Emission) → copies_in (xs ++ ys) ≡ copies_in xs ++ copies_in ys
copies_append [] ys = refl
copies_append (reply f ∷ xs) ys = copies_append xs ys
copies_append (copy c ∷ xs) ys = ap (c ∷◌) (copies_append xs ys)
copies_append (close ∷ xs) ys = copies_append xs ys

pub seen_append : (kind : ℕ) (xs ys : List Emission) → seen_in kind (xs ++ ys) ≡ seen_in kind xs ++ seen_in kind ys
seen_append kind xs ys =
    ap (λ (cs : List (Tagged Copy)). map seen (pick kind cs)) (copies_append xs ys)
    ∙ ap (map seen) (pick_append kind (copies_in xs) (copies_in ys))
    ∙ map-append seen (pick kind (copies_in xs)) (pick kind (copies_in ys))

-- ==== one call

-- it is done, or refused
pub by_refusal : (l : Lent) (w : World) (c : Call) (P : Said → Type 0) → (refusal l w c ≡ 0 → P (answered w c 0))
    → ((n : ℕ) → P (answered w c (suc n))) → P (step l w c)
unfolding step
by_refusal l w c P done refused = go (refusal l w c) refl
  where
    go : (n : ℕ) → refusal l w c ≡ n → P (answered w c n)
    go zero e = done e
    go (suc n) e = refused n

-- the world w, after those turns, becomes w' by the turn x; the settings are st, and what was shared is g
pub record Moves (st : Settings) (g : Shared) (w : World) (past : List Turn) (x : Turn) (w' : World) : Type 0 where
  pub sharing : w'.shared ≡ shared_with g (event g past x)
  pub size : length w'.sessions ≡ session_count
  pub like : (s : ℕ) → s < session_count → Like (session_read s (x ∷ past)) (session_at w' s)
  pub rises : (kind : ℕ) (o : Option Wish) → Rises w.shared.events w'.shared.events (frame_for st kind o (event g past x))
  pub does : (s : ℕ) → s < session_count → (kind : ℕ) → kind < length kinds
      → Eff (room_of kind) w.shared.events w'.shared.events (frame_for st kind (wish s kind past) (event g past x))
      (takes s kind g past x) (asks_acknowledge (wish s kind past)) (closes s kind past x) (ticks s x) (subscribed s kind past)
      (subscribed s kind (x ∷ past)) (view st (sub_of s kind w)) (view st (sub_of s kind w')) (seen_in kind (pick s x.out))

-- the same thing done, in other words
recast : {room : Room} {k k' j' : ℕ} {e e' : Option (List ℕ)} {o o' a a' cl cl' t t' p p' u u' : Bool} {q r r' : PendingSeen}
    {es es' : List Seen}
    → j' ≡ k' → e' ≡ e → o' ≡ o → a' ≡ a → cl' ≡ cl → t' ≡ t → p' ≡ p → u' ≡ u → r' ≡ r → es' ≡ es
    → Eff room k k' e o a cl t p u q r es → Eff room k j' e' o' a' cl' t' p' u' q r' es'
recast a b c d f g h i j k x = rw (a, b, c, d, f, g, h, i, j, k) x

-- what the turn x is besides the event e to session s, which steps to y: nothing that changes its notices; and the session takes the event
-- if it is said to
pub record Beside (w : World) (past : List Turn) (x : Turn) (e : Event) (s : ℕ) (y : Session × List Emission) : Type 0 where
  pub mild : (kind : ℕ) → kind < length kinds
      → (closing kind (message s past x) (hangs_up s x) (signals y.1) ≡ false)
      × (sub_at kind y.0 ≡ sub_of s kind w) × (seen_in kind y.1 ≡ [])
  pub no_tick : ticks s x ≡ false
  pub taken : (kind : ℕ) → kind < length kinds → takes s kind w.shared past x ≡ (eqb kind (kind_of e) && takes_in kind y.0)

-- the turn x leaves the world w'. First each session steps, session s to y s; then comes the event o, if there is one
module _ (w : World) (past : List Turn) (like : (s : ℕ) → s < session_count → Like (session_read s past) (session_at w s))
    (x : Turn) (w' : World) (size : length w'.sessions ≡ session_count) (y : ℕ → Session × List Emission) (b : ℕ → Bool)
    (steps : (s : ℕ) → s < session_count
    → StepAsRead w.shared (run s (x ∷ past)) (message s past x) (hangs_up s x) (ticks s x) (b s) (session_read s past) (session_at w s)
    (y s)) (o : Option Event) (is : event w.shared past x ≡ o) (now : w'.shared ≡ shared_with w.shared o)
    (goes : (s : ℕ) → s < session_count → let z = told w.shared o (y s).0 in
    (session_at w' s ≡ z.0) × (pick s x.out ≡ (y s).1 ++ z.1))
    (beside : (e : Event) → o ≡ some e → (s : ℕ) → s < session_count → Beside w past x e s (y s)) where
  abbrev g : Shared
  g = w.shared

  abbrev st : Settings
  st = g.settings

  shows : (s : ℕ) → s < session_count → signals (pick s x.out) ≡ signals (y s).1
  shows s h = ap signals (goes s h).1 ∙ silent_after (y s).1 (told g o (y s).0).1 (then_steps o (steps s h)).silent

  reads : (s : ℕ) → s < session_count → Like (session_read s (x ∷ past)) (session_at w' s)
  reads s h =
      let R : Signals → SessionRead = λ sg. next (run s (x ∷ past)) (message s past x) (hangs_up s x) sg (session_read s past) in
      subst (λ (sg : Signals). Like (R sg) (session_at w' s)) (sym (shows s h))
      (subst (Like (R (signals (y s).1))) (sym (goes s h).0) (then_steps o (steps s h)).like)

  event_rises : (kind : ℕ) (v : Option Wish) (n : Option Event) → Rises g.events (shared_with g n).events (frame_for st kind v n)
  event_rises kind v none = rw (frame_none st kind v) (le_refl g.events)
  event_rises kind none (some e) = omega arith
  event_rises kind (some v) (some e) =
      either (Rises g.events (suc g.events)) (eqb kind (kind_of e)) (some (event_frame st v.revision v.no_acknowledge e)) none
      refl (omega arith)

  -- what is done by the step, or by the event where there is one
  done : (n : Option Event) → o ≡ n → (s : ℕ) → s < session_count → (kind : ℕ) → kind < length kinds
      → let z = told g n (y s).0 in let v = sub_of s kind w in
      Eff (room_of kind) g.events (shared_with g n).events (frame_for st kind (wish_in v) n) (takes s kind g past x)
      (asks_acknowledge (wish_in v)) (closing kind (message s past x) (hangs_up s x) (signals (y s).1)) (ticks s x) (is_subscribed v)
      (is_subscribed (sub_at kind z.0)) (view st v) (view st (sub_at kind z.0)) (seen_in kind ((y s).1 ++ z.1))
  done none q s h kind u =
      rw (frame_none st kind (wish_in (sub_of s kind w)), is ∙ q, append-nil (y s).1) ((steps s h).does kind u)
  done (some e) q s h kind u =
      let k = beside e q s h in
      let m = k.mild kind u in
      let es = (told g (some e) (y s).0).1 in
      recast refl refl (k.taken kind u) refl m.0 k.no_tick refl refl refl
      (seen_append kind (y s).1 es ∙ ap (◌++ seen_in kind es) m.2)
      (subst
      (λ (v : Subscription). StepOfKind g (suc g.events) (frame_for st kind (wish_in v) (some e))
      (eqb kind (kind_of e) && takes_in kind (y s).0) false false kind v (told g (some e) (y s).0))
      m.1 ((then_steps (some e) (steps s h)).does kind u))

  pub moves_by : Moves st g w past x w'
  moves_by = record {
    sharing = now ∙ sym (ap (shared_with g) is);
    size = size;
    like = reads;
    rises = λ kind v. rw (is, now) (event_rises kind v o);
    does = λ s h kind u.
        let wished = like_wish (session_read s past) (session_at w s) (like s h) kind u in
        let z = (goes s h).0 in
        recast (ap (λ (v : Shared). v.events) now) (ap₂ (frame_for st kind) wished is) refl (ap asks_acknowledge wished)
        (ap (λ (sg : Signals). closing kind (message s past x) (hangs_up s x) sg) (shows s h)) refl
        (like_started (session_read s past) (session_at w s) (like s h) kind u)
        (like_started (session_read s (x ∷ past)) (session_at w' s) (reads s h) kind u
        ∙ ap (λ (v : Session). is_subscribed (sub_at kind v)) z)
        (ap (λ (v : Session). view st (sub_at kind v)) z) (ap (seen_in kind) (goes s h).1) (done o refl s h kind u);
  }
