-- A tick and an event, to a session in its region.
use mathlib.Core.Path.{◌≡◌, refl, sym, ap, subst, ◌∙◌}
use mathlib.Core.Bool.{Bool, false, true≢false}
use mathlib.Core.Logic.{◌⊎◌, ⊎_elim}
use mathlib.Core.List.{List, [], ◌∷◌}
use Rattle.std.specs.Prelude.{Option, Some, None}
use Rattle.std.specs.declared.ops.Range.{Range}
use Prim.Native.Nat.{ℕ, ◌<◌}
use lib.Dec.{eqb}
use lib.ListN.{length, replicate}
use lib.Seq.{set-get_or}
use borrow.Author.Tests.{eqb-true}
use Rattle.model.specs.Records.{Settings}
use Rattle.model.specs.Kinds.{kinds, room_of}
use Rattle.model.specs.Limits.{idle_limit}
use Rattle.model.specs.Events.{Notice, kind_of}
use Rattle.model.specs.Notices.{unsubscribed, Deed, beats, news}
use Rattle.model.specs.Notices as notices
use Rattle.model.specs.Session.{close}
use Rattle.model.specs.Session as model
use Rattle.model.specs.Local.{step, tick, event, takes}
use Rattle.model.specs.Sharing.{Shared, shared_begun}
use Rattle.model.proofs.Named.{place_within}
use Rattle.text.proofs.Areas.{each_below}
use Rattle.frame.specs.Places.{event_in, notice_in}
use Rattle.session.specs.Meaning.{session_as, is_taken}
use Rattle.session.specs.Control.{cleared, idled, taken}
use Rattle.session.specs.Effects.{ticked_in, ticked_so}
use Rattle.session.specs.declared.Phase.{Phase}
use Rattle.session.specs.declared.Phase.TheVariants.{Closed, Opened, Started}
use Rattle.session.specs.declared.Session.{Session}
use Rattle.session.specs.declared.Take.{Take}
use Rattle.session.specs.declared.Take.TheVariants.{Not}
use Rattle.session.specs.declared.Taken.{Taken}
use Rattle.session.proofs.Idles.{idle_right}
use Rattle.run.specs.Area.{run_of}
use Rattle.head.specs.Head.{head_of}
use Rattle.lane.specs.Lane.{Reading, control_of, lane_of, Deals, is_told, is_held}
use Rattle.lane.specs.Lane as lane
use Rattle.lane.proofs.Events.{takes_unheld}
use Rattle.lane.proofs.Sayings.{told}
use Rattle.region.specs.Region.{head_area, run_area, lane_range, lane_in, subscriptions_in, subscription_in, session_of, meaning}
use Rattle.region.specs.Region.{places_held, Good, Changes}
use Rattle.region.specs.Said.{DealtTo, DealtToAll, TickStays, Ticks}
use Rattle.region.specs.Said.{Answers, Taking, Holds, Takes}
use Rattle.region.proofs.Areas.{part, put, lane_good, lane_lent, lane_part, lane_now, head_kept, length_subscriptions}
use Rattle.region.proofs.Areas.{subscription_at, means, unchanged}
use Rattle.region.proofs.Walks.{dealt_to}
use Rattle.region.proofs.Says.{sent_itself, row_acting, said_due, all_ready, now_is, row_one, said_one, none_due}
use Rattle.region.proofs.Says.{none_ready}

-- of the kind that it is of: one computed test
pub kind_in : (kind : ℕ) (p : List ℕ) → kind < length kinds → kind_of (event_in kind p) ≡ kind
kind_in kind p h = eqb-true _ kind (each_below (length kinds) (λ (k : ℕ). eqb (kind_of (event_in k p)) k) refl kind h)

module _ (read : Reading) where
  -- what a region means read, by what was read of it
  pub means_so : (r : List ℕ) (x : Session) → x ≡ head_of (head_area r)
      → session_of read r ≡ meaning x (run_of (run_area r)) (subscriptions_in read r)
  unfolding session_of
  means_so r x e = ap (λ (z : Session). meaning z (run_of (run_area r)) (subscriptions_in read r)) (sym e)

  -- ==== a tick to one that stays

  module _ {x : Session} {r r₁ : List ℕ} (c : Changes read r x (run_of (run_area r)) (subscriptions_in read r) r₁) where
    -- it is not started: nothing more is done
    stays_quiet : {p : Phase} → x.phase ≡ p
        → ((st : Settings) → ticked_in p st x.idle (run_of (run_area r)) (subscriptions_in read r)
        ≡ (session_as p x.idle (run_of (run_area r)) (subscriptions_in read r), []))
        → TickStays read x r (replicate (length kinds) false) r₁
    stays_quiet e quiet = record {
      good = c.becomes.good;
      size = c.becomes.size;
      ready = none_ready (length kinds) (subscriptions_in read r₁) (length_subscriptions read r₁);
      steps = λ st. rw (none_due st 0 (length kinds) (subscriptions_in read r₁), means read c.becomes, e) (quiet st);
    }

    pub stays_unstarted : (x.phase ≡ Closed) ⊎ (x.phase ≡ Opened) → TickStays read x r (replicate (length kinds) false) r₁
    stays_unstarted = ⊎_elim (λ e. stays_quiet e (λ st. refl)) (λ e. stays_quiet e (λ st. refl))

    pub stays_started : {due : List Bool} {r₂ : List ℕ} → x.phase ≡ Started → DealtToAll read (λ kind. beats) r₁ due r₂
        → TickStays read x r due r₂
    stays_started e d =
        let b = c.becomes in
        let f = d.changes.becomes in
        record {
          good = f.good;
          size = f.size ∙ b.size;
          ready = rw (d.sends, f.subscriptions) (all_ready (λ kind. beats) (λ kind. tt) (subscriptions_in read r₁));
          steps = λ st.
              rw (means read f, f.subscriptions, d.sends, b.head, b.runs, b.subscriptions, e, row_acting st (λ kind. beats) 0)
              (rw (said_due (λ kind. beats) (λ kind. tt) st 0 (subscriptions_in read r)));
        }

  -- ==== a tick

  module _ (r : List ℕ) (x : Session) (ex : x ≡ head_of (head_area r)) (few : x.idle < idle_limit) where
    ticked : (g : Shared) (i : Option Session) → i ≡ idled x
        → step g tick (session_of read r) ≡ ticked_so g.settings (run_of (run_area r)) (subscriptions_in read r) i
    ticked g i e =
        ap (step g tick) (means_so r x ex) ∙ idle_right g (run_of (run_area r)) (subscriptions_in read r) x few
        ∙ ap (ticked_so g.settings (run_of (run_area r)) (subscriptions_in read r)) (sym e)

    pub tick_stays : {y : Session} {due : List Bool} {r' : List ℕ} → Some y ≡ idled x → TickStays read y r due r'
        → Ticks read r (Some due) r'
    tick_stays {y} e w = record {
      good = w.good;
      size = w.size;
      ready = w.ready;
      steps = λ g. ticked g (Some y) e ∙ w.steps g.settings;
    }

    pub tick_closes : {r' : List ℕ} → None ≡ idled x → Changes read r cleared (run_of (run_area r)) (subscriptions_in read r) r'
        → Ticks read r None r'
    tick_closes e c =
        let b = c.becomes in
        record {
          good = b.good;
          size = b.size;
          ready = tt;
          steps = λ g. ticked g None e ∙ ap (λ (m : model.Session). (m, close ∷ [])) (sym (means read b));
        }

  -- ==== an event

  module _ {kind : ℕ} (p r : List ℕ) (few : kind < length kinds) {x : Session} (ex : x ≡ head_of (head_area r)) where
    abbrev n : Notice
    n = notice_in kind p

    -- it is not started
    pub takes_none : {ph : Phase} → x.phase ≡ ph
        → ((st : Settings) → let s = session_as ph x.idle (run_of (run_area r)) (subscriptions_in read r) in
        step (shared_begun st 0) (event (event_in kind p)) s ≡ (s, []))
        → false ≡ takes kind (session_as ph x.idle (run_of (run_area r)) (subscriptions_in read r)) → Good r
        → Takes read kind p r Not r
    takes_none e quiet none g =
        let now = rw e at (means_so r x ex) in
        record {
          good = g;
          size = refl;
          takes = rw now none;
          ready = λ q. absurd (true≢false (sym q));
          steps = λ st. rw now (quiet st);
        }

    pub takes_one : {t : Take} {r' : List ℕ} → x.phase ≡ Started → DealtTo read kind (news n) r (is_told t) r'
        → is_taken t ≡ notices.takes (room_of kind) (subscription_in read kind r) → Takes read kind p r t r'
    takes_one {t = t} {r'} e d takes_it =
        let b = d.changes.becomes in
        let is = now_is read few d in
        let before = rw e at (means_so r x ex) in
        let after = rw (e, b.runs) at (means_so r' x (ex ∙ sym b.head)) in
        record {
          good = b.good;
          size = b.size;
          takes = rw (before, subscription_at read r kind few) takes_it;
          ready = λ q. rw is ((told (room_of kind) n (subscription_in read kind r)).there (sym d.sends ∙ q));
          steps = λ st.
              rw (before, after, kind_in kind p few, row_one read few d st, said_one read few d st, is, d.sends)
              (rw (sent_itself (room_of kind) n (subscription_in read kind r) st kind));
        }

-- ==== what becomes of an event

-- nothing was done to the lane, which does what the deed does
still_dealt : (read : Reading) (r : List ℕ) (kind : ℕ) {deed : Deed} {b : Bool} → kind < length kinds → Good r
    → Deals (read kind) kind deed (lane_in kind r) b (lane_in kind r) → DealtTo read kind deed r b r
still_dealt read r kind few g d = record {
  changes =
      rw (← d.becomes, ← subscription_at read r kind few, set-get_or (subscriptions_in read r) kind unsubscribed) (unchanged read r g);
  sends = d.sends;
}

module _ {kind : ℕ} {r : List ℕ} (g : Good r) (few : kind < length kinds) {x : Session} (ex : x ≡ head_of (head_area r)) {t : Taken} where
  answers_none : t.take ≡ Not → ((read : Reading) (p : List ℕ) → Takes read kind p r Not r) → Answers kind r t
  answers_none e w = record {
    started = λ h. absurd (true≢false (sym h ∙ ap is_held e));
    held = λ h. absurd (true≢false (sym h ∙ ap is_held e));
    unheld = λ h read p. rw e (w read p);
  }

  pub answers_closed : t.take ≡ Not → x.phase ≡ Closed → Answers kind r t
  answers_closed e q = answers_none e (λ read p. takes_none read p r few ex q (λ st. refl) refl g)

  pub answers_opened : t.take ≡ Not → x.phase ≡ Opened → Answers kind r t
  answers_opened e q = answers_none e (λ read p. takes_none read p r few ex q (λ st. refl) refl g)

  pub answers_started : x.phase ≡ Started → t ≡ taken (room_of kind) (control_of (lane_in kind r)) → Answers kind r t
  answers_started q e = record {
    started = λ h. ap (λ (z : Session). z.phase) (sym ex) ∙ q;
    held = λ h. e;
    unheld = λ h read p.
        let w = takes_unheld (read kind) kind (lane_in kind r) few (lane_good r kind few g) (notice_in kind p)
        (sym (ap (λ (z : Taken). is_held z.take) e) ∙ h) in
        rw e (takes_one read p r few ex q (still_dealt read r kind few g w.deals) w.takes);
  }

-- its notice is held
module _ {kind : ℕ} {t : Taken} {slot r : List ℕ} {u : Range ℕ} {ys : List ℕ} (few : kind < length kinds) (k : Taking kind t slot r)
    (lent : u ≡ lane_range kind) (w : lane.TakesSo kind t.take slot (part u r) ys) where
  abbrev r₁ : List ℕ
  r₁ = put u r ys

  holds_takes : (read : Reading) (p : List ℕ) → read kind slot ≡ notice_in kind p → Takes read kind p r t.take r₁
  holds_takes read p e =
      let v = rw e at (w.means (read kind)) in
      takes_one read p r few refl (k.answers.started k.holds) (dealt_to read few k.good lent v.deals)
      (v.takes ∙ ap (λ l. notices.takes (room_of kind) (lane_of read kind l)) (lane_part r few lent))

  pub takes_held : Holds kind t.take slot r r₁
  unfolding places_held
  takes_held = record {
    takes = holds_takes;
    adds = λ e.
        let lane = (w.means (notice_in kind)).deals.lane in
        let started = k.answers.started k.holds in
        let now = subst (λ (n : ℕ). lane_in n r₁ ≡ ys) e (lane_now r few lent k.good.size lane) in
        let was = subst (λ (n : ℕ). part u r ≡ lane_in n r) e (lane_part r few lent) in
        rw (head_kept r few lent k.good.size lane, started, now, ← was) (w.adds e k.holds);
  }

-- what becomes of an event, and that it is held so
pub ruleset answers = (place_within, lane_good, answers_closed, answers_opened, answers_started)

pub ruleset taken_so = (place_within, lane_lent, lane_part, takes_held)
