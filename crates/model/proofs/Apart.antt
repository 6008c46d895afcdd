-- What one session is told, and its state, are a fold over what it sees of a history: no other session's bytes, openings, times or
-- subscriptions show in it, but for the identifiers that are accepted from them.
use Prim.Native.Nat.{ℕ, zero, suc, ◌<◌}
use mathlib.Core.Path.{◌≡◌, refl, sym, ◌∙◌, ap, ap₂, subst}
use mathlib.Core.Bool.{Bool, true, false, cond, true≢false}
use mathlib.Core.List.{List, [], ◌∷◌, append-nil}
use mathlib.Core.Option.{Option, none, some, map as option_map}
use lib.Dec.{eqb}
use borrow.Author.Tests.{eqb-true}
use Rattle.model.specs.Limits.{session_count}
use Rattle.model.specs.Records.{Settings, read_tool}
use Rattle.model.specs.Runs.{cut}
use Rattle.model.specs.Events.{Event, kind_of}
use Rattle.model.specs.Sharing.{Shared, reported}
use Rattle.model.specs.Session.{Session, Emission}
use Rattle.model.specs.Local.{Local, opening, hang_up, receives, takes}
use Rattle.model.specs.Row.{Tagged, pick}
use Rattle.model.specs.World.{World, session_at, begun, by_event, Moment, to, happens, changed, next, emits, after, emitted}
use Rattle.model.specs.Calls.{Call, start, open_session, hang_up_session, bytes, one_tick, tool, Lent, Conduct, does, refusal}
use Rattle.model.specs.Calls.{happening, moments, taken_by, in_sum, Answer, answered, step}
use Rattle.model.specs.Sights.{sight}
use Rattle.model.specs.Own.{Glance, its_call, made_known, glance, Learned, told_to, if_seen, view_of, told_in, world_after}
use Rattle.model.specs.Own.{seen_of, lived, Ample, AllAmple, ample, glanced, folded, world_folded, SameFor}
use Rattle.model.proofs.Lived.{length_after, lives, not_seen}
use Rattle.model.proofs.Takers.{in_none, in_takers}

module _ (s : ℕ) where
  -- what a call does in either world, as far as it goes for s
  record Like (d e : Conduct) : Type 0 where
    asks : d.asks ≡ e.asks
    moment : d.moment ≡ e.moment
    event : d.event ≡ e.event
    took : in_sum s d.taken ≡ in_sum s e.taken

  -- ==== moments, in two worlds that are the same for it

  shared_after : (w v : World) (ms : List Moment) → w.shared ≡ v.shared → (after w ms).shared ≡ (after v ms).shared
  shared_after w v [] e = e
  shared_after w v (m ∷ ms) e = shared_after (next w m) (next v m) ms (ap (λ (g : Shared). changed g m.leaves) e)

  module _ {w v : World} (r : SameFor s w v) where
    -- what it lives by moments in either: its state, and what goes out to it
    same_lived : (ms ns : List Moment) → (after w ms).shared ≡ (after v ns).shared
        → lived v.shared (session_at v s) (seen_of s ms) ≡ lived v.shared (session_at v s) (seen_of s ns)
        → SameFor s (after w ms) (after v ns) × (pick s (emitted w ms) ≡ pick s (emitted v ns))
    same_lived ms ns g e =
        let own = ap₂ (λ (g : Shared) (x : Session). lived g x (seen_of s ms)) r.shared r.session in
        let q = lives s w r.here ms ∙ own ∙ e ∙ sym (lives s v r.there ns) in (
          record {
            shared = g;
            session = ap (λ (p : Session × List Emission). p.0) q;
            here = rw (length_after w ms) r.here;
            there = rw (length_after v ns) r.there;
          },
          ap (λ (p : Session × List Emission). p.1) q,
        )

    same_after : (ms : List Moment) → SameFor s (after w ms) (after v ms) × (pick s (emitted w ms) ≡ pick s (emitted v ms))
    same_after ms = same_lived ms ms (shared_after w v ms r.shared) refl

    -- one that it does not see, and the event behind it
    unseen_first : (t : ℕ) (l : Local) (o : Option Event) → eqb s t ≡ false
        → SameFor s (after w (to t l ∷ happening o)) (after v (happening o))
        × (pick s (emitted w (to t l ∷ happening o)) ≡ pick s (emitted v (happening o)))
    unseen_first t l none e = same_lived (to t l ∷ []) [] r.shared (rw (not_seen s t l e))
    unseen_first t l (some x) e =
        same_lived (to t l ∷ happens x ∷ []) (happens x ∷ []) (ap (λ (g : Shared). changed g (by_event x)) r.shared) (rw (not_seen s t l e))

    -- ==== a call that is for it

    session_same : (t : ℕ) → eqb s t ≡ true → session_at w t ≡ session_at v t
    session_same t e = subst (λ (n : ℕ). session_at w n ≡ session_at v n) (eqb-true s t e) r.session

    taken_same : (o : Option Event) → in_sum s (taken_by w.sessions o) ≡ in_sum s (taken_by v.sessions o)
    taken_same none = refl
    taken_same (some e) =
        in_takers (kind_of e) s w.sessions ∙ ap (takes (kind_of e)) r.session ∙ sym (in_takers (kind_of e) s v.sessions)

    does_like : (c : Call) → (sight s c).own ≡ true → Like (does w c) (does v c)
    does_like (start slice) h = record { asks = refl; moment = refl; event = refl; took = refl }
    does_like (open_session t) h = record { asks = rw (session_same t h); moment = refl; event = refl; took = refl }
    does_like (hang_up_session t) h = record { asks = rw (session_same t h); moment = refl; event = refl; took = refl }
    does_like (bytes t bs) h = record {
      asks = rw (session_same t h);
      moment = refl;
      event = rw (r.shared, session_same t h);
      took = refl;
    }
    does_like one_tick h = record { asks = refl; moment = refl; event = refl; took = refl }
    does_like (tool slice) h = record {
      asks = rw r.shared;
      moment = refl;
      event = rw r.shared;
      took = rw r.shared (taken_same (option_map (reported v.shared) (read_tool slice)));
    }

    answered_same : (c : Call) (n : ℕ) → Like (does w c) (does v c)
        → SameFor s (answered w c n).0 (answered v c n).0 × (told_to s (answered w c n) ≡ told_to s (answered v c n))
    answered_same c zero k =
        let a = same_after (moments w c) in
        let e : moments w c ≡ moments v c = rw (k.moment, k.event) in (
          subst (λ (ms : List Moment). SameFor s (after w (moments w c)) (after v ms)) e a.0,
          ap₂ {C = Learned} (λ (es : List Emission) (b : Bool). record { number = 0; sent = es; took = b })
              (a.1 ∙ ap (λ (ms : List Moment). pick s (emitted v ms)) e) k.took,
        )
    answered_same c (suc n) k = (r, refl)

    -- A CALL that is for it
    own_fits : (l : Lent) (c : Call) → Ample l → (sight s c).own ≡ true
        → SameFor s (step l w c).0 (glanced s v (its_call c)).0 × (told_to s (step l w c) ≡ (glanced s v (its_call c)).1)
    unfolding step refusal
    own_fits l c a h =
        let k = does_like c h in
        rw (a.table, a.well_formed, a.output, k.asks) (answered_same c (refusal ample v c) k)

    -- ==== a call for another: the moment is not seen, the event is

    -- nothing changes for s, and it is told nothing; or what is told is the fold's
    abbrev Fits : Option Glance → World × Answer × List (Tagged Emission) → Type 0
    Fits none q = SameFor s q.0 v × (pick s q.2 ≡ []) × (in_sum s q.1.taken ≡ false)
    Fits (some x) q = SameFor s q.0 (glanced s v x).0 × (told_to s q ≡ (glanced s v x).1)

    module _ (t : ℕ) (l : Local) (e : eqb s t ≡ false) (consumed : ℕ) where
      after_other : (o : Option Event) (written : ℕ)
          → Fits (made_known 0 o) (
            after w (to t l ∷ happening o),
            record { number = 0; consumed = consumed; written = written; taken = 0 },
            emitted w (to t l ∷ happening o),
          )
      after_other none written = let u = unseen_first t l none e in (u.0, u.1, in_none s)
      after_other (some x) written =
          let u = unseen_first t l (some x) e in (
            u.0,
            ap₂ {C = Learned} (λ (es : List Emission) (b : Bool). record { number = 0; sent = es; took = b })
                (u.1 ∙ ap (pick s) (append-nil (emits v (happens x)))) (in_none s),
          )

    other_answered : (c : Call) (n : ℕ) → (sight s c).own ≡ false → Fits (made_known n (does w c).event) (answered w c n)
    other_answered c (suc n) h = (r, refl, in_none s)
    other_answered (start slice) zero h = absurd (true≢false h)
    other_answered (open_session t) zero h = after_other t opening h 0 none 0
    other_answered (hang_up_session t) zero h = after_other t hang_up h 0 none 0
    other_answered (bytes t bs) zero h = after_other t (receives (cut bs)) h _ (does w (bytes t bs)).event _
    other_answered one_tick zero h = absurd (true≢false h)
    other_answered (tool slice) zero h = absurd (true≢false h)

    -- A CALL
    fits : (l : Lent) (c : Call) → Ample l → Fits (glance s l w c) (step l w c)
    unfolding step
    fits l c a = go (sight s c).own refl
      where
        go : (b : Bool) → (sight s c).own ≡ b
            → Fits (cond b (some (its_call c)) (made_known (refusal l w c) (does w c).event)) (step l w c)
        go true h = own_fits l c a h
        go false h = other_answered c (refusal l w c) h

  -- ==== histories

  -- what it is told is a fold over its view_of, from any world that is the same for it, and so is its state
  same_history : (w v : World) (cs : List (Lent × Call)) → SameFor s w v → AllAmple cs
      → (told_in s w cs ≡ folded s v (view_of s w cs)) × SameFor s (world_after w cs) (world_folded s v (view_of s w cs))
  same_history w v [] r h = (refl, r)
  same_history w v (c ∷ cs) r h =
      go (glance s c.0 w c.1) (fits r c.0 c.1 h.0) (λ z k. same_history (step c.0 w c.1).0 z cs k h.1)
    where
      u : World
      u = (step c.0 w c.1).0

      go : (o : Option Glance) → Fits r o (step c.0 w c.1)
          → ((z : World) → SameFor s u z
          → (told_in s u cs ≡ folded s z (view_of s u cs)) × SameFor s (world_after u cs) (world_folded s z (view_of s u cs)))
          → (if_seen o (λ x. told_to s (step c.0 w c.1)) (told_in s u cs) ≡ folded s v (if_seen o (λ x. x) (view_of s u cs)))
          × SameFor s (world_after u cs) (world_folded s v (if_seen o (λ x. x) (view_of s u cs)))
      go none f ih = ih v f.0
      go (some x) f ih = let k = ih (glanced s v x).0 f.0 in (ap₂ ◌∷◌ f.1 k.0, k.1)

  -- WHAT SESSION s IS TOLD
  pub told_same : (w v : World) (cs : List (Lent × Call)) → SameFor s w v → AllAmple cs
      → told_in s w cs ≡ folded s v (view_of s w cs)
  told_same w v cs r h = (same_history w v cs r h).0

  -- and its STATE, with what all share
  pub state_same : (w v : World) (cs : List (Lent × Call)) → SameFor s w v → AllAmple cs
      → SameFor s (world_after w cs) (world_folded s v (view_of s w cs))
  state_same w v cs r h = (same_history w v cs r h).1

  -- of a call that it does not see it is told nothing
  pub unseen : {w : World} → SameFor s w w → (l : Lent) (c : Call) → Ample l → glance s l w c ≡ none
      → (pick s (step l w c).2 ≡ []) × (in_sum s (step l w c).1.taken ≡ false)
  unseen {w} r l c a e =
      let f = subst (λ (o : Option Glance). Fits r o (step l w c)) e (fits r l c a) in
      (f.1, f.2)

  -- TWO HISTORIES that look the same to session s, from worlds that are the same for it, tell it the same
  pub apart : {w v : World} → SameFor s w v → (cs ds : List (Lent × Call)) → AllAmple cs → AllAmple ds
      → view_of s w cs ≡ view_of s v ds → told_in s w cs ≡ told_in s v ds
  apart {w} {v} r cs ds a b e =
      told_same w v cs r a ∙ ap (folded s v) e
      ∙ sym (told_same v v ds (record { shared = refl; session = refl; here = r.there; there = r.there }) b)

  -- from equal starts
  pub apart_from_start : (st : Settings) (events : ℕ) → s < session_count → (cs ds : List (Lent × Call)) → AllAmple cs → AllAmple ds
      → view_of s (begun st events) cs ≡ view_of s (begun st events) ds → told_in s (begun st events) cs ≡ told_in s (begun st events) ds
  apart_from_start st events h cs ds a b e =
      apart (record { shared = refl; session = refl; here = h; there = h }) cs ds a b e
