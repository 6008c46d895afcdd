-- A tick and an event to one session: first its region changes, and then what it has to say is written.
use mathlib.Core.Path.{◌≡◌, refl, sym, ap, ◌∙◌}
use Prim.Native.Nat.{ℕ, ◌+◌, ◌≤◌, ◌<◌}
use native.Mathlib.Omega.{arith}
use borrow.Author.Tests.{eqb-false}
use mathlib.Core.Bool.{Bool, true, false, cond}
use Rattle.std.specs.Prelude.{Option, Some, None, IfSome}
use Rattle.std.proofs.lemmas.Option.{IfSome_then}
use mathlib.Core.List.{List, [], ◌∷◌}
use lib.ListN.{length}
use Rattle.model.specs.Sharing.{Shared}
use Rattle.model.specs.Named.{place_of}
use Rattle.model.specs.declared.Kind.{Kind}
use Rattle.model.specs.Kinds.{kinds, tightenings, kind_at, copy_most, copies_most}
use Rattle.model.specs.Records.{settings_of}
use Rattle.model.specs.Limits.{session_count}
use Rattle.model.specs.Session.{Session, Emission}
use Rattle.model.specs.Local.{Local, tick, event, step, takes}
use Rattle.model.specs.World.{World, session_at, uncounted, to as to_one, next}
use Rattle.model.proofs.InTurn.{emits_to}
use Rattle.text.specs.Put.{Put}
use Rattle.text.proofs.Puts.{put_nothing, put_as}
use Rattle.frame.specs.Places.{event_in, notice_in}
use Rattle.frame.specs.declared.To.{To}
use Rattle.frame.specs.declared.Asked.{Asked}
use Rattle.session.specs.Effects.{out_bytes}
use Rattle.places.specs.Places.{place_in}
use Rattle.session.specs.declared.Take.{Take}
use Rattle.session.specs.Meaning.{is_taken}
use Rattle.lane.specs.Kinds.{is_placed}
use Rattle.lane.specs.Lane.{Reading, is_told}
use Rattle.shared.specs.Shared.{settings_part}
use Rattle.region.specs.Region.{session_of, subscription_in, places_held, Good}
use Rattle.region.specs.Said.{copies_out, Ticks, tick_said, Takes, event_said}
use Rattle.table.specs.Table.{shared_area, region_in, reading_in, decode, settings_in, Becomes, Went}
use Rattle.table.specs.Says.{Lent, DueLent, asked_in}
use Rattle.table.specs.Passes.{Last, AskedLent, Copies, Stands, no_more, AddsIf, held_by, KeepLent, Keeps, EventLent, TellsOne}
use Rattle.table.specs.declared.Copied.{Copied}
use Rattle.table.specs.declared.Next.{Next}
use Rattle.table.proofs.Regions.{part, put, part_in, part_is, put_in, put_means, put_settings, put_same_to_all, put_places}
use Rattle.table.proofs.Regions.{put_reading, put_other, so_many_sessions}
use Rattle.table.proofs.Alone.{went_one, went_alone, became_alone, stayed_alone, by_settings}
use Rattle.table.proofs.Events.{becomes_then}
use Rattle.table.proofs.Says.{asked_said}
use Rattle.table.proofs.Again.{last_now}

-- ==== the region of a session has become r, and what that leaves to say was written

module _ {t o : List ℕ} {to : To} {most : ℕ} (l : Lent t o to most) {r : List ℕ} (g : Good r) where
  pub still_lent : Lent (put t to.session r) o to most
  still_lent = record { table = (put_means t to.session r _ l.table l.session g refl).table; session = l.session; room = l.room }

  pub there : region_in to.session (put t to.session r) ≡ r
  there = put_in t to.session r l.table.size l.session g.size

  -- what the table says now is what the step says
  pub passed : (seen : Local) (says : Reading → Shared → List ℕ → List Emission) {next : ℕ} {o' : List ℕ}
      → step (decode t).shared seen (session_of (reading_in t) (part t to.session)) ≡
      (session_of (reading_in t) r, says (reading_in t) (decode t).shared r)
      → Put o to.at (out_bytes to.session (says (reading_in (put t to.session r)) (decode (put t to.session r)).shared
      (region_in to.session (put t to.session r)))) next o'
      → Went t o to.at (to_one to.session seen ∷ []) next (put t to.session r) o'
  passed seen says e p =
      let same_reading = put_reading t to.session r l.table.size l.session g.size in
      let same_to_all = put_same_to_all t to.session r l.table.size l.session g.size in
      went_alone t to.session seen l.table l.session (says (reading_in t) (decode t).shared r) g e
      (put_as (ap (out_bytes to.session) (λ i. says (same_reading i) (same_to_all i) (there i))) p)

-- ==== a tick

module _ {t o : List ℕ} {to : To} (l : Lent t o to (copies_most kinds)) {r : List ℕ} where
  pub due_lent : {due : List Bool} → Ticks (reading_in t) (part t to.session) (Some due) r → DueLent (put t to.session r) o to due
  due_lent w = record {
    lent = still_lent l w.good;
    ready = rw (there l w.good, put_reading t to.session r l.table.size l.session w.good.size) w.ready;
  }

  pub tick_passed : {left : Option (List Bool)} {next : ℕ} {o' : List ℕ} → Ticks (reading_in t) (part t to.session) left r
      → Put o to.at (out_bytes to.session (tick_said (reading_in (put t to.session r)) (settings_in (put t to.session r)) left
      (region_in to.session (put t to.session r)))) next o'
      → Went t o to.at (to_one to.session tick ∷ []) next (put t to.session r) o'
  unfolding decode
  tick_passed {left = left} w = passed l w.good tick (λ read g z. tick_said read g.settings left z) (w.steps (decode t).shared)

-- ==== an event

-- it was taken so, where t₁ means what t means
module _ {t : List ℕ} {s kind : ℕ} {p t₁ r : List ℕ} {take : Take} (few : s < session_count) (b : Becomes t (decode t) t₁)
    (same : shared_area t₁ ≡ shared_area t) (regions : (j : ℕ) → j < session_count → region_in j t₁ ≡ region_in j t)
    (w : Takes (reading_in t₁) kind p (part t₁ s) take r) where
  abbrev t₂ : List ℕ
  t₂ = put t₁ s r

  abbrev stepped : Session × List Emission
  stepped = step (decode t₁).shared (event (event_in kind p)) (session_of (reading_in t₁) (part t₁ s))

  steps_so : stepped ≡ (session_of (reading_in t₁) r, event_said (reading_in t₁) (settings_in t₁) kind p take r)
  steps_so = by_settings t₁ (event_in kind p) (session_of (reading_in t₁) (part t₁ s)) ∙ w.steps (settings_in t₁)

  there_now : region_in s t₂ ≡ r
  there_now = put_in t₁ s r b.table.size few w.good.size

  reads_now : reading_in t₂ ≡ reading_in t₁
  reads_now = put_reading t₁ s r b.table.size few w.good.size

  sees : session_at (decode t) s ≡ session_of (reading_in t₁) (part t₁ s)
  sees = ap (λ (v : World). session_at v s) (sym b.meaning) ∙ part_is t₁ s few

  pub kept_so : {before place : Option ℕ} → (kind ≡ tightenings → IfSome place (Stands t₁ p)) → IfSome before (λ q. place ≡ Some q)
      → (kind ≡ tightenings → AddsIf (places_held (part t₁ s)) place (places_held r)) → Keeps t s kind p before take t₂ place
  kept_so {place = place} stands still adds = record {
    becomes = becomes_then (λ (v : World). uncounted (next v (to_one s (event (event_in kind p))))) b
        (became_alone t₁ s (event (event_in kind p)) b.table few r w.good
        (ap (λ (z : Session × List Emission). z.0) (sym steps_so)));
    settings = put_settings t₁ s r b.table.size few w.good.size ∙ ap (λ (a : List ℕ). settings_of (settings_part a)) same;
    takes = w.takes ∙ ap (takes kind) (sym sees);
    ready = λ q. rw (there_now, reads_now) (w.ready q);
    says =
        rw (
          sees,
          ap (λ (v : World). v.shared) (sym b.meaning),
          there_now,
          reads_now,
          ← ap (λ (a : List ℕ). settings_of (settings_part a)) same,
        )
        (ap (λ (z : Session × List Emission). z.1) steps_so);
    stands = λ e. IfSome_then place (stands e) (λ q there. record {
      there = there.there;
      bytes = ap (place_in q) (put_places t₁ s r b.table.size few w.good.size) ∙ there.bytes;
    });
    same = still;
    adds = λ e. rw (there_now, ← regions s few, ← part_in t₁ s) (adds e);
    others = λ j k ne. ap places_held (put_other t₁ s r b.table.size few w.good.size j k ne ∙ regions j k);
  }

same_place : (place : Option ℕ) → IfSome place (λ q. place ≡ Some q)
same_place None = tt
same_place (Some q) = refl

-- no place is told: it is held in the region itself
pub kept_there : {t : List ℕ} {s kind : ℕ} {p r : List ℕ} {take : Take} {place : Option ℕ} → KeepLent t s kind p place
    → is_placed kind ≡ false → Takes (reading_in t) kind p (part t s) take r
    → Keeps t s kind p place take (put t s r) place
kept_there {kind = kind} {place = place} k e w =
    kept_so k.session (record { table = k.table; size = refl; past = refl; meaning = refl }) refl (λ j few. refl) w k.stands
    (same_place place) (λ q. absurd (eqb-false kind tightenings e q))

-- it is not held: the table is as it was
pub kept_not : {t : List ℕ} {s kind : ℕ} {p : List ℕ} {take : Take} {place : Option ℕ} → KeepLent t s kind p place
    → Takes (reading_in t) kind p (part t s) take (part t s)
    → Keeps t s kind p place take t place
kept_not {t} {s} {kind} {p} {take} {place} k w =
    let steps : step (decode t).shared (event (event_in kind p)) (session_of (reading_in t) (part t s))
    ≡ (session_of (reading_in t) (part t s), event_said (reading_in t) (settings_in t) kind p take (part t s)) =
    by_settings t (event_in kind p) (session_of (reading_in t) (part t s)) ∙ w.steps (settings_in t) in
    record {
      becomes = stayed_alone t s (event (event_in kind p)) k.table k.session
          (ap (λ (z : Session × List Emission). z.0) (sym steps));
      settings = refl;
      takes = rw (part_is t s k.session) w.takes;
      ready = λ q. rw (← part_in t s) (w.ready q);
      says = rw (part_is t s k.session, ← part_in t s) (ap (λ (z : Session × List Emission). z.1) steps);
      stands = k.stands;
      same = same_place place;
      adds = λ e. none_more place (held_by s t);
      others = λ j h ne. refl;
    }
  where
    none_more : (place : Option ℕ) (held : List ℕ) → AddsIf held place held
    none_more None held = refl
    none_more (Some q) held = no_more

module _ (k : Kind) {t o : List ℕ} {n : Next} {p : List ℕ} (e : EventLent t o n (place_of k) p) {take : Take} {t₁ : List ℕ}
    {place : Option ℕ} (w : Keeps t n.to.session (place_of k) p n.place take t₁ place) where
  abbrev kind : ℕ
  kind = place_of k

  -- what was written last is so by the settings, which are as they were
  last_still : IfSome n.copied (Last (settings_in t₁) kind p n.to.at o)
  last_still = rw w.settings e.last

  pub keeps_lent : Lent t₁ o n.to (copy_most (kind_at kind))
  keeps_lent = record { table = w.becomes.table; session = e.lent.session; room = e.lent.room }

  pub asked_lent : {asked : Asked} → asked ≡ asked_in k (region_in n.to.session t₁)
      → AskedLent t₁ o (record { to = n.to; copied = n.copied; place = place }) asked p
  asked_lent q = rw q (record { lent = keeps_lent; place = e.notice; last = last_still })

  told_one : {at : ℕ} {o' : List ℕ} {copied : Option Copied} → at ≤ n.to.at + copy_most (kind_at kind)
      → Put o n.to.at (out_bytes n.to.session (cond (is_told take) (copies_out (settings_in t) kind
      (subscription_in (reading_in t₁) kind (region_in n.to.session t₁)) (notice_in kind p ∷ [])) [])) at o'
      → IfSome copied (Last (settings_in t₁) kind p at o')
      → TellsOne t o n kind p (is_taken take) t₁ o' (record {
        to = record { session = n.to.session; at = at };
        copied = copied;
        place = place;
      })
  told_one within v last =
      let few : n.to.session < length (decode t).sessions = rw (so_many_sessions t) e.lent.session in
      record {
        within = within;
        takes = w.takes;
        went = went_one w.becomes
            (rw (emits_to (decode t) n.to.session (event (event_in kind p)) few, w.says) v);
        last = last;
        stands = w.stands;
        same = w.same;
        adds = w.adds;
        others = w.others;
      }

  -- nothing went out: what was written last still is
  pub told_nothing : is_told take ≡ false
      → TellsOne t o n kind p (is_taken take) t₁ o (record { to = n.to; copied = n.copied; place = place })
  told_nothing b = told_one (omega arith) (rw b (put_nothing o n.to.at)) last_still

  -- a copy went out: it is the last
  pub told_copy : {at : ℕ} {o' : List ℕ} {asked : Asked} → is_told take ≡ true → asked ≡ asked_in k (region_in n.to.session t₁)
      → Copies (settings_in t₁) asked p n.to o at o'
      → TellsOne t o n kind p (is_taken take) t₁ o' (record {
        to = record { session = n.to.session; at = at };
        copied = Some (record { from = n.to.at; asked = asked });
        place = place;
      })
  told_copy b q v =
      let u = rw q at v in
      rw q (told_one u.within
      (rw (b, ← w.settings) (put_as (asked_said (reading_in t₁) (settings_in t₁) n.to.session k (region_in n.to.session t₁) p
      (w.ready b)) u.bytes)) (last_now e.lent.room u))
