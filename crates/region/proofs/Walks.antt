-- The loops over the kinds: the lanes change, are cleared, are read.
use mathlib.Core.Path.{◌≡◌, refl, sym, ap, subst, ◌∙◌}
use Prim.Native.Nat.{ℕ, zero, suc, ◌+◌, ◌-◌, ◌≤◌, ◌<◌}
use native.Mathlib.Numerals.{add-one}
use native.Mathlib.Omega.{arith}
use mathlib.Core.Bool.{Bool, true, false}
use mathlib.Core.List.{List, [], ◌∷◌, ◌++◌, map, append_assoc, append-nil}
use lib.ListN.{length, get_or, set, take, drop, replicate, length-set, length-map, get_or-map, drop_of_length-le}
use lib.Seq.{take_all, take-suc-set, drop-set-lt}
use Rattle.std.specs.List.{list_all}
use Rattle.std.specs.declared.ops.Range.{Range}
use Rattle.model.specs.Bytes.{all}
use Rattle.model.specs.Kinds.{kinds, room_of}
use Rattle.model.specs.Named.{place_of}
use Rattle.model.specs.declared.Kind.{Kind}
use Rattle.model.specs.declared.Kind.TheVariants.{Identifiers}
use Rattle.model.specs.declared.TheConstants.{KINDS}
use Rattle.model.specs.Notices.{Subscription, unsubscribed, is_subscribed, Deed, act}
use Rattle.model.specs.Session.{no_subscriptions}
use Rattle.model.specs.Row.{row}
use Rattle.model.proofs.Named.{place_within}
use Rattle.text.specs.Areas.{areas}
use Rattle.text.proofs.Lists.{drop_next, replicate_next}
use Rattle.text.proofs.Areas.{length_areas}
use Rattle.message.specs.Meaning.{holds, standing_of}
use Rattle.message.specs.declared.Common.{Common}
use Rattle.session.specs.Decisions.{is_started}
use Rattle.session.specs.declared.Session.{Session}
use Rattle.run.specs.Area.{run_of}
use Rattle.head.specs.Head.{head_of}
use Rattle.lane.specs.Kinds.{lane_size}
use Rattle.lane.specs.Lane.{Reading, lane_of, lane_formed, Deals, any}
use Rattle.lane.specs.Lane as lane
use Rattle.region.specs.Region.{region_size, head_area, run_area, lane_at, lane_range, lanes, lane_in, subscriptions_in, subscription_in}
use Rattle.region.specs.Region.{Good, Changes, LanesCleared}
use Rattle.region.specs.Said.{acting, dues, DealtTo, DealtToAll, stood}
use Rattle.region.proofs.Areas.{part, put, length_subscriptions, subscription_at, there, lane_length, lane_part}
use Rattle.region.proofs.Areas.{lane_replaced, lane_size_kept}
use Rattle.region.proofs.Areas.{head_kept, run_kept, lanes_put, unchanged, changes_then}

-- ==== a loop that fills a list: those before k stand there, and what is to come stands behind them

module _ {X : Type 0} (l : List X) (k : ℕ) where
  -- y is next
  pub filled_next : {y : X} {rest more : List X} → k < length l → rest ≡ y ∷ more → take (k + 1) (set l k y) ++ more ≡ take k l ++ rest
  filled_next {y} h e = rw (add-one k, take-suc-set l k y h, append_assoc, e)

  -- none is left
  pub filled : {rest : List X} → length l ≤ k → rest ≡ [] → l ≡ take k l ++ rest
  filled h e = rw (take_all k l h, e, append-nil)

-- each kind stands in its place
pub in_order : (k : ℕ) → k < length kinds → place_of (get_or KINDS k Identifiers) ≡ k
in_order zero h = refl
in_order (suc zero) h = refl
in_order (suc (suc zero)) h = refl
in_order (suc (suc (suc k))) h = absurd (omega (arith, h))

-- a test of each kind in its order is a test of each lane
pub each_passes : (f : ℕ → List ℕ → Bool) (r : List ℕ)
    → list_all (λ (kind : Kind). f (place_of kind) (lane_in (place_of kind) r)) KINDS ≡ all (λ (passes : Bool). passes) (lanes f r)
unfolding areas
each_passes f r = refl

module _ (read : Reading) where
  -- ==== a deed to one lane

  pub dealt_to : {r : List ℕ} {kind : ℕ} {w : Range ℕ} {deed : Deed} {b : Bool} {ys : List ℕ} → kind < length kinds → Good r
      → w ≡ lane_range kind → Deals (read kind) kind deed (part w r) b ys → DealtTo read kind deed r b (put w r ys)
  dealt_to {r} {kind} {w} {deed} {ys = ys} few g e d =
      let is : lane_of read kind (part w r) ≡ subscription_in read kind r = ap (lane_of read kind) (lane_part r few e) in
      let new : lane_of read kind ys ≡ (act (room_of kind) deed (subscription_in read kind r)).0 =
      d.becomes ∙ ap (λ (x : Subscription). (act (room_of kind) deed x).0) is in
      record {
        changes =
            subst (λ (y : Subscription). Changes read r (head_of (head_area r)) (run_of (run_area r)) (set (subscriptions_in read r) kind y)
            (put w r ys)) new (lane_replaced read r few e g.size d.lane g);
        sends = d.sends ∙ ap (λ (x : Subscription). any (act (room_of kind) deed x).1) is;
      }

  -- ==== to every lane

  module _ (deed : ℕ → Deed) where
    -- what is left to be done to the lanes from k on, over what was done, is all of it
    pub record Dealing (r₀ r : List ℕ) (due : List Bool) (k : ℕ) : Type 0 where
      pub within : k ≤ length kinds
      pub count : length due ≡ length kinds
      pub changes : Changes read r₀ (head_of (head_area r₀)) (run_of (run_area r₀)) (subscriptions_in read r) r
      pub subscriptions : take k (subscriptions_in read r) ++ row (acting deed) k (drop k (subscriptions_in read r)) ≡ row (acting deed) 0
          (subscriptions_in read r₀)
      pub dues : take k due ++ dues deed k (drop k (subscriptions_in read r)) ≡ dues deed 0 (subscriptions_in read r₀)

    pub dealing_none : (r : List ℕ) (due : List Bool) → length due ≡ length kinds → Good r → Dealing r r due 0
    dealing_none r due c g = record {
      within = omega arith;
      count = c;
      changes = unchanged read r g;
      subscriptions = refl;
      dues = refl;
    }

    module _ {r₀ r : List ℕ} {due : List Bool} {k : ℕ} (w : Dealing r₀ r due k) where
      pub dealing_next : {kind : ℕ} {b : Bool} {r' : List ℕ} → k < length kinds → kind ≡ k → DealtTo read kind (deed kind) r b r'
          → Dealing r₀ r' (set due kind b) (k + 1)
      dealing_next {b = b} {r'} h e dealt =
          let d : DealtTo read k (deed k) r b r' = rw e at dealt in
          let xs = subscriptions_in read r in
          let few = there read r k h in
          let behind : (y : Subscription) → drop (k + 1) (set xs k y) ≡ drop (k + 1) xs = λ y. drop-set-lt (k + 1) xs k y (omega arith) in
          rw e record {
            within = omega arith;
            count = length-set due k b ∙ w.count;
            changes =
                rw (← w.changes.becomes.head, ← w.changes.becomes.runs, d.changes.becomes.subscriptions)
                (changes_then read w.changes d.changes);
            subscriptions =
                rw d.changes.becomes.subscriptions
                (filled_next xs k few (rw (behind, drop_next xs k unsubscribed few, subscription_at read r k h, add-one k))
                ∙ w.subscriptions);
            dues =
                rw d.changes.becomes.subscriptions
                (filled_next due k (rw w.count h)
                (rw (behind, drop_next xs k unsubscribed few, subscription_at read r k h, add-one k, d.sends)) ∙ w.dues);
          }

      pub dealt_to_all : length kinds ≤ k → DealtToAll read deed r₀ due r
      dealt_to_all h =
          let xs = subscriptions_in read r in
          let n = length_subscriptions read r in
          let none : drop k xs ≡ [] = drop_of_length-le xs {i = k} (omega arith) in
          record {
            changes = rw (← (filled xs k (omega arith) (rw none) ∙ w.subscriptions)) w.changes;
            sends = filled due k (omega arith) (rw none) ∙ w.dues;
          }

-- ==== every lane is cleared

pub record Clearing (r₀ r : List ℕ) (k : ℕ) : Type 0 where
  pub within : k ≤ length kinds
  pub size : length r ≡ length r₀
  pub head : head_area r ≡ head_area r₀
  pub run : run_area r ≡ run_area r₀
  pub formed : take k (lanes lane_formed r) ++ replicate (length kinds - k) true ≡ replicate (length kinds) true
  pub none : (read : Reading) → take k (subscriptions_in read r) ++ replicate (length kinds - k) unsubscribed ≡ no_subscriptions

pub clearing_none : (r : List ℕ) → Clearing r r 0
clearing_none r = record { within = omega arith; size = refl; head = refl; run = refl; formed = refl; none = λ read. refl }

module _ {r₀ r : List ℕ} {k : ℕ} (w : Clearing r₀ r k) where
  pub clearing_next : {kind : ℕ} {u : Range ℕ} {ys : List ℕ} → length r₀ ≡ region_size → k < length kinds → kind ≡ k
      → u ≡ lane_range kind → lane.Cleared kind ys → Clearing r₀ (put u r ys) (k + 1)
  unfolding subscriptions_in
  clearing_next {u = u} {ys} s h is lent cleared =
      let l = w.size ∙ s in
      let e : u ≡ lane_range k = rw (← is) lent in
      let c : lane.Cleared k ys = rw (← is) cleared in
      record {
        within = omega arith;
        size = lane_size_kept r h e l c.lane ∙ w.size;
        head = head_kept r h e l c.lane ∙ w.head;
        run = run_kept r h e l c.lane ∙ w.run;
        formed =
            rw (lanes_put r h e l c.lane lane_formed, c.lane.formed)
            (filled_next (lanes lane_formed r) k (rw (length_areas lane_formed lane_at lane_size 0 (length kinds) r) h)
            (replicate_next (length kinds) k true h) ∙ w.formed);
        none = λ read.
            rw (lanes_put r h e l c.lane (lane_of read), c.means (read k))
            (filled_next (subscriptions_in read r) k (there read r k h) (replicate_next (length kinds) k unsubscribed h) ∙ w.none read);
      }

  pub all_cleared : length kinds ≤ k → LanesCleared r₀ r
  all_cleared h =
      let none_left : length kinds - k ≡ 0 = omega arith in
      let m = length_areas lane_formed lane_at lane_size 0 (length kinds) r in
      record {
        size = w.size;
        head = w.head;
        run = w.run;
        formed = ap (all (λ (formed : Bool). formed)) (filled (lanes lane_formed r) k (omega arith) (rw none_left) ∙ w.formed);
        none = λ read.
            let n = length_subscriptions read r in filled (subscriptions_in read r) k (omega arith) (rw none_left) ∙ w.none read;
      }

pub ruleset clearing = (place_within, lane_part, lane_length, clearing_none, all_cleared)

module _ (read : Reading) where
  -- ==== what they are subscribed to

  module _ (r : List ℕ) where
    abbrev pub told : List Bool
    told = map is_subscribed (subscriptions_in read r)

    pub record Telling (known : List Bool) (k : ℕ) : Type 0 where
      pub within : k ≤ length kinds
      pub count : length known ≡ length kinds
      pub so_far : take k known ++ drop k told ≡ told

    length_told : length told ≡ length kinds
    length_told = length-map (subscriptions_in read r) is_subscribed ∙ length_subscriptions read r

    pub telling_none : (known : List Bool) → length known ≡ length kinds → Telling known 0
    telling_none known c = record { within = omega arith; count = c; so_far = refl }

    told_at : (k : ℕ) → k < length kinds → get_or told k false ≡ is_subscribed (subscription_in read k r)
    told_at k h = get_or-map is_subscribed (subscriptions_in read r) k unsubscribed ∙ ap is_subscribed (subscription_at read r k h)

    pub telling_next : {known : List Bool} {kind k : ℕ} {b : Bool} → Telling known k → k < length kinds → kind ≡ k
        → b ≡ is_subscribed (subscription_in read kind r)
        → Telling (set known kind b) (k + 1)
    telling_next {known} {kind} {k} {b} w h is asked =
        let e : b ≡ is_subscribed (subscription_in read k r) = rw (← is) asked in
        rw is record {
          within = omega arith;
          count = length-set known k b ∙ w.count;
          so_far =
              filled_next known k (omega arith) (rw (e ∙ sym (told_at k h)) (drop_next told k false (rw length_told h))) ∙ w.so_far;
        }

    pub all_told : {known : List Bool} {k : ℕ} → Telling known k → length kinds ≤ k → known ≡ told
    all_told {known} {k} w h =
        let n = length_told in filled known k (omega arith) (drop_of_length-le told {i = k} (omega arith)) ∙ w.so_far

  -- so the tests of a message look at what the model's look at
  pub stands_so : (r : List ℕ) (x : Session) (common : Common) (known : List Bool) (started : Bool) → started ≡ is_started x.phase
      → known ≡ told r
      → standing_of (record { started = started; common = common; subscribed = known }) ≡ stood x common (subscriptions_in read r)
  stands_so r x common known started es ek = λ i. record {
    started = es i;
    granted = common.granted;
    subscribed = λ kind.
        (ap (λ (l : List Bool). get_or l kind false) ek ∙ get_or-map is_subscribed (subscriptions_in read r) kind unsubscribed) i;
    kept = holds common;
  }
