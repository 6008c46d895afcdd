-- The areas of a region: what is known of each, and what the region means after one of them was replaced.
use mathlib.Core.Path.{◌≡◌, refl, sym, ap, ap₂, subst, ◌∙◌}
use Prim.Native.Nat.{ℕ, ◌+◌, ◌-◌, ◌≤◌, ◌<◌}
use native.Mathlib.Nat.{add-sub_cancel_left}
use native.Mathlib.Omega.{arith}
use mathlib.Core.Bool.{Bool, true, ◌&&◌, and-eq-true_iff}
use mathlib.Core.List.{List}
use lib.Dec.{leb, lit≤}
use lib.ListN.{length, get_or, set}
use borrow.Author.Tests.{leb-true}
use borrow.Rule.Slice.PartMut.{put_mid, mid_of, mid_len, same_len_mid}
use Rattle.std.specs.declared.ops.Range.{Range}
use Rattle.model.specs.Limits.{idle_limit}
use Rattle.model.specs.Bytes.{all}
use Rattle.model.specs.Runs.{Run}
use Rattle.model.specs.Kinds.{kinds}
use Rattle.model.specs.Notices.{Subscription, unsubscribed}
use Rattle.model.specs.Session.{no_subscriptions}
use Rattle.model.proofs.Named.{place_within}
use Rattle.text.specs.Areas.{Apart}
use Rattle.text.proofs.Cells.{area_same, area_before, area_after}
use Rattle.text.proofs.Areas.{each_below, apart, areas_at, areas_put, areas_same, length_areas, all_set, passes}
use Rattle.session.specs.declared.Session.{Session}
use Rattle.run.specs.Area.{run_size, run_of, run_formed, bytes_of}
use Rattle.run.specs.Area as run
use Rattle.head.specs.Head.{head_size, head_of, head_formed}
use Rattle.head.specs.Head as head
use Rattle.head.proofs.Bytes.{storable}
use Rattle.frame.specs.Places.{notice_in}
use Rattle.lane.specs.Kinds.{lane_size}
use Rattle.lane.specs.Lane.{Reading, lane_of, lane_formed, Lane}
use Rattle.region.specs.Region.{region_size, head_area, run_area, lane_at, lane_range, lanes, lane_in, subscriptions_in, subscription_in}
use Rattle.region.specs.Region.{meaning, session_of, region_formed, Good, run_bytes, Becomes, Changes, LanesCleared}

-- ==== the map, computed: the lanes stand one behind the other, behind the run

lanes_apart : Apart lane_at lane_size (length kinds) region_size
lanes_apart = apart lane_at lane_size (length kinds) region_size refl

pub lane_ends : (kind : ℕ) → kind < length kinds → lane_at kind + lane_size kind ≤ region_size
lane_ends = lanes_apart.ends

pub behind_run : (kind : ℕ) → kind < length kinds → 8 + run_size ≤ lane_at kind
behind_run kind h =
    leb-true (8 + run_size) (lane_at kind) (each_below (length kinds) (λ (k : ℕ). leb (8 + run_size) (lane_at k)) refl kind h)

-- ==== what is known of each

pub record Parts (r : List ℕ) : Type 0 where
  pub head : head.Area (head_area r)
  pub run : run.Area (run_area r)
  pub lanes : all (λ (formed : Bool). formed) (lanes lane_formed r) ≡ true

pub parts : (r : List ℕ) → Good r → Parts r
unfolding region_formed
parts r g =
    let tested = all (λ (formed : Bool). formed) (lanes lane_formed r) in
    let e = (and-eq-true_iff (head_formed (head_area r)) (run_formed (run_area r) && tested)).0 g.formed in
    let f = (and-eq-true_iff (run_formed (run_area r)) tested).0 e.1 in
    record {
      head = record { size = mid_len 0 head_size r (omega arith); formed = e.0 };
      run = record { size = mid_len 8 (8 + run_size) r (omega arith); formed = f.0 };
      lanes = f.1;
    }

pub head_there : (r : List ℕ) → Good r → head.Area (head_area r)
head_there r g = (parts r g).head

pub run_there : (r : List ℕ) → Good r → run.Area (run_area r)
run_there r g = (parts r g).run

pub head_few : (r : List ℕ) (x : Session) → Good r → x ≡ head_of (head_area r) → x.idle < idle_limit
head_few r x g e = (subst head.Storable (sym e) (storable (head_area r) (parts r g).head.formed))

pub good_of : (r : List ℕ) → length r ≡ region_size → head_formed (head_area r) ≡ true → run_formed (run_area r) ≡ true
    → all (λ (formed : Bool). formed) (lanes lane_formed r) ≡ true → Good r
unfolding region_formed
good_of r s a b c = record { size = s; formed = rw (a, b, c) }

module _ (r : List ℕ) (kind : ℕ) (few : kind < length kinds) where
  pub lane_length : length r ≡ region_size → length (lane_in kind r) ≡ lane_size kind
  lane_length s =
      let e = lane_ends kind few in
      ap (λ (w : ℕ). length (mid_of (lane_at kind) w r)) (sym (add-sub_cancel_left (lane_at kind) (lane_size kind)))
      ∙ mid_len (lane_at kind) (lane_at kind + lane_size kind) r (omega arith) ∙ add-sub_cancel_left (lane_at kind) (lane_size kind)

  pub lane_good : Good r → Lane kind (lane_in kind r)
  lane_good g = record {
    size = lane_length g.size;
    formed = passes lane_formed lane_at lane_size (length kinds) r (parts r g).lanes kind few;
  }

-- ==== one of them was replaced

module _ (r ys : List ℕ) (s : length r ≡ region_size) (a k : ℕ) (len : length ys ≡ k) (fits : a + k ≤ region_size) where
  abbrev new : List ℕ
  new = put_mid a k r ys

  in_it : a + k ≤ length r
  in_it = omega arith

  pub replaced_size : length new ≡ length r
  replaced_size =
      let w : length (mid_of a k r) ≡ k =
      ap (λ (n : ℕ). length (mid_of a n r)) (sym (add-sub_cancel_left a k)) ∙ mid_len a (a + k) r in_it ∙ add-sub_cancel_left a k in
      same_len_mid a k r ys (len ∙ sym w)

  -- what stands before the lanes leaves them as they are
  pub lanes_behind : {A : Type 0} (f : ℕ → List ℕ → A) → a + k ≤ 8 + run_size → lanes f new ≡ lanes f r
  lanes_behind f h =
      areas_same f lane_at lane_size r new 0 (length kinds)
      (λ j p q. let b = behind_run j q in area_after a k r ys len in_it (lane_at j) (lane_size j) (omega arith))

-- ==== a lane was replaced, as lending `&mut region[w]` has it

-- the part of it that is lent, and the region with ys there
abbrev pub part : Range ℕ → List ℕ → List ℕ
part w r = mid_of w.start (w.end - w.start) r

abbrev pub put : Range ℕ → List ℕ → List ℕ → List ℕ
put w r ys = put_mid w.start (w.end - w.start) r ys

module _ (r : List ℕ) {kind : ℕ} {w : Range ℕ} (few : kind < length kinds) (e : w ≡ lane_range kind) where
  pub lane_part : part w r ≡ lane_in kind r
  lane_part = rw (e, add-sub_cancel_left (lane_at kind) (lane_size kind))

  pub lane_lent : Good r → Lane kind (part w r)
  lane_lent g = rw lane_part (lane_good r kind few g)

  module _ {ys : List ℕ} (s : length r ≡ region_size) (lane : Lane kind ys) where
    abbrev pub replaced : List ℕ
    replaced = put w r ys

    as_put : replaced ≡ put_mid (lane_at kind) (lane_size kind) r ys
    as_put = rw (e, add-sub_cancel_left (lane_at kind) (lane_size kind))

    in_region : lane_at kind + lane_size kind ≤ length r
    in_region = let ends = lane_ends kind few in omega arith

    pub lane_size_kept : length replaced ≡ length r
    lane_size_kept =
        ap length as_put ∙ replaced_size r ys s (lane_at kind) (lane_size kind) lane.size (lane_ends kind few)

    -- it stands there
    pub lane_now : lane_in kind replaced ≡ ys
    lane_now =
        ap (lane_in kind) as_put ∙ area_same (lane_at kind) (lane_size kind) r ys lane.size in_region

    -- what stands before the lanes is as it was
    before : (b m : ℕ) → b + m ≤ 8 + run_size → mid_of b m replaced ≡ mid_of b m r
    before b m h =
        let l = behind_run kind few in
        ap (mid_of b m) as_put ∙ area_before (lane_at kind) (lane_size kind) r ys lane.size in_region b m (omega arith)

    pub head_kept : head_area replaced ≡ head_area r
    head_kept = before 0 head_size (lit≤ tt)

    pub run_kept : run_area replaced ≡ run_area r
    run_kept = before 8 run_size (lit≤ tt)

    pub lanes_put : {A : Type 0} (f : ℕ → List ℕ → A) → lanes f replaced ≡ set (lanes f r) kind (f kind ys)
    lanes_put f =
        ap (lanes f) (as_put ∙ ap (λ (n : ℕ). put_mid (lane_at kind) n r ys) (sym (add-sub_cancel_left (lane_at kind) (lane_size kind))))
        ∙ areas_put f lane_at lane_size lanes_apart r ys kind few lane.size (let q = s in omega arith)

-- ==== what it means, by what its slots mean

module _ (read : Reading) where
  pub length_subscriptions : (r : List ℕ) → length (subscriptions_in read r) ≡ length kinds
  unfolding subscriptions_in
  length_subscriptions r = length_areas (lane_of read) lane_at lane_size 0 (length kinds) r

  module _ (r : List ℕ) (kind : ℕ) (few : kind < length kinds) where
    pub subscription_at : get_or (subscriptions_in read r) kind unsubscribed ≡ subscription_in read kind r
    unfolding subscriptions_in
    subscription_at = areas_at (lane_of read) lane_at lane_size (length kinds) kind r unsubscribed few

    pub there : kind < length (subscriptions_in read r)
    there = rw (length_subscriptions r) few

  -- what the region means, by its parts
  pub means : {r : List ℕ} {x : Session} {n : Run} {subs : List Subscription} {r' : List ℕ} → Becomes read r x n subs r'
      → session_of read r' ≡ meaning x n subs
  unfolding session_of
  means {x = x} {n = n} {subs = subs} {r' = r'} b =
      ap₂ (λ (z : Session) (m : Run). meaning z m (subscriptions_in read r')) b.head b.runs ∙ ap (meaning x n) b.subscriptions

  -- it has become so: of that size, with that head and that run, and with lanes that are well formed and mean those subscriptions
  becomes_of : {r r' h n : List ℕ} {subs : List Subscription} → Good r → length r' ≡ length r → head_area r' ≡ h → head.Area h
      → run_area r' ≡ n → run.Area n → all (λ (formed : Bool). formed) (lanes lane_formed r') ≡ true → subscriptions_in read r' ≡ subs
      → Becomes read r (head_of h) (run_of n) subs r'
  becomes_of {r' = r'} g s eh h en n formed subs = record {
    good = good_of r' (s ∙ g.size) (ap head_formed eh ∙ h.formed) (ap run_formed en ∙ n.formed) formed;
    size = s;
    head = ap head_of eh;
    runs = ap run_of en;
    subscriptions = subs;
  }

  module _ {r ys : List ℕ} (g : Good r) where
    pub head_replaced : {x : Session} → head.Area ys → head_of ys ≡ x
        → Changes read r x (run_of (run_area r)) (subscriptions_in read r) (put_mid 0 head_size r ys)
    unfolding subscriptions_in
    head_replaced h e =
        let s = g.size in
        let run = area_after 0 head_size r ys h.size (omega arith) 8 run_size (lit≤ tt) in
        rw (← e) record {
          becomes =
              becomes_of g (replaced_size r ys s 0 head_size h.size (lit≤ tt)) (area_same 0 head_size r ys h.size (omega arith)) h run
              (parts r g).run
              (rw (lanes_behind r ys s 0 head_size h.size (lit≤ tt) lane_formed (lit≤ tt)) (parts r g).lanes)
              (lanes_behind r ys s 0 head_size h.size (lit≤ tt) (lane_of read) (lit≤ tt));
          bytes = ap bytes_of run;
        }

    pub run_replaced : {n : Run} → run.Area ys → run_of ys ≡ n
        → Becomes read r (head_of (head_area r)) n (subscriptions_in read r) (put_mid 8 run_size r ys)
    unfolding subscriptions_in
    run_replaced h e =
        let s = g.size in
        rw (← e)
        (becomes_of g (replaced_size r ys s 8 run_size h.size (lit≤ tt))
        (area_before 8 run_size r ys h.size (omega arith) 0 head_size (lit≤ tt)) (parts r g).head
        (area_same 8 run_size r ys h.size (omega arith)) h
        (rw (lanes_behind r ys s 8 run_size h.size (lit≤ tt) lane_formed (lit≤ tt)) (parts r g).lanes)
        (lanes_behind r ys s 8 run_size h.size (lit≤ tt) (lane_of read) (lit≤ tt)))

    -- it is over: its bytes stand as they stood
    pub run_over : run.Over (run_area r) ys → run_bytes (put_mid 8 run_size r ys) ≡ run_bytes r
    run_over o =
        ap bytes_of (area_same 8 run_size r ys o.area.size (omega arith)) ∙ o.bytes

  -- ==== a lane was replaced

  module _ (r : List ℕ) {kind : ℕ} {w : Range ℕ} (few : kind < length kinds) (e : w ≡ lane_range kind) {ys : List ℕ}
      (s : length r ≡ region_size) (lane : Lane kind ys) where
    pub lane_replaced : Good r
        → Changes read r (head_of (head_area r)) (run_of (run_area r)) (set (subscriptions_in read r) kind (lane_of read kind ys))
        (replaced r few e s lane)
    unfolding subscriptions_in
    lane_replaced g =
        record {
          becomes =
              becomes_of g (lane_size_kept r few e s lane) (head_kept r few e s lane) (parts r g).head
              (run_kept r few e s lane)
              (parts r g).run
              (rw (lanes_put r few e s lane lane_formed, lane.formed) (all_set (lanes lane_formed r) kind (parts r g).lanes))
              (lanes_put r few e s lane (lane_of read));
          bytes = ap bytes_of (run_kept r few e s lane);
        }

  -- ==== nothing was done; the lanes were cleared; and one change after another

  pub unchanged : (r : List ℕ) → Good r → Changes read r (head_of (head_area r)) (run_of (run_area r)) (subscriptions_in read r) r
  unchanged r g = record {
    becomes = record { good = g; size = refl; head = refl; runs = refl; subscriptions = refl };
    bytes = refl;
  }

  pub lanes_cleared : {r r' : List ℕ} → Good r → LanesCleared r r'
      → Changes read r (head_of (head_area r)) (run_of (run_area r)) no_subscriptions r'
  lanes_cleared {r} g c = record {
    becomes = becomes_of g c.size c.head (parts r g).head c.run (parts r g).run c.formed (c.none read);
    bytes = ap bytes_of c.run;
  }

  pub changes_then : {r r₁ r₂ : List ℕ} {x y : Session} {m n : Run} {xs ys : List Subscription} → Changes read r x m xs r₁
      → Changes read r₁ y n ys r₂
      → Changes read r y n ys r₂
  changes_then a b =
      let c = b.becomes in
      record {
        becomes = record {
          good = c.good;
          size = c.size ∙ a.becomes.size;
          head = c.head;
          runs = c.runs;
          subscriptions = c.subscriptions;
        };
        bytes = b.bytes ∙ a.bytes;
      }

-- whatever the slots mean it is well formed
pub still_good : {r r' : List ℕ} {x : Session} {n : Run} {subs : Reading → List Subscription}
    → ((read : Reading) → Changes read r x n (subs read) r') → Good r'
still_good c = (c notice_in).becomes.good

-- a lane is lent
pub ruleset lent = (place_within, lane_lent)
