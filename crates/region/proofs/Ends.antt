-- The end of a run, to a session in its region.
use mathlib.Core.Path.{◌≡◌, refl, sym, ap, ap₂, subst, ◌∙◌, fun_ext}
use mathlib.Core.Bool.{Bool, true, false, cond}
use Rattle.std.specs.Prelude.{Option, Some, None}
use Rattle.std.specs.Bool.{then_some}
use mathlib.Core.List.{List, [], ◌++◌, append-nil}
use Prim.Native.Nat.{ℕ, ◌≤◌, ◌<◌, min}
use native.Mathlib.Omega.{arith}
use lib.Dec.{lit≤}
use lib.ListN.{length, take, drop, length-take, length-drop}
use lib.Seq.{take-take, take_all}
use Rattle.model.specs.Limits.{header_length, run_kept, idle_limit}
use Rattle.model.specs.Bytes.{little}
use Rattle.model.specs.Runs.{Run, empty_run, longer}
use Rattle.model.specs.Kinds.{room_of}
use Rattle.model.specs.Named.{place_of}
use Rattle.model.specs.declared.Kind.{Kind}
use Rattle.model.specs.Records.{Settings}
use Rattle.model.proofs.Named.{place_within}
use Rattle.session.specs.declared.Deed as by_value
use Rattle.session.proofs.Hearing.{row_still, said_still}
use Rattle.region.specs.declared.Ruling.{Ruling}
use Rattle.model.specs.Notices.{Subscription}
use Rattle.model.specs.Session.{no_subscriptions, subscribed_to, Emission}
use Rattle.model.specs.Session as model
use Rattle.model.specs.Local.{step, receives, announces}
use Rattle.model.specs.Memory.{is_there}
use Rattle.model.specs.Sharing.{Shared}
use Rattle.model.proofs.Cuts.{longer_longer}
use borrow.Rule.Slice.PartMut.{put_mid}
use Rattle.text.proofs.Cells.{area_same, area_before}
use Rattle.message.specs.Meaning.{meant, is_among, Remembers, standing_of}
use Rattle.message.specs.declared.Common.{Common}
use Rattle.session.specs.Meaning.{deed_of, session_as}
use Rattle.session.specs.Control.{cleared}
use Rattle.session.specs.Decisions.{is_started}
use Rattle.session.specs.Effects.{standing_in, replies}
use Rattle.session.specs.declared.Phase.{Phase}
use Rattle.session.specs.declared.Phase.TheVariants.{Closed, Opened, Started}
use Rattle.session.specs.declared.Session.{Session}
use Rattle.session.specs.declared.Decision.{Decision}
use Rattle.session.specs.declared.Reply.{Reply}
use Rattle.session.specs.declared.Reply.TheVariants as reply
use Rattle.session.proofs.Hearing.{decide_right, identify_right}
use Rattle.session.proofs.Decided.{decided_fair, mirrored_whole, told_kept}
use Rattle.run.specs.Area.{run_size, run_of, run_formed, bytes_of}
use Rattle.run.specs.Area as run
use Rattle.run.proofs.Areas.{counted}
use Rattle.head.specs.Head.{head_size, head_of, head_formed}
use Rattle.head.specs.Head as head
use Rattle.lane.specs.Lane.{Reading}
use Rattle.lane.proofs.Sayings.{quiet_of, after}
use Rattle.region.specs.Region.{region_size, head_area, run_area, subscriptions_in, subscription_in, session_of, meaning, Good}
use Rattle.region.specs.Region.{Becomes, Changes, LanesCleared}
use Rattle.region.specs.Said.{DealtTo, Ready, ending, Shows, Rules, due_copy, copy_due, IsReady, CarriesOut}
use Rattle.region.specs.Said.{ended_by, ended_in}
use Rattle.region.specs.Said.{RunEnds}
use Rattle.region.specs.declared.Ended.{Ended}
use Rattle.region.proofs.Rulings.{ruled_as}
use Rattle.region.proofs.Areas.{head_few, good_of, replaced_size, means, changes_then}
use Rattle.region.proofs.Says.{sent, now_is, row_one, said_one}
use Rattle.region.proofs.Ticks.{means_so}

-- ==== a start

pub started_there : (r : List ℕ) {h n r' : List ℕ} → length r ≡ region_size → head_of h ≡ cleared → head.Area h → run.Area n
    → LanesCleared (put_mid 8 run_size (put_mid 0 head_size r h) n) r' → Good r' × ((read : Reading) → session_of read r' ≡ model.closed)
unfolding session_of
started_there r {h} {n} {r'} s e g k c =
    let r₁ = put_mid 0 head_size r h in
    let r₂ = put_mid 8 run_size r₁ n in
    let l : length r₁ ≡ region_size = replaced_size r h s 0 head_size g.size (lit≤ tt) ∙ s in
    let l₂ : length r₂ ≡ region_size = replaced_size r₁ n l 8 run_size k.size (lit≤ tt) ∙ l in
    let a : head_area r₂ ≡ h = area_before 8 run_size r₁ n k.size (omega arith) 0 head_size (lit≤ tt)
    ∙ area_same 0 head_size r h g.size (omega arith) in
    let b : run_area r₂ ≡ n = area_same 8 run_size r₁ n k.size (omega arith) in (
      good_of r' (c.size ∙ l₂) (ap head_formed (c.head ∙ a) ∙ g.formed) (ap run_formed (c.run ∙ b) ∙ k.formed) c.formed,
      λ read. ap (λ (x : Session). meaning x (run_of (run_area r')) (subscriptions_in read r')) (ap head_of (c.head ∙ a) ∙ e),
    )

-- of a header only one that is mirrored is read
replies_same : (g : Shared) (h h' : List ℕ) (r : Option Reply) → (r ≡ Some reply.Mirrored → h ≡ h') → replies g h r ≡ replies g h' r
replies_same g h h' None e = refl
replies_same g h h' (Some reply.Started) e = refl
replies_same g h h' (Some (reply.Accepted mid)) e = refl
replies_same g h h' (Some (reply.Error mid code)) e = refl
replies_same g h h' (Some (reply.Kept number)) e = refl
replies_same g h h' (Some reply.Mirrored) e = ap (λ (z : List ℕ). replies g z (Some reply.Mirrored)) (e refl)

-- ==== where its bytes are

-- whole in the slice
pub taken_few : (bs : List ℕ) → length (longer empty_run bs).kept ≤ run_kept
taken_few bs = rw (length-take run_kept bs) (omega arith)

-- so what is ruled on it is ruled on the run that it is
pub ruled_whole : {common : Common} {r : List ℕ} {ruling : Ruling} {kept : List ℕ} {count : ℕ} (bs : List ℕ) {run : Run} → run ≡ empty_run
    → kept ≡ (longer empty_run bs).kept → count ≡ (longer empty_run bs).count
    → Rules common r (record { kept = kept; count = count }) ruling → Rules common r (longer run bs) ruling
ruled_whole bs e ek ec w = rw e (ruled_as (longer empty_run bs) ek ec w)

-- kept in the region
pub kept_few : (a : List ℕ) → length (run_of a).kept ≤ run_kept
unfolding run_of
kept_few a = rw (length-take (min run_kept (little (take 2 a))) (drop 2 a)) (omega arith)

module _ (a : List ℕ) (area : run.Area a) where
  pub longer_none : longer (run_of a) [] ≡ run_of a
  unfolding run_of
  longer_none =
      let c = counted a area in
      ap₂ {C = Run} (λ (bs : List ℕ) (n : ℕ). record { kept = bs; count = n }) (ap (take run_kept) (append-nil (run_of a).kept)
      ∙ take_all run_kept (run_of a).kept (omega (arith, length-take (min run_kept (little (take 2 a))) (drop 2 a)))) (omega arith)

  -- what is ruled on the run is ruled on it with no more bytes
  pub ruled_kept : {common : Common} {r : List ℕ} {ruling : Ruling} {kept : List ℕ} {count : ℕ} → kept ≡ (run_of a).kept
      → count ≡ (run_of a).count → Rules common r (record { kept = kept; count = count }) ruling
      → Rules common r (longer (run_of a) []) ruling
  ruled_kept ek ec w = rw longer_none (ruled_as (run_of a) ek ec w)

  pub kept_header : header_length ≤ length (run_of a).kept → take header_length (run_of a).kept ≡ take header_length (bytes_of a)
  unfolding run_of
  kept_header h =
      let l = length-take (min run_kept (little (take 2 a))) (drop 2 a) in
      take-take header_length (min run_kept (little (take 2 a))) (drop 2 a) (omega arith)
      ∙ sym (take-take header_length run_kept (drop 2 a) (omega arith))

  pub bytes_long : header_length ≤ length (bytes_of a)
  bytes_long = let s = area.size in omega (arith, length-take run_kept (drop 2 a), length-drop 2 a)

pub run_empty : (a : List ℕ) → (run_of a).count ≡ 0 → run_of a ≡ empty_run
unfolding run_of
run_empty a e = ap (λ (n : ℕ). record { kept = take (min run_kept n) (drop 2 a); count = n }) e

-- ==== by what the slots mean

module _ (read : Reading) where
  -- ==== a decision is carried out

  -- what it held, where it is not gone
  abbrev pub held : Decision → List ℕ → List Subscription
  held d r = cond d.begins no_subscriptions (subscriptions_in read r)

  -- the copy that is due of a kind, if one is
  ready_due : (kind : Kind) (b : Bool) (r : List ℕ) → Ready b (subscription_in read (place_of kind) r)
      → IsReady read (then_some b kind) r
  ready_due kind true r h = h refl
  ready_due kind false r h = tt

  copy_of : (st : Settings) (kind : Kind) (b : Bool) (r : List ℕ)
      → due_copy st (place_of kind) b (subscription_in read (place_of kind) r) ≡ copy_due read st (then_some b kind) r
  copy_of st kind true r = refl
  copy_of st kind false r = refl

  module _ (d : Decision) {r r₁ : List ℕ} (c : Changes read r d.next empty_run (held d r) r₁) where
    -- with no deed
    pub carries_none : d.deed ≡ None → CarriesOut read d r None r₁
    carries_none e =
        let now = rw c.becomes.runs at (means_so read r₁ d.next (sym c.becomes.head)) in
        record {
          good = c.becomes.good;
          size = c.becomes.size;
          bytes = c.bytes;
          ready = tt;
          carries = λ st. rw (e, row_still st, said_still st, now, c.becomes.subscriptions);
        }

    -- with a deed
    pub carries_one : (kind : Kind) (deed : by_value.Deed) {sends : Bool} {r₂ : List ℕ} → d.deed ≡ Some (kind, deed)
        → DealtTo read (place_of kind) (deed_of deed) r₁ sends r₂ → CarriesOut read d r (then_some sends kind) r₂
    carries_one kind deed {sends} {r₂} q e =
        let few = place_within kind in
        let x = subscription_in read (place_of kind) r₁ in
        let quiet = quiet_of deed in
        let f = e.changes.becomes in
        let is = now_is read few e in
        let now = rw (f.runs ∙ c.becomes.runs) at (means_so read r₂ d.next (sym (f.head ∙ c.becomes.head))) in
        record {
          good = f.good;
          size = f.size ∙ c.becomes.size;
          bytes = e.changes.bytes ∙ c.bytes;
          ready = ready_due kind sends r₂
              (λ b. rw is ((after (room_of (place_of kind)) (deed_of deed) x quiet).there (sym e.sends ∙ b)));
          carries = λ st.
              rw (q, ← c.becomes.subscriptions, row_one read few e st, said_one read few e st, now)
              (rw (← (copy_of st kind sends r₂), is, e.sends)
              (rw (sent (room_of (place_of kind)) (deed_of deed) x quiet st (place_of kind))));
        }

  -- step by step: the run is over, what it held is gone or not, and it is then as the decision says
  pub changed_so : (d : Decision) {r r₁ r₂ r₃ : List ℕ} → Changes read r (head_of (head_area r)) empty_run (subscriptions_in read r) r₁
      → Changes read r₁ (head_of (head_area r₁)) (run_of (run_area r₁)) (cond d.begins no_subscriptions (subscriptions_in read r₁)) r₂
      → Changes read r₂ d.next (run_of (run_area r₂)) (subscriptions_in read r₂) r₃ → Changes read r d.next empty_run (held d r) r₃
  changed_so d a b c =
      rw (← a.becomes.subscriptions, ← b.becomes.subscriptions, ← a.becomes.runs, ← b.becomes.runs)
      (changes_then read a (changes_then read b c))

  -- ==== the run is over

  module _ (bs r : List ℕ) {common : Common} {ruling : Ruling} (good : Good r)
      (o : Rules common r (longer (run_of (run_area r)) bs) ruling) where
    abbrev n : Run
    n = longer (run_of (run_area r)) bs

    abbrev d : Decision
    d = ruling.decision

    abbrev who : Session
    who = head_of (head_area r)

    pub fair : d.next.idle < idle_limit
    fair =
        let P : Decision → Type 0 = λ z. z.next.idle < idle_limit in
        subst P (sym o.ruled.decides) (decided_fair who (head_few r who good refl) o.standing _ _)

    header_there : d.reply ≡ Some reply.Mirrored → header_length ≤ length n.kept
    header_there q = mirrored_whole who o.standing n (ap (λ (z : Decision). z.reply) (sym o.ruled.decides) ∙ q)

    told_of_kept : (number : ℕ) → d.reply ≡ Some (reply.Kept number) → is_among common number ≡ true
    told_of_kept number q =
        rw (← o.stands.shares)
        (told_kept who o.standing _ number _ (ap (λ (z : Decision). z.reply) (sym o.ruled.decides) ∙ q))

    module _ (g : Shared) (shows : Shows common g) where
      so : standing_of o.standing ≡ standing_in g who.phase (subscriptions_in read r)
      so =
          o.stands.tests read ∙ ap₂ (λ (granted : Bool) (kept : ℕ → Bool). record {
            started = is_started who.phase;
            granted = granted;
            subscribed = subscribed_to (subscriptions_in read r);
            kept = kept;
          }) shows.granted (fun_ext λ n. sym (ap is_there (shows.remembers.asked_for n) ∙ shows.remembers.kept (meant common n)))

      remembers : Remembers o.standing.common g.kept
      remembers = rw o.stands.shares shows.remembers

    module _ {due : Option Kind} {r' : List ℕ} (c : CarriesOut read d r due r') where
      run_ends : (whole : Bool) → (d.reply ≡ Some reply.Mirrored → take header_length n.kept ≡ take header_length (ended_in whole bs r'))
          → (d.reply ≡ Some reply.Mirrored → header_length ≤ length (ended_in whole bs r'))
          → RunEnds read common bs r (ended_by ruling whole due) r'
      run_ends whole same long = record {
        good = c.good;
        size = c.size;
        ready = c.ready;
        whole = long;
        kept = told_of_kept;
        steps = λ g e.
            let decided = decide_right g (run_of (run_area r)) (subscriptions_in read r) (ending bs) refl o.standing (remembers g e)
            who
            (so g e) in
            rw (means_so read r who refl, decided, ← o.ruled.decides)
            (ap₂ (λ (q : model.Session × List Emission) (es : List Emission). (q.0, es ++ q.1)) (c.carries g.settings)
            (replies_same g _ _ d.reply same));
        knows = λ g e.
            let identified = identify_right g (run_of (run_area r)) (subscriptions_in read r) (ending bs) refl o.standing (remembers g e)
            who (so g e) in
            rw (means_so read r who refl, identified, ← o.ruled.decides) o.ruled.knows;
      }

  -- ==== it is over, and what is decided on it is carried out

  module _ (bs r : List ℕ) {common : Common} {ruling : Ruling} (good : Good r)
      (o : Rules common r (longer (run_of (run_area r)) bs) ruling) {due : Option Kind} {r' : List ℕ}
      (c : CarriesOut read ruling.decision r due r') where
    -- where it stands whole in the slice
    pub ends_whole : run_of (run_area r) ≡ empty_run → RunEnds read common bs r (ended_by ruling true due) r'
    ends_whole e =
        run_ends bs r good o c true (λ q. rw (e, take-take header_length run_kept bs (lit≤ tt)))
        (λ q. omega (arith, length-take run_kept bs, rw e at (header_there bs r good o q)))

  module _ (r : List ℕ) {common : Common} {ruling : Ruling} (good : Good r)
      (o : Rules common r (longer (run_of (run_area r)) []) ruling) {due : Option Kind} {r' : List ℕ}
      (c : CarriesOut read ruling.decision r due r') where
    -- where it is kept
    pub ends_kept : run.Area (run_area r) → RunEnds read common [] r (ended_by ruling false due) r'
    ends_kept area =
        let n = ap (λ (z : Run). z.kept) (longer_none (run_area r) area) in
        run_ends [] r good o c false (λ q. rw (n, c.bytes) (kept_header (run_area r) area (rw n at (header_there [] r good o q))))
        (λ q. rw c.bytes (bytes_long (run_area r) area))

  -- ==== a run that began earlier ends: first it gets longer, and then it is over

  module _ (bs : List ℕ) {r r₁ : List ℕ} {x : Session} (ex : x ≡ head_of (head_area r))
      (b : Becomes read r x (longer (run_of (run_area r)) bs) (subscriptions_in read r) r₁) where
    abbrev run₀ : Run
    run₀ = run_of (run_area r)

    abbrev subs : List Subscription
    subs = subscriptions_in read r

    again : longer (longer run₀ bs) [] ≡ longer run₀ bs
    again = longer_longer run₀ bs [] ∙ ap (longer run₀) (append-nil bs)

    steps_same : (g : Shared) (p : Phase)
        → step g (receives (ending bs)) (session_as p x.idle run₀ subs)
        ≡ step g (receives (ending [])) (session_as p x.idle (longer run₀ bs) subs)
    steps_same g Closed = refl
    steps_same g Opened = rw again
    steps_same g Started = rw again

    tells_same : (g : Shared) (p : Phase)
        → announces g (ending bs) (session_as p x.idle run₀ subs)
        ≡ announces g (ending []) (session_as p x.idle (longer run₀ bs) subs)
    tells_same g Closed = refl
    tells_same g Opened = refl
    tells_same g Started = rw again

    pub ends_longer : {common : Common} {e : Ended} {r' : List ℕ} → e.whole ≡ false → RunEnds read common [] r₁ e r'
        → RunEnds read common bs r e r'
    ends_longer kept w =
        record {
          good = w.good;
          size = w.size ∙ b.size;
          ready = w.ready;
          whole = λ q. rw kept (rw kept at (w.whole q));
          kept = w.kept;
          steps = λ g h. rw (means_so read r x ex, steps_same g x.phase, ← means read b, w.steps g h, kept);
          knows = λ g h. rw (means_so read r x ex, tells_same g x.phase, ← means read b) (w.knows g h);
        }
