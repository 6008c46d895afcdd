-- A session in its region of the table, 288 bytes: its phase and idle count, its run, and a lane for each kind of notice.
-- docs/TABLE.md has the map.
use Rattle.std.specs.Prelude.{◌≡◌, ℕ, ◌+◌, Bool, true, cond, ◌&&◌, List, [], ◌∷◌, length, get_or, take, drop}
use Rattle.std.specs.declared.ops.Range.{Range}
use Rattle.model.specs.Bytes.{all}
use Rattle.model.specs.Runs.{Run}
use Rattle.model.specs.Kinds.{kinds, tightenings}
use Rattle.model.specs.Notices.{Subscription}
use Rattle.model.specs.Session.{no_subscriptions}
use Rattle.model.specs.Session as model
use Rattle.text.specs.Areas.{areas}
use Rattle.session.specs.Meaning.{session_as}
use Rattle.session.specs.Decisions.{is_started}
use Rattle.session.specs.declared.Session.{Session}
use Rattle.run.specs.Area.{run_size, run_of, run_formed, bytes_of}
use Rattle.head.specs.Head.{head_size, head_of, head_formed}
use Rattle.lane.specs.Kinds.{lane_size}
use Rattle.lane.specs.Lane.{Reading, lane_of, places_in, lane_formed}

-- ==== its areas

abbrev pub region_size : ℕ
region_size = 288

abbrev pub head_area : List ℕ → List ℕ
head_area r = take head_size (drop 0 r)

abbrev pub run_area : List ℕ → List ℕ
run_area r = take run_size (drop 8 r)

-- by kind: where its lane begins
abbrev pub lane_at : ℕ → ℕ
lane_at kind = get_or (56 ∷ 128 ∷ 160 ∷ []) kind 0

abbrev pub lane_range : ℕ → Range ℕ
lane_range kind = record { start = lane_at kind; end = lane_at kind + lane_size kind }

-- what f reads in the lane of each kind
abbrev pub lanes : {A : Type 0} → (ℕ → List ℕ → A) → List ℕ → List A
lanes f r = areas f lane_at lane_size 0 (length kinds) r

abbrev pub lane_in : ℕ → List ℕ → List ℕ
lane_in kind r = take (lane_size kind) (drop (lane_at kind) r)

-- well formed: its phase and idle count, its run and every lane are
unfoldable pub region_formed : List ℕ → Bool
region_formed r =
    head_formed (head_area r) && (run_formed (run_area r) && all (λ formed. formed) (lanes lane_formed r))

pub record Good (r : List ℕ) : Type 0 where
  pub size : length r ≡ region_size
  pub formed : region_formed r ≡ true

-- the bytes of the run that it has received, or has received last: they stay when that is over
abbrev pub run_bytes : List ℕ → List ℕ
run_bytes r = bytes_of (run_area r)

-- 02, P7: the places that it has open or waiting (01, "What a message does": one that is not started has none)
unfoldable pub places_held : List ℕ → List ℕ
places_held r = cond (is_started (head_of (head_area r)).phase) (places_in (lane_in tightenings r)) []

-- ==== its meaning, by what its slots mean

-- a session of that phase, idle count and run, with those subscriptions (01, "What a message does": they count for one that is started)
abbrev pub meaning : Session → Run → List Subscription → model.Session
meaning x run subs = session_as x.phase x.idle run subs

module _ (read : Reading) where
  unfoldable pub subscriptions_in : List ℕ → List Subscription
  subscriptions_in r = lanes (lane_of read) r

  abbrev pub subscription_in : ℕ → List ℕ → Subscription
  subscription_in kind r = lane_of read kind (lane_in kind r)

  unfoldable pub session_of : List ℕ → model.Session
  session_of r = meaning (head_of (head_area r)) (run_of (run_area r)) (subscriptions_in r)

  -- ==== what has become of it

  -- r has become r', with that phase and idle count, that run and those subscriptions
  pub record Becomes (r : List ℕ) (x : Session) (run : Run) (subs : List Subscription) (r' : List ℕ) : Type 0 where
    pub good : Good r'
    pub size : length r' ≡ length r
    pub head : head_of (head_area r') ≡ x
    pub runs : run_of (run_area r') ≡ run
    pub subscriptions : subscriptions_in r' ≡ subs

  -- and the bytes of its run stand as they stood
  pub record Changes (r : List ℕ) (x : Session) (run : Run) (subs : List Subscription) (r' : List ℕ) : Type 0 where
    pub becomes : Becomes r x run subs r'
    pub bytes : run_bytes r' ≡ run_bytes r

-- nothing is held of any kind, whatever the bytes of the lanes were, and all else stands as it stood
pub record LanesCleared (r r' : List ℕ) : Type 0 where
  pub size : length r' ≡ length r
  pub head : head_area r' ≡ head_area r
  pub run : run_area r' ≡ run_area r
  pub formed : all (λ formed. formed) (lanes lane_formed r') ≡ true
  pub none : (read : Reading) → subscriptions_in read r' ≡ no_subscriptions
