-- 02, P7: the layout of a table before that change. A slot of every lane held the notice itself there, so that each session had a copy of
-- a result that waits. It is kept so that what the calls show in our tables can be said to be what they showed in those.
use Rattle.std.specs.Prelude.{ℕ, ◌+◌, ◌*◌, Bool, ◌&&◌, List, [], ◌∷◌, leb, ltb, eqb, length, get_or, take, drop}
use Rattle.model.specs.Limits.{session_count, given_up_at, results_kept}
use Rattle.model.specs.Bytes.{little, all}
use Rattle.model.specs.Kinds.{kinds, room_of}
use Rattle.model.specs.Notices.{Subscription}
use Rattle.model.specs.Session.{Session}
use Rattle.text.specs.Cells.{cells}
use Rattle.text.specs.Areas.{areas}
use Rattle.frame.specs.Places.{place_size, notice_in}
use Rattle.session.specs.Meaning.{subscription_in, most_held, session_as}
use Rattle.head.specs.Head.{head_of, head_formed}
use Rattle.run.specs.Area.{run_of, run_formed}
use Rattle.lane.specs.Kinds.{control_size}
use Rattle.lane.specs.Lane.{form_greatest, control_of}
use Rattle.region.specs.Region.{head_area, run_area}
use Rattle.shared.specs.Shared.{shared_size, last_of, count_of}
use Rattle.table.specs.Table.{shared_area, shared_of}
use Rattle.controller.specs.Layout.{Layout}

-- ==== a lane of a kind: its control, and behind it a slot for each notice that can be held, the oldest first

abbrev pub lane_size : ℕ → ℕ
lane_size kind = control_size + most_held (room_of kind) * place_size kind

unfoldable pub lane_of : ℕ → List ℕ → Subscription
lane_of kind l =
    let x = control_of l in subscription_in x (cells (notice_in kind) (place_size kind) x.held (drop control_size l))

-- 01, "What the product holds", number 2: the form, the clock and how many are held are such as a subscription can have
unfoldable pub lane_formed : ℕ → List ℕ → Bool
lane_formed kind l = leb (get_or l 0 0) form_greatest && ltb (get_or l 1 0) given_up_at && leb (get_or l 2 0) (most_held (room_of kind))

-- ==== a session's region: its phase and idle count, its run, and a lane for each kind

abbrev pub region_size : ℕ
region_size = 1_152

-- by kind: where its lane begins
abbrev pub lane_at : ℕ → ℕ
lane_at kind = get_or (56 ∷ 128 ∷ 1_024 ∷ []) kind 0

-- what f reads in the lane of each kind
abbrev pub lanes : {A : Type 0} → (ℕ → List ℕ → A) → List ℕ → List A
lanes f r = areas f lane_at lane_size 0 (length kinds) r

unfoldable pub session_of : List ℕ → Session
session_of r = let x = head_of (head_area r) in session_as x.phase x.idle (run_of (run_area r)) (lanes lane_of r)

-- 01, "What the product holds", number 2
unfoldable pub region_formed : List ℕ → Bool
region_formed r = head_formed (head_area r) && (run_formed (run_area r) && all (λ formed. formed) (lanes lane_formed r))

-- ==== what all sessions share, as it is now but for the mark at the front, which was the text SERIFLAD

abbrev pub mark : List ℕ
mark = 0x53 ∷ 0x45 ∷ 0x52 ∷ 0x49 ∷ 0x46 ∷ 0x4C ∷ 0x41 ∷ 0x44 ∷ []

-- 01, "What the product holds", number 2, and 02, P2
unfoldable pub shared_formed : List ℕ → Bool
shared_formed a = eqb (little (take 8 a)) (little mark) && leb (count_of a) results_kept && leb (count_of a) (last_of a)

-- ==== the table: the regions stand behind what is shared

-- what f reads in the region of each session
abbrev pub regions : {A : Type 0} → (List ℕ → A) → List ℕ → List A
regions f t = areas (λ s. f) (λ s. shared_size + s * region_size) (λ s. region_size) 0 session_count t

abbrev pub before : Layout
before = record {
  decode = λ t. record { shared = shared_of (shared_area t); sessions = regions session_of t };
  formed = λ t. shared_formed (shared_area t) && all (λ formed. formed) (regions region_formed t);
  used = shared_size + session_count * region_size;
}
