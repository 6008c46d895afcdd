-- The table keeps no event numbers: what it means has none.
use mathlib.Core.Path.{◌≡◌, refl, sym, ap, ap₂}
use Prim.Native.Nat.{ℕ, zero, suc}
use mathlib.Core.List.{List, [], ◌∷◌, map}
use lib.ListN.{length, take, drop}
use Rattle.model.specs.Runs.{Run}
use Rattle.model.specs.Events.{Notice}
use Rattle.model.specs.Kinds.{kinds}
use Rattle.model.specs.Notices.{acked}
use Rattle.model.specs.Notices as model
use Rattle.model.specs.Session.{started}
use Rattle.model.specs.Session as model_session
use Rattle.model.specs.Limits.{session_count}
use Rattle.model.specs.Erased.{erase, erase_sub, erase_session, erase_world}
use Rattle.text.specs.Cells.{cells}
use Rattle.text.specs.Areas.{areas}
use Rattle.session.specs.declared.Form.{Form}
use Rattle.session.specs.declared.Form.TheVariants.{Not, Plain, Acknowledged}
use Rattle.session.specs.declared.Phase.{Phase}
use Rattle.session.specs.declared.Phase.TheVariants.{Closed, Opened, Started}
use Rattle.session.specs.Meaning.{pending_in, subscription_as, session_as}
use Rattle.run.specs.Area.{run_of}
use Rattle.head.specs.Head.{head_of}
use Rattle.lane.specs.Kinds.{slot_size, lane_size, control_size}
use Rattle.lane.specs.Lane.{control_of, notices_in, lane_by, lane_of}
use Rattle.region.specs.Region.{head_area, run_area, lane_at, subscriptions_in, session_of, region_size}
use Rattle.table.specs.Table.{shared_area, places_area, shared_of, region_at, reading, reading_in, decode}

-- cells, and areas, that a function leaves as they are read

cells_same : {A : Type 0} (g : A → A) (f : List ℕ → A) → ((p : List ℕ) → g (f p) ≡ f p) → (k n : ℕ) (l : List ℕ)
    → map g (cells f k n l) ≡ cells f k n l
unfolding cells
cells_same g f h k zero l = refl
cells_same g f h k (suc n) l = ap₂ ◌∷◌ (h (take k l)) (cells_same g f h k n (drop k l))

areas_same : {A : Type 0} (g : A → A) (f : ℕ → List ℕ → A) → ((i : ℕ) (p : List ℕ) → g (f i p) ≡ f i p)
    → (at size : ℕ → ℕ) (i n : ℕ) (l : List ℕ)
    → map g (areas f at size i n l) ≡ areas f at size i n l
unfolding areas
areas_same g f h at size i zero l = refl
areas_same g f h at size i (suc n) l = ap₂ ◌∷◌ (h i (take (size i) (drop (at i) l))) (areas_same g f h at size (suc i) n l)

-- ==== a lane, a session, the table

sub_erased : (f : Form) (revision clock : ℕ) (ns : List Notice) → map erase ns ≡ ns
    → erase_sub (subscription_as f revision clock ns) ≡ subscription_as f revision clock ns
sub_erased Not revision clock ns e = refl
sub_erased Plain revision clock ns e = refl
sub_erased Acknowledged revision clock [] e = refl
sub_erased Acknowledged revision clock (n ∷ ns) e = ap (λ (l : List Notice). acked revision (pending_in clock l)) e

-- whatever the places hold
module _ (a : List ℕ) where
  lane_erased : (kind : ℕ) (l : List ℕ) → erase_sub (lane_of (reading a) kind l) ≡ lane_of (reading a) kind l
  unfolding lane_by notices_in
  lane_erased kind l =
      let x = control_of l in
      sub_erased x.form x.revision x.clock _
      (cells_same erase (reading a kind) (λ p. refl) (slot_size kind) x.held (drop control_size l))

as_erased : (phase : Phase) (idle : ℕ) (run : Run) (subs : List model.Subscription) → map erase_sub subs ≡ subs
    → erase_session (session_as phase idle run subs) ≡ session_as phase idle run subs
as_erased Closed idle run subs e = refl
as_erased Opened idle run subs e = refl
as_erased Started idle run subs e = ap (started idle run) e

session_erased : (a r : List ℕ) → erase_session (session_of (reading a) r) ≡ session_of (reading a) r
unfolding session_of subscriptions_in
session_erased a r =
    let x = head_of (head_area r) in
    as_erased x.phase x.idle (run_of (run_area r)) (subscriptions_in (reading a) r)
    (areas_same erase_sub (lane_of (reading a)) (lane_erased a) lane_at lane_size 0 (length kinds) r)

pub decode_erased : (t : List ℕ) → decode t ≡ erase_world (decode t)
unfolding decode
decode_erased t =
    ap (λ (ss : List model_session.Session). record { shared = shared_of (shared_area t); sessions = ss })
    (sym (areas_same erase_session (λ (s : ℕ). session_of (reading_in t)) (λ s. session_erased (places_area t)) region_at
    (λ (s : ℕ). region_size) 0 session_count t))
