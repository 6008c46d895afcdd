-- A lane: a session's subscription to one kind of notice, and the notices that it holds, in one run of bytes. 01, "Notices and the
-- clock", and 02, P7. docs/TABLE.md has the map.
use Rattle.std.specs.Prelude.{◌≡◌, ℕ, zero, suc, ◌+◌, ◌-◌, ◌*◌, ◌≤◌, ◌<◌, Bool, true, false, cond, ◌&&◌, List, [], ◌∷◌, ◌++◌, leb, ltb}
use Rattle.std.specs.Prelude.{length, get_or, take, drop}
use Rattle.std.proofs.lemmas.List.Edits.{sets}
use Rattle.model.specs.Limits.{given_up_at}
use Rattle.model.specs.Bytes.{all, little}
use Rattle.model.specs.Kinds.{tightenings, room_of}
use Rattle.model.specs.Events.{Notice}
use Rattle.model.specs.Notices.{empty, busy, unsubscribed, plain, acked, act}
use Rattle.model.specs.Notices as model
use Rattle.text.specs.Cells.{cells}
use Rattle.session.specs.Meaning.{subscription_in, shifted, is_taken}
use Rattle.session.specs.Control.{subscription, taken}
use Rattle.session.specs.declared.Form.{Form}
use Rattle.session.specs.declared.Form.TheVariants.{Not, Plain, Acknowledged}
use Rattle.session.specs.declared.Subscription.{Subscription}
use Rattle.session.specs.declared.Take.{Take}
use Rattle.session.specs.declared.Take.TheVariants as take
use Rattle.session.specs.declared.Taken.{Taken}
use Rattle.lane.specs.Kinds.{most, slot_size, slot_formed, control_size, lane_size}

-- ==== the control: the form, the clock and how many notices are held, a byte each; the revision in the bytes 8 to 15

abbrev pub form_of : ℕ → Form
form_of zero = Not
form_of (suc zero) = Plain
form_of (suc (suc n)) = Acknowledged

abbrev pub form_greatest : ℕ
form_greatest = 2

-- no acknowledge is asked
abbrev pub is_plain : Form → Bool
is_plain Not = false
is_plain Plain = true
is_plain Acknowledged = false

unfoldable pub control_of : List ℕ → Subscription
control_of l = subscription (form_of (get_or l 0 0)) (little (take 8 (drop 8 l))) (get_or l 1 0) (get_or l 2 0)

-- ==== the slots behind it, the oldest notice first. `read` is any reading of a slot

abbrev pub first_in : ℕ → List ℕ → List ℕ
first_in kind l = take (slot_size kind) (drop control_size l)

unfoldable pub notices_in : (List ℕ → Notice) → ℕ → ℕ → List ℕ → List Notice
notices_in read kind held l = cells read (slot_size kind) held (drop control_size l)

-- the first so many are well formed
unfoldable pub slots_formed : ℕ → ℕ → List ℕ → Bool
slots_formed kind held l = all (λ formed. formed) (cells (slot_formed kind) (slot_size kind) held (drop control_size l))

-- ==== what a lane means, and which are well formed

unfoldable pub lane_by : (List ℕ → Notice) → ℕ → List ℕ → model.Subscription
lane_by read kind l = subscription_in (control_of l) (notices_in read kind (control_of l).held l)

-- what the slots of each kind mean
abbrev pub Reading : Type 0
Reading = ℕ → List ℕ → Notice

abbrev pub lane_of : Reading → ℕ → List ℕ → model.Subscription
lane_of read kind l = lane_by (read kind) kind l

-- 02, P7: the places that it has open or waiting, where its slots are places
unfoldable pub places_in : List ℕ → List ℕ
places_in l = take (control_of l).held (drop control_size l)

-- each number is one that a subscription can have, and each slot that is held is well formed
unfoldable pub lane_formed : ℕ → List ℕ → Bool
lane_formed kind l =
    leb (get_or l 0 0) form_greatest && ltb (get_or l 1 0) given_up_at && leb (get_or l 2 0) (most kind)
    && slots_formed kind (get_or l 2 0) l

pub record Lane (kind : ℕ) (l : List ℕ) : Type 0 where
  pub size : length l ≡ lane_size kind
  pub formed : lane_formed kind l ≡ true

-- it means that nothing is subscribed to
pub record Cleared (kind : ℕ) (l : List ℕ) : Type 0 where
  pub lane : Lane kind l
  pub means : (read : List ℕ → Notice) → lane_by read kind l ≡ unsubscribed

-- what a test of the slots asks for: no more are held than there are slots
pub record SlotsTested (kind held : ℕ) (l : List ℕ) : Type 0 where
  pub size : length l ≡ lane_size kind
  pub few : held ≤ most kind

-- ==== a control that can be stored; it is stored, and the slots are as they were

pub record Storable (kind : ℕ) (x : Subscription) : Type 0 where
  pub clock : x.clock < given_up_at
  pub held : x.held ≤ most kind

pub record Storing (kind : ℕ) (x : Subscription) (l : List ℕ) : Type 0 where
  pub size : length l ≡ lane_size kind
  pub control : Storable kind x
  pub formed : slots_formed kind x.held l ≡ true

pub record Stored (kind : ℕ) (x : Subscription) (l l' : List ℕ) : Type 0 where
  pub control : control_of l' ≡ x
  pub lane : Lane kind l'
  pub slots : drop control_size l' ≡ drop control_size l

-- ==== the open notice of a subscription, and whether there are any notices

abbrev pub open_one : model.Subscription → List Notice
open_one unsubscribed = []
open_one (plain revision) = []
open_one (acked revision empty) = []
open_one (acked revision (busy x clock waiting)) = x ∷ []

abbrev pub any : List Notice → Bool
any [] = false
any (n ∷ ns) = true

-- ==== a deed, an event aside

-- of so many there is a first, which goes
pub record Shifting (kind held : ℕ) (l : List ℕ) : Type 0 where
  pub size : length l ≡ lane_size kind
  pub few : held ≤ most kind
  pub one : 0 < held

-- it is gone, and the others have shifted down; or it is not
pub record Shifts (kind held : ℕ) (shift : Bool) (l l' : List ℕ) : Type 0 where
  pub size : length l' ≡ lane_size kind
  pub notices : (read : List ℕ → Notice)
      → notices_in read kind (cond shift (held - 1) held) l' ≡ shifted shift (notices_in read kind held l)
  pub formed : slots_formed kind held l ≡ true → slots_formed kind (cond shift (held - 1) held) l' ≡ true

-- a deed was done to a lane: what the lane means, and whether a copy of a notice is to be sent
pub record Deals (read : List ℕ → Notice) (kind : ℕ) (deed : model.Deed) (l : List ℕ) (send : Bool) (l' : List ℕ) : Type 0 where
  pub lane : Lane kind l'
  pub becomes : lane_by read kind l' ≡ (act (room_of kind) deed (lane_by read kind l)).0
  pub sends : send ≡ any (act (room_of kind) deed (lane_by read kind l)).1

-- ==== an event

-- whether it is sent at once
abbrev pub is_told : Take → Bool
is_told take.Not = false
is_told take.Once = true
is_told take.Opens = true
is_told (take.Waits place) = false

-- whether its notice is held
abbrev pub is_held : Take → Bool
is_held take.Not = false
is_held take.Once = false
is_held take.Opens = true
is_held (take.Waits place) = true

-- the slot p goes behind the first i, and x to the control
pub record Pushing (kind i : ℕ) (p : List ℕ) (x : Subscription) (l : List ℕ) : Type 0 where
  pub size : length l ≡ lane_size kind
  pub few : i < most kind
  pub slot : length p ≡ slot_size kind
  pub formed : slots_formed kind i l && slot_formed kind p ≡ true
  pub control : Storable kind x
  pub last : x.held ≡ i + 1

-- its notice stands there
pub record Pushes (kind i : ℕ) (p : List ℕ) (x : Subscription) (l l' : List ℕ) : Type 0 where
  pub control : control_of l' ≡ x
  pub lane : Lane kind l'
  pub notices : (read : List ℕ → Notice) → notices_in read kind (i + 1) l' ≡ notices_in read kind i l ++ (read p ∷ [])
  pub slots : drop control_size l' ≡ sets (drop control_size l) (i * slot_size kind) p

-- an event of a kind, to a lane of that kind, where it becomes of its notice what `t` says; the slot p is for it
pub record Taking (kind : ℕ) (t : Taken) (p l : List ℕ) : Type 0 where
  pub lane : Lane kind l
  pub taken : t ≡ taken (room_of kind) (control_of l)
  pub slot : length p ≡ slot_size kind
  pub formed : slot_formed kind p ≡ true

-- the notice n of an event was taken, or not, and is to be sent, or not
pub record Takes (read : List ℕ → Notice) (kind : ℕ) (n : Notice) (l : List ℕ) (t : Take) (l' : List ℕ) : Type 0 where
  pub deals : Deals read kind (model.news n) l (is_told t) l'
  pub takes : is_taken t ≡ model.takes (room_of kind) (lane_by read kind l)

-- whatever the slots mean, the notice is the one that the slot p means; and of a kind that is placed that place is held behind the others
pub record TakesSo (kind : ℕ) (t : Take) (p l l' : List ℕ) : Type 0 where
  pub means : (read : List ℕ → Notice) → Takes read kind (read p) l t l'
  pub adds : kind ≡ tightenings → is_held t ≡ true → places_in l' ≡ places_in l ++ p
