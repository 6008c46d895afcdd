-- Demand 3, said of the notices of one kind to one session: what each call of a history is to them (a mark), and what must hold of
-- the marks of a whole history. Nothing here knows how the marks are made, or how the machine is built.
use Rattle.std.specs.Prelude.{ℕ, suc, ◌+◌, ◌/◌, ◌≤◌, ◌<◌, min, ◌≡◌, Bool, true, false, cond, List, [], ◌∷◌, ◌++◌, ◌⊎◌, eqb, length}
use Rattle.std.proofs.Math.Option.{Option, none, some}
use Rattle.model.specs.Limits.{copy_every, given_up_at, most_repeats, longest_wait}

-- a copy of a notice: the number of its event, and its bytes
pub record Seen : Type 0 where
  pub id : ℕ
  pub frame : List ℕ

-- ==== what a call is to the notices of that kind to that session

pub record Mark : Type 0 where
  -- how many events there were before the call: the number of the next one
  pub number : ℕ
  -- if the call is an event of that kind, the frame that the session is to be sent of it
  pub event : Option (List ℕ)
  -- the call is an event of that kind, and the session takes it
  pub took : Bool
  -- before the call the session is started and subscribed, and after it
  pub subscribed : Bool
  pub still : Bool
  -- before the call it is subscribed, and asked to acknowledge
  pub asked : Bool
  -- the call closes the notice that is open: the next well-made acknowledge, accepted unsubscribe, accepted stop, hang-up or time-out
  pub closes : Bool
  -- the call is a tick
  pub tick : Bool
  -- the copies that go out in it
  pub sent : List Seen

-- ==== the words of the demand

-- how many of them are copies of the notice of event n
abbrev pub copies_among : ℕ → List Seen → ℕ
copies_among n [] = 0
copies_among n (x ∷ xs) = let r = copies_among n xs in cond (eqb x.id n) (suc r) r

-- all the copies of a history
abbrev pub all_sent : List Mark → List Seen
all_sent [] = []
all_sent (m ∷ ms) = m.sent ++ all_sent ms

-- how many copies of the notice of event n there are in it
abbrev pub copies : ℕ → List Mark → ℕ
copies n ms = copies_among n (all_sent ms)

abbrev pub tick_count : List Mark → ℕ
tick_count [] = 0
tick_count (m ∷ ms) = let r = tick_count ms in cond m.tick (suc r) r

-- the ticks up to the first call that closes, which is not counted, or to the end
abbrev pub ticks_open : List Mark → ℕ
ticks_open [] = 0
ticks_open (m ∷ ms) = let r = ticks_open ms in cond m.closes 0 (cond m.tick (suc r) r)

-- T: of a notice, when these are the calls after the one that sent its first copy. The tick that gives it up (the 120th) ends it too
abbrev pub T : List Mark → ℕ
T later = min given_up_at (ticks_open later)

-- one, and one more for each whole 20 ticks, up to five
abbrev pub copies_due : ℕ → ℕ
copies_due ticks = 1 + min most_repeats (ticks / copy_every)

-- m is the call that sends the first copy of the notice of event n
pub record First (n : ℕ) (before : List Mark) (m : Mark) : Type 0 where
  pub none_before : copies n before ≡ 0
  pub sends : 0 < copies_among n m.sent

-- the frame of event n, which it gets when it happens
abbrev pub or_later : Bool → Option (List ℕ) → Option (List ℕ) → Option (List ℕ)
or_later here later none = later
or_later here later (some f) = cond here (some f) later

abbrev pub frame_of : ℕ → List Mark → Option (List ℕ)
frame_of n [] = none
frame_of n (m ∷ ms) = let r = frame_of n ms in or_later (eqb m.number n) r m.event

abbrev pub Every {ℓ} : {A : Type ℓ} → (A → Type 0) → List A → Type 0
Every P [] = Unit {0}
Every P (x ∷ xs) = P x × Every P xs

-- m is the call of that copy's event: it has its number and made its frame, and the session took it
pub record Origin (x : Seen) (m : Mark) : Type 0 where
  pub number : m.number ≡ x.id
  pub frame : m.event ≡ some x.frame
  pub took : m.took ≡ true

-- after each of these calls the session is started and subscribed
abbrev pub Stays : List Mark → Type 0
Stays ms = Every (λ m. m.still ≡ true) ms

-- its event is among these calls, and from it on the session stays started and subscribed
abbrev pub Held : Seen → List Mark → Type 0
Held x [] = ⊥
Held x (m ∷ ms) = (Origin x m × Stays (m ∷ ms)) ⊎ Held x ms

-- how many events the session took
abbrev pub taken : List Mark → ℕ
taken [] = 0
taken (m ∷ ms) = let r = taken ms in cond m.took (suc r) r

-- ==== what must hold

pub record Demand3 (ms : List Mark) : Type 0 where
  -- sent to a session that asked to acknowledge: exactly so many copies in the whole history
  pub acknowledged : (n : ℕ) (before : List Mark) (m : Mark) (later : List Mark) → ms ≡ before ++ m ∷ later
      → First n before m → m.asked ≡ true → copies n ms ≡ copies_due (T later)
  -- where no acknowledge was asked: one
  pub plain : (n : ℕ) (before : List Mark) (m : Mark) (later : List Mark) → ms ≡ before ++ m ∷ later
      → First n before m → m.asked ≡ false → copies n ms ≡ 1
  -- every copy is byte for byte the frame that its event makes, so that all copies of a notice are equal
  pub equal : Every (λ x. frame_of x.id ms ≡ some x.frame) (all_sent ms)
  -- once a notice was sent and then closed, it never goes out again
  pub never_again : (n : ℕ) (before : List Mark) (m : Mark) (between : List Mark) (c : Mark) (later : List Mark)
      → ms ≡ (before ++ m ∷ between) ++ c ∷ later → First n before m → c.closes ≡ true → copies n (c ∷ later) ≡ 0
  -- nor does one whose event came before a call that leaves the session not started and subscribed, whether it was sent or waited
  pub never_kept : (n : ℕ) (before : List Mark) (c : Mark) (later : List Mark) → ms ≡ before ++ c ∷ later
      → c.still ≡ false → n < c.number → copies n (c ∷ later) ≡ 0
  -- every copy is of an event that the session took, by that call or an earlier one, and it stayed started and subscribed since
  pub fresh : (before : List Mark) (m : Mark) (later : List Mark) → ms ≡ before ++ m ∷ later
      → Every (λ x. Held x (before ++ m ∷ [])) m.sent
  -- none reaches a session that is not started and subscribed, before the call and after it
  pub only_subscribed : Every (λ m. 0 < length m.sent → (m.subscribed ≡ true) × (m.still ≡ true)) ms

-- a kind of which several wait, so many in all with the open one: what is taken goes out within its longest wait (tightenings: 840 ticks,
-- alarms: 360), where the session stays started and subscribed
abbrev pub InTime : ℕ → List Mark → Type 0
InTime most ms = (before : List Mark) (m : Mark) (later : List Mark) → ms ≡ before ++ m ∷ later → m.took ≡ true
    → Stays (m ∷ later) → longest_wait most ≤ tick_count later → 0 < copies m.number (m ∷ later)
