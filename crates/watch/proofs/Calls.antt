-- What one call does to the notices of one kind to one session, of a notice that is open, gone, not sent yet or waiting.
use Prim.Native.Nat.{ℕ, zero, suc, ◌+◌, ◌-◌, ◌*◌, ◌/◌, ◌≤◌, ◌<◌}
use mathlib.Core.Path.{◌≡◌, refl, ap}
use mathlib.Core.Bool.{Bool, true, false, cond}
use mathlib.Core.List.{List, [], ◌∷◌, ◌++◌}
use mathlib.Core.Option.{Option, some}
use mathlib.Core.Logic.{◌⊎◌, inl, inr}
use native.Mathlib.Omega.{arith}
use native.Mathlib.Decide.{ℕ_discrete}
use lib.Dec.{eqb}
use lib.ListN.{length, length-append}
use borrow.Author.Tests.{eq-eqb, ne_eqb}
use Rattle.model.specs.Limits.{copy_every, given_up_at, most_repeats, most_copies, longest_wait}
use Rattle.model.specs.Kinds.{Room, the_newest, up_to}
use Rattle.watch.specs.Marks.{Seen, copies_among, Every}
use Rattle.watch.specs.Course.{PendingSeen, empty, busy, Eff, rest, lone, first, keep, wait, swap, wipe, over, pass, beat, again}
use Rattle.watch.specs.Course.{quit, quit_pass}

-- ==== the numbers of what is pending

-- from lo on, each more than the one before, and below hi
abbrev pub Above : ℕ → List Seen → ℕ → Type 0
Above lo [] hi = lo ≤ hi
Above lo (x ∷ q) hi = (lo ≤ x.id) × Above (suc x.id) q hi

-- the clock runs, and those that wait are later than the open one
abbrev pub Good : PendingSeen → ℕ → Type 0
Good empty k = Unit {0}
Good (busy x c q) k = (c < given_up_at) × Above (suc x.id) q k

-- n is open, and its clock is c
abbrev pub OpenAt : ℕ → ℕ → PendingSeen → ℕ → Type 0
OpenAt n c empty k = ⊥
OpenAt n c (busy x d q) k = (x.id ≡ n) × (d ≡ c) × (d < given_up_at) × Above (suc x.id) q k

-- n is gone for good: all that there is, and all that will come, is later
abbrev pub Gone : ℕ → PendingSeen → ℕ → Type 0
Gone n empty k = suc n ≤ k
Gone n (busy x c q) k = (suc n ≤ x.id) × Above (suc x.id) q k

abbrev pub NotOpen : ℕ → PendingSeen → Type 0
NotOpen n empty = Unit {0}
NotOpen n (busy x c q) = x.id ≡ n → ⊥

above_up : (lo : ℕ) (q : List Seen) {k k' : ℕ} → k ≤ k' → Above lo q k → Above lo q k'
above_up lo [] h a = omega arith
above_up lo (x ∷ q) h a = (a.0, above_up (suc x.id) q h a.1)

above_top : (lo : ℕ) (q : List Seen) {k : ℕ} → Above lo q k → lo ≤ k
above_top lo [] a = a
above_top lo (x ∷ q) a = let h = above_top (suc x.id) q a.1 in omega arith

above_snoc : (lo : ℕ) (q : List Seen) (x : Seen) {k : ℕ} → x.id ≡ k → Above lo q k → Above lo (q ++ x ∷ []) (suc k)
above_snoc lo [] x e a = (omega arith, omega arith)
above_snoc lo (y ∷ q) x e a = (a.0, above_snoc (suc y.id) q x e a.1)

one : (n i : ℕ) → i ≡ n → ◌≡◌ {A = ℕ} (cond (eqb i n) 1 0) 1
one n i e = rw (eq-eqb i n e)

none_of : (n i : ℕ) → (i ≡ n → ⊥) → ◌≡◌ {A = ℕ} (cond (eqb i n) 1 0) 0
none_of n i h = rw (ne_eqb i n h)

module _ {room : Room} {k k' : ℕ} where
  -- the numbers stay in order
  pub good_step : {e : Option (List ℕ)} {o a s t p p' : Bool} {q q' : PendingSeen} {es : List Seen}
      → Eff room k k' e o a s t p p' q q' es → Good q k → Good q' k'
  good_step (rest h) g = tt
  good_step (lone h) g = tt
  good_step (first h) g = (omega arith, omega arith)
  good_step (keep {x = x} {q = r} h) g = (g.0, above_up (suc x.id) r h g.1)
  good_step (wait {x = x} {q = r} is h l) g = (g.0, rw h (above_snoc (suc x.id) r _ refl g.1))
  good_step (swap {x = x} {q = r} is h) g = let u = above_top (suc x.id) r g.1 in (g.0, (u, omega arith))
  good_step (wipe h) g = tt
  good_step (over h) g = tt
  good_step (pass {y = y} {q = r} h) g = (omega arith, above_up (suc y.id) r h g.1.1)
  good_step (beat {x = x} {q = r} h u v) g = (omega arith, above_up (suc x.id) r h g.1)
  good_step (again {x = x} {q = r} h u v) g = (omega arith, above_up (suc x.id) r h g.1)
  good_step (quit h u) g = tt
  good_step (quit_pass {y = y} {q = r} h u) g = (omega arith, above_up (suc y.id) r h g.1.1)

  -- once gone, never again
  pub gone_step : (n : ℕ) {e : Option (List ℕ)} {o a s t p p' : Bool} {q q' : PendingSeen} {es : List Seen}
      → Eff room k k' e o a s t p p' q q' es → Gone n q k → (copies_among n es ≡ 0) × Gone n q' k'
  gone_step n (rest h) g = (refl, omega arith)
  gone_step n (lone h) g = (none_of n k (omega arith), omega arith)
  gone_step n (first h) g = (none_of n k (omega arith), omega arith)
  gone_step n (keep {x = x} {q = r} h) g = (refl, (g.0, above_up (suc x.id) r h g.1))
  gone_step n (wait {x = x} {q = r} is h l) g = (refl, (g.0, rw h (above_snoc (suc x.id) r _ refl g.1)))
  gone_step n (swap {x = x} {q = r} is h) g = let u = above_top (suc x.id) r g.1 in (refl, (g.0, (u, omega arith)))
  gone_step n (wipe {x = x} {q = r} h) g = let u = above_top (suc x.id) r g.1 in (refl, omega arith)
  gone_step n (over h) g = (refl, omega arith)
  gone_step n (pass {y = y} {q = r} h) g = (none_of n y.id (omega arith), (omega arith, above_up (suc y.id) r h g.1.1))
  gone_step n (beat {x = x} {q = r} h u v) g = (refl, (g.0, above_up (suc x.id) r h g.1))
  gone_step n (again {x = x} {q = r} h u v) g = (none_of n x.id (omega arith), (g.0, above_up (suc x.id) r h g.1))
  gone_step n (quit h u) g = (refl, omega arith)
  gone_step n (quit_pass {y = y} {q = r} h u) g =
      (none_of n y.id (omega arith), (omega arith, above_up (suc y.id) r h g.1.1))

-- ==== a notice that is open with clock c: what becomes of it, by whether the call closes and whether it is a tick

pub data Fate (n c : ℕ) (q' : PendingSeen) (k' : ℕ) (es : List Seen) : Bool → Bool → Type 0 where
  shut : {t : Bool} → copies_among n es ≡ 0 → Gone n q' k' → Fate n c q' k' es true t
  same : copies_among n es ≡ 0 → OpenAt n c q' k' → Fate n c q' k' es false false
  runs : copies_among n es + c / copy_every ≡ suc c / copy_every → OpenAt n (suc c) q' k' → Fate n c q' k' es false true
  ends : suc c ≡ given_up_at → copies_among n es + c / copy_every ≡ most_repeats → Gone n q' k' → Fate n c q' k' es false true

module _ {room : Room} {k k' : ℕ} where
  pub open_step : (n c : ℕ) {e : Option (List ℕ)} {o a s t p p' : Bool} {q q' : PendingSeen} {es : List Seen}
      → Eff room k k' e o a s t p p' q q' es → OpenAt n c q k → Fate n c q' k' es s t
  open_step n c (rest h) g = absurd g
  open_step n c (lone h) g = absurd g
  open_step n c (first h) g = absurd g
  open_step n c (keep {x = x} {q = r} h) g = same refl (g.0, g.1, g.2, above_up (suc x.id) r h g.3)
  open_step n c (wait {x = x} {q = r} is h l) g =
      same refl (g.0, g.1, g.2, rw h (above_snoc (suc x.id) r _ refl g.3))
  open_step n c (swap {x = x} {q = r} is h) g =
      let u = above_top (suc x.id) r g.3 in same refl (g.0, g.1, g.2, (u, omega arith))
  open_step n c (wipe {x = x} {q = r} h) g = let u = above_top (suc x.id) r g.3 in shut refl (omega arith)
  open_step n c (over h) g = shut refl (omega arith)
  open_step n c (pass {y = y} {q = r} h) g =
      shut (none_of n y.id (omega arith)) (omega arith, above_up (suc y.id) r h g.3.1)
  open_step n c (beat {x = x} {q = r} h u v) g =
      runs (omega arith) (g.0, ap suc g.1, omega arith, above_up (suc x.id) r h g.3)
  open_step n c (again {x = x} {q = r} h u v) g =
      let z = one n _ g.0 in
      runs (omega arith) (g.0, ap suc g.1, omega arith, above_up (suc x.id) r h g.3)
  open_step n c (quit h u) g = ends (omega arith) (omega arith) (omega arith)
  open_step n c (quit_pass {y = y} {q = r} h u) g =
      let z = none_of n y.id (omega arith) in
      ends (omega arith) (omega arith) (omega arith, above_up (suc y.id) r h g.3.1)

-- ==== a notice that is not open

pub data Start (n : ℕ) (q' : PendingSeen) (k' : ℕ) (es : List Seen) : Bool → Type 0 where
  not_yet : {a : Bool} → copies_among n es ≡ 0 → NotOpen n q' → Start n q' k' es a
  opens : copies_among n es ≡ 1 → OpenAt n 0 q' k' → Start n q' k' es true
  single : copies_among n es ≡ 1 → Gone n q' k' → Start n q' k' es false

by_test : {P : Type 0} (a b : ℕ) → (a ≡ b → P) → ((a ≡ b → ⊥) → P) → P
by_test a b f g = elim (ℕ_discrete a b) [ yes e ↦ f e | no h ↦ g h ]

-- the next one goes out, with a new clock
goes_out : (n : ℕ) (y : Seen) {c : ℕ} (q : List Seen) {k : ℕ} → c ≡ 0 → Above (suc y.id) q k → Start n (busy y c q) k (y ∷ []) true
goes_out n y q e a = by_test y.id n (λ z. opens (one n _ z) (z, e, omega arith, a)) (λ z. not_yet (none_of n _ z) z)

module _ {room : Room} {k k' : ℕ} where
  pub start_step : (n : ℕ) {e : Option (List ℕ)} {o a s t p p' : Bool} {q q' : PendingSeen} {es : List Seen}
      → Eff room k k' e o a s t p p' q q' es → Good q k → NotOpen n q → Start n q' k' es a
  start_step n (rest h) g u = not_yet refl tt
  start_step n (lone {f = f} h) g u =
      by_test k n (λ z. single (one n _ z) (omega arith)) (λ z. not_yet (none_of n _ z) tt)
  start_step n (first {f = f} h) g u =
      by_test k n (λ z. opens (one n _ z) (z, refl, omega arith, omega arith)) (λ z. not_yet (none_of n _ z) z)
  start_step n (keep h) g u = not_yet refl u
  start_step n (wait is h l) g u = not_yet refl u
  start_step n (swap is h) g u = not_yet refl u
  start_step n (wipe h) g u = not_yet refl tt
  start_step n (over h) g u = not_yet refl tt
  start_step n (pass {y = y} {q = r} h) g u = goes_out n y r (omega arith) (above_up (suc y.id) r h g.1.1)
  start_step n (beat h u' v) g u = not_yet refl u
  start_step n (again {x = x} h u' v) g u = not_yet (none_of n _ u) u
  start_step n (quit h v) g u = not_yet refl tt
  start_step n (quit_pass {y = y} {q = r} h v) g u = goes_out n y r (omega arith) (above_up (suc y.id) r h g.1.1)

-- ==== what holds of all that is pending, and so of all that is sent: P before the call, Q after it

abbrev pub all : PendingSeen → List Seen
all empty = []
all (busy x c q) = x ∷ q

pub every_append : {A : Type 0} (P : A → Type 0) (xs ys : List A) → Every P xs → Every P ys → Every P (xs ++ ys)
every_append P [] ys a b = b
every_append P (x ∷ xs) ys a b = (a.0, every_append P xs ys a.1 b)

every_map : (P Q : Seen → Type 0) → ((x : Seen) → P x → Q x) → (xs : List Seen) → Every P xs → Every Q xs
every_map P Q on [] a = tt
every_map P Q on (x ∷ xs) a = (on x a.0, every_map P Q on xs a.1)

-- the event of this call, number k, if the session takes it
abbrev pub Gets : (Seen → Type 0) → ℕ → Option (List ℕ) → Bool → Bool → Type 0
Gets Q k e o p' = (f : List ℕ) → e ≡ some f → o ≡ true → p' ≡ true → Q (record { id = k; frame = f })

module _ {room : Room} {k k' : ℕ} where
  -- what was pending stays so, or is sent, only where the session stays subscribed
  pub held_step : (P Q : Seen → Type 0) {e : Option (List ℕ)} {o a s t p p' : Bool} {q q' : PendingSeen} {es : List Seen}
      → Eff room k k' e o a s t p p' q q' es → Gets Q k e o p' → (p' ≡ true → (x : Seen) → P x → Q x) → Every P (all q)
      → Every Q es × Every Q (all q')
  held_step P Q (rest h) new on g = (tt, tt)
  held_step P Q (lone {f = f} h) new on g = ((new f refl refl refl, tt), tt)
  held_step P Q (first {f = f} h) new on g = let y = new f refl refl refl in ((y, tt), (y, tt))
  held_step P Q (keep {x = x} {q = r} h) new on g = (tt, every_map P Q (on refl) (x ∷ r) g)
  held_step P Q (wait {f = f} {x = x} {q = r} is h l) new on g =
      let u = every_map P Q (on refl) (x ∷ r) g in (tt, (u.0, every_append Q r _ u.1 (new f refl refl refl, tt)))
  held_step P Q (swap {f = f} {x = x} is h) new on g = (tt, (on refl x g.0, (new f refl refl refl, tt)))
  held_step P Q (wipe h) new on g = (tt, tt)
  held_step P Q (over h) new on g = (tt, tt)
  held_step P Q (pass {y = y} {q = r} h) new on g = let u = every_map P Q (on refl) (y ∷ r) g.1 in ((u.0, tt), u)
  held_step P Q (beat {x = x} {q = r} h y v) new on g = (tt, every_map P Q (on refl) (x ∷ r) g)
  held_step P Q (again {x = x} {q = r} h y v) new on g = let u = every_map P Q (on refl) (x ∷ r) g in ((u.0, tt), u)
  held_step P Q (quit h y) new on g = (tt, tt)
  held_step P Q (quit_pass {y = y} {q = r} h v) new on g = let u = every_map P Q (on refl) (y ∷ r) g.1 in ((u.0, tt), u)

  -- ==== a call that leaves it not subscribed sends nothing and leaves nothing pending

  pub dropped_step : (n : ℕ) {e : Option (List ℕ)} {o a s t p : Bool} {q q' : PendingSeen} {es : List Seen}
      → Eff room k k' e o a s t p false q q' es → n < k → (copies_among n es ≡ 0) × Gone n q' k'
  dropped_step n (rest h) l = (refl, omega arith)
  dropped_step n (wipe h) l = (refl, omega arith)
  dropped_step n (over h) l = (refl, omega arith)
  dropped_step n (quit h u) l = (refl, omega arith)

  -- ==== a copy goes to a session that is subscribed before and after the call

  pub subscribed_step : {e : Option (List ℕ)} {o a s t p p' : Bool} {q q' : PendingSeen} {es : List Seen}
      → Eff room k k' e o a s t p p' q q' es → 0 < length es → (p ≡ true) × (p' ≡ true)
  subscribed_step (rest h) z = absurd (omega arith)
  subscribed_step (lone h) z = (refl, refl)
  subscribed_step (first h) z = (refl, refl)
  subscribed_step (keep h) z = absurd (omega arith)
  subscribed_step (wait is h l) z = absurd (omega arith)
  subscribed_step (swap is h) z = absurd (omega arith)
  subscribed_step (wipe h) z = absurd (omega arith)
  subscribed_step (over h) z = absurd (omega arith)
  subscribed_step (pass h) z = (refl, refl)
  subscribed_step (beat h u v) z = absurd (omega arith)
  subscribed_step (again h u v) z = (refl, refl)
  subscribed_step (quit h u) z = absurd (omega arith)
  subscribed_step (quit_pass h u) z = (refl, refl)

-- ==== how many copies may still come of what is pending

abbrev pub credit : PendingSeen → ℕ
credit empty = 0
credit (busy x c q) = (given_up_at - suc c) / copy_every + most_copies * length q

-- and of an event, by whether it was taken
abbrev pub new_credit : Bool → ℕ
new_credit true = most_copies
new_credit false = 0

module _ {room : Room} {k k' : ℕ} where
  pub credit_step : {e : Option (List ℕ)} {o a s t p p' : Bool} {q q' : PendingSeen} {es : List Seen}
      → Eff room k k' e o a s t p p' q q' es → Good q k → length es + credit q' ≤ credit q + new_credit o
  credit_step (rest h) g = omega arith
  credit_step (lone h) g = omega arith
  credit_step (first h) g = omega arith
  credit_step (keep h) g = omega arith
  credit_step (wait {f = f} {q = r} is h l) g = omega (arith, length-append r (record { id = k; frame = f } ∷ []))
  credit_step (swap is h) g = omega arith
  credit_step (wipe h) g = omega arith
  credit_step (over h) g = omega arith
  credit_step (pass h) g = omega arith
  credit_step (beat h u v) g = omega arith
  credit_step (again h u v) g = omega arith
  credit_step (quit h u) g = omega arith
  credit_step (quit_pass h u) g = omega arith

-- ==== what waits goes out in time

-- n stands at place i
abbrev pub Ahead : ℕ → ℕ → List Seen → Type 0
Ahead n i [] = ⊥
Ahead n zero (x ∷ q) = x.id ≡ n
Ahead n (suc i) (x ∷ q) = Ahead n i q

-- n waits, and is to go out within d ticks
abbrev pub Due : ℕ → ℕ → PendingSeen → Type 0
Due n d empty = ⊥
Due n d (busy x c q) = (i : ℕ) × Ahead n i q × (given_up_at + given_up_at * i ≤ d + c) × (c < given_up_at)

ahead_more : (n i : ℕ) (q : List Seen) (x : Seen) → Ahead n i q → Ahead n i (q ++ x ∷ [])
ahead_more n i [] x h = absurd h
ahead_more n zero (y ∷ q) x h = h
ahead_more n (suc i) (y ∷ q) x h = ahead_more n i q x h

ahead_last : (q : List Seen) (x : Seen) → Ahead x.id (length q) (q ++ x ∷ [])
ahead_last [] x = refl
ahead_last (y ∷ q) x = ahead_last q x

abbrev pub less : Bool → ℕ → ℕ
less true d = d - 1
less false d = d

less_le : (t : Bool) (d : ℕ) → d ≤ suc (less t d)
less_le true d = omega arith
less_le false d = omega arith

-- the next one goes out; n is it, or waits on
promoted : (n d i : ℕ) (y : Seen) (q : List Seen) → Ahead n i (y ∷ q) → given_up_at * i ≤ d
    → (0 < copies_among n (y ∷ [])) ⊎ Due n d (busy y 0 q)
promoted n d zero y q h l = let e = one n y.id h in inl (omega arith)
promoted n d (suc i) y q h l = inr (i, h, omega arith, omega arith)

-- a kind of which several wait is none of which the newest alone does
several : {most : ℕ} → up_to most ≡ the_newest → ⊥
several e = let z : ◌≡◌ {A = ℕ} 0 1 = cc in omega arith

module _ {most k k' : ℕ} where
  pub due_step : (n d : ℕ) {e : Option (List ℕ)} {o a s t p : Bool} {q q' : PendingSeen} {es : List Seen}
      → Eff (up_to most) k k' e o a s t p true q q' es → Due n d q → (0 < copies_among n es) ⊎ Due n (less t d) q'
  due_step n d (rest h) g = absurd g
  due_step n d (lone h) g = absurd g
  due_step n d (first h) g = absurd g
  due_step n d (keep h) g = inr g
  due_step n d (wait {q = r} is h l) g = inr (g.0, ahead_more n g.0 r _ g.1, g.2, g.3)
  due_step n d (swap is h) g = absurd (several is)
  due_step n d (over h) g = absurd g.1
  due_step n d (pass {t = t} {y = y} {q = r} h) g = promoted n (less t d) g.0 y r g.1 (omega (arith, less_le t d))
  due_step n d (beat h u v) g = inr (g.0, g.1, omega arith, omega arith)
  due_step n d (again h u v) g = inr (g.0, g.1, omega arith, omega arith)
  due_step n d (quit h u) g = absurd g.1
  due_step n d (quit_pass {y = y} {q = r} h u) g = promoted n (d - 1) g.0 y r g.1 (omega arith)

  -- an event that is taken is sent at once or waits
  pub due_taken : {e : Option (List ℕ)} {a s t p p' : Bool} {q q' : PendingSeen} {es : List Seen}
      → Eff (up_to most) k k' e true a s t p p' q q' es → Good q k → (0 < copies_among k es) ⊎ Due k (longest_wait most) q'
  due_taken (lone h) g = let e = one k k refl in inl (omega arith)
  due_taken (first h) g = let e = one k k refl in inl (omega arith)
  due_taken (wait {most = held} {f = f} {q = r} is h l) g =
      let same : most ≡ held = cc in inr (length r, ahead_last r (record { id = k; frame = f }), omega arith, g.0)
  due_taken (swap is h) g = absurd (several is)
