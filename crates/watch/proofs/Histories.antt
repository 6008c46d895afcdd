-- What the calls of a whole history do to the notices of one kind to one session.
use Prim.Native.Nat.{ℕ, suc, ◌+◌, ◌-◌, ◌*◌, ◌/◌, ◌≤◌, ◌<◌, min}
use mathlib.Core.Path.{◌≡◌, refl, sym, ◌∙◌, ap, subst}
use mathlib.Core.Bool.{Bool, true, false, cond}
use mathlib.Core.List.{List, [], ◌∷◌, ◌++◌, append_assoc, append-nil}
use mathlib.Core.Option.{Option, none, some, none-ne-some}
use mathlib.Core.Logic.{◌⊎◌, inl, inr}
use native.Mathlib.Omega.{arith}
use lib.Dec.{eqb}
use lib.ListN.{length, length-append}
use borrow.Author.Tests.{eq-eqb, ne_eqb}
use Rattle.model.specs.Limits.{copy_every, given_up_at, most_repeats, most_copies, longest_wait}
use Rattle.model.specs.Kinds.{Room, up_to}
use Rattle.watch.specs.Marks.{Seen, Mark, copies_among, all_sent, copies, tick_count, ticks_open, or_later, frame_of, Every, Origin}
use Rattle.watch.specs.Marks.{Stays, Held, taken}
use Rattle.watch.specs.Course.{PendingSeen, empty, busy, Eff, Rises, Course, end, call}
use Rattle.watch.proofs.Calls.{Good, OpenAt, Gone, NotOpen, good_step, gone_step, Fate, shut, same, runs, ends, open_step, Start}
use Rattle.watch.proofs.Calls.{not_yet, opens, single, start_step, all, every_append, held_step, dropped_step, subscribed_step}
use Rattle.watch.proofs.Calls.{credit, new_credit, credit_step, Due, less, due_step, due_taken}

pub copies_append : (n : ℕ) (xs ys : List Seen) → copies_among n (xs ++ ys) ≡ copies_among n xs + copies_among n ys
copies_append n [] ys = omega arith
copies_append n (x ∷ xs) ys = go (eqb x.id n) (copies_append n xs ys)
  where
    go : (b : Bool) → copies_among n (xs ++ ys) ≡ copies_among n xs + copies_among n ys
        → cond b (suc (copies_among n (xs ++ ys))) (copies_among n (xs ++ ys))
        ≡ cond b (suc (copies_among n xs)) (copies_among n xs) + copies_among n ys
    go true ih = omega arith
    go false ih = ih

pub copies_join : (n : ℕ) (xs ys : List Mark) → copies n (xs ++ ys) ≡ copies n xs + copies n ys
copies_join n [] ys = omega arith
copies_join n (m ∷ xs) ys =
    let h = copies_join n xs ys in
    omega (arith, copies_append n m.sent (all_sent (xs ++ ys)), copies_append n m.sent (all_sent xs))

-- the first calls of a history are one
pub course_before : {room : Room} {k : ℕ} {q : PendingSeen} (xs ys : List Mark) → Course room k q (xs ++ ys) → Course room k q xs
course_before [] ys c = end
course_before (m ∷ xs) ys (call e r f c) = call e r f (course_before xs ys c)

-- ==== the arithmetic of one more call; `later` is what is sent after it, and t the ticks after it

open_lt : (n c : ℕ) (q : PendingSeen) (k : ℕ) → OpenAt n c q k → c < given_up_at
open_lt n c empty k g = absurd g
open_lt n c (busy x d q) k g = omega arith

open_more : (n d : ℕ) (q' : PendingSeen) (k' : ℕ) (es : List Seen) {s b : Bool} (later t : ℕ) → d < given_up_at → Fate n d q' k' es s b
    → ((d' : ℕ) → OpenAt n d' q' k' → later + d' / copy_every ≡ min most_repeats ((d' + t) / copy_every)) → (Gone n q' k' → later ≡ 0)
    → copies_among n es + later + d / copy_every ≡ min most_repeats ((d + cond s 0 (cond b (suc t) t)) / copy_every)
open_more n d q' k' es later t h (shut z g) ih lost = let y = lost g in omega arith
open_more n d q' k' es later t h (same z g) ih lost = let y = ih d g in omega arith
open_more n d q' k' es later t h (runs z g) ih lost = let y = ih (suc d) g in omega arith
open_more n d q' k' es later t h (ends e z g) ih lost = let y = lost g in omega arith

-- the call sends the first copy
start_more : (n : ℕ) (q' : PendingSeen) (k' : ℕ) (es : List Seen) {a : Bool} (later t : ℕ) → Start n q' k' es a → 0 < copies_among n es
    → (OpenAt n 0 q' k' → later + 0 / copy_every ≡ min most_repeats ((0 + t) / copy_every)) → (Gone n q' k' → later ≡ 0)
    → copies_among n es + later ≡ cond a (1 + min most_repeats (t / copy_every)) 1
start_more n q' k' es later t (not_yet z g) h up lost = absurd (omega arith)
start_more n q' k' es later t (opens z g) h up lost = let y = up g in omega arith
start_more n q' k' es later t (single z g) h up lost = let y = lost g in omega arith

-- the call does not
still_not : (n : ℕ) (q' : PendingSeen) (k' : ℕ) (es : List Seen) {a : Bool} → Start n q' k' es a → copies_among n es ≡ 0 → NotOpen n q'
still_not n q' k' es (not_yet z g) h = g
still_not n q' k' es (opens z g) h = absurd (omega arith)
still_not n q' k' es (single z g) h = absurd (omega arith)

-- ==== the count

pub gone : (n : ℕ) {room : Room} {k : ℕ} {q : PendingSeen} {ms : List Mark} → Course room k q ms → Gone n q k → copies n ms ≡ 0
gone n end g = refl
gone n (call {m = m} {ms = ms} e r f c) g =
    let y = gone_step n f g in
    let ih = gone n c y.1 in
    omega (arith, copies_append n m.sent (all_sent ms))

-- n is open and its clock is d: what is still to come of it
pub opened : (n : ℕ) {room : Room} (d : ℕ) {k : ℕ} {q : PendingSeen} {ms : List Mark} → Course room k q ms → OpenAt n d q k
    → copies n ms + d / copy_every ≡ min most_repeats ((d + ticks_open ms) / copy_every)
opened n d {k = k} {q = q} end g = let h = open_lt n d q k g in omega arith
opened n d {k = k} {q = q} (call {k' = k'} {q' = q'} {m = m} {ms = ms} e r f c) g =
    rw (copies_append n m.sent (all_sent ms))
    (open_more n d q' k' m.sent (copies n ms) (ticks_open ms) (open_lt n d q k g) (open_step n d f g)
    (λ d'. opened n d' c) (gone n c))

-- by the call that sends the first copy
pub counted : (n : ℕ) {room : Room} {k : ℕ} {q : PendingSeen} (before : List Mark) (m : Mark) (later : List Mark)
    → Course room k q (before ++ m ∷ later) → Good q k → NotOpen n q → copies n before ≡ 0 → 0 < copies_among n m.sent
    → copies n (before ++ m ∷ later) ≡ cond m.asked (1 + min most_repeats (ticks_open later / copy_every)) 1
counted n [] m later (call {k' = k'} {q' = q'} e r f c) g u z h =
    rw (copies_append n m.sent (all_sent later))
    (start_more n q' k' m.sent (copies n later) (ticks_open later) (start_step n f g u) h (opened n 0 c) (gone n c))
counted n (b ∷ before) m later (call {k' = k'} {q' = q'} e r f c) g u z h =
    let y = copies_append n b.sent (all_sent before) in
    let x = still_not n q' k' b.sent (start_step n f g u) (omega arith) in
    let ih = counted n before m later c (good_step f g) x (omega arith) h in
    copies_append n b.sent (all_sent (before ++ m ∷ later)) ∙ omega arith

-- ==== the bytes

-- that copy has the frame that F says
abbrev Framed : (ℕ → Option (List ℕ)) → Seen → Type 0
Framed F x = F x.id ≡ some x.frame

-- the events of the history have the frames that F says
pub framed : (F : ℕ → Option (List ℕ)) {room : Room} {k : ℕ} {q : PendingSeen} {ms : List Mark} → Course room k q ms
    → ((n : ℕ) → k ≤ n → frame_of n ms ≡ F n) → Every (Framed F) (all q) → Every (Framed F) (all_sent ms)
framed F end u g = tt
framed F (call {k = k} {k' = k'} {m = m} {ms = ms} e r f c) u g =
    let y = go m.event r (λ n l. sym (ap (λ (i : ℕ). or_later (eqb i n) (frame_of n ms) m.event) e) ∙ u n l) in
    let x = held_step (Framed F) (Framed F) f (λ b h v w. y.0 b h) (λ w a h. h) g in
    every_append (Framed F) m.sent (all_sent ms) x.0 (framed F c y.1 x.1)
  where
    go : (o : Option (List ℕ)) → Rises k k' o → ((n : ℕ) → k ≤ n → or_later (eqb k n) (frame_of n ms) o ≡ F n)
        → ((b : List ℕ) → o ≡ some b → F k ≡ some b) × ((n : ℕ) → k' ≤ n → frame_of n ms ≡ F n)
    go none h v = (λ b e. absurd (none-ne-some b e), λ n l. v n (omega arith))
    go (some a) h v = (
      λ b e. sym (rw (eq-eqb k k refl) at (v k (omega arith))) ∙ e,
      λ n l. rw (ne_eqb k n (omega arith)) at (v n (omega arith)),
    )

-- ==== where a copy comes from; `past` are the calls so far

held_on : (past : List Mark) (m : Mark) → m.still ≡ true → (x : Seen) → Held x past → Held x (past ++ m ∷ [])
held_on [] m e x h = absurd h
held_on (y ∷ past) m e x (inl h) = inl (h.0, every_append (λ m. m.still ≡ true) (y ∷ past) (m ∷ []) h.1 (e, tt))
held_on (y ∷ past) m e x (inr h) = inr (held_on past m e x h)

held_new : (past : List Mark) (m : Mark) → m.still ≡ true → (x : Seen) → Origin x m → Held x (past ++ m ∷ [])
held_new [] m e x o = inl (o, (e, tt))
held_new (y ∷ past) m e x o = inr (held_new past m e x o)

held_call : {room : Room} {k k' : ℕ} {q q' : PendingSeen} (past : List Mark) (m : Mark) → m.number ≡ k
    → Eff room k k' m.event m.took m.asked m.closes m.tick m.subscribed m.still q q' m.sent
    → Every (λ x. Held x past) (all q) → Every (λ x. Held x (past ++ m ∷ [])) m.sent × Every (λ x. Held x (past ++ m ∷ [])) (all q')
held_call past m e f g =
    held_step (λ x. Held x past) (λ x. Held x (past ++ m ∷ [])) f
    (λ b u v w. held_new past m w _ (record { number = e; frame = u; took = v })) (held_on past m) g

pub held : {room : Room} {k : ℕ} {q : PendingSeen} (past before : List Mark) (m : Mark) (later : List Mark)
    → Course room k q (before ++ m ∷ later)
    → Every (λ x. Held x past) (all q) → Every (λ x. Held x ((past ++ before) ++ m ∷ [])) m.sent
held past [] m later (call e r f c) g = rw (append-nil past) (held_call past m e f g).0
held past (b ∷ before) m later (call e r f c) g =
    subst (λ (xs : List Mark). Every (λ x. Held x (xs ++ m ∷ [])) m.sent) (append_assoc past (b ∷ []) before)
    (held (past ++ b ∷ []) before m later c (held_call past b e f g).1)

-- ==== what came before a call that leaves the session not subscribed

pub dropped : (n : ℕ) {room : Room} {k : ℕ} {q : PendingSeen} (before : List Mark) (c : Mark) (later : List Mark)
    → Course room k q (before ++ c ∷ later) → c.still ≡ false → n < c.number → copies n (c ∷ later) ≡ 0
dropped n [] c later (call {k = k} e r f h) w l =
    let y = dropped_step n (rw w at f) (omega arith) in
    let g = gone n h y.1 in
    omega (arith, copies_append n c.sent (all_sent later))
dropped n (b ∷ before) c later (call e r f h) w l = dropped n before c later h w l

-- ==== only to subscribers

pub subscribers : {room : Room} {k : ℕ} {q : PendingSeen} {ms : List Mark} → Course room k q ms
    → Every (λ (m : Mark). 0 < length m.sent → (m.subscribed ≡ true) × (m.still ≡ true)) ms
subscribers end = tt
subscribers (call e r f c) = (λ h. subscribed_step f h, subscribers c)

-- ==== most_copies (six) at most for each event that was taken, and what is still to come of those that were pending

pub bounded : {room : Room} {k : ℕ} {q : PendingSeen} {ms : List Mark} → Course room k q ms → Good q k
    → length (all_sent ms) ≤ credit q + most_copies * taken ms
bounded end g = omega arith
bounded {q = q} (call {k' = k'} {q' = q'} {m = m} {ms = ms} e r f c) g =
    more m.took (credit_step f g) (bounded c (good_step f g))
  where
    more : (o : Bool) → length m.sent + credit q' ≤ credit q + new_credit o
        → length (all_sent ms) ≤ credit q' + most_copies * taken ms
        → length (m.sent ++ all_sent ms) ≤ credit q + most_copies * cond o (suc (taken ms)) (taken ms)
    more true h ih = omega (arith, length-append m.sent (all_sent ms))
    more false h ih = omega (arith, length-append m.sent (all_sent ms))

-- ==== in time, of a kind of which several wait

module _ (n : ℕ) where
  late : (d : ℕ) (q : PendingSeen) → Due n d q → d ≤ 0 → ⊥
  late d empty g l = g
  late d (busy x c q) g l = omega arith

  pub in_time : {most : ℕ} (d : ℕ) {k : ℕ} {q : PendingSeen} {ms : List Mark} → Course (up_to most) k q ms → Due n d q → Stays ms
      → d ≤ tick_count ms → 0 < copies n ms
  in_time d {q = q} end g u l = absurd (late d q g l)
  in_time d (call {k = k} {k' = k'} {q = q} {q' = q'} {m = m} {ms = ms} e r f c) g u l =
      go m.tick (due_step n d (rw u.0 at f) g) l (λ d' h. in_time d' c h u.1)
    where
      go : (t : Bool) → (0 < copies_among n m.sent) ⊎ Due n (less t d) q' → d ≤ cond t (suc (tick_count ms)) (tick_count ms)
          → ((d' : ℕ) → Due n d' q' → d' ≤ tick_count ms → 0 < copies n ms)
          → 0 < copies_among n (m.sent ++ all_sent ms)
      go t (inl h) l ih = omega (arith, copies_append n m.sent (all_sent ms))
      go true (inr h) l ih = let y = ih (d - 1) h (omega arith) in omega (arith, copies_append n m.sent (all_sent ms))
      go false (inr h) l ih = let y = ih d h l in omega (arith, copies_append n m.sent (all_sent ms))

-- taken by this call, sent within the longest wait
pub taken_in_time : {most k : ℕ} {q : PendingSeen} (before : List Mark) (m : Mark) (later : List Mark)
    → Course (up_to most) k q (before ++ m ∷ later) → Good q k
    → m.took ≡ true → Stays (m ∷ later) → longest_wait most ≤ tick_count later → 0 < copies m.number (m ∷ later)
taken_in_time {most} [] m later (call {k = k} {q' = q'} e r f c) g t u l =
    subst (λ (n : ℕ). 0 < copies n (m ∷ later)) (sym e) (go (due_taken (rw t at f) g))
  where
    go : (0 < copies_among k m.sent) ⊎ Due k (longest_wait most) q' → 0 < copies k (m ∷ later)
    go (inl h) = omega (arith, copies_append k m.sent (all_sent later))
    go (inr h) = let y = in_time k (longest_wait most) c h u.1 l in omega (arith, copies_append k m.sent (all_sent later))
taken_in_time (b ∷ before) m later (call e r f c) g t u l = taken_in_time before m later c (good_step f g) t u l
