-- What a call can do to the notices of one kind to one session, and a history of such calls: what the proof of demand 3 asks of a machine.
-- The statement of demand 3 (Marks) does not speak of it.
use Rattle.std.specs.Prelude.{ℕ, suc, ◌%◌, ◌≤◌, ◌<◌, ◌≡◌, Bool, true, false, List, [], ◌∷◌, ◌++◌, length}
use Rattle.std.proofs.Math.Option.{Option, none, some}
use Rattle.model.specs.Limits.{copy_every, given_up_at}
use Rattle.model.specs.Kinds.{Room, the_newest, up_to}
use Rattle.watch.specs.Marks.{Seen, Mark}

-- the notices that wait for an acknowledge: the first is open, with its clock, and the others wait
pub data PendingSeen : Type 0 where
  empty : PendingSeen
  busy : Seen → ℕ → List Seen → PendingSeen

-- ==== one call

-- room: how many notices the kind holds. k, k': the events before and after the call. Then, as in a mark: the event's frame; was it
-- taken; was acknowledge asked; does the call close; is it a tick; was and is the session subscribed. Then what is pending before and
-- after, and the copies sent
pub data Eff (room : Room) (k k' : ℕ) : Option (List ℕ) → Bool → Bool → Bool → Bool → Bool → Bool → PendingSeen → PendingSeen
    → List Seen → Type 0 where
  -- nothing is open: nothing happens, or a notice goes out once, or one is opened
  rest : {e : Option (List ℕ)} {a s t : Bool} {p p' : Bool} → k ≤ k' → Eff room k k' e false a s t p p' empty empty []
  lone : {f : List ℕ} {s t : Bool} → k' ≡ suc k
      → Eff room k k' (some f) true false s t true true empty empty (record { id = k; frame = f } ∷ [])
  first : {f : List ℕ} {s t : Bool} → k' ≡ suc k
      → Eff room k k' (some f) true true s t true true empty (busy (record { id = k; frame = f }) 0 []) (record { id = k; frame = f } ∷ [])
  -- one is open, and the session stays subscribed: it stays as it is, one more waits, the newest alone waits
  keep : {e : Option (List ℕ)} {x : Seen} {c : ℕ} {q : List Seen} {p : Bool} → k ≤ k'
      → Eff room k k' e false true false false p true (busy x c q) (busy x c q) []
  wait : {most : ℕ} {f : List ℕ} {x : Seen} {c : ℕ} {q : List Seen} {p : Bool} → room ≡ up_to most → k' ≡ suc k → suc (length q) < most
      → Eff room k k' (some f) true true false false p true (busy x c q) (busy x c (q ++ record { id = k; frame = f } ∷ [])) []
  swap : {f : List ℕ} {x : Seen} {c : ℕ} {q : List Seen} {p : Bool} → room ≡ the_newest → k' ≡ suc k
      → Eff room k k' (some f) true true false false p true (busy x c q) (busy x c (record { id = k; frame = f } ∷ [])) []
  -- all are gone; the open one is closed, and none waits, or the next goes out
  wipe : {e : Option (List ℕ)} {t : Bool} {x : Seen} {c : ℕ} {q : List Seen} {p : Bool} → k ≤ k'
      → Eff room k k' e false true true t p false (busy x c q) empty []
  over : {e : Option (List ℕ)} {t : Bool} {x : Seen} {c : ℕ} {p p' : Bool} → k ≤ k'
      → Eff room k k' e false true true t p p' (busy x c []) empty []
  pass : {e : Option (List ℕ)} {t : Bool} {x y : Seen} {c : ℕ} {q : List Seen} → k ≤ k'
      → Eff room k k' e false true true t true true (busy x c (y ∷ q)) (busy y 0 q) (y ∷ [])
  -- a tick: no copy, a copy, given up and none waits, given up and the next goes out
  beat : {e : Option (List ℕ)} {x : Seen} {c : ℕ} {q : List Seen} {p : Bool} → k ≤ k' → (suc c ≡ given_up_at → ⊥)
      → (suc c % copy_every ≡ 0 → ⊥)
      → Eff room k k' e false true false true p true (busy x c q) (busy x (suc c) q) []
  again : {e : Option (List ℕ)} {x : Seen} {c : ℕ} {q : List Seen} → k ≤ k' → (suc c ≡ given_up_at → ⊥)
      → suc c % copy_every ≡ 0
      → Eff room k k' e false true false true true true (busy x c q) (busy x (suc c) q) (x ∷ [])
  quit : {e : Option (List ℕ)} {x : Seen} {c : ℕ} {p p' : Bool} → k ≤ k' → suc c ≡ given_up_at
      → Eff room k k' e false true false true p p' (busy x c []) empty []
  quit_pass : {e : Option (List ℕ)} {x y : Seen} {c : ℕ} {q : List Seen} → k ≤ k' → suc c ≡ given_up_at
      → Eff room k k' e false true false true true true (busy x c (y ∷ q)) (busy y 0 q) (y ∷ [])

-- ==== a history

-- an event has a number of its own
abbrev pub Rises : ℕ → ℕ → Option (List ℕ) → Type 0
Rises k k' none = k ≤ k'
Rises k k' (some f) = k' ≡ suc k

-- the marks of a history that begins with that many events, and with that pending
pub data Course (room : Room) : ℕ → PendingSeen → List Mark → Type 0 where
  end : {k : ℕ} {q : PendingSeen} → Course room k q []
  call : {k k' : ℕ} {q q' : PendingSeen} {m : Mark} {ms : List Mark} → m.number ≡ k → Rises k k' m.event
      → Eff room k k' m.event m.took m.asked m.closes m.tick m.subscribed m.still q q' m.sent
      → Course room k' q' ms → Course room k q (m ∷ ms)
