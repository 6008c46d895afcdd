-- A session's phase and idle count in their two bytes.
use mathlib.Core.Path.{◌≡◌, refl}
use Prim.Native.Nat.{ℕ, ◌≤◌}
use native.Mathlib.Omega.{arith}
use mathlib.Core.Bool.{true, and-eq-true_iff}
use mathlib.Core.List.{List, [], ◌∷◌}
use lib.Dec.{leb, ltb}
use lib.ListN.{length, get_or, set}
use borrow.Author.Tests.{le-leb, lt-ltb, ltb-true}
use Rattle.model.specs.Limits.{idle_limit}
use denote.Enum.Declared.{tag_of}
use Rattle.session.specs.contracts.Phase.{the_type}
use Rattle.session.specs.declared.Phase.{Phase}
use Rattle.session.specs.declared.Phase.TheVariants.{Closed, Opened, Started}
use Rattle.session.specs.declared.Session.{Session}
use Rattle.head.specs.Head.{head_size, phase_of, phase_last, head_of, head_formed, Storable, Area}

-- a phase as a byte
as_byte : (p : Phase) → (phase_of (tag_of the_type p) ≡ p) × (tag_of the_type p ≤ phase_last)
as_byte Closed = (refl, omega arith)
as_byte Opened = (refl, omega arith)
as_byte Started = (refl, omega arith)

-- a session, stored
pub stores : (h : List ℕ) (x : Session) → length h ≡ head_size → Storable x
    → (head_of (set (set h 0 (tag_of the_type x.phase)) 1 x.idle) ≡ x) × Area (set (set h 0 (tag_of the_type x.phase)) 1 x.idle)
unfolding head_of head_formed
stores [] x size k = absurd (omega arith)
stores (a ∷ []) x size k = absurd (omega arith)
stores (a ∷ b ∷ []) x size k =
    let byte = as_byte x.phase in (
      rw byte.0,
      record { size = refl; formed = rw (le-leb (tag_of the_type x.phase) phase_last byte.1, lt-ltb x.idle idle_limit k) },
    )
stores (a ∷ b ∷ c ∷ l) x size k = absurd (omega arith)

-- what is well formed can be stored again
pub storable : (h : List ℕ) → head_formed h ≡ true → Storable (head_of h)
unfolding head_of head_formed
storable h e = ltb-true _ _ ((and-eq-true_iff (leb (get_or h 0 0) phase_last) (ltb (get_or h 1 0) idle_limit)).0 e).1
