-- A session's phase and idle count as the table holds them. docs/TABLE.md has the map.
use Rattle.std.specs.Prelude.{◌≡◌, ℕ, zero, suc, ◌<◌, Bool, true, ◌&&◌, List, leb, ltb, length, get_or}
use Rattle.model.specs.Limits.{idle_limit}
use Rattle.session.specs.declared.Phase.{Phase}
use Rattle.session.specs.declared.Phase.TheVariants.{Closed, Opened, Started}
use Rattle.session.specs.declared.Session.{Session}

-- a byte each
abbrev pub head_size : ℕ
head_size = 2

abbrev pub phase_of : ℕ → Phase
phase_of zero = Closed
phase_of (suc zero) = Opened
phase_of (suc (suc n)) = Started

-- the last of the bytes that are a phase
abbrev pub phase_last : ℕ
phase_last = 2

unfoldable pub head_of : List ℕ → Session
head_of h = record { phase = phase_of (get_or h 0 0); idle = get_or h 1 0 }

-- well formed: each byte is one that a session can have
unfoldable pub head_formed : List ℕ → Bool
head_formed h = leb (get_or h 0 0) phase_last && ltb (get_or h 1 0) idle_limit

-- a session that can be stored
abbrev pub Storable : Session → Type 0
Storable x = x.idle < idle_limit

pub record Area (h : List ℕ) : Type 0 where
  pub size : length h ≡ head_size
  pub formed : head_formed h ≡ true
