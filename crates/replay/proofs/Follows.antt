-- What becomes of the table and of the lines, call after call.
use mathlib.Core.Path.{◌≡◌, refl, sym, ap, subst, ◌∙◌}
use Prim.Native.Nat.{ℕ, ◌+◌, ◌≤◌}
use native.Mathlib.Omega.{arith}
use mathlib.Core.Bool.{Bool, true, false, cond}
use mathlib.Core.List.{List, [], ◌++◌, append_assoc, append-nil}
use lib.Dec.{leb}
use lib.ListN.{length, length-append}
use borrow.Author.Tests.{leb-true, leb-false}
use Rattle.model.specs.Limits.{output_least}
use Rattle.model.specs.Program.{State, printed}
use Rattle.replay.specs.States.{Means, Leads, room_made, Behind, Follows}

-- ==== lines behind lines

pub behind_nothing : (room : ℕ) (waited : List ℕ) → Behind room waited [] waited
behind_nothing room waited = record { written = []; order = sym (append-nil waited); none = λ h. refl }

pub behind_then : {room : ℕ} {a b c m n : List ℕ} → Behind room a m b → Behind room b n c → Behind room a (m ++ n) c
behind_then {room = room} {a = a} {b = b} {c = c} {m = m} {n = n} p q = record {
  written = p.written ++ q.written;
  order = rw (append_assoc p.written, q.order, ← append_assoc p.written b n, p.order, append_assoc a m n);
  none = λ h.
      let k = ap length (sym (append_assoc a m n)) in
      let e = length-append (a ++ m) n in
      let first : p.written ≡ [] = p.none (omega arith) in
      let same : b ≡ a ++ m = rw first at p.order in
      let second : q.written ≡ [] = q.none (rw same (omega arith)) in
      cc;
}

-- where room is made there is some for one more call's lines
pub made_room : (room : ℕ) (waited : List ℕ) → output_least ≤ room → length (room_made room waited) + output_least ≤ room
made_room room waited h = go (leb (length waited + output_least) room) refl
  where
    go : (b : Bool) → leb (length waited + output_least) room ≡ b → length (cond {A = List ℕ} b waited []) + output_least ≤ room
    go true k = leb-true (length waited + output_least) room k
    go false k = omega arith

-- a call's lines, behind those that wait when there is room for them
pub behind_put : {waited made text waits : List ℕ} (room : ℕ) → made ≡ room_made room waited → waits ≡ made ++ text
    → Behind room waited text waits
behind_put {waited = waited} {made = made} {text = text} {waits = waits} room e f = go (leb (length waited + output_least) room) refl e
  where
    go : (b : Bool) → leb (length waited + output_least) room ≡ b → made ≡ cond b waited [] → Behind room waited text waits
    go true k z = record { written = []; order = rw z at f; none = λ h. refl }
    go false k z = record {
      written = waited;
      order = ap (λ (x : List ℕ). waited ++ x) (rw z at f);
      none = λ m.
          let full = leb-false (length waited + output_least) room k in
          let n = length-append waited text in
          absurd (omega arith);
    }

-- ==== one after the other

pub leads_nothing : (t : List ℕ) → Leads (λ x. x) t [] t
leads_nothing t = record { state = λ x m. m; lines = λ x m. sym (append-nil (printed x.lines)) }

pub leads_then : {f g : State → State} {t t₁ t₂ a b : List ℕ} → Leads f t a t₁ → Leads g t₁ b t₂ → Leads (λ x. g (f x)) t (a ++ b) t₂
leads_then {f = f} {a = a} {b = b} p q = record {
  state = λ x m. q.state (f x) (p.state x m);
  lines = λ x m. rw (q.lines (f x) (p.state x m), p.lines x m) (append_assoc (printed x.lines) a b);
}

-- the same, of what the table meant
pub leads_as : {f g : State → State} {t a t' : List ℕ} → ((x : State) → Means t x → f x ≡ g x) → Leads f t a t' → Leads g t a t'
leads_as {t' = t'} e p = record {
  state = λ x m. subst (λ (y : State). Means t' y) (e x m) (p.state x m);
  lines = λ x m. ap (λ (y : State). printed y.lines) (sym (e x m)) ∙ p.lines x m;
}

pub follows_nothing : (room : ℕ) (t a : List ℕ) → Follows (λ x. x) room t a t a
follows_nothing room t a = record { new = []; leads = leads_nothing t; behind = behind_nothing room a }

pub follows_then : {f g : State → State} {room : ℕ} {t t₁ t₂ a b c : List ℕ}
    → Follows f room t a t₁ b → Follows g room t₁ b t₂ c → Follows (λ x. g (f x)) room t a t₂ c
follows_then p q = record {
  new = p.new ++ q.new;
  leads = leads_then p.leads q.leads;
  behind = behind_then p.behind q.behind;
}

pub follows_as : {f g : State → State} {room : ℕ} {t a t' b : List ℕ}
    → ((x : State) → Means t x → f x ≡ g x) → Follows f room t a t' b → Follows g room t a t' b
follows_as e p = record { new = p.new; leads = leads_as e p.leads; behind = p.behind }
