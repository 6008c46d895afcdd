-- An event: who takes it, and what it leaves to all sessions.
use mathlib.Core.Path.{◌≡◌, refl, sym, ap, subst, ◌∙◌}
use borrow.Author.Rules.{rules}
use Prim.Native.Nat.{ℕ, suc, ◌+◌, ◌*◌, ◌%◌, ◌^◌, ◌≤◌, ◌<◌}
use native.Mathlib.Nat.{add-zero, add-suc, suc-add, pow-le-pow_right}
use native.Mathlib.Numerals.{add-one}
use lib.Dec.{lit≤}
use native.Mathlib.Omega.{arith}
use mathlib.Core.Bool.{Bool, true, false, cond}
use mathlib.Core.List.{List, [], ◌∷◌}
use lib.ListN.{length, get_or, set, drop, drop_of_length-le}
use lib.Seq.{drop-cons, drop-set-lt}
use Rattle.model.specs.Limits.{session_count}
use Rattle.model.specs.Records.{settings_of}
use Rattle.model.specs.Sharing.{Shared}
use Rattle.model.specs.Session.{Session, closed}
use Rattle.model.specs.Kinds.{identifiers, tightenings, alarms}
use Rattle.model.specs.Events.{Event, Result, result_as}
use Rattle.model.specs.Memory.{kept_with}
use Rattle.model.specs.Local.{Local, event, takes, step}
use Rattle.model.specs.World.{World, uncounted, session_at, to as alone, to_all, next}
use Rattle.model.specs.Calls.{takers}
use Rattle.model.proofs.InTurn.{next_to}
use Rattle.frame.specs.Places.{result_of, place_size, event_in}
use Rattle.shared.specs.Shared.{settings_part, in_force_of, last_of, kept_of, Next, Holds}
use Rattle.region.specs.Region.{session_of, region_formed}
use Rattle.table.specs.Table.{shared_area, regions, reading_in, decode, Table, Becomes, noted, Went}
use Rattle.table.specs.Passes.{EventTo}
use Rattle.table.proofs.Regions.{shared_good, so_many_sessions, length_regions, front, front_size, front_past, front_shared}
use Rattle.table.proofs.Regions.{front_regions, front_sessions, formed_parts, becomes_of}

-- ==== who takes it

pub at_most : (b : Bool) (n : ℕ) → cond b n 0 ≤ n
at_most true n = omega arith
at_most false n = omega arith

takers_few : (kind s : ℕ) (xs : List Session) → takers kind s xs + 2 ^ s ≤ 2 ^ (s + length xs)
takers_few kind s [] = rw add-zero (omega arith)
takers_few kind s (x ∷ xs) =
    let few = at_most (takes kind x) (2 ^ s) in
    let rest : takers kind (suc s) xs + 2 ^ suc s ≤ 2 ^ (suc s + length xs) = takers_few kind (suc s) xs in
    let far : 2 ^ (s + suc (length xs)) ≡ 2 ^ (suc s + length xs) = ap (λ (n : ℕ). 2 ^ n)
    (add-suc s (length xs) ∙ sym (suc-add s (length xs))) in
    omega arith

pub takers_below : (kind : ℕ) (t : List ℕ) → takers kind 0 (decode t).sessions < 2 ^ session_count
unfolding decode
takers_below kind t =
    let all : List Session = regions (session_of (reading_in t)) t in
    let f = takers_few kind 0 all in
    let e : 2 ^ (0 + length all) ≡ 2 ^ session_count = ap (λ (n : ℕ). 2 ^ (0 + n)) (length_regions (session_of (reading_in t)) t) in
    omega arith

-- a loop that adds them up: what is left to add is all of it
pub record Summing (kind : ℕ) (t₀ t : List ℕ) (s taken : ℕ) : Type 0 where
  pub sum : taken + takers kind s (drop s (decode t).sessions) ≡ takers kind 0 (decode t₀).sessions

pub sum_fits : 2 ^ session_count ≤ 65_536
sum_fits = lit≤ tt

-- the bit of a session, as the code has it
pub bit_of : (s : ℕ) → s < session_count → 1 * 2 ^ s % 2 ^ 64 ≡ 2 ^ s
bit_of s few = search rules

-- the others are as they were when one has had its turn: y takes the place of the one at s
takers_next : (l : List Session) (s : ℕ) (y : Session) → s < length l → (kind : ℕ)
    → takers kind s (drop s l) ≡ cond (takes kind (get_or l s closed)) (2 ^ s) 0 + takers kind (s + 1) (drop (s + 1) (set l s y))
takers_next l s y h kind = rw (add-one s, drop-set-lt (suc s) l s y (omega arith)) (ap (takers kind s) (drop-cons l s closed h))

module _ {kind : ℕ} {t₀ t : List ℕ} {s taken : ℕ} (w : Summing kind t₀ t s taken) where
  -- the sum is small, and what a session adds
  pub adds : s < session_count → taken + 2 ^ s ≤ 131_072
  adds few =
      let n : s ≤ session_count = omega arith in
      let two : 0 < 2 = omega arith in
      omega (arith, w.sum, takers_below kind t₀, sum_fits, pow-le-pow_right two n)

  pub sums_next : (b : Bool) {t₁ o o₁ : List ℕ} {at to : ℕ} (e : Event) → s < session_count
      → Went t o at (alone s (event e) ∷ []) to t₁ o₁ → b ≡ takes kind (session_at (decode t) s)
      → Summing kind t₀ t₁ (s + 1) (taken + cond b (2 ^ s) 0)
  sums_next b {t₁} e few v eb =
      let l = (decode t).sessions in
      let h : s < length l = rw (so_many_sessions t) few in
      let y = (step (decode t).shared (event e) (session_at (decode t) s)).0 in
      let new : (decode t₁).sessions ≡ set l s y =
      ap (λ (z : World). z.sessions) (v.table.meaning ∙ ap uncounted (next_to (decode t) s (event e) h)) in
      let mine = ap (λ (z : Bool). cond z (2 ^ s) 0) eb in
      let others = ap (λ (z : List Session). takers kind (s + 1) (drop (s + 1) z)) new in
      record { sum = omega (arith, takers_next l s y h kind, others, mine, w.sum) }

  pub sums_all : session_count ≤ s → taken ≡ takers kind 0 (decode t₀).sessions
  sums_all h =
      let n = so_many_sessions t in
      sym (add-zero taken) ∙ ap (λ (l : List Session). taken + takers kind s l)
      (sym (drop_of_length-le (decode t).sessions {i = s} (omega arith))) ∙ w.sum

-- ==== what is left to all sessions

front_means : (t a payload x : List ℕ) (n : ℕ) (rs : List Result) → Table t → Holds payload x n rs a
    → let g : Shared = record { settings = settings_of payload; in_force = x; last = n; kept = rs; events = 0 } in
    Becomes t (record { shared = g; sessions = (decode t).sessions }) (front t a)
unfolding decode
front_means t a payload x n rs h k =
    let l = h.size in
    let s = k.area.size in
    becomes_of l (front_size t a l s) (front_past t a l s) (subst (Holds payload x n rs) (sym (front_shared t a l s)) k)
    (rw (front_regions t a l s region_formed) (formed_parts t h).1) (front_sessions t a l s)

-- what is no tightening has no number
module _ {t place : List ℕ} (h : Table t) where
  other_to : (kind : ℕ) → (kind ≡ tightenings → ⊥) → length place ≡ place_size kind → EventTo t kind place
  other_to kind n e = record { table = h; place = e; number = λ q. absurd (n q) }

  pub identifier_to : length place ≡ place_size identifiers → EventTo t identifiers place
  identifier_to e = other_to identifiers (λ q. omega arith) e

  pub alarm_to : length place ≡ place_size alarms → EventTo t alarms place
  alarm_to e = other_to alarms (λ q. omega arith) e

-- the sessions that see it leave the last number as it was
pub still_to : {t t₁ place : List ℕ} {kind : ℕ} (l : Local) → EventTo t kind place → Becomes t (next (decode t) (to_all l)) t₁
    → EventTo t₁ kind place
still_to l h b = record {
  table = b.table;
  place = h.place;
  number = λ q. h.number q ∙ ap (λ (w : World). suc w.shared.last) (sym b.meaning);
}

-- a tightening is the next
pub comes_next : {t place : List ℕ} {kind : ℕ} → EventTo t kind place → kind ≡ tightenings → Next (shared_area t) place
unfolding decode result_of result_as
comes_next {t} h e = record { area = shared_good t h.table; size = h.place ∙ ap place_size e; number = h.number e }

module _ (t a : List ℕ) (kind : ℕ) (place : List ℕ) (h : EventTo t kind place) where
  pub noted_identifier : kind ≡ identifiers
      → Holds (settings_part (shared_area t)) place (last_of (shared_area t)) (kept_of (shared_area t)) a
      → Becomes t (noted (decode t) (event_in kind place)) (front t a)
  unfolding decode
  noted_identifier e k = rw e (front_means t a _ _ _ _ h.table k)

  pub noted_tightening : kind ≡ tightenings
      → let n = suc (last_of (shared_area t)) in
      Holds (settings_part (shared_area t)) (in_force_of (shared_area t)) n (kept_with (result_as n place) (kept_of (shared_area t))) a
      → Becomes t (noted (decode t) (event_in kind place)) (front t a)
  unfolding decode result_of result_as
  noted_tightening e k =
      rw e (front_means t a _ _ _ _ h.table
      (subst (λ (n : ℕ). Holds (settings_part (shared_area t)) (in_force_of (shared_area t)) n
      (kept_with (result_as n place) (kept_of (shared_area t))) a) (sym (h.number e)) k))

-- an alarm leaves nothing
pub noted_alarm : {t place : List ℕ} {kind : ℕ} → EventTo t kind place → kind ≡ alarms
    → Becomes t (noted (decode t) (event_in kind place)) t
unfolding decode
noted_alarm h e = rw e record { table = h.table; size = refl; past = refl; meaning = refl }

-- ==== one after another

pub becomes_then : {t t₁ t₂ : List ℕ} {w : World} (f : World → World) → Becomes t w t₁ → Becomes t₁ (f (decode t₁)) t₂ → Becomes t (f w) t₂
becomes_then f a b = record {
  table = b.table;
  size = b.size ∙ a.size;
  past = b.past ∙ a.past;
  meaning = b.meaning ∙ ap f a.meaning;
}
