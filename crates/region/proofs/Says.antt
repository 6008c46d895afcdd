-- What is sent is a copy of what is the open notice afterwards, whatever the deed, save for an event, which is sent itself.
use mathlib.Core.Path.{◌≡◌, refl, sym, ap, ap₂, ◌∙◌}
use Prim.Native.Nat.{ℕ, zero, suc, ◌<◌}
use native.Mathlib.Omega.{arith}
use mathlib.Core.Bool.{Bool, true, false, cond, true≢false}
use mathlib.Core.List.{List, [], ◌∷◌, ◌++◌, map, map-append}
use lib.ListN.{length, get_or, replicate, length-replicate}
use lib.Seq.{get_or-set_same}
use borrow.Author.Tests.{eq-eqb, ne_eqb}
use Rattle.model.specs.Records.{Settings}
use Rattle.model.specs.Kinds.{Room, kinds, room_of}
use Rattle.model.specs.Events.{Notice}
use Rattle.model.specs.Notices.{Subscription, unsubscribed, Deed, news, act}
use Rattle.model.specs.Session.{Copy, copy, copies_to, deal, only}
use Rattle.model.specs.Row.{tag, row, said}
use Rattle.model.proofs.RowLaws.{row_alone}
use Rattle.lane.specs.Lane.{Reading, open_one, any}
use Rattle.lane.proofs.Sayings.{Quiet, after, told}
use Rattle.region.specs.Region.{subscriptions_in, subscription_in}
use Rattle.region.specs.Said.{copies_out, due_copy, due_copies, Ready, AllReady, acting, dues, DealtTo}
use Rattle.region.proofs.Areas.{subscription_at, there}

-- ==== one subscription: lane's laws, of what goes out

tagged : (st : Settings) (kind : ℕ) (b : Bool) (x : Subscription) (ns : List Notice)
    → map copy (tag kind (cond b (copies_to st x ns) [])) ≡ cond b (copies_out st kind x ns) []
tagged st kind true x ns = refl
tagged st kind false x ns = refl

-- whatever the deed, save for an event, what is sent is a copy of the one that is open afterwards
pub sent : (room : Room) (deed : Deed) (x : Subscription) → Quiet deed → (st : Settings) (kind : ℕ)
    → let y = act room deed x in copies_out st kind x y.1 ≡ due_copy st kind (any y.1) y.0
sent room deed x q st kind =
    let y = act room deed x in
    ap (λ (cs : List Copy). map copy (tag kind cs)) ((after room deed x q).copies st) ∙ tagged st kind (any y.1) y.0 (open_one y.0)

-- an event is sent itself, to one that is subscribed as it is afterwards
pub sent_itself : (room : Room) (n : Notice) (x : Subscription) (st : Settings) (kind : ℕ)
    → let y = act room (news n) x in copies_out st kind x y.1 ≡ cond (any y.1) (copies_out st kind y.0 (n ∷ [])) []
sent_itself room n x st kind =
    let y = act room (news n) x in
    ap (λ (cs : List Copy). map copy (tag kind cs)) ((told room n x).copies st) ∙ tagged st kind (any y.1) y.0 (n ∷ [])

-- ==== all of them

-- the rows of the model's `deal` are those of its `act`
pub row_acting : (st : Settings) (deed : ℕ → Deed) (i : ℕ) (xs : List Subscription) → row (deal st deed) i xs ≡ row (acting deed) i xs
row_acting st deed i [] = refl
row_acting st deed i (x ∷ xs) = ap (λ (ys : List Subscription). (acting deed i x).0 ∷ ys) (row_acting st deed (suc i) xs)

module _ (deed : ℕ → Deed) (quiet : (kind : ℕ) → Quiet (deed kind)) where
  -- what the model says is what is due afterwards
  pub said_due : (st : Settings) (i : ℕ) (xs : List Subscription)
      → map copy (said (deal st deed) i xs) ≡ due_copies st i (dues deed i xs) (row (acting deed) i xs)
  said_due st i [] = refl
  said_due st i (x ∷ xs) =
      map-append copy (tag i (deal st deed i x).1) (said (deal st deed) (suc i) xs)
      ∙ ap₂ ◌++◌ (sent (room_of i) (deed i) x (quiet i) st i) (said_due st (suc i) xs)

  ready_from : (i j : ℕ) (xs : List Subscription) → j < length (row (acting deed) i xs)
      → Ready (get_or (dues deed i xs) j false) (get_or (row (acting deed) i xs) j unsubscribed)
  ready_from i j [] h = absurd (omega arith)
  ready_from i zero (x ∷ xs) h = (after (room_of i) (deed i) x (quiet i)).there
  ready_from i (suc j) (x ∷ xs) h = ready_from (suc i) j xs (omega arith)

  length_dues : (i : ℕ) (xs : List Subscription) → length (dues deed i xs) ≡ length (row (acting deed) i xs)
  length_dues i [] = refl
  length_dues i (x ∷ xs) = ap suc (length_dues (suc i) xs)

  -- where a copy is due there is an open notice
  pub all_ready : (xs : List Subscription) → AllReady (dues deed 0 xs) (row (acting deed) 0 xs)
  all_ready xs = record { count = length_dues 0 xs; ready = λ kind h. ready_from 0 kind xs h }

-- ==== one of them was dealt with, and nothing was done to the others

module _ (read : Reading) {kind : ℕ} {deed : Deed} {r r' : List ℕ} {b : Bool} (few : kind < length kinds)
    (d : DealtTo read kind deed r b r') where
  pub now_is : subscription_in read kind r' ≡ (act (room_of kind) deed (subscription_in read kind r)).0
  now_is =
      sym (subscription_at read r' kind few)
      ∙ rw d.changes.becomes.subscriptions (get_or-set_same (subscriptions_in read r) kind _ unsubscribed (there read r kind few))

  module _ (st : Settings) where
    passed : (i : ℕ) (z : Subscription) → (i ≡ kind → ⊥) → deal st (only kind deed) i z ≡ (z, [])
    passed i z h = rw (ne_eqb i kind h)

    pub row_one : row (deal st (only kind deed)) 0 (subscriptions_in read r) ≡ subscriptions_in read r'
    row_one =
        (row_alone (deal st (only kind deed)) kind passed (subscriptions_in read r) unsubscribed (there read r kind few)).0
        ∙ rw (d.changes.becomes.subscriptions, subscription_at read r kind few, eq-eqb kind kind refl)

    pub said_one : map copy (said (deal st (only kind deed)) 0 (subscriptions_in read r))
        ≡ copies_out st kind (subscription_in read kind r) (act (room_of kind) deed (subscription_in read kind r)).1
    said_one =
        ap (map copy) (row_alone (deal st (only kind deed)) kind passed (subscriptions_in read r) unsubscribed (there read r kind few)).1
        ∙ rw (subscription_at read r kind few, eq-eqb kind kind refl)

-- ==== nothing is due

pub none_due : (st : Settings) (i n : ℕ) (xs : List Subscription) → due_copies st i (replicate n false) xs ≡ []
none_due st i zero xs = refl
none_due st i (suc n) [] = refl
none_due st i (suc n) (x ∷ xs) = none_due st (suc i) n xs

pub none_ready : (n : ℕ) (xs : List Subscription) → length xs ≡ n → AllReady (replicate n false) xs
none_ready n xs e = record {
  count = length-replicate n false ∙ sym e;
  ready = λ kind h b. absurd (true≢false (sym b ∙ never n kind));
}
  where
    never : (n kind : ℕ) → get_or (replicate n false) kind false ≡ false
    never zero kind = refl
    never (suc n) zero = refl
    never (suc n) (suc kind) = never n kind
