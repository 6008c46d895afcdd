-- What a reader of the output makes of what goes out to a session: a close, a 0002, a 0005. Notices are none of these, nor is a 0004.
use Prim.Native.Nat.{ℕ, suc, ◌<◌}
use mathlib.Core.Path.{◌≡◌, refl, ◌∙◌, ap, fun_ext}
use mathlib.Core.Bool.{Bool, true, false, cond, ◌&&◌, ◌||◌}
use mathlib.Core.List.{List, [], ◌∷◌, ◌++◌, map}
use native.Mathlib.Omega.{arith}
use lib.Dec.{eqb}
use borrow.Author.Tests.{ne_eqb}
use mathlib.Core.Option.{Option}
use Rattle.model.specs.Runs.{Message}
use Rattle.model.specs.Bytes.{places, decimal, digits}
use Rattle.model.specs.Records.{Settings}
use Rattle.model.specs.Messages.{Bearing, entry_bearing, entry_of}
use Rattle.model.specs.Events.{Result, Event, identified, tightened, alarmed, Notice}
use Rattle.model.specs.Layouts.{characters, data_from}
use Rattle.model.specs.Frames.{header, frame, frame_0002, frame_0004, frame_0005, frame_0065, event_frame}
use Rattle.model.specs.Kinds.{room_of}
use Rattle.model.specs.Notices.{Subscription, unsubscribed, plain, acked, Deed, nothing, beats, news, asks, drops, acks, act}
use Rattle.model.specs.Row.{Tagged, tag, said}
use Rattle.model.specs.Session.{Copy, Emission, reply, copy, close, frame_to, copies_to, deal}
use Rattle.model.proofs.Framed.{every_append}
use Rattle.watch.specs.Marks.{Every}
use Rattle.history.specs.Turns.{frames_in, orders_close, any, mid_of, is_0002, is_0005}
use Rattle.history.specs.Past.{acknowledges}

pub record Signals : Type 0 where
  pub closes : Bool
  pub welcomes : Bool
  -- a message that is so
  pub accepts : (Bearing → Bool) → Bool

abbrev pub signals : List Emission → Signals
signals es = record {
  closes = orders_close es;
  welcomes = any is_0002 (frames_in es);
  accepts = λ so. any (is_0005 so) (frames_in es);
}

abbrev signals_of : Bool → Bool → ((Bearing → Bool) → Bool) → Signals
signals_of c w a = record { closes = c; welcomes = w; accepts = a }

abbrev pub silence : Signals
silence = record { closes = false; welcomes = false; accepts = λ so. false }

-- whether the notices of a kind are closed by a call that ends that message, is a hang-up, and shows that in the output (an edit in
-- must-fail/ turns it, so nothing in this file rests on it)
abbrev pub closing : ℕ → Option Message → Bool → Signals → Bool
closing kind o hung sg =
    (hung || sg.closes) || sg.accepts (λ m. m.stops) || sg.accepts (λ m. m.unsubscribes kind) || acknowledges kind o

-- ==== notices

pub notice_mid : (st : Settings) (r : ℕ) (a : Bool) (e : Event) → 5 < mid_of (event_frame st r a e)
unfolding event_frame frame header digits
notice_mid st r a (identified x) = omega arith
notice_mid st r a (tightened x) = omega arith
notice_mid st r a (alarmed vs) = omega arith

abbrev Notices : List (Tagged Copy) → Type 0
Notices cs = Every (λ (c : Tagged Copy). 5 < mid_of c.what.frame) cs

module _ (st : Settings) where
  copies_notices : (i : ℕ) (x : Subscription) → ((n : Notice) → 5 < mid_of (frame_to st x n)) → (ns : List Notice)
      → Notices (tag i (copies_to st x ns))
  copies_notices i x h [] = tt
  copies_notices i x h (n ∷ ns) = (h n, copies_notices i x h ns)

  deal_notices : (i j : ℕ) (d : Deed) (x : Subscription) → Notices (tag i (copies_to st x (act (room_of j) d x).1))
  deal_notices i j nothing unsubscribed = tt
  deal_notices i j beats unsubscribed = tt
  deal_notices i j (news n) unsubscribed = tt
  deal_notices i j (asks r a) unsubscribed = tt
  deal_notices i j drops unsubscribed = tt
  deal_notices i j acks unsubscribed = tt
  deal_notices i j d (plain r) = copies_notices i (plain r) (λ n. notice_mid st r true n.event) (act (room_of j) d (plain r)).1
  deal_notices i j d (acked r q) = copies_notices i (acked r q) (λ n. notice_mid st r false n.event) (act (room_of j) d (acked r q)).1

  pub dealt_notices : (D : ℕ → Deed) (i : ℕ) (xs : List Subscription) → Notices (said (deal st D) i xs)
  dealt_notices D i [] = tt
  dealt_notices D i (x ∷ xs) =
      every_append (λ c. 5 < mid_of c.what.frame) (tag i (deal st D i x).1) (said (deal st D) (suc i) xs) (deal_notices i i (D i) x)
      (dealt_notices D (suc i) xs)

-- ==== one frame more

abbrev with_frame : List ℕ → Signals → Signals
with_frame f x = record {
  closes = x.closes;
  welcomes = cond (is_0002 f) true x.welcomes;
  accepts = λ so. cond (is_0005 so f) true (x.accepts so);
}

abbrev pub signals_by : List ℕ → Signals
signals_by f = with_frame f silence

pub reply_first : (f : List ℕ) (es : List Emission) → signals es ≡ silence → signals (reply f ∷ es) ≡ signals_by f
reply_first f es h = ap (with_frame f) h

-- another message comes back
pub silent_other : (f : List ℕ) → eqb (mid_of f) 0002 ≡ false → eqb (mid_of f) 0005 ≡ false → signals_by f ≡ silence
silent_other f h k =
    λ i. signals_of false (cond (h i) true false)
    (λ so. cond (k i && so (entry_bearing (entry_of (decimal (places 21 24 f))))) true false)

-- copies are silent
notices_silent : (cs : List (Tagged Copy)) → Notices cs → signals (map copy cs) ≡ silence
notices_silent [] h = refl
notices_silent (c ∷ cs) h =
    let f = c.what.frame in
    let u = h.0 in
    ap (with_frame f) (notices_silent cs h.1)
    ∙ silent_other f (ne_eqb (mid_of f) 2 (λ e. omega arith)) (ne_eqb (mid_of f) 5 (λ e. omega arith))

pub copies_silent : (st : Settings) (D : ℕ → Deed) (xs : List Subscription) → signals (map copy (said (deal st D) 0 xs)) ≡ silence
copies_silent st D xs = notices_silent (said (deal st D) 0 xs) (dealt_notices st D 0 xs)

-- what is silent may be left out
pub silent_after : (xs ys : List Emission) → signals ys ≡ silence → signals (xs ++ ys) ≡ signals xs
silent_after [] ys h = h
silent_after (reply f ∷ xs) ys h = ap (with_frame f) (silent_after xs ys h)
silent_after (copy c ∷ xs) ys h = ap (with_frame c.what.frame) (silent_after xs ys h)
silent_after (close ∷ xs) ys h = ap (λ (x : Signals). signals_of true x.welcomes x.accepts) (silent_after xs ys h)

-- ==== replies

pub silent_0004 : (mid error : ℕ) → signals_by (frame_0004 mid error) ≡ silence
unfolding frame_0004 frame header digits
silent_0004 mid error = refl

pub silent_0065 : (r : Result) → signals_by (frame_0065 r) ≡ silence
unfolding frame_0065 frame header digits
silent_0065 r = refl

pub welcome_0002 : (st : Settings) → signals_by (frame_0002 st) ≡ record { closes = false; welcomes = true; accepts = λ so. false }
unfolding frame_0002 frame header digits
welcome_0002 st = refl

-- an acceptance of a message that is such
abbrev pub accepting : Bearing → Signals
accepting b = record { closes = false; welcomes = false; accepts = λ so. so b }

same_test : (b : Bool) → cond b true false ≡ b
same_test true = refl
same_test false = refl

pub accepting_0005 : (mid : ℕ) (b : Bearing) → decimal (digits 4 mid) ≡ mid → entry_bearing (entry_of mid) ≡ b
    → signals_by (frame_0005 mid) ≡ accepting b
unfolding frame_0005 frame header data_from characters digits
accepting_0005 mid b h e =
    λ i. signals_of false false
    ((fun_ext (λ so. same_test (so (entry_bearing (entry_of (decimal (digits 4 mid)))))
    ∙ ap (λ (n : ℕ). so (entry_bearing (entry_of n))) h ∙ ap so e)) i)
