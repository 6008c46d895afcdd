-- What goes out to a session at once: a reply at most, and only to a message; no reply has the number of a kind of notice, and every copy
-- is of a kind in the table.
use Prim.Native.Nat.{ℕ, ◌<◌}
use mathlib.Core.Path.{◌≡◌, refl, sym}
use mathlib.Core.Bool.{Bool, true, false, true≢false}
use mathlib.Core.List.{List, [], ◌∷◌, ◌++◌, map}
use native.Mathlib.Omega.{arith}
use lib.ListN.{length}
use Rattle.model.specs.Bytes.{digits}
use Rattle.model.specs.Records.{Settings}
use Rattle.model.specs.Kinds.{kinds}
use Rattle.model.specs.Events.{Result}
use Rattle.model.specs.Frames.{header, frame, frame_0002, frame_0004, frame_0005, frame_0065}
use Rattle.model.specs.Notices.{Subscription, Deed}
use Rattle.model.specs.Row.{Tagged, said}
use Rattle.model.specs.Session.{Copy, Emission, reply, copy, close, deal}
use Rattle.model.specs.Wire.{is_notice}
use Rattle.controller.proofs.Outputs.{Below, below_said}

-- b: a reply may be among them
abbrev pub Sent : Bool → List Emission → Type 0
Sent b [] = Unit {0}
Sent b (reply frame ∷ es) = (b ≡ true) × (is_notice frame ≡ false) × Sent false es
Sent b (copy c ∷ es) = (c.who < length kinds) × Sent b es
Sent b (close ∷ es) = Sent b es

sent_more : (b : Bool) (es : List Emission) → Sent false es → Sent b es
sent_more b [] h = tt
sent_more b (reply f ∷ es) h = absurd (true≢false (sym h.0))
sent_more b (copy c ∷ es) h = (h.0, sent_more b es h.1)
sent_more b (close ∷ es) h = sent_more b es h

pub sent_append : (b : Bool) (xs ys : List Emission) → Sent b xs → Sent false ys → Sent b (xs ++ ys)
sent_append b [] ys h k = sent_more b ys k
sent_append b (reply f ∷ xs) ys h k = (h.0, h.1, sent_append false xs ys h.2 k)
sent_append b (copy c ∷ xs) ys h k = (h.0, sent_append b xs ys h.1 k)
sent_append b (close ∷ xs) ys h k = sent_append b xs ys h k

-- ==== copies

sent_copies : (b : Bool) (cs : List (Tagged Copy)) → Below (length kinds) cs → Sent b (map copy cs)
sent_copies b [] h = tt
sent_copies b (c ∷ cs) h = (h.0, sent_copies b cs h.1)

pub sent_dealt : (st : Settings) (b : Bool) (D : ℕ → Deed) (subs : List Subscription) → length subs ≡ length kinds
    → Sent b (map copy (said (deal st D) 0 subs))
sent_dealt st b D subs h = sent_copies b (said (deal st D) 0 subs) (below_said (deal st D) (length kinds) 0 subs (omega arith))

-- ==== replies

pub own_0002 : (st : Settings) → is_notice (frame_0002 st) ≡ false
unfolding frame_0002 frame header digits
own_0002 st = refl

pub own_0004 : (mid error : ℕ) → is_notice (frame_0004 mid error) ≡ false
unfolding frame_0004 frame header digits
own_0004 mid error = refl

pub own_0005 : (mid : ℕ) → is_notice (frame_0005 mid) ≡ false
unfolding frame_0005 frame header digits
own_0005 mid = refl

pub own_0065 : (r : Result) → is_notice (frame_0065 r) ≡ false
unfolding frame_0065 frame header digits
own_0065 r = refl
