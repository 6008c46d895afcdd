-- What is counted as a copy of a notice has the message number of its kind, and what is not counted has none of theirs: so the bytes of the
-- output show what is counted.
use Prim.Native.Nat.{ℕ, ◌<◌}
use mathlib.Core.Path.{◌≡◌, refl, sym, ◌∙◌, ap, subst}
use mathlib.Core.Bool.{Bool, true, false, cond}
use mathlib.Core.List.{List, [], ◌∷◌, ◌++◌, map}
use mathlib.Core.Option.{Option, none, some}
use lib.Dec.{eqb}
use lib.ListN.{length}
use borrow.Author.Tests.{eqb-true, eqb-false, eq-eqb, ne_eqb}
use Rattle.model.specs.Limits.{session_count}
use Rattle.model.specs.Bytes.{digits}
use Rattle.model.specs.Records.{Settings}
use Rattle.model.specs.Kinds.{kinds, kind_at}
use Rattle.model.specs.Events.{Event, identified, tightened, alarmed, kind_of}
use Rattle.model.specs.Frames.{header, frame, event_frame}
use Rattle.model.specs.Row.{Tagged, pick}
use Rattle.model.specs.Session.{Copy, Emission, reply, copy, close}
use Rattle.model.specs.World.{World, begun}
use Rattle.model.specs.Calls.{Call, Lent, step as call_step}
use Rattle.model.proofs.KindLaws.{no_notice, notices_differ}
use Rattle.watch.specs.Marks.{Seen, Mark, all_sent, or_later, frame_of, Every}
use Rattle.history.specs.Turns.{Turn, turn, turns, mid_of, frames_in}
use Rattle.history.specs.Past.{message, is_some, Wish, wish, event as event_of, shared, frame_for}
use Rattle.history.specs.Demand.{NoNotice, of_number, ToldApart, copies_in, seen, seen_in, mark, marks, NoStart}
use Rattle.history.proofs.Turns.{Agrees, moves, agrees_on, agrees_begun, demand_3_of_runs, sent_turn}
use Rattle.history.proofs.Sendings.{Sent}

-- ==== no reply has a kind's number, and every copy is of a kind

abbrev Quiet : List Emission → Type 0
Quiet es = Every NoNotice es

quiet_sent : (b : Bool) (es : List Emission) → Sent b es → Quiet es
quiet_sent b [] h = tt
quiet_sent b (reply f ∷ es) h = (h.1, quiet_sent false es h.2)
quiet_sent b (copy c ∷ es) h = (h.0, quiet_sent b es h.1)
quiet_sent b (close ∷ es) h = (tt, quiet_sent b es h)

-- ==== the copies: each has the frame of its event, and that has its kind's number

abbrev notice : ℕ → ℕ
notice kind = (kind_at kind).notice

event_mid : (st : Settings) (r : ℕ) (a : Bool) (e : Event) → mid_of (event_frame st r a e) ≡ notice (kind_of e)
unfolding event_frame frame header digits
event_mid st r a (identified x) = refl
event_mid st r a (tightened x) = refl
event_mid st r a (alarmed vs) = refl

abbrev MidOf : ℕ → Option (List ℕ) → Type 0
MidOf kind none = Unit {0}
MidOf kind (some f) = mid_of f ≡ notice kind

frame_mid : (st : Settings) (kind : ℕ) (o : Option Wish) (e : Option Event) → MidOf kind (frame_for st kind o e)
frame_mid st kind none e = tt
frame_mid st kind (some w) none = tt
frame_mid st kind (some w) (some e) = go (eqb kind (kind_of e)) refl
  where
    go : (b : Bool) → eqb kind (kind_of e) ≡ b → MidOf kind (cond b (some (event_frame st w.revision w.no_acknowledge e)) none)
    go true q = event_mid st w.revision w.no_acknowledge e ∙ ap notice (sym (eqb-true kind (kind_of e) q))
    go false q = tt

module _ (st : Settings) (s kind : ℕ) where
  frames_mid : (n : ℕ) (past xs : List Turn) → MidOf kind (frame_of n (marks st s kind past xs))
  frames_mid n past [] = tt
  frames_mid n past (x ∷ xs) =
      go (eqb (mark st s kind past x).number n) (mark st s kind past x).event
      (frame_mid st kind (wish s kind past) (event_of (shared st past) past x)) (frames_mid n (x ∷ past) xs)
    where
      go : (b : Bool) (o : Option (List ℕ)) → MidOf kind o → MidOf kind (frame_of n (marks st s kind (x ∷ past) xs))
          → MidOf kind (or_later b (frame_of n (marks st s kind (x ∷ past) xs)) o)
      go b none u v = v
      go true (some f) u v = u
      go false (some f) u v = v

  copies_mid : (ms : List Mark) → ((n : ℕ) → MidOf kind (frame_of n ms)) → (xs : List Seen)
      → Every (λ (x : Seen). frame_of x.id ms ≡ some x.frame) xs → Every (λ (x : Seen). mid_of x.frame ≡ notice kind) xs
  copies_mid ms h [] e = tt
  copies_mid ms h (x ∷ xs) e = (subst (MidOf kind) e.0 (h x.id), copies_mid ms h xs e.1)

quiet_turns : (st : Settings) (s : ℕ) → s < session_count → (w : World) (past : List Turn) (cs : List (Lent × Call)) → Agrees st w past
    → NoStart (turns w cs) → Every (λ (x : Turn). Every NoNotice (pick s x.out)) (turns w cs)
quiet_turns st s h w past [] a ns = tt
quiet_turns st s h w past (c ∷ cs) a ns =
    let r = call_step c.0 w c.1 in (
      quiet_sent (is_some (message s past (turn c.1 r))) (pick s r.2) (sent_turn st w past c.0 c.1 a s h ns.0),
      quiet_turns st s h r.0 (turn c.1 r ∷ past) cs (agrees_on st (moves st w past c.0 c.1 a ns.0)) ns.1,
    )

-- ==== the copies of a kind are the frames with its number

abbrev Numbered : ℕ → List Seen → Type 0
Numbered kind xs = Every (λ (x : Seen). mid_of x.frame ≡ notice kind) xs

abbrev AllNumbered : (ℕ → List Seen) → Type 0
AllNumbered xs = (kind : ℕ) → kind < length kinds → Numbered kind (xs kind)

numbered_parts : (kind : ℕ) (xs ys : List Seen) → Numbered kind (xs ++ ys) → Numbered kind xs × Numbered kind ys
numbered_parts kind [] ys h = (tt, h)
numbered_parts kind (x ∷ xs) ys h = let k = numbered_parts kind xs ys h.1 in ((h.0, k.0), k.1)

abbrev AreFrames : ℕ → List Emission → Type 0
AreFrames kind es = map (λ (x : Seen). x.frame) (seen_in kind es) ≡ of_number (notice kind) (frames_in es)

-- one copy more
module _ (c : Tagged Copy) (low : c.who < length kinds) (es : List Emission) (n : AllNumbered (λ kind. seen_in kind (copy c ∷ es))) where
  its_number : mid_of c.what.frame ≡ notice c.who
  its_number = (rw (eq-eqb c.who c.who refl) at (n c.who low)).0

  others_numbered : AllNumbered (λ kind. seen_in kind es)
  others_numbered kind u = go (eqb c.who kind) (n kind u)
    where
      go : (b : Bool) → Numbered kind (map seen (cond b (c.what ∷ pick kind (copies_in es)) (pick kind (copies_in es))))
          → Numbered kind (seen_in kind es)
      go true h = h.1
      go false h = h

  copy_more : (kind : ℕ) → kind < length kinds → AreFrames kind es → AreFrames kind (copy c ∷ es)
  copy_more kind u ih = go (eqb c.who kind) refl
    where
      go : (b : Bool) → eqb c.who kind ≡ b
          → map (λ (x : Seen). x.frame) (map seen (cond b (c.what ∷ pick kind (copies_in es)) (pick kind (copies_in es))))
          ≡ of_number (notice kind) (frames_in (copy c ∷ es))
      go true e =
          rw (eq-eqb (mid_of c.what.frame) (notice kind) (its_number ∙ ap notice (eqb-true c.who kind e)))
          (ap (c.what.frame ∷◌) ih)
      go false e =
          rw (ne_eqb (mid_of c.what.frame) (notice kind)
          (λ q. eqb-false c.who kind e (notices_differ c.who kind low u (sym its_number ∙ q)))) ih

are_frames : (kind : ℕ) → kind < length kinds → (es : List Emission) → Quiet es → AllNumbered (λ j. seen_in j es) → AreFrames kind es
are_frames kind u [] q n = refl
are_frames kind u (reply f ∷ es) q n = rw (no_notice kinds _ (mid_of f) q.0 kind u) (are_frames kind u es q.1 n)
are_frames kind u (copy c ∷ es) q n =
    copy_more c q.0 es n kind u (are_frames kind u es q.1 (others_numbered c q.0 es n))
are_frames kind u (close ∷ es) q n = are_frames kind u es q.1 n

turns_are_frames : (st : Settings) (s kind : ℕ) → kind < length kinds → (past xs : List Turn)
    → Every (λ (x : Turn). Quiet (pick s x.out)) xs → AllNumbered (λ j. all_sent (marks st s j past xs))
    → Every (λ (x : Turn). AreFrames kind (pick s x.out)) xs
turns_are_frames st s kind u past [] q n = tt
turns_are_frames st s kind u past (x ∷ xs) q n =
    let es = pick s x.out in
    let more : ℕ → List Seen = λ j. all_sent (marks st s j (x ∷ past) xs) in (
      are_frames kind u es q.0 (λ j v. (numbered_parts j (seen_in j es) (more j) (n j v)).0),
      turns_are_frames st s kind u (x ∷ past) xs q.1 (λ j v. (numbered_parts j (seen_in j es) (more j) (n j v)).1),
    )

-- THE COPIES COUNTED, of every run of the model's calls after a start
pub told_apart_in_runs : (st : Settings) (cs : List (Lent × Call)) → NoStart (turns (begun st 0) cs) → (s : ℕ) → s < session_count
    → ToldApart st s (turns (begun st 0) cs)
told_apart_in_runs st cs ns s h =
    let xs = turns (begun st 0) cs in
    let mids : AllNumbered (λ kind. all_sent (marks st s kind [] xs)) = λ kind u.
    copies_mid st s kind (marks st s kind [] xs) (λ n. frames_mid st s kind n [] xs) (all_sent (marks st s kind [] xs))
    (demand_3_of_runs st cs ns s h kind u).equal in
    let quiet = quiet_turns st s h (begun st 0) [] cs (agrees_begun st) ns in
    record {
      counted = mids;
      others = quiet;
      exactly = λ kind u. turns_are_frames st s kind u [] xs quiet mids;
    }
