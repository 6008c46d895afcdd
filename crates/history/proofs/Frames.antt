-- Demand 3, its last sentence: an opening gets at most one frame for each message that it sent plus six for each event that it took.
use Prim.Native.Nat.{ℕ, zero, suc, ◌+◌, ◌*◌, ◌≤◌, ◌<◌}
use mathlib.Core.Path.{◌≡◌, refl, sym, ◌∙◌, ap, subst}
use mathlib.Core.Bool.{Bool, true, false, cond, true≢false}
use mathlib.Core.List.{List, [], ◌∷◌, ◌++◌, map}
use mathlib.Core.Option.{Option, none, some}
use native.Mathlib.Omega.{arith}
use lib.Dec.{eqb, eqb-suc-zero}
use lib.ListN.{length, length-append}
use borrow.Author.Tests.{eqb-false}
use Rattle.model.specs.Limits.{session_count, most_copies}
use Rattle.model.specs.Records.{Settings}
use Rattle.model.specs.Kinds.{kinds, room_of}
use Rattle.model.specs.Events.{Event}
use Rattle.model.specs.Sharing.{Shared}
use Rattle.model.specs.Notices.{Subscription, unsubscribed}
use Rattle.model.specs.Row.{Tagged, pick}
use Rattle.model.specs.Session.{Session, closed, opened, started, is_closed, Copy, Emission, reply, copy, close}
use Rattle.model.specs.Local.{Local, step}
use Rattle.model.specs.World.{World, session_at, begun}
use Rattle.model.specs.Calls.{Call, Lent, does, step as call_step}
use Rattle.model.specs.Sights.{Sight}
use Rattle.model.proofs.Sights.{Sees, nothing, a_start, its_opening, its_hang_up, a_tick, its_bytes, told, coherent}
use Rattle.watch.specs.Marks.{taken, all_sent}
use Rattle.watch.specs.Course.{empty as none_waits, Course}
use Rattle.watch.proofs.Histories.{course_before}
use Rattle.watch.proofs.Theorem.{few}
use Rattle.history.specs.Turns.{Turn, turn, turns, is_start, opens, frames_in, frames_to}
use Rattle.history.specs.Past.{run, message, is_some}
use Rattle.history.specs.Demand.{copies_in, seen, seen_in, mark, marks, frames, messages, over_kinds, events_taken, past_after}
use Rattle.history.specs.Demand.{FewFrames, NoStart}
use Rattle.history.proofs.Subscriptions.{view}
use Rattle.history.proofs.Sessions.{sub_at}
use Rattle.history.proofs.Calls.{sub_of, by_refusal}
use Rattle.history.proofs.Sendings.{Sent}
use Rattle.history.proofs.Turns.{goes, Agrees, moves, agrees_on, agrees_begun, course_of, sent_turn}

-- ==== of every kind, added up

sum-append : {A : Type 0} (n : ℕ) (f h : ℕ → List A)
    → over_kinds n (λ kind. length (f kind ++ h kind)) ≡ over_kinds n (λ kind. length (f kind)) + over_kinds n (λ kind. length (h kind))
sum-append zero f h = refl
sum-append (suc n) f h = let q = length-append (f n) (h n) in let ih = sum-append n f h in omega arith

sum_few : (n : ℕ) (f h : ℕ → ℕ) → ((kind : ℕ) → kind < n → f kind ≤ most_copies * h kind)
    → over_kinds n f ≤ most_copies * over_kinds n h
sum_few zero f h e = omega arith
sum_few (suc n) f h e = let q = e n (omega arith) in let ih = sum_few n f h (λ kind u. e kind (omega arith)) in omega arith

-- ==== a turn: a frame at most for a message, and copies

-- how many of these are of the first n kinds
abbrev among : ℕ → List (Tagged Copy) → ℕ
among n xs = over_kinds n (λ kind. length (map seen (pick kind xs)))

-- one more is no fewer, and one more where it is of these kinds
more_among : (x : Tagged Copy) (xs : List (Tagged Copy)) (n : ℕ)
    → (among n xs ≤ among n (x ∷ xs)) × (x.who < n → suc (among n xs) ≤ among n (x ∷ xs))
more_among x xs zero = (omega arith, λ h. absurd (omega arith))
more_among x xs (suc n) = go (eqb x.who n) refl (more_among x xs n)
  where
    go : (b : Bool) → eqb x.who n ≡ b → (among n xs ≤ among n (x ∷ xs)) × (x.who < n → suc (among n xs) ≤ among n (x ∷ xs))
        → let before = among n xs + length (map seen (pick n xs)) in
        let after = among n (x ∷ xs) + length (map seen (cond b (x.what ∷ pick n xs) (pick n xs))) in
        (before ≤ after) × (x.who < suc n → suc before ≤ after)
    go true e ih = omega arith
    go false e ih = (omega arith, λ h. let k = eqb-false x.who n e in let m = ih.1 (omega arith) in omega arith)

abbrev FewIn : Bool → List Emission → Type 0
FewIn b es = length (frames_in es) ≤ cond b 1 0 + among (length kinds) (copies_in es)

few_sent : (b : Bool) (es : List Emission) → Sent b es → FewIn b es
few_sent b [] h = omega arith
few_sent b (reply f ∷ es) h = rw h.0 (let ih = few_sent false es h.2 in omega arith)
few_sent b (copy c ∷ es) h = let ih = few_sent b es h.1 in let n = (more_among c (copies_in es) (length kinds)).1 h.0 in omega arith
few_sent b (close ∷ es) h = few_sent b es h

-- the session that a call opens is subscribed to nothing
opened_fresh : (g : Shared) {z : Sight} {l : Local} → Sees z l → z.opens ≡ true → (x : Session) → is_closed x ≡ true
    → (o : Option Event) (kind : ℕ) → sub_at kind (told g o (step g l x).0).0 ≡ unsubscribed
opened_fresh g its_opening e closed c none kind = refl
opened_fresh g its_opening e closed c (some n) kind = refl
opened_fresh g its_opening e (opened i run) c o kind = absurd (true≢false (sym c))
opened_fresh g its_opening e (started i run subs) c o kind = absurd (true≢false (sym c))
opened_fresh g nothing e x c o kind = absurd (true≢false (sym e))
opened_fresh g a_start e x c o kind = absurd (true≢false (sym e))
opened_fresh g its_hang_up e x c o kind = absurd (true≢false (sym e))
opened_fresh g a_tick e x c o kind = absurd (true≢false (sym e))
opened_fresh g its_bytes e x c o kind = absurd (true≢false (sym e))

opens_fresh : {st : Settings} (w : World) (past : List Turn) → Agrees st w past → (s : ℕ) → s < session_count → (l : Lent) (c : Call)
    → is_start (turn c (call_step l w c)) ≡ false → opens s (turn c (call_step l w c)) ≡ true → (kind : ℕ)
    → sub_of s kind (call_step l w c).0 ≡ unsubscribed
opens_fresh w past a s h l c ns f kind =
    by_refusal l w c (λ q. is_start (turn c q) ≡ false → opens s (turn c q) ≡ true → sub_of s kind q.0 ≡ unsubscribed)
    (λ e ns f.
    ap (sub_at kind) (goes w past a.size a.like l c e ns s h).0
    ∙ opened_fresh w.shared ((coherent l w c e).sees s) f (session_at w s) ((coherent l w c e).opens s f) (does w c).event kind)
    (λ n ns f. absurd (true≢false (sym (rw (eqb-suc-zero n) at f)))) ns f

-- ==== an opening

pub marks_append : (st : Settings) (s kind : ℕ) (past xs ys : List Turn)
    → marks st s kind past (xs ++ ys) ≡ marks st s kind past xs ++ marks st s kind (past_after past xs) ys
marks_append st s kind past [] ys = refl
marks_append st s kind past (x ∷ xs) ys = ap (mark st s kind past x ∷◌) (marks_append st s kind (x ∷ past) xs ys)

module _ (st : Settings) (s : ℕ) (h : s < session_count) where
  -- the copies of every kind
  abbrev sent : List Turn → List Turn → ℕ
  sent past xs = over_kinds (length kinds) (λ kind. length (all_sent (marks st s kind past xs)))

  -- replies for messages, and copies
  more_frames : (past : List Turn) (x : Turn) (xs : List Turn) → FewIn (is_some (message s past x)) (pick s x.out)
      → frames s xs ≤ messages s (x ∷ past) xs + sent (x ∷ past) xs → frames s (x ∷ xs) ≤ messages s past (x ∷ xs) + sent past (x ∷ xs)
  more_frames past x xs f ih = go (is_some (message s past x)) f
    where
      n : sent past (x ∷ xs) ≡ among (length kinds) (copies_in (pick s x.out)) + sent (x ∷ past) xs
      n = sum-append (length kinds) (λ kind. seen_in kind (pick s x.out)) (λ kind. all_sent (marks st s kind (x ∷ past) xs))

      go : (b : Bool) → FewIn b (pick s x.out)
          → length (frames_to s x) + frames s xs ≤ cond b (suc (messages s (x ∷ past) xs)) (messages s (x ∷ past) xs) + sent past (x ∷ xs)
      go true g = omega (arith, n)
      go false g = omega (arith, n)

  frames_in_prefix : (during later : List Turn) (cs : List (Lent × Call)) (w : World) (past : List Turn) → Agrees st w past
      → NoStart (turns w cs) → turns w cs ≡ during ++ later → frames s during ≤ messages s past during + sent past during
  frames_in_prefix [] later cs w past a ns e = omega arith
  frames_in_prefix (y ∷ during) later [] w past a ns e = absurd (let z = ap length e in omega arith)
  frames_in_prefix (y ∷ during) later (c ∷ cs) w past a ns e =
      let r = call_step c.0 w c.1 in
      let first : turn c.1 r ≡ y = cc in
      let more : turns r.0 cs ≡ during ++ later = cc in
      rw (← first)
      (more_frames past (turn c.1 r) during
      (few_sent (is_some (message s past (turn c.1 r))) (pick s r.2) (sent_turn st w past c.0 c.1 a s h ns.0))
      (frames_in_prefix during later cs r.0 (turn c.1 r ∷ past) (agrees_on st (moves st w past c.0 c.1 a ns.0)) ns.1
      more))

  few_copies : (kind : ℕ) → kind < length kinds → (during later : List Turn) (cs : List (Lent × Call)) (w : World) (past : List Turn)
      → Agrees st w past → NoStart (turns w cs) → turns w cs ≡ during ++ later → sub_of s kind w ≡ unsubscribed
      → length (all_sent (marks st s kind past during)) ≤ most_copies * taken (marks st s kind past during)
  few_copies kind u during later cs w past a ns e q =
      few (course_before (marks st s kind past during) (marks st s kind (past_after past during) later)
      (subst (Course (room_of kind) w.shared.events none_waits)
      (ap (marks st s kind past) e ∙ marks_append st s kind past during later)
      (subst (λ (x : Subscription). Course (room_of kind) w.shared.events (view st x) (marks st s kind past (turns w cs))) q
      (course_of st w past cs a ns s h kind u))))

  abbrev Few : List Turn → List Turn → Type 0
  Few past during = frames s during ≤ messages s past during + most_copies * events_taken st s past during

  few_frames_from : (before : List Turn) (x : Turn) (during later : List Turn) (cs : List (Lent × Call)) (w : World) (past : List Turn)
      → Agrees st w past → NoStart (turns w cs) → turns w cs ≡ before ++ x ∷ (during ++ later) → opens s x ≡ true
      → Few (x ∷ past_after past before) during
  few_frames_from [] x during later [] w past a ns e o = absurd (let z = ap length e in omega arith)
  few_frames_from [] x during later (c ∷ cs) w past a ns e o =
      let r = call_step c.0 w c.1 in
      let x₀ = turn c.1 r in
      let b = agrees_on st (moves st w past c.0 c.1 a ns.0) in
      let q : x₀ ≡ x = cc in
      let more : turns r.0 cs ≡ during ++ later = cc in
      let f = opens_fresh w past a s h c.0 c.1 ns.0 (ap (opens s) q ∙ o) in
      subst (λ (y : Turn). Few (y ∷ past) during) q
      (let n = frames_in_prefix during later cs r.0 (x₀ ∷ past) b ns.1 more in
      let m =
      sum_few (length kinds) (λ kind. length (all_sent (marks st s kind (x₀ ∷ past) during)))
      (λ kind. taken (marks st s kind (x₀ ∷ past) during))
      (λ kind u. few_copies kind u during later cs r.0 (x₀ ∷ past) b ns.1 more (f kind)) in
      omega arith)
  few_frames_from (y ∷ before) x during later [] w past a ns e o = absurd (let z = ap length e in omega arith)
  few_frames_from (y ∷ before) x during later (c ∷ cs) w past a ns e o =
      let r = call_step c.0 w c.1 in
      let first : turn c.1 r ≡ y = cc in
      let more : turns r.0 cs ≡ before ++ x ∷ (during ++ later) = cc in
      rw (← first)
      (few_frames_from before x during later cs r.0 (turn c.1 r ∷ past) (agrees_on st (moves st w past c.0 c.1 a ns.0))
      ns.1 more o)

  -- THE BOUND, of every run of the model's calls after a start
  pub few_frames_of_runs : (cs : List (Lent × Call)) → NoStart (turns (begun st 0) cs) → FewFrames st s (turns (begun st 0) cs)
  few_frames_of_runs cs ns before x during later e o = few_frames_from before x during later cs (begun st 0) [] (agrees_begun st) ns e o
