-- Demand 3, of a history of calls: the marks of its turns, and what is asked of them.
use Rattle.std.specs.Prelude.{ℕ, zero, suc, ◌+◌, ◌*◌, ◌≤◌, ◌<◌, ◌≡◌, true, false, cond, List, [], ◌∷◌, ◌++◌, map, eqb, length}
use Rattle.model.specs.Limits.{most_copies}
use Rattle.model.specs.Records.{Settings}
use Rattle.model.specs.Kinds.{kinds, kind_at}
use Rattle.model.specs.Session.{Copy, Emission, reply, copy, close}
use Rattle.model.specs.Row.{Tagged, pick}
use Rattle.model.specs.Wire.{is_notice}
use Rattle.watch.specs.Marks.{Seen, Mark, all_sent, taken, Every}
use Rattle.history.specs.Turns.{Turn, is_start, opens, ticks, frames_to, mid_of}
use Rattle.history.specs.Past.{message, wish, is_some, asks_acknowledge, subscribed, closes, event, shared, frame_for, takes}

-- ==== copies of notices

abbrev pub copies_in : List Emission → List (Tagged Copy)
copies_in [] = []
copies_in (reply frame ∷ es) = copies_in es
copies_in (copy c ∷ es) = c ∷ copies_in es
copies_in (close ∷ es) = copies_in es

abbrev pub seen : Copy → Seen
seen c = record { id = c.notice.id; frame = c.frame }

-- those of that kind
abbrev pub seen_in : ℕ → List Emission → List Seen
seen_in kind es = map seen (pick kind (copies_in es))

-- ==== what a turn is to the notices of that kind to session s

abbrev pub mark : Settings → ℕ → ℕ → List Turn → Turn → Mark
mark st s kind past x =
    let g = shared st past in
    record {
      number = g.events;
      event = frame_for st kind (wish s kind past) (event g past x);
      took = takes s kind g past x;
      subscribed = subscribed s kind past;
      still = subscribed s kind (x ∷ past);
      asked = asks_acknowledge (wish s kind past);
      closes = closes s kind past x;
      tick = ticks s x;
      sent = seen_in kind (pick s x.out);
    }

-- of these turns, after those
abbrev pub marks : Settings → ℕ → ℕ → List Turn → List Turn → List Mark
marks st s kind past [] = []
marks st s kind past (x ∷ xs) = mark st s kind past x ∷ marks st s kind (x ∷ past) xs

-- ==== an opening

-- the frames that it gets
abbrev pub frames : ℕ → List Turn → ℕ
frames s [] = 0
frames s (x ∷ xs) = length (frames_to s x) + frames s xs

-- the messages that it sends
abbrev pub messages : ℕ → List Turn → List Turn → ℕ
messages s past [] = 0
messages s past (x ∷ xs) = let r = messages s (x ∷ past) xs in cond (is_some (message s past x)) (suc r) r

-- of so many kinds, from 0 on, added up
abbrev pub over_kinds : ℕ → (ℕ → ℕ) → ℕ
over_kinds zero count = 0
over_kinds (suc kind) count = over_kinds kind count + count kind

-- the events that it takes, of every kind
abbrev pub events_taken : Settings → ℕ → List Turn → List Turn → ℕ
events_taken st s past xs = over_kinds (length kinds) (λ kind. taken (marks st s kind past xs))

-- the turns so far, when these come after those
abbrev pub past_after : List Turn → List Turn → List Turn
past_after past [] = past
past_after past (x ∷ xs) = past_after (x ∷ past) xs

-- one frame at most for each message that it sent and most_copies (six) for each event that it took, from its opening up to any later turn
abbrev pub FewFrames : Settings → ℕ → List Turn → Type 0
FewFrames st s xs = (before : List Turn) (x : Turn) (during later : List Turn) → xs ≡ before ++ x ∷ (during ++ later) → opens s x ≡ true
    → let past = x ∷ past_after [] before in frames s during ≤ messages s past during + most_copies * events_taken st s past during

-- ==== 01, "Frames we write": which frames are copies is shown by their bytes

-- a reply has the message number of no kind of notice, and a copy is of a kind in the table
abbrev pub NoNotice : Emission → Type 0
NoNotice (reply frame) = is_notice frame ≡ false
NoNotice (copy c) = c.who < length kinds
NoNotice close = Unit {0}

-- those frames that have that number
abbrev pub of_number : ℕ → List (List ℕ) → List (List ℕ)
of_number mid [] = []
of_number mid (f ∷ fs) = let r = of_number mid fs in cond (eqb (mid_of f) mid) (f ∷ r) r

-- what is counted as a copy has its kind's, and what is not counted has none of them: the copies that a turn sends of a kind are those of
-- its frames that have the kind's number, in their order
pub record ToldApart (st : Settings) (s : ℕ) (xs : List Turn) : Type 0 where
  pub counted : (kind : ℕ) → kind < length kinds
      → Every (λ x. mid_of x.frame ≡ (kind_at kind).notice) (all_sent (marks st s kind [] xs))
  pub others : Every (λ x. Every NoNotice (pick s x.out)) xs
  pub exactly : (kind : ℕ) → kind < length kinds
      → Every (λ x. map (λ c. c.frame) (seen_in kind (pick s x.out)) ≡ of_number (kind_at kind).notice (frames_to s x)) xs

-- ==== no second start is done

abbrev pub NoStart : List Turn → Type 0
NoStart xs = Every (λ x. is_start x ≡ false) xs
