-- What a line server sees on the wire: where a frame ends, and what a reply answers.
use Rattle.std.specs.Prelude.{ℕ, ◌≤◌, ◌≡◌, Bool, true, false, ◌||◌, List, [], ◌∷◌, eqb, length}
use Rattle.model.specs.Limits.{header_length}
use Rattle.model.specs.Bytes.{NUL, is_digit, all, places, decimal}
use Rattle.model.specs.Records.{Settings}
use Rattle.model.specs.Runs.{Message}
use Rattle.model.specs.Kinds.{Kind, kinds}
use Rattle.model.specs.Events.{Result}
use Rattle.model.specs.Frames.{frame_0002, frame_0004, frame_0005, frame_0065}

-- each element of a list is so (`watch`, which knows nothing of the model, has the same word)
abbrev pub Every : {A : Type 0} → (A → Type 0) → List A → Type 0
Every P [] = Unit {0}
Every P (x ∷ xs) = P x × Every P xs

-- ==== 01, "Runs and headers" and "Frames we write": where a frame ends

abbrev pub NoNUL : List ℕ → Type 0
NoNUL bs = Every (λ b. b ≡ NUL → ⊥) bs

-- a frame, without the NUL behind it: the first NUL behind its start is that one, and its first four bytes tell how long it is
pub record Framed (frame : List ℕ) : Type 0 where
  pub no_NUL : NoNUL frame
  pub has_header : header_length ≤ length frame
  pub in_digits : all is_digit (places 1 4 frame) ≡ true
  pub own_length : decimal (places 1 4 frame) ≡ length frame

-- ==== 01, "What a message does" and "Frames we write": what a reply answers

-- 0002 answers 0001; 0004 and 0005 carry the message's number; 0065 answers 0064; 9999 is its own bytes, of which there are 20
pub data Answers (m : Message) : List ℕ → Type 0 where
  welcomes : (st : Settings) → m.mid ≡ 0001 → Answers m (frame_0002 st)
  refuses : (error : ℕ) → Answers m (frame_0004 m.mid error)
  accepts : Answers m (frame_0005 m.mid)
  tells : (r : Result) → m.mid ≡ 0064 → Answers m (frame_0065 r)
  mirrors : m.mid ≡ 9999 → m.size ≡ header_length → Answers m m.header

-- 01, "Notices and the clock": the frame of a notice has the message number of one of their kinds
abbrev pub has_notice : List Kind → ℕ → Bool
has_notice [] mid = false
has_notice (k ∷ ks) mid = eqb mid k.notice || has_notice ks mid

abbrev pub is_notice : List ℕ → Bool
is_notice frame = has_notice kinds (decimal (places 5 8 frame))
