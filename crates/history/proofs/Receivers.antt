-- TWO RECEIVERS, one of which cuts the bytes that a session is sent at each NUL while the other counts them off by their lengths, see the
-- same frames: those that the product wrote.
use Prim.Native.Nat.{ℕ, zero, suc, ◌≤◌, ◌<◌}
use mathlib.Core.Path.{◌≡◌, refl, sym, ◌∙◌, ap, ap₂}
use mathlib.Core.Bool.{Bool, true, false, cond}
use mathlib.Core.List.{List, [], ◌∷◌, ◌++◌, map, append-nil, append_assoc}
use mathlib.Core.Option.{Option, none, some}
use native.Mathlib.Omega.{arith}
use lib.Dec.{eqb}
use lib.ListN.{length, take, drop, length-append}
use lib.Seq.{take-append-le, take-append_seam, append_snoc}
use borrow.Author.Tests.{ne_eqb}
use Rattle.model.specs.Limits.{session_count}
use Rattle.model.specs.Bytes.{NUL, decimal, digits}
use Rattle.model.specs.Runs.{empty_run, longer, cut, Message, read_run}
use Rattle.model.specs.Layouts.{characters, data_from}
use Rattle.model.specs.Frames.{header, frame, frame_0005, frame_record_kind, close_record_kind}
use Rattle.model.specs.Calls.{Call, open_session, bytes}
use Rattle.model.specs.Wire.{Every, NoNUL, Framed}
use Rattle.model.proofs.Text.{frame_text}
use Rattle.model.proofs.Framed.{every_append, framed_0005}
use Rattle.controller.specs.Trace.{Made, History}
use Rattle.history.specs.Past.{run}
use Rattle.history.specs.Output.{RecordRead, frames_read}
use Rattle.history.specs.Wire.{Whole, a_frame, an_order, asked, OnTheWire, InTurn, cut_at_NUL, by_NUL, count_off, by_length}
use Rattle.history.specs.Wire.{records_read, records_of, payloads_to, bytes_to, frames_sent}
use Rattle.history.proofs.Output.{without_NUL}
use Rattle.history.proofs.Wire.{on_the_wire}

-- ==== frames one after another, each with its NUL

abbrev joined : List (List ℕ) → List ℕ
joined [] = []
joined (f ∷ fs) = (f ++ NUL ∷ []) ++ joined fs

joined_append : (fs gs : List (List ℕ)) → joined (fs ++ gs) ≡ joined fs ++ joined gs
joined_append [] gs = refl
joined_append (f ∷ fs) gs = ap ((f ++ NUL ∷ []) ++◌) (joined_append fs gs) ∙ sym (append_assoc (f ++ NUL ∷ []) (joined fs) (joined gs))

few_frames : (fs : List (List ℕ)) → length fs ≤ length (joined fs)
few_frames [] = omega arith
few_frames (f ∷ fs) =
    let ih = few_frames fs in omega (arith, length-append (f ++ NUL ∷ []) (joined fs), length-append f (NUL ∷ []))

-- ==== cut at NUL

cut_next : (begun frame rest : List ℕ) → NoNUL frame → cut_at_NUL begun (frame ++ NUL ∷ rest) ≡ (begun ++ frame) ∷ cut_at_NUL [] rest
cut_next begun [] rest h = ap (◌∷ cut_at_NUL [] rest) (sym (append-nil begun))
cut_next begun (b ∷ bs) rest h =
    rw (ne_eqb b NUL h.0, cut_at_NUL)
    (cut_next (begun ++ b ∷ []) bs rest h.1 ∙ ap (◌∷ cut_at_NUL [] rest) (append_assoc begun (b ∷ []) bs))

cut_all : (fs : List (List ℕ)) → Every Framed fs → by_NUL (joined fs) ≡ fs
cut_all [] h = refl
cut_all (f ∷ fs) h =
    ap by_NUL (append_snoc f NUL (joined fs)) ∙ cut_next [] f (joined fs) h.0.no_NUL ∙ ap (f ∷◌) (cut_all fs h.1)

-- ==== counted off

drop_past : (xs : List ℕ) (y : ℕ) (ys : List ℕ) → drop (suc (length xs)) (xs ++ y ∷ ys) ≡ ys
drop_past [] y ys = refl
drop_past (x ∷ xs) y ys = drop_past xs y ys

count_next : (more : ℕ) (frame rest : List ℕ) → Framed frame → count_off (suc more) (frame ++ NUL ∷ rest) ≡ frame ∷ count_off more rest
count_next more [] rest h = absurd (let n = h.has_header in omega arith)
count_next more (b ∷ bs) rest h =
    let long = h.has_header in
    let l = (b ∷ bs) ++ NUL ∷ rest in
    let n : decimal (take 4 l) ≡ length (b ∷ bs) = ap decimal (take-append-le 4 (b ∷ bs) (NUL ∷ rest) (omega arith)) ∙ h.own_length in
    ap₂ ◌∷◌ (ap (λ (k : ℕ). take k l) n ∙ take-append_seam (b ∷ bs) (NUL ∷ rest))
    (ap (λ (k : ℕ). count_off more (drop (suc k) l)) n ∙ ap (count_off more) (drop_past (b ∷ bs) NUL rest))

count_all : (fs : List (List ℕ)) → Every Framed fs → (more : ℕ) → length fs ≤ more → count_off more (joined fs) ≡ fs
count_all [] h zero n = refl
count_all [] h (suc more) n = refl
count_all (f ∷ fs) h zero n = absurd (omega arith)
count_all (f ∷ fs) h (suc more) n =
    ap (count_off (suc more)) (append_snoc f NUL (joined fs))
    ∙ count_next more f (joined fs) h.0 ∙ ap (f ∷◌) (count_all fs h.1 more (omega arith))

-- ==== the frames of a history

module _ (s : ℕ) (low : s < session_count) where
  abbrev Holds : List ℕ → List (List ℕ) → Type 0
  Holds bs fs = (bs ≡ joined fs) × Every Framed fs

  holds_one : (r : RecordRead) (rs : List RecordRead) → Whole r → Holds (payloads_to s rs) (frames_read s rs)
      → Holds (payloads_to s (r ∷ rs)) (frames_read s (r ∷ rs))
  holds_one r rs (a_frame t frame u f) ih =
      rw (without_NUL frame) (go (eqb (frame_record_kind t) (frame_record_kind s)))
    where
      go : (b : Bool) → let bs = payloads_to s rs in let fs = frames_read s rs in
          Holds (cond b ((frame ++ NUL ∷ []) ++ bs) bs) (cond b (frame ∷ fs) fs)
      go true = (ap ((frame ++ NUL ∷ []) ++◌) ih.0, (f, ih.1))
      go false = ih
  holds_one r rs (an_order t u) ih = rw (ne_eqb (close_record_kind t) (frame_record_kind s) (λ e. omega arith)) ih

  holds_records : (rs : List RecordRead) → Every Whole rs → Holds (payloads_to s rs) (frames_read s rs)
  holds_records [] h = (refl, tt)
  holds_records (r ∷ rs) h = holds_one r rs h.0 (holds_records rs h.1)

  holds_calls : (past ms : List Made) → InTurn OnTheWire past ms → Holds (bytes_to s ms) (frames_sent s ms)
  holds_calls past [] h = (refl, tt)
  holds_calls past (m ∷ ms) h =
      let e : records_of m ≡ h.0.records = ap records_read h.0.read in
      let k : Holds (payloads_to s (records_of m)) (frames_read s (records_of m)) = rw e (holds_records h.0.records h.0.whole) in
      let ih = holds_calls (m ∷ past) ms h.1 in (
        ap₂ ◌++◌ k.0 ih.0 ∙ sym (joined_append (frames_read s (records_of m)) (frames_sent s ms)),
        every_append Framed (frames_read s (records_of m)) (frames_sent s ms) k.1 ih.1,
      )

pub receivers_agree : {t t' : List ℕ} {ms : List Made} → History t ms t' → (s : ℕ) → s < session_count
    → (by_NUL (bytes_to s ms) ≡ frames_sent s ms) × (by_length (bytes_to s ms) ≡ frames_sent s ms)
receivers_agree {ms = ms} h s low =
    let k = holds_calls s low [] ms (on_the_wire h) in (
      ap by_NUL k.0 ∙ cut_all (frames_sent s ms) k.1,
      ap by_length k.0 ∙ count_all (frames_sent s ms) k.1 (length (joined (frames_sent s ms))) (few_frames (frames_sent s ms)),
    )

-- ==== what the words come to, computed

-- a keep-alive and a 0005 are frames; one that counts its NUL is none, and neither is one with a NUL in it
abbrev keep_alive : List ℕ
keep_alive = frame_text "00209999001_________"

abbrev counts_its_NUL : List ℕ
counts_its_NUL = frame_text "00219999001_________"

abbrev has_a_NUL : List ℕ
has_a_NUL = frame_text "0020" ++ NUL ∷ frame_text "999001_________"

pub a_frame_of_ours : Framed (frame_text "00240005001_________0060")
unfolding frame_0005 frame header data_from characters digits
a_frame_of_ours = framed_0005 60

pub no_frame_counts_its_NUL : Framed counts_its_NUL → ⊥
no_frame_counts_its_NUL h = let n = h.own_length in omega arith

pub no_frame_has_a_NUL : Framed has_a_NUL → ⊥
no_frame_has_a_NUL h = h.no_NUL.1.1.1.1.0 refl

-- what each of the receivers sees: the same frames in the first row, and not in the others
abbrev seen : List (List ℕ) → List (List ℕ) × List (List ℕ)
seen fs = (by_NUL (joined fs), by_length (joined fs))

pub the_receivers :
    map seen
    ((keep_alive ∷ keep_alive ∷ []) ∷ (counts_its_NUL ∷ keep_alive ∷ []) ∷ (has_a_NUL ∷ keep_alive ∷ []) ∷ [])
    ≡ (keep_alive ∷ keep_alive ∷ [], keep_alive ∷ keep_alive ∷ [])
    ∷ (counts_its_NUL ∷ keep_alive ∷ [], (counts_its_NUL ++ NUL ∷ []) ∷ (frame_text "0209999001_________" ++ NUL ∷ []) ∷ [])
    ∷ (frame_text "0020" ∷ frame_text "999001_________" ∷ keep_alive ∷ [], has_a_NUL ∷ keep_alive ∷ [])
    ∷ []
the_receivers = refl

-- a message that came in two calls, the newest first: what was read of it before, and the number of the message that the rest completes
abbrev made : Call → Made
made c = record {
  call = c;
  output = [];
  answer = record { number = 0; consumed = 0; written = 0; taken = 0 };
  output_left = [];
}

abbrev before : List ℕ
before =
    run 0
    (map asked (made (bytes 0 (frame_text "0020000")) ∷ made (bytes 0 (frame_text "A" ++ NUL ∷ [])) ∷ made (open_session 0) ∷ []))

abbrev mid_read : Option Message → ℕ
mid_read none = 0
mid_read (some m) = m.mid

pub in_two_calls : before ≡ frame_text "0020000"
unfolding cut
in_two_calls = refl

pub the_message : mid_read (read_run (longer empty_run (before ++ frame_text "1001_________"))) ≡ 0001
unfolding cut read_run
the_message = refl
