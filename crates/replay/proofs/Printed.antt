-- The lines of a call, put together.
use Rattle.std.proofs.Common.{◌≡◌, refl, sym, ap, ◌∙◌, ℕ, zero, suc, ◌+◌, ◌-◌, ◌≤◌, ◌<◌, Bool, true, false, cond, eqb, List, [], ◌∷◌, ◌++◌}
use Rattle.std.proofs.Common.{length, get_or, take, drop, arith, length-append, length-drop, append_assoc, add-one}
use lib.ListN.{set, drop_of_length-le}
use lib.Seq.{length-take-le, take_all, take_at}
use mathlib.Core.List.{append-nil}
use borrow.Author.Tests.{eq-eqb, ne_eqb, eqb-true, eqb-false}
use Rattle.model.specs.Bytes.{space, little, digits}
use Rattle.model.specs.Program.{shown, printed}
use Rattle.model.specs.Records.{record_head}
use Rattle.controller.specs.declared.Answer.{Answer}
use Rattle.replay.specs.Lines.{line_in, lines_in, text_of}
use Rattle.replay.specs.Whole.{whole_size, Parted}
use Rattle.replay.proofs.Sizes.{slices_first, slices_none}

-- ==== a frame

pub shown_length : (l : List ℕ) → length (shown l) ≡ length l
shown_length [] = refl
shown_length (b ∷ l) = ap suc (shown_length l)

abbrev pub byte_shown : ℕ → ℕ
byte_shown b = cond (eqb b space) 0x5F b

-- so many bytes of a frame are shown, over what was there
abbrev pub shown_up_to : ℕ → List ℕ → List ℕ → List ℕ
shown_up_to i l o = shown (take i l) ++ drop i o

shown_after : (i : ℕ) (l o : List ℕ) → i < length l → length o ≡ length l
    → set (shown_up_to i l o) i (byte_shown (get_or l i 0)) ≡ shown_up_to (suc i) l o
shown_after i [] o h e = absurd (omega arith)
shown_after i (b ∷ l) [] h e = absurd (omega arith)
shown_after zero (b ∷ l) (x ∷ o) h e = refl
shown_after (suc i) (b ∷ l) (x ∷ o) h e = ap (byte_shown b ∷◌) (shown_after i l o (omega arith) (omega arith))

pub shown_next : {f : List ℕ} (i : ℕ) (l o : List ℕ) → i < length l → length o ≡ length l → f ≡ shown_up_to i l o
    → set f i (byte_shown (get_or l i 0)) ≡ shown_up_to (i + 1) l o
shown_next i l o h g e = rw (add-one, e) (shown_after i l o h g)

pub shown_all : {f : List ℕ} (i : ℕ) (l o : List ℕ) → length l ≤ i → length o ≡ length l → f ≡ shown_up_to i l o → f ≡ shown l
shown_all i l o h g e = rw (take_all i l h, drop_of_length-le o {i = i} (omega arith)) at e ∙ append-nil (shown l)

-- a frame shown behind the bytes that wait
pub shown_behind : (l p frame : List ℕ) {waited s : List ℕ} {size end : ℕ} → take size l ≡ waited → size ≤ length l → s ≡ shown frame
    → end ≡ size + length frame → take end (take size l ++ (s ++ p)) ≡ waited ++ shown frame
shown_behind l p frame {waited = waited} {size = size} {end = end} e h f g =
    let long : length (waited ++ shown frame) ≡ end =
    omega (arith, length-append waited (shown frame), shown_length frame, ap length e, length-take-le size l h) in
    rw (e, f, ← append_assoc waited (shown frame) p) (take_at (waited ++ shown frame) p end long)

-- ==== a line

pub digit_length : (n : ℕ) → length (digits 1 n) ≡ 1
unfolding digits
digit_length n = refl

-- a record has four bytes before a frame, and one behind it
pub room_for_a_frame : (slice : List ℕ) (n : ℕ) → record_head ≤ length slice
    → n + 1 ≡ length (take (length slice - record_head) (drop record_head slice)) → length slice ≡ suc record_head + n
room_for_a_frame slice n h e =
    let k = length-drop record_head slice in
    omega (arith, e, length-take-le (length slice - record_head) (drop record_head slice) (omega arith))

module _ (slice waited : List ℕ) {n : ℕ} {w : List ℕ} (long : record_head ≤ length slice) (e : n ≡ little (take 1 (drop 2 slice)))
    (digit : w ≡ waited ++ digits 1 n) where
  pub close_line : length (drop record_head slice) ≡ 0 → w ++ space ∷ 0x43 ∷ 0x0A ∷ [] ≡ waited ++ line_in slice ++ 0x0A ∷ []
  unfolding line_in
  close_line h =
      let none : length slice ≡ record_head = omega (arith, length-drop record_head slice) in
      rw (digit, eq-eqb (length slice) record_head none, ← e) (simp append_assoc)

  pub frame_line : (frame : List ℕ) (last : ℕ) → take (length slice - record_head) (drop record_head slice) ≡ frame ++ last ∷ []
      → ((w ++ space ∷ 0x53 ∷ space ∷ []) ++ shown frame) ++ 0x0A ∷ [] ≡ waited ++ line_in slice ++ 0x0A ∷ []
  unfolding line_in
  frame_line frame last h =
      let all = take_all (length slice - record_head) (drop record_head slice) (omega (arith, length-drop record_head slice)) in
      let parts : drop record_head slice ≡ frame ++ last ∷ [] = sym all ∙ h in
      let long : length slice ≡ suc record_head + length frame =
      omega (arith, ap length parts, length-append frame (last ∷ []), length-drop record_head slice) in
      let some = ne_eqb (length slice) record_head (λ z. omega arith) in
      rw (digit, some, ← e, parts, take_at frame (last ∷ []) (length slice - suc record_head) (omega arith)) (simp append_assoc)

-- ==== the lines of the records in an output

pub line_length : (slice : List ℕ) → record_head ≤ length slice → length (line_in slice) + 1 ≡ length slice
unfolding line_in digits
line_length slice h = go (eqb (length slice) record_head) refl
  where
    frame : List ℕ
    frame = take (length slice - suc record_head) (drop record_head slice)

    go : (b : Bool) → eqb (length slice) record_head ≡ b
        → suc (length (cond {A = List ℕ} b (space ∷ 0x43 ∷ []) (space ∷ 0x53 ∷ space ∷ shown frame))) + 1 ≡ length slice
    go true q = omega (arith, eqb-true (length slice) record_head q)
    go false q =
        let some = eqb-false (length slice) record_head q in
        let d = length-drop record_head slice in
        let n = length-take-le (length slice - suc record_head) (drop record_head slice) (omega arith) in
        omega (arith, some, shown_length frame)

pub lines_next : (bs front behind : List ℕ) → Parted bs front behind
    → printed (lines_in bs) ≡ line_in front ++ 0x0A ∷ printed (lines_in behind)
unfolding lines_in
lines_next bs front behind p = rw (slices_first bs (whole_size bs) refl p.some, p.first, p.rest)

pub lines_none : (bs : List ℕ) → whole_size bs ≡ 0 → printed (lines_in bs) ≡ []
unfolding lines_in
lines_none bs e = rw (slices_none bs (length bs) e)

module _ (left waited : List ℕ) {all : List ℕ} (so_far : waited ++ printed (lines_in left) ≡ all) where
  pub lines_on : (front behind : List ℕ) {w : List ℕ} → Parted left front behind → w ≡ waited ++ line_in front ++ 0x0A ∷ []
      → w ++ printed (lines_in behind) ≡ all
  lines_on front behind p e =
      let next = lines_next left front behind p in
      let rest = printed (lines_in behind) in
      ap (λ (z : List ℕ). z ++ rest) e ∙ append_assoc (waited ++ line_in front) (0x0A ∷ []) rest
      ∙ append_assoc waited (line_in front) (0x0A ∷ rest) ∙ ap (λ (z : List ℕ). waited ++ z) (sym next) ∙ so_far

  pub lines_all : whole_size left ≡ 0 → waited ≡ all
  lines_all e = sym (append-nil waited) ∙ ap (λ (z : List ℕ). waited ++ z) (sym (lines_none left e)) ∙ so_far

-- ==== what a call has printed: its lines, or the number of a refusal

module _ (r : Answer) (o waited : List ℕ) {w : List ℕ} where
  pub done_text : r.number ≡ 0 → w ≡ waited ++ printed (lines_in (take r.written o)) → w ≡ waited ++ text_of r o
  unfolding text_of
  done_text h e = rw (eq-eqb r.number 0 h) e

  pub refused_text : (r.number ≡ 0 → ⊥) → w ≡ ((waited ++ 0x52 ∷ space ∷ []) ++ digits 1 r.number) ++ 0x0A ∷ [] → w ≡ waited ++ text_of r o
  unfolding text_of
  refused_text h e = rw (ne_eqb r.number 0 h) (e ∙ simp append_assoc)
