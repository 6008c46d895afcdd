-- 01, "Counted and compared": what a call has the program print are the model's lines for it.
use mathlib.Core.Path.{◌≡◌, refl, sym, ap, ◌∙◌}
use Prim.Native.Nat.{ℕ, suc, ◌+◌, ◌-◌, ◌%◌, ◌≤◌, ◌<◌}
use native.Mathlib.Omega.{arith}
use mathlib.Core.List.{List, [], ◌∷◌, ◌++◌, map}
use lib.ListN.{length, take, drop, length-append, length-take}
use lib.Seq.{take_at, drop_at}
use borrow.Author.Tests.{ne_eqb}
use Rattle.model.specs.Limits.{session_count, output_least}
use Rattle.model.specs.Bytes.{NUL, space, digits, in_bytes, little, places}
use Rattle.model.specs.Frames.{frame_record, close_record}
use Rattle.model.specs.Records.{house_record, record_head}
use Rattle.model.specs.Session.{Emission, reply, copy, close}
use Rattle.model.specs.Calls.{Call, output_record, output, step}
use Rattle.model.specs.Calls as model
use Rattle.model.specs.Row.{Tagged}
use Rattle.model.specs.Program.{shown, line_of, lines_of, printed}
use Rattle.table.specs.Table.{decode}
use Rattle.table.proofs.Regions.{so_many_sessions}
use Rattle.refusal.specs.Numbers.{number}
use Rattle.controller.specs.declared.Answer.{Answer}
use Rattle.controller.specs.Contract.{Said, model_answer, Outcome}
use Rattle.controller.specs.Contract as contract
use Rattle.controller.proofs.Outputs.{stands, Below, answered_below}
use Rattle.replay.specs.Lines.{line_in, lines_in, text_of}
use Rattle.replay.specs.Whole.{whole_size}
use Rattle.replay.proofs.Sizes.{size_whole, slices_first}

-- ==== a record, and more behind it

record_length : (record_kind : ℕ) (payload : List ℕ) → length (house_record record_kind payload) ≡ record_head + length payload
unfolding in_bytes
record_length record_kind payload = omega arith

announced : (record_kind : ℕ) (payload more : List ℕ) → length payload ≤ output_least
    → little (places 1 2 (house_record record_kind payload ++ more)) ≡ length payload
unfolding in_bytes
announced record_kind payload more few = omega arith

record_size : (record_kind : ℕ) (payload more : List ℕ) → length (house_record record_kind payload) ≤ output_least
    → length (house_record record_kind payload) ≡ whole_size (house_record record_kind payload ++ more)
record_size record_kind payload more few =
    let b = record_length record_kind payload in
    let n = announced record_kind payload more (omega arith) in
    let a = length-append (house_record record_kind payload) more in
    b ∙ ap (λ (k : ℕ). record_head + k) (sym n) ∙ size_whole (house_record record_kind payload ++ more) (omega arith) (omega arith)

-- ==== its line

session_in : (s record_kind : ℕ) (payload : List ℕ) → record_kind % 256 ≡ s
    → digits 1 (little (places 3 3 (house_record record_kind payload))) ≡ digits 1 s
unfolding in_bytes
session_in s record_kind payload e = ap (digits 1) (omega arith)

frame_length : (s : ℕ) (frame : List ℕ) → length (frame_record s frame) ≡ suc record_head + length frame
unfolding frame_record
frame_length s frame =
    let n = length-append frame (NUL ∷ []) in
    let m = record_length (256 + s) (frame ++ NUL ∷ []) in
    omega arith

frame_body : (s : ℕ) (frame : List ℕ)
    → take (length (frame_record s frame) - suc record_head) (drop record_head (frame_record s frame)) ≡ frame
unfolding frame_record in_bytes
frame_body s frame =
    let n = frame_length s frame in take_at frame (NUL ∷ []) (length (frame_record s frame) - suc record_head) (omega arith)

frame_session : (s : ℕ) (frame : List ℕ) → s < session_count → digits 1 (little (places 3 3 (frame_record s frame))) ≡ digits 1 s
unfolding frame_record
frame_session s frame h = session_in s (256 + s) (frame ++ NUL ∷ []) (omega arith)

frame_line : (s : ℕ) (frame : List ℕ) → s < session_count
    → line_in (frame_record s frame) ≡ digits 1 s ++ (space ∷ 0x53 ∷ space ∷ []) ++ shown frame
unfolding line_in digits
frame_line s frame h =
    let n = frame_length s frame in
    cc (ne_eqb (length (frame_record s frame)) record_head (λ e. omega arith), frame_body s frame, frame_session s frame h)

close_line : (s : ℕ) → s < session_count → line_in (close_record s) ≡ digits 1 s ++ space ∷ 0x43 ∷ []
unfolding line_in close_record in_bytes
close_line s h = ap (λ (d : List ℕ). d ++ space ∷ 0x43 ∷ []) (session_in s (512 + s) [] (omega arith))

module _ (s : ℕ) where
  abbrev to_session : Emission → Tagged Emission
  to_session e = record { who = s; what = e }

  record_line : (e : Emission) → s < session_count → line_in (output_record (to_session e)) ≡ line_of (to_session e)
  record_line (reply frame) h = frame_line s frame h
  record_line (copy c) h = frame_line s c.what.frame h
  record_line close h = close_line s h

  record_first : (e : Emission) (more : List ℕ) → length (output_record (to_session e)) ≤ output_least
      → length (output_record (to_session e)) ≡ whole_size (output_record (to_session e) ++ more)
  unfolding frame_record close_record
  record_first (reply frame) more h = record_size (256 + s) (frame ++ NUL ∷ []) more h
  record_first (copy c) more h = record_size (256 + s) (c.what.frame ++ NUL ∷ []) more h
  record_first close more h = record_size (512 + s) [] more h

  record_some : (e : Emission) → 0 < length (output_record (to_session e))
  unfolding close_record
  record_some (reply frame) = let n = frame_length s frame in omega arith
  record_some (copy c) = let n = frame_length s c.what.frame in omega arith
  record_some close = let n = record_length (512 + s) [] in omega arith

-- ==== all of them

lines_in_output : (es : List (Tagged Emission)) → Below session_count es → length (output es) ≤ output_least
    → lines_in (output es) ≡ map line_of es
unfolding lines_in
lines_in_output [] p h = refl
lines_in_output (x ∷ xs) p h =
    let r = output_record x in
    let bs = r ++ output xs in
    let n = length-append r (output xs) in
    let size : length r ≡ whole_size bs = record_first x.who x.what (output xs) (omega arith) in
    let some : 0 < length r = record_some x.who x.what in
    let front = take_at r (output xs) (length r) refl in
    let behind = drop_at r (output xs) (length r) refl in
    rw (slices_first bs (length r) size some, front, behind, record_line x.who x.what p.0)
    (ap (line_of x ∷◌) (lines_in_output xs p.1 (omega arith)))

-- what is printed for a call that answers and writes as the model says
pub told_as : (q : Said) (r : Answer) (o' : List ℕ)
    → model_answer r ≡ q.1 → take r.written o' ≡ output q.2 → r.written ≤ output_least → Below session_count q.2
    → text_of r o' ≡ printed (lines_of q.1 q.2)
unfolding text_of
told_as q r o' answer bytes fits below =
    let n = ap length (sym bytes) ∙ length-take r.written o' in
    rw (ap (λ (a : model.Answer). a.number) answer, bytes, lines_in_output q.2 below (omega arith))

-- THE LINES: what is printed for a call are the lines of what the model says of it
pub told : {c : Call} {t o : List ℕ} {r : Answer} {t' o' : List ℕ} → Outcome c t o r t' o'
    → text_of r o' ≡ printed (lines_of (model_answer r) (contract.said c t o).2)
unfolding step
told {c = c} {t = t} {o = o} {r = r} {t' = t'} {o' = o'} out =
    told_as (contract.said c t o) r o' (ap model_answer out.answer) (stands out).records out.fits
    (answered_below session_count (decode t) c (number t (length o) c) (so_many_sessions t))
    ∙ rw out.answer
