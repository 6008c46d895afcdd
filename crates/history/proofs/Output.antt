-- The output read back: reading the bytes of any emissions as house records gives exactly the records of these emissions, so that neither
-- silence nor a byte more can stand for them.
use Prim.Native.Nat.{ℕ, zero, suc, ◌+◌, ◌-◌, ◌*◌, ◌/◌, ◌%◌, ◌≤◌, ◌<◌}
use mathlib.Core.Path.{◌≡◌, refl, sym, ◌∙◌, ap, ap₂}
use mathlib.Core.Bool.{Bool, true, false, cond}
use mathlib.Core.List.{List, [], ◌∷◌, ◌++◌, map}
use mathlib.Core.Option.{some}
use native.Mathlib.Omega.{arith}
use lib.Dec.{eqb}
use lib.ListN.{length, take, drop, length-append, length-take}
use lib.Seq.{take_at, drop_at}
use borrow.Author.Tests.{eqb-true, eqb-false, eq-eqb, ne_eqb, le-leb}
use Rattle.model.specs.Limits.{session_count, output_least}
use Rattle.model.specs.Bytes.{NUL, in_bytes}
use Rattle.model.specs.Records.{record_head, house_record}
use Rattle.model.specs.Frames.{frame_record_kind, close_record_kind, frame_record, close_record}
use Rattle.model.specs.Row.{Tagged, pick}
use Rattle.model.specs.Session.{Emission, reply, copy, close}
use Rattle.model.specs.Calls.{output_record, output}
use Rattle.watch.specs.Marks.{Every}
use Rattle.controller.proofs.Outputs.{Below}
use Rattle.history.specs.Turns.{frames_in, orders_close}
use Rattle.history.specs.Output.{RecordRead, first_size, first_read, and_more, read_within, read_output, frames_read, close_read}
use Rattle.history.specs.Output.{as_read}
use Rattle.history.specs.Output.{record_of}

-- ==== one record, and more behind it

-- its kind and its length fit two bytes each
abbrev pub Fits : RecordRead → Type 0
Fits r = (r.record_kind < 65_536) × (length r.payload < 65_536)

abbrev bytes_of : RecordRead → List ℕ
bytes_of r = house_record r.record_kind r.payload

record_length : (r : RecordRead) → length (bytes_of r) ≡ record_head + length r.payload
unfolding in_bytes
record_length r = omega arith

two_bytes : (n : ℕ) → n < 65_536 → n % 256 + 256 * (n / 256 % 256 + 256 * 0) ≡ n
two_bytes n h = omega arith

-- the first is read, and then what is left
read_next : (more b : ℕ) (bs rest : List ℕ) (r : RecordRead) → first_size (b ∷ bs) ≤ length (b ∷ bs) → first_read (b ∷ bs) ≡ r
    → drop (first_size (b ∷ bs)) (b ∷ bs) ≡ rest → read_within (suc more) (b ∷ bs) ≡ and_more r (read_within more rest)
read_next more b bs rest r h e d =
    rw (le-leb (first_size (b ∷ bs)) (length (b ∷ bs)) h, read_within) (ap₂ and_more e (ap (read_within more) d))

record_next : (more : ℕ) (r : RecordRead) (rest : List ℕ) → Fits r
    → read_within (suc more) (bytes_of r ++ rest) ≡ and_more r (read_within more rest)
unfolding in_bytes
record_next more r rest f =
    let n = length r.payload in
    let size = two_bytes n f.1 in
    let a = length-append r.payload rest in
    read_next more (n % 256) ((n / 256 % 256) ∷ (r.record_kind % 256) ∷ (r.record_kind / 256 % 256) ∷ (r.payload ++ rest)) rest r
    (omega arith)
    (ap₂ (λ (k : ℕ) (bs : List ℕ). record { record_kind = k; payload = bs }) (two_bytes r.record_kind f.0)
    (take_at r.payload rest _ (sym size)))
    (drop_at (bytes_of r) rest (first_size (bytes_of r ++ rest)) (omega arith))

-- ==== all of them

abbrev joined : List RecordRead → List ℕ
joined [] = []
joined (r ∷ rs) = bytes_of r ++ joined rs

read_all : (rs : List RecordRead) → Every Fits rs → (more : ℕ) → length rs ≤ more → read_within more (joined rs) ≡ some rs
read_all [] f zero h = refl
read_all [] f (suc more) h = refl
read_all (r ∷ rs) f zero h = absurd (omega arith)
read_all (r ∷ rs) f (suc more) h = record_next more r (joined rs) f.0 ∙ ap (and_more r) (read_all rs f.1 more (omega arith))

few_records : (rs : List RecordRead) → length rs ≤ length (joined rs)
few_records [] = omega arith
few_records (r ∷ rs) = let h = few_records rs in let n = record_length r in omega (arith, length-append (bytes_of r) (joined rs))

emission_bytes : (s : ℕ) (e : Emission) → output_record (record { who = s; what = e }) ≡ bytes_of (as_read s e)
unfolding frame_record close_record
emission_bytes s (reply frame) = refl
emission_bytes s (copy c) = refl
emission_bytes s close = refl

output_bytes : (es : List (Tagged Emission)) → output es ≡ joined (map record_of es)
output_bytes [] = refl
output_bytes (x ∷ xs) = ap₂ ◌++◌ (emission_bytes x.who x.what) (output_bytes xs)

-- THE OUTPUT READ BACK
pub read_back : (es : List (Tagged Emission)) → Every Fits (map record_of es) → read_output (output es) ≡ some (map record_of es)
read_back es f =
    let rs = map record_of es in
    ap read_output (output_bytes es) ∙ read_all rs f (length (joined rs)) (few_records rs)

-- ==== whatever a call sends fits, as it goes to one of the sessions and is written in as many bytes as have to be lent

fits_one : (s : ℕ) (e : Emission) → s < session_count → length (bytes_of (as_read s e)) ≤ output_least → Fits (as_read s e)
fits_one s (reply frame) h n = let k = record_length (as_read s (reply frame)) in (omega arith, omega arith)
fits_one s (copy c) h n = let k = record_length (as_read s (copy c)) in (omega arith, omega arith)
fits_one s close h n = (omega arith, omega arith)

fits_all : (es : List (Tagged Emission)) → Below session_count es → length (joined (map record_of es)) ≤ output_least
    → Every Fits (map record_of es)
fits_all [] b n = tt
fits_all (x ∷ xs) b n =
    let a = length-append (bytes_of (record_of x)) (joined (map record_of xs)) in
    (fits_one x.who x.what b.0 (omega arith), fits_all xs b.1 (omega arith))

pub read_written : (es : List (Tagged Emission)) → Below session_count es → (n : ℕ) (o : List ℕ) → take n o ≡ output es
    → n ≤ output_least → read_output (take n o) ≡ some (map record_of es)
read_written es b n o e h =
    let few : length (output es) ≤ output_least = omega (arith, ap length e, length-take n o) in
    ap read_output e ∙ read_back es (fits_all es b (rw (output_bytes es) at few))

-- ==== what a session is sent, read from the records

same_test : (a b n : ℕ) → eqb (n + a) (n + b) ≡ eqb a b
same_test a b n = go (eqb a b) refl
  where
    go : (t : Bool) → eqb a b ≡ t → eqb (n + a) (n + b) ≡ t
    go true e = eq-eqb (n + a) (n + b) (ap (n +◌) (eqb-true a b e))
    go false e = ne_eqb (n + a) (n + b) (λ z. eqb-false a b e (omega arith))

pub without_NUL : (frame : List ℕ) → take (length (frame ++ NUL ∷ []) - 1) (frame ++ NUL ∷ []) ≡ frame
without_NUL frame = let n = length-append frame (NUL ∷ []) in take_at frame (NUL ∷ []) (length (frame ++ NUL ∷ []) - 1) (omega arith)

module _ (s : ℕ) (h : s < session_count) where
  -- one record more
  module _ (rs : List RecordRead) (picked : List Emission) (f : frames_read s rs ≡ frames_in picked)
      (k : close_read s rs ≡ orders_close picked) where
    abbrev Back : RecordRead → List Emission → Type 0
    Back r es = (frames_read s (r ∷ rs) ≡ frames_in es) × (close_read s (r ∷ rs) ≡ orders_close es)

    a_frame : (t : ℕ) (frame : List ℕ) (e : Emission) → t < session_count → frames_in (e ∷ picked) ≡ frame ∷ frames_in picked
        → orders_close (e ∷ picked) ≡ orders_close picked
        → Back (record { record_kind = frame_record_kind t; payload = frame ++ NUL ∷ [] }) (cond (eqb t s) (e ∷ picked) picked)
    a_frame t frame e u p q =
        let no_order = ne_eqb (frame_record_kind t) (close_record_kind s) (λ z. omega arith) in
        rw (same_test t s (frame_record_kind 0), without_NUL frame, no_order) (go (eqb t s))
      where
        go : (b : Bool) → let es = cond b (e ∷ picked) picked in
            (cond b (frame ∷ frames_read s rs) (frames_read s rs) ≡ frames_in es) × (close_read s rs ≡ orders_close es)
        go true = (ap (frame ∷◌) f ∙ sym p, k ∙ sym q)
        go false = (f, k)

    more_back : (t : ℕ) (e : Emission) → t < session_count → Back (as_read t e) (cond (eqb t s) (e ∷ picked) picked)
    more_back t (reply frame) u = a_frame t frame (reply frame) u refl refl
    more_back t (copy c) u = a_frame t c.what.frame (copy c) u refl refl
    more_back t close u =
        let no_frame = ne_eqb (close_record_kind t) (frame_record_kind s) (λ z. omega arith) in
        rw (no_frame, same_test t s (close_record_kind 0)) (go (eqb t s))
      where
        go : (b : Bool) → let es = cond b (close ∷ picked) picked in
            (frames_read s rs ≡ frames_in es) × (cond b true (close_read s rs) ≡ orders_close es)
        go true = (f, refl)
        go false = (f, k)

  -- the frames, and the order to close
  pub sent_back : (es : List (Tagged Emission)) → Below session_count es
      → (frames_read s (map record_of es) ≡ frames_in (pick s es)) × (close_read s (map record_of es) ≡ orders_close (pick s es))
  sent_back [] b = (refl, refl)
  sent_back (x ∷ xs) b =
      let r = sent_back xs b.1 in more_back (map record_of xs) (pick s xs) r.0 r.1 x.who x.what b.0
