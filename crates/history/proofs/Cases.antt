-- 01, "Counted and compared": the cases (a) to (l), of the product, and the slips that look right. Whatever the contracts allow along the
-- calls of a case, the answers and the output's bytes are those of the model's run of these calls, and read back they are what the case's
-- row of the table says.
use Prim.Native.Nat.{ℕ, ◌-◌, ◌≤◌}
use mathlib.Core.Path.{◌≡◌, refl, sym, ◌∙◌, ap, ap₂, subst}
use mathlib.Core.Bool.{Bool, true, cond, ◌&&◌, true≢false}
use mathlib.Core.List.{List, [], ◌∷◌, ◌++◌, map}
use mathlib.Core.Option.{Option, none, some}
use native.Mathlib.Omega.{arith}
use lib.Dec.{eqb}
use lib.ListN.{length, take}
use borrow.Author.Tests.{eqb-true, le-ltb}
use Rattle.model.specs.Limits.{session_count, table_least, output_least}
use Rattle.model.specs.Bytes.{space, within, places, little, digits}
use Rattle.model.specs.Records.{Settings, payload, settings_of, read_settings}
use Rattle.model.specs.Tests.{◌gives◌, first}
use Rattle.model.specs.Frames.{frame_record_kind, close_record_kind}
use Rattle.model.specs.World.{World, begun}
use Rattle.model.specs.Calls.{Call, start, Lent, is_none, Answer, refusal, answered, step, run}
use Rattle.model.specs.Program.{zeros, call_of, shown as underlined}
use Rattle.model.proofs.Text.{ascii, same_bytes, same_lines}
use Rattle.model.proofs.Framed.{both}
use Rattle.model.proofs.Histories.{Wanted, prints, answers, Example, outcome}
use Rattle.model.proofs.Cases.{cases, slips}
use Rattle.model.specs.Erased.{observed}
use Rattle.model.proofs.Refusals.{same_step}
use Rattle.watch.specs.Marks.{Every}
use Rattle.table.specs.Table.{decode}
use Rattle.refusal.specs.Numbers.{number}
use Rattle.refusal.proofs.Numbers.{start_passes}
use Rattle.controller.specs.declared.Answer.{Answer as ProductAnswer}
use Rattle.controller.specs.Contract.{model_answer, Outcome}
use Rattle.controller.specs.Trace.{Made, History, shown, lendings}
use Rattle.controller.proofs.Outputs.{stands}
use Rattle.controller.proofs.Traces.{number_is}
use Rattle.controller.proofs.Modelled.{lending, history_modelled}
use Rattle.history.specs.Output.{RecordRead, read_output}

-- ==== the calls of a case

-- the call that a house record stands for
abbrev pub call_in : List ℕ → Call
call_in slice = call_of (little (places 3 4 slice)) slice

-- what the model answers and writes when these calls are made, the first of them a start, and each is lent a table and an output that
-- are long enough
abbrev pub long_enough : Lent
long_enough = record { table = table_least; well_formed = true; output = output_least }

abbrev pub played : List Call → List (Answer × List ℕ)
played cs = observed (run zeros.world (map (λ c. (long_enough, c)) cs))

-- ==== what a row wants, read off answers and bytes

-- the line of a record that was read
abbrev line_read : RecordRead → List ℕ
line_read r =
    cond (within (frame_record_kind 0) (frame_record_kind (session_count - 1)) r.record_kind)
    (digits 1 (r.record_kind - frame_record_kind 0) ++ (space ∷ 0x53 ∷ space ∷ [])
    ++ underlined (take (length r.payload - 1) r.payload))
    (digits 1 (r.record_kind - close_record_kind 0) ++ (space ∷ 0x43 ∷ []))

-- bytes that are cut are a line that no row has
abbrev lines_read : Option (List RecordRead) → List (List ℕ)
lines_read none = [] ∷ []
lines_read (some rs) = map line_read rs

abbrev pub lines_shown : List (Answer × List ℕ) → List (List ℕ)
lines_shown [] = []
lines_shown (x ∷ xs) =
    cond (eqb x.0.number 0) (lines_read (read_output x.1)) ((0x52 ∷ space ∷ digits 1 x.0.number) ∷ []) ++ lines_shown xs

abbrev pub four_numbers : Answer × List ℕ → List ℕ
four_numbers x = x.0.number ∷ x.0.consumed ∷ x.0.written ∷ x.0.taken ∷ []

abbrev pub Wants : Wanted → List (Answer × List ℕ) → Type 0
Wants (prints lines) xs = lines_shown xs ≡ map ascii lines
Wants (answers as') xs = map four_numbers xs ≡ as'

-- ==== of the model: one computed test over the table

unfoldable shows : Wanted → List (Answer × List ℕ) → Bool
shows (prints lines) xs = same_lines (lines_shown xs) (map ascii lines)
shows (answers as') xs = same_lines (map four_numbers xs) as'

abbrev all_show : List Example → Bool
all_show [] = true
all_show (e ∷ es) = shows e.wanted (played (map call_in e.history)) && all_show es

the_cases_show : all_show cases ≡ true
unfolding shows outcome
the_cases_show = refl

the_slips_show : all_show slips ≡ true
unfolding shows outcome
the_slips_show = refl

same_bytes_are : (a b : List ℕ) → same_bytes a b ≡ true → a ≡ b
same_bytes_are [] [] e = refl
same_bytes_are [] (y ∷ b) e = absurd (true≢false (sym e))
same_bytes_are (x ∷ a) [] e = absurd (true≢false (sym e))
same_bytes_are (x ∷ a) (y ∷ b) e = let h = both (eqb x y) (same_bytes a b) e in ap₂ ◌∷◌ (eqb-true x y h.0) (same_bytes_are a b h.1)

same_lines_are : (a b : List (List ℕ)) → same_lines a b ≡ true → a ≡ b
same_lines_are [] [] e = refl
same_lines_are [] (y ∷ b) e = absurd (true≢false (sym e))
same_lines_are (x ∷ a) [] e = absurd (true≢false (sym e))
same_lines_are (x ∷ a) (y ∷ b) e =
    let h = both (same_bytes x y) (same_lines a b) e in ap₂ ◌∷◌ (same_bytes_are x y h.0) (same_lines_are a b h.1)

shows_wants : (w : Wanted) (xs : List (Answer × List ℕ)) → shows w xs ≡ true → Wants w xs
unfolding shows
shows_wants (prints lines) xs e = same_lines_are (lines_shown xs) (map ascii lines) e
shows_wants (answers as') xs e = same_lines_are (map four_numbers xs) as' e

-- ==== of the product: a history is the model's run of its calls

-- each call was lent an output that is long enough
abbrev pub Roomy : List Made → Type 0
Roomy ms = Every (λ (m : Made). output_least ≤ length m.output) ms

abbrev pub calls_of : List Made → List Call
calls_of [] = []
calls_of (m ∷ ms) = m.call ∷ calls_of ms

-- longer than long enough makes no difference
enough_step : (size room : ℕ) (w : World) (c : Call) → table_least ≤ size → output_least ≤ room
    → step (lending size room) w c ≡ step long_enough w c
enough_step size room w c h g = same_step (lending size room) long_enough w (le-ltb size table_least h) refl (le-ltb room output_least g) c

same_run : (size : ℕ) → table_least ≤ size → (w : World) (ms : List Made) → Roomy ms
    → run w (lendings size ms) ≡ run w (map (λ (c : Call). (long_enough, c)) (calls_of ms))
same_run size h w [] g = refl
same_run size h w (m ∷ ms) g =
    let r = step (lending size (length m.output)) w m.call in
    ap ((r.1, r.2) ∷◌) (same_run size h r.0 ms g.1) ∙ rw (enough_step size (length m.output) w m.call h g.0)

-- the start
abbrev done : Answer
done = record { number = 0; consumed = 0; written = 0; taken = 0 }

start_passed : (slice : List ℕ) (st : Settings) → read_settings slice ≡ some st → refusal long_enough zeros.world (start slice) ≡ 0
unfolding refusal
start_passed slice st e = ap (λ (o : Option Settings). first 0 (is_none o gives 9 ∷ [])) e

start_played : (slice : List ℕ) (st : Settings) → read_settings slice ≡ some st → (cs : List (Lent × Call))
    → observed (run zeros.world ((long_enough, start slice) ∷ cs)) ≡ (done, []) ∷ observed (run (begun st 0) cs)
unfolding step
start_played slice st e cs =
    rw (start_passed slice st e, e)

start_done : {t slice : List ℕ} {r : ProductAnswer} {t' : List ℕ} → Outcome (start slice) t [] r t' [] → r.number ≡ 0
    → model_answer r ≡ done
unfolding step
start_done {t = t} {slice = slice} {r = r} out e =
    let z : number t 0 (start slice) ≡ 0 = sym (number_is out) ∙ e in
    let a : model_answer r ≡ (answered (decode t) (start slice) 0).1 =
    ap model_answer out.answer ∙ ap (λ (n : ℕ). (answered (decode t) (start slice) n).1) z in
    let w : r.written ≤ 0 = (stands out).within in
    let n : r.written ≡ 0 = omega arith in
    a ∙ ap (λ (k : ℕ). record { number = 0; consumed = 0; written = k; taken = 0 }) (sym (ap (λ (x : Answer). x.written) a) ∙ n)

-- the answers and the bytes of a history, its start first
abbrev pub all_shown : {t t' : List ℕ} {ms : List Made} → History t ms t' → List (Answer × List ℕ)
all_shown {ms = ms} h = (model_answer h.answer, []) ∷ map shown ms

pub as_played : {t t' : List ℕ} {ms : List Made} (h : History t ms t') → Roomy ms → all_shown h ≡ played (start h.settings ∷ calls_of ms)
as_played {t = t} {ms = ms} h g =
    let p = start_passes h.before h.settings (sym (number_is h.begins) ∙ h.done) in
    let st = settings_of (payload h.settings) in
    let size = h.begins.size in
    ap₂ (λ (a : Answer) (xs : List (Answer × List ℕ)). (a, []) ∷ xs) (start_done h.begins h.done)
    (history_modelled h ∙ ap observed (same_run (length t) (omega arith) (begun st 0) ms g))
    ∙ sym (start_played h.settings st p.1 (map (λ (c : Call). (long_enough, c)) (calls_of ms)))

-- ==== THE CASES (a) TO (l), OF THE PRODUCT

-- of every history that makes a case's calls, with whatever outcomes the contracts allow: its answers and its bytes are those of the
-- model's run, and they are what the row wants
abbrev pub HoldsOfTheProduct : Example → Type 0
HoldsOfTheProduct e =
    (t t' : List ℕ) (ms : List Made) (h : History t ms t') → map call_in e.history ≡ start h.settings ∷ calls_of ms → Roomy ms
    → (all_shown h ≡ played (map call_in e.history)) × Wants e.wanted (all_shown h)

holds : (es : List Example) → all_show es ≡ true → Every HoldsOfTheProduct es
holds [] e = tt
holds (x ∷ es) e =
    let cs = map call_in x.history in
    let b = both (shows x.wanted (played cs)) (all_show es) e in (
      λ t t' ms h q g.
          let a = as_played h g ∙ ap played (sym q) in
          (a, subst (Wants x.wanted) (sym a) (shows_wants x.wanted (played cs) b.0)),
      holds es b.1,
    )

pub the_cases_hold_of_the_product : Every HoldsOfTheProduct cases
the_cases_hold_of_the_product = holds cases the_cases_show

pub the_slips_show_of_the_product : Every HoldsOfTheProduct slips
the_slips_show_of_the_product = holds slips the_slips_show
