-- Whatever calls are made, whatever they are lent: their answers and what they write are those of the model's run of the same calls. So it
-- is in any layout, and thus in the product's.
use mathlib.Core.Path.{◌≡◌, refl, sym, ap, ap₂, ◌∙◌}
use Prim.Native.Nat.{ℕ}
use mathlib.Core.Bool.{Bool, true}
use mathlib.Core.List.{List, [], ◌∷◌, ◌++◌, map}
use mathlib.Core.Option.{Option, map as option_map}
use lib.ListN.{length, take}
use Rattle.model.specs.Records.{Settings, payload, settings_of}
use Rattle.model.specs.World.{World, uncounted, begins, begun, after}
use Rattle.model.specs.Calls.{Call, start, Lent, refusal, at_most_one, output, answered, step, run}
use Rattle.model.specs.Erased.{erase_world, observed}
use Rattle.model.proofs.Erase.{step_without_numbers}
use Rattle.table.specs.Table.{decode, Table}
use Rattle.table.proofs.Regions.{so_many_sessions}
use Rattle.refusal.specs.Numbers.{lent}
use Rattle.refusal.proofs.Numbers.{start_passes}
use Rattle.controller.specs.declared.Answer.{Answer}
use Rattle.controller.specs.Layout.{Layout, ours, EverySession}
use Rattle.controller.specs.Contract.{Said, lent_in, said_in, model_answer, OutcomeIn, Outcome}
use Rattle.controller.specs.Trace.{Made, TraceIn, Trace, none, and, HistoryIn, History, shown, lendings}
use Rattle.controller.proofs.Calls.{start_begins}
use Rattle.controller.proofs.Outputs.{stands_in}
use Rattle.controller.proofs.Traces.{number_is, formed_left}

-- a well formed table of so many bytes is lent, and an output of so many
abbrev pub lending : ℕ → ℕ → Lent
lending size room = record { table = size; well_formed = true; output = room }

-- ==== in any layout

-- what a call did, and the model's step
pub record DoesIn (layout : Layout) (q : Said) (r : Answer) (t' o' : List ℕ) : Type 0 where
  pub answer : model_answer r ≡ q.1
  pub bytes : take r.written o' ≡ output q.2
  pub world : layout.decode t' ≡ erase_world q.0

-- the table means w, but for the numbers of events
pub one_call_in : {layout : Layout} {c : Call} {t o : List ℕ} {r : Answer} {t' o' : List ℕ} (w : World) → layout.formed t ≡ true
    → layout.decode t ≡ erase_world w → OutcomeIn layout c t o r t' o'
    → DoesIn layout (step (lending (length t) (length o)) w c) r t' o'
one_call_in {layout = layout} {c = c} {t = t} {o = o} {r = r} {t' = t'} {o' = o'} w h e out =
    let l = lending (length t) (length o) in
    let q : said_in layout c t o ≡ step l (erase_world w) c =
    ap₂ (λ (b : Bool) (v : World). step (record { table = length t; well_formed = b; output = length o }) v c) h e in
    let k = step_without_numbers l w c in
    record {
      answer = rw (out.answer, q) k.answer;
      bytes = (stands_in out).records ∙ rw q k.bytes;
      world = out.meaning ∙ rw q k.world;
    }

pub modelled_in : {layout : Layout} {t t' : List ℕ} {ms : List Made} (w : World) → layout.formed t ≡ true
    → layout.decode t ≡ erase_world w → TraceIn layout t ms t' → map shown ms ≡ observed (run w (lendings (length t) ms))
modelled_in w h e none = refl
modelled_in {t = t} w h e (and {t₁ = t₁} {m = m} {ms = ms} out rest) =
    let k = one_call_in w h e out in
    let q = step (lending (length t) (length m.output)) w m.call in
    let ih : map shown ms ≡ observed (run q.0 (lendings (length t₁) ms)) = modelled_in q.0 (formed_left h out) k.world rest in
    λ i. (k.answer i, k.bytes i) ∷ (ih ∙ ap (λ (n : ℕ). observed (run q.0 (lendings n ms))) out.size) i

-- of what it is lent a start asks no more than the table's length
pub start_asks : (k l : Lent) (v w : World) (slice : List ℕ) → k.table ≡ l.table → refusal k v (start slice) ≡ refusal l w (start slice)
unfolding refusal
start_asks k l v w slice e = rw e

-- what a start that is done leaves means the begun world
pub begun_in : {layout : Layout} {t slice : List ℕ} {r : Answer} {t' : List ℕ} → EverySession layout
    → OutcomeIn layout (start slice) t [] r t' [] → r.number ≡ 0 → layout.decode t' ≡ begun (settings_of (payload slice)) 0
unfolding step
begun_in {layout = layout} {t = t} {slice = slice} every out e =
    let w = layout.decode t in
    let l = lent_in layout t 0 in
    let z : refusal l w (start slice) ≡ 0 = sym (number_is out) ∙ e in
    let p = start_passes t slice (start_asks (lent t 0) l (decode t) w slice refl ∙ z) in
    out.meaning ∙ ap (λ (n : ℕ). uncounted (answered w (start slice) n).0) z
    ∙ ap (λ (o : Option Settings). uncounted (after w (at_most_one (option_map begins o) ++ []))) p.1
    ∙ start_begins w (settings_of (payload slice)) (every t)

pub history_modelled_in : {layout : Layout} {t t' : List ℕ} {ms : List Made} → EverySession layout → (h : HistoryIn layout t ms t')
    → map shown ms ≡ observed (run (begun (settings_of (payload h.settings)) 0) (lendings (length t) ms))
history_modelled_in every h =
    modelled_in (begun (settings_of (payload h.settings)) 0) (h.begins.formed h.done) (begun_in every h.begins h.done)
    h.then

-- ==== in ours

abbrev pub Does : Said → Answer → List ℕ → List ℕ → Type 0
Does q r t' o' = DoesIn ours q r t' o'

-- the table means w, but for the numbers of events
pub one_call : {c : Call} {t o : List ℕ} {r : Answer} {t' o' : List ℕ} (w : World) → Table t → decode t ≡ erase_world w
    → Outcome c t o r t' o'
    → Does (step (lending (length t) (length o)) w c) r t' o'
one_call w h e out = one_call_in w h.formed e out

pub modelled : {t t' : List ℕ} {ms : List Made} (w : World) → Table t → decode t ≡ erase_world w → Trace t ms t'
    → map shown ms ≡ observed (run w (lendings (length t) ms))
modelled w h e x = modelled_in w h.formed e x

-- what a start that is done leaves means the begun world
pub begun_meaning : {t slice : List ℕ} {r : Answer} {t' : List ℕ} → Outcome (start slice) t [] r t' [] → r.number ≡ 0
    → decode t' ≡ begun (settings_of (payload slice)) 0
begun_meaning out e = begun_in so_many_sessions out e

-- A HISTORY IS A RUN OF THE MODEL, from the begun world on
pub history_modelled : {t t' : List ℕ} {ms : List Made} (h : History t ms t')
    → map shown ms ≡ observed (run (begun (settings_of (payload h.settings)) 0) (lendings (length t) ms))
history_modelled h = history_modelled_in so_many_sessions h
