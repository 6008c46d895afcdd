-- 02, P7: HOW A TABLE IS LAID OUT SHOWS NOWHERE. In any two layouts whose calls keep the contract, the same calls, lent as much, after
-- starts with the same settings, answer the same numbers and write the same bytes; so in ours and in the one before P7.
use mathlib.Core.Path.{◌≡◌, refl, sym, ap, ap₂, ◌∙◌}
use Prim.Native.Nat.{ℕ, zero, suc}
use mathlib.Core.List.{List, [], map}
use lib.ListN.{length}
use Rattle.model.specs.Records.{payload, settings_of}
use Rattle.model.specs.World.{World, begun}
use Rattle.model.specs.Calls.{Call, start, Lent, answered, step, run}
use Rattle.model.specs.Erased.{observed}
use Rattle.text.proofs.Areas.{length_areas}
use Rattle.table.proofs.Regions.{so_many_sessions}
use Rattle.controller.specs.declared.Answer.{Answer}
use Rattle.controller.specs.Layout.{Layout, EverySession}
use Rattle.controller.specs.Contract.{numbers, lent_in, OutcomeIn}
use Rattle.controller.specs.Trace.{Made, HistoryIn, History, shown, lendings}
use Rattle.controller.specs.Before as then
use Rattle.controller.specs.Before.{before}
use Rattle.controller.proofs.Outputs.{silent}
use Rattle.controller.proofs.Modelled.{start_asks, history_modelled_in}

-- ==== any two layouts

-- a start's answer is its number alone
start_answers : (w : World) (slice : List ℕ) (n : ℕ)
    → numbers (answered w (start slice) n).1 ≡ record { number = n; consumed = 0; written = 0; taken = 0 }
start_answers w slice zero =
    ap (λ (bs : List ℕ). record { number = 0; consumed = 0; written = length bs; taken = 0 }) (silent w (start slice) refl)
start_answers w slice (suc n) = refl

-- STARTS ARE ANSWERED THE SAME, done or refused
pub same_start : {a b : Layout} {slice t u : List ℕ} {r r₂ : Answer} {t' u' : List ℕ} → length t ≡ length u
    → OutcomeIn a (start slice) t [] r t' [] → OutcomeIn b (start slice) u [] r₂ u' [] → r ≡ r₂
unfolding step
same_start {a = a} {b = b} {slice = slice} {t = t} {u = u} e x y =
    x.answer ∙ start_answers (a.decode t) slice _
    ∙ ap (λ (n : ℕ). record { number = n; consumed = 0; written = 0; taken = 0 })
    (start_asks (lent_in a t 0) (lent_in b u 0) (a.decode t) (b.decode u) slice e)
    ∙ sym (y.answer ∙ start_answers (b.decode u) slice _)

-- ALL LATER CALLS SHOW THE SAME
pub same_shown : {a b : Layout} {t t' u u' : List ℕ} {ms ns : List Made} → EverySession a → EverySession b → (h : HistoryIn a t ms t')
    (k : HistoryIn b u ns u') → h.settings ≡ k.settings → lendings (length t) ms ≡ lendings (length u) ns → map shown ms ≡ map shown ns
same_shown x y h k e l =
    history_modelled_in x h
    ∙ ap₂ (λ (s : List ℕ) (cs : List (Lent × Call)). observed (run (begun (settings_of (payload s)) 0) cs)) e l
    ∙ sym (history_modelled_in y k)

-- ==== ours, and the one before

pub every_session_before : EverySession before
every_session_before t = length_areas (λ (s : ℕ). then.session_of) _ _ 0 _ t

pub same_as_before : {t t' u u' : List ℕ} {ms ns : List Made} (h : History t ms t') (k : HistoryIn before u ns u')
    → h.settings ≡ k.settings → lendings (length t) ms ≡ lendings (length u) ns → map shown ms ≡ map shown ns
same_as_before h k e l = same_shown so_many_sessions every_session_before h k e l
