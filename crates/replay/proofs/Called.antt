-- One call of the program's: what it leaves of the table means the state that the model's program goes on to, and its lines are that
-- one's new lines.
use mathlib.Core.Path.{◌≡◌, refl, sym, ap, ◌∙◌}
use Prim.Native.Nat.{ℕ, zero, suc}
use native.Mathlib.Omega.{arith}
use mathlib.Core.Bool.{Bool, true, false, cond, ◌||◌}
use mathlib.Core.List.{List, [], ◌∷◌, ◌++◌, append_assoc}
use mathlib.Core.Option.{Option, none, some}
use lib.Dec.{eqb, eqb-suc-zero}
use lib.ListN.{length, take}
use borrow.Author.Tests.{eqb-true}
use Rattle.model.specs.Limits.{session_count, table_least, output_least}
use Rattle.model.specs.Records.{Settings, read_settings}
use Rattle.model.specs.Session.{Emission}
use Rattle.model.specs.Row.{Tagged}
use Rattle.model.specs.World.{World, uncounted, begins, emitted}
use Rattle.model.specs.Calls.{Call, start, open_session, hang_up_session, bytes, one_tick, tool, Lent, output, refusal, answered, step}
use Rattle.model.specs.Calls as model
use Rattle.model.specs.Program.{State, lent, called, lines_of, printed}
use Rattle.model.proofs.Sessions.{begins_begun}
use Rattle.model.specs.Erased.{erase_world}
use Rattle.table.specs.Table.{decode, table_formed, Table}
use Rattle.table.proofs.Regions.{so_many_sessions}
use Rattle.refusal.specs.Numbers as numbers
use Rattle.controller.specs.declared.Answer.{Answer}
use Rattle.controller.specs.Contract.{Said, said, model_answer, Outcome}
use Rattle.controller.proofs.Calls.{start_silent}
use Rattle.controller.proofs.Outputs.{stands, step_below, step_many}
use Rattle.controller.proofs.Traces.{table_left}
use Rattle.controller.proofs.Modelled.{one_call}
use Rattle.replay.specs.Lines.{text_of}
use Rattle.replay.specs.States.{Means, Behind, Follows}
use Rattle.replay.proofs.Told.{told_as}

-- ==== before a start: what a table that is not well formed would mean does not matter

abbrev with_formed : Bool → Lent
with_formed b = record { table = table_least; well_formed = b; output = output_least }

-- two outcomes of a call, with one world and with another
record Regardless (c : Call) (q p : Said) : Type 0 where
  pub answer : q.1 ≡ p.1
  pub silent : (q.2 ≡ []) × (p.2 ≡ [])
  pub world : p.1.number ≡ 0 → uncounted q.0 ≡ erase_world p.0

module _ (v w : World) (here : length v.sessions ≡ session_count) (there : length w.sessions ≡ session_count) where
  refused_both : (c : Call) (n : ℕ) → Regardless c (answered v c (suc n)) (answered w c (suc n))
  refused_both c n = record {
    answer = refl;
    silent = (refl, refl);
    world = λ k. absurd (omega arith);
  }

  begun_silent : (x : World) (st : Settings) → emitted x (begins st ∷ []) ≡ []
  begun_silent x st = ap (λ (es : List (Tagged Emission)). es ++ []) (start_silent x st)

  started : (slice : List ℕ) (o : Option Settings) (n : ℕ) → read_settings slice ≡ o → n ≡ cond (model.is_none o) 9 0
      → Regardless (start slice) (answered v (start slice) n) (answered w (start slice) n)
  started slice none zero e z = absurd (omega arith)
  started slice (some st) zero e z =
      let a = begun_silent v st in
      let b = begun_silent w st in
      rw e (record {
        answer = rw (a, b);
        silent = (a, b);
        world = λ k. ap uncounted (begins_begun v st here) ∙ sym (ap erase_world (begins_begun w st there));
      })
  started slice o (suc n) e z = refused_both (start slice) n

  regardless : (c : Call) → Regardless c (step (with_formed false) v c) (step (with_formed false) w c)
  unfolding step refusal
  regardless (start slice) = started slice (read_settings slice) (cond (model.is_none (read_settings slice)) 9 0) refl refl
  regardless (open_session s) = refused_both (open_session s) 1
  regardless (hang_up_session s) = refused_both (hang_up_session s) 1
  regardless (bytes s bs) = refused_both (bytes s bs) 1
  regardless one_tick = refused_both one_tick 1
  regardless (tool slice) = refused_both (tool slice) 1

-- ==== a call, on a table that is well formed or not

-- what it did, and what the model's program goes on to
record As (c : Call) (b : Bool) (q : Said) (r : Answer) (t' o' : List ℕ) : Type 0 where
  pub answer : model_answer r ≡ q.1
  pub bytes : take r.written o' ≡ output q.2
  pub formed : table_formed t' ≡ (b || eqb q.1.number 0)
  pub world : (b || eqb q.1.number 0) ≡ true → decode t' ≡ erase_world q.0

module _ {c : Call} {t o : List ℕ} {r : Answer} {t' o' : List ℕ} (out : Outcome c t o r t' o')
    (size : length t ≡ table_least) (room : length o ≡ output_least) (w : World) (many : length w.sessions ≡ session_count) where
  formed_after : (k : ℕ) → r.number ≡ k → table_formed t ≡ false → table_formed t' ≡ eqb k 0
  formed_after zero e f = out.formed e
  formed_after (suc k) e f = rw (out.kept (λ (z : r.number ≡ 0). omega arith), eqb-suc-zero k) f

  as_called : (b : Bool) → table_formed t ≡ b → (b ≡ true → decode t ≡ erase_world w) → As c b (step (with_formed b) w c) r t' o'
  as_called true f e =
      let h : Table t = record { size = omega arith; formed = f } in
      let k = rw (size, room) at (one_call w h (e refl) out) in
      record { answer = k.answer; bytes = k.bytes; formed = (table_left h out).formed; world = λ z. k.world }
  as_called false f e =
      let q = step (with_formed false) w c in
      let g = regardless (decode t) w (so_many_sessions t) many c in
      let lends : numbers.lent t (length o) ≡ with_formed false = λ i. record { table = size i; well_formed = f i; output = room i } in
      let same : said c t o ≡ step (with_formed false) (decode t) c = ap (λ (l : Lent). step l (decode t) c) lends in
      let answer : model_answer r ≡ q.1 = rw (out.answer, same) g.answer in
      record {
        answer = answer;
        bytes = (stands out).records ∙ cc;
        formed = formed_after q.1.number (ap (λ (a : model.Answer). a.number) answer) f;
        world = λ z. out.meaning ∙ rw same (g.world (eqb-true q.1.number 0 z));
      }

-- ==== the program's state

printed_append : (a b : List (List ℕ)) → printed (a ++ b) ≡ printed a ++ printed b
printed_append [] b = refl
printed_append (l ∷ a) b =
    ap (λ (x : List ℕ). l ++ 0x0A ∷ x) (printed_append a b) ∙ sym (append_assoc l (0x0A ∷ printed a) (printed b))

module _ {c : Call} {t o : List ℕ} {r : Answer} {t' o' : List ℕ} (out : Outcome c t o r t' o')
    (size : length t ≡ table_least) (room : length o ≡ output_least) where
  as_state : (x : State) → Means t x → As c x.formed (step (lent x) x.world c) r t' o'
  as_state x m = as_called out size room x.world m.sessions x.formed m.formed m.world

  pub called_answer : (x : State) → Means t x → model_answer r ≡ (step (lent x) x.world c).1
  called_answer x m = (as_state x m).answer

  -- A CALL of the program's
  pub called_follows : {bound : ℕ} {waited waits : List ℕ} → Behind bound waited (text_of r o') waits
      → Follows (λ x. called x c) bound t waited t' waits
  called_follows b = record {
    new = text_of r o';
    leads = record {
      state = λ x m.
          let k = as_state x m in
          record { sessions = step_many session_count (lent x) x.world c m.sessions; formed = k.formed; world = k.world };
      lines = λ x m.
          let k = as_state x m in
          let q = step (lent x) x.world c in
          let below = step_below session_count (lent x) x.world c m.sessions in
          rw (told_as q r o' k.answer k.bytes out.fits below) (printed_append x.lines (lines_of q.1 q.2));
    };
    behind = b;
  }
