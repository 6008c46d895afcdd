-- `table::tell` meets its contract.
use Rattle.std.proofs.Common.{◌≡◌, ◌+◌, ◌^◌, cond, sym, ◌∙◌, ap, ℕ, add-zero, arith}
use Rattle.model.specs.Named.{place_of}
use Rattle.frame.specs.Places.{event_in}
use Rattle.table.specs.Table.{decode}
use Rattle.table.proofs.Turns.{turns_next, turns_all}
use Rattle.table.proofs.Events.{bit_of, adds, sums_next, sums_all}
use Rattle.table.proofs.Places.{copying_next, copied_all}
use Rattle.table.proofs.tell.Goals as goal
use Rattle.table.proofs.tell.Goals.{then-tell_session, else-tell_session}

pub overflow_add-taken : goal.overflow_add-taken
overflow_add-taken c = omega (arith, adds c.loop-session.invariant.sums c.loop-session-test.true)

pub loop-session-preserved : goal.loop-session-preserved
loop-session-preserved c =
    let i = c.loop-session.invariant in
    let few = c.loop-session-test.true in
    let v = c.tell_session.ensures in
    let s = c.loop-session.session in
    let sum : c.if-tell_session.taken ≡ c.loop-session.taken + cond c.tell_session.result (2 ^ s) 0 =
    elim c.if-tell_session.branch [
      | then-tell_session w ↦ rw w.if-tell_session.true (w.taken-is ∙ ap (λ (n : ℕ). c.loop-session.taken + n) (bit_of s few))
      | else-tell_session w ↦ rw w.if-tell_session.false (w.taken-is ∙ sym (add-zero _))
    ] in
    record {
      turns = turns_next i.turns few v.within v.went;
      sums = rw sum (sums_next i.sums c.tell_session.result (event_in (place_of c.args.kind) c.args.notice.now) few v.went v.takes);
      last = v.last;
      stands = v.stands;
      one_copy = copying_next _ _ few i.one_copy v;
    }

pub returns : goal.returns
unfolding decode
returns c =
    let i = c.loop-session.invariant in
    let e = turns_all i.turns c.loop-session-test.false in
    record {
      within = e.0;
      taken = sums_all i.sums c.loop-session-test.false;
      becomes = e.1;
      bytes = e.2;
      one_copy = copied_all _ _ _ c.loop-session-test.false i.one_copy;
    }
