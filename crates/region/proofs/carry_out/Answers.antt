-- `region::carry_out`, by whether there is a deed.
use Rattle.region.proofs.Areas.{still_good}
use Rattle.region.proofs.Ends.{changed_so, carries_none, carries_one}
use Rattle.region.proofs.carry_out.Goals as goal

pub let_go-requires : goal.let_go-requires
let_go-requires c = still_good c.clear_run.ensures

pub store-requires : goal.store-requires
store-requires c = (still_good c.let_go.ensures, c.requires.idle)

pub deal-requires : goal.deal-requires
deal-requires c = still_good c.store.ensures

pub returns-in_err-kind : goal.returns-in_err-kind
returns-in_err-kind c = λ read.
    rw c.from_residual.ensures
    (carries_none read c.args.d
    (changed_so read c.args.d (c.clear_run.ensures read) (c.let_go.ensures read) (c.store.ensures read)) c.in_err-kind.was)

pub returns : goal.returns
returns c = λ read.
    rw c.then_some.ensures
    (carries_one read c.args.d
    (changed_so read c.args.d (c.clear_run.ensures read) (c.let_go.ensures read) (c.store.ensures read)) _ _ c.in_ok-kind.was
    (c.deal.ensures read))
