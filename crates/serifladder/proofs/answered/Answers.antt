-- `serifladder::answered`: the call is not made, or it is the outcome.
use Rattle.serifladder.proofs.Exports.{not_made, made}
use Rattle.std.proofs.Common.{refl}
use Rattle.serifladder.proofs.answered.Goals as goal

pub returns-then-answer-lt-ANSWER_LEAST : goal.returns-then-answer-lt-ANSWER_LEAST
returns-then-answer-lt-ANSWER_LEAST g c = λ call does. not_made c.if-answer-lt-ANSWER_LEAST.true

pub returns : goal.returns
returns g c = λ call does. made c.if-answer-lt-ANSWER_LEAST.false (does _ _ _ refl refl c.call-x.ensures) c.give.ensures
