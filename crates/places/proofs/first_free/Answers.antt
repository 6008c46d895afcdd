-- What `position` answered is the first without a mark.
use borrow.Author.Rules.{rules}
use borrow.Author.Tests.{tests}
use Rattle.text.proofs.Slices.{position_answers}
use Rattle.places.proofs.Marks.{no_mark, first_found}
use Rattle.places.proofs.first_free.Goals as goal

pub returns : goal.returns
returns c =
    first_found c.args.used.now _
    (position_answers no_mark c.args.used.now c.position.ensures.ran (search rules) (λ x b q k. search (rules, tests)))
