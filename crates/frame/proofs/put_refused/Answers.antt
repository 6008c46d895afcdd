-- `frame::put_refused`: two numbers.
use borrow.Author.Rules.{rules}
use Rattle.text.proofs.Puts.{put_then}
use Rattle.frame.proofs.put_refused.Goals as goal

pub returns : goal.returns
returns c = search (rules, put_then)
