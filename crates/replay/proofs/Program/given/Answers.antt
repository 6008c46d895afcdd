-- `replay::Program::given`: received bytes are fed, and any other record is a call.
use Rattle.std.proofs.Common.{◌≡◌, ◌-◌, true, false, length, drop, arith, rules, length-drop}
use lib.Seq.{take_all}
use Rattle.model.specs.Records.{record_head}
use Rattle.model.specs.Program.{bytes_record_kind, is_of}
use Rattle.replay.proofs.Follows.{follows_as}
use Rattle.replay.proofs.Called.{called_follows}
use Rattle.replay.proofs.Records.{given_bytes, given_call}
use Rattle.replay.proofs.Turns.{is_below, is_above}
use Rattle.replay.proofs.Program.given.Goals as goal
use Rattle.replay.proofs.Program.given.Goals.{in_default-via-then-record_kind-lt48}
use Rattle.replay.proofs.Program.given.Goals.{in_default-via-else-record_kind-lt48+else-record_kind-lt64}

pub returns-in-48-to-63 : goal.returns-in-48-to-63
returns-in-48-to-63 c =
    let slice = c.args.slice.now in
    let are-bytes : is_of bytes_record_kind c.little-record_kind.result ≡ true = search rules in
    let rest = take_all (length slice - record_head) (drop record_head slice) (simp length-drop (omega arith)) in
    follows_as (λ x m. given_bytes x slice c.little-record_kind.result c.little-record_kind.ensures.0 _ are-bytes rest) c.feed.ensures

pub returns-in_default : goal.returns-in_default
returns-in_default c =
    let slice = c.args.slice.now in
    let are-none : is_of bytes_record_kind c.little-record_kind.result ≡ false =
    elim c.in_default.branch [
      | in_default-via-then-record_kind-lt48 w ↦ is_below bytes_record_kind c.little-record_kind.result (omega arith)
      | in_default-via-else-record_kind-lt48+else-record_kind-lt64 w ↦ is_above bytes_record_kind c.little-record_kind.result (omega arith)
    ]
    in
    let behind = rw c.call-answer.ensures.lines at c.print.ensures in
    let f = called_follows c.call-answer.ensures.outcome (omega arith) (omega arith) behind in
    follows_as (λ x m. given_call x slice c.little-record_kind.result c.little-record_kind.ensures.0 are-none) f
