-- What is left behind the blocks ends where its first NUL stands.
use Rattle.std.proofs.Common.{◌-◌, length, drop, arith, length-drop}
use Rattle.std.proofs.lemmas.List.{take_all}
use Rattle.run.proofs.Pieces.{ends_behind}
use Rattle.run.proofs.ends_at.Goals as goal

pub returns : goal.returns
returns c =
    let bytes = c.args.bytes.now in
    let near = c.past_blocks-near in
    let all = take_all (length bytes - near.result) (drop near.result bytes) (simp length-drop (omega arith)) in
    ends_behind bytes _ _ _ near.ensures (rw all at c.first_nul.ensures) (rw all at c.unwrap_or.ensures)
