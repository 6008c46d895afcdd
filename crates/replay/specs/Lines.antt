-- 01, "Counted and compared": the lines that an output stands for, read off its bytes.
use Rattle.std.specs.Prelude.{ℕ, suc, ◌-◌, cond, List, [], ◌∷◌, ◌++◌, map, eqb, length, take, drop}
use Rattle.model.specs.Bytes.{space, places, little, digits}
use Rattle.model.specs.Records.{record_head}
use Rattle.model.specs.Program.{shown, slices, printed}
use Rattle.controller.specs.declared.Answer.{Answer}

-- the line of an output record: an order to close has no payload, and the payload of any other is a frame and its NUL. The session is
-- the lower byte of the kind
unfoldable pub line_in : List ℕ → List ℕ
line_in slice =
    digits 1 (little (places 3 3 slice))
    ++ cond (eqb (length slice) record_head) (space ∷ 0x43 ∷ [])
    ((space ∷ 0x53 ∷ space ∷ []) ++ shown (take (length slice - suc record_head) (drop record_head slice)))

-- the lines of the records in an output
unfoldable pub lines_in : List ℕ → List (List ℕ)
lines_in o = map line_in (slices (length o) o)

-- what a call has printed
unfoldable pub text_of : Answer → List ℕ → List ℕ
text_of r o = printed (cond (eqb r.number 0) (lines_in (take r.written o)) ((0x52 ∷ space ∷ digits 1 r.number) ∷ []))
