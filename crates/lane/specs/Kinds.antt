-- What a lane has to know of a kind of notice, as a row: no other definition of this crate goes by the kind. 01, "Notices and the clock".
use Rattle.std.specs.Prelude.{ℕ, ◌+◌, ◌*◌, Bool, true, false, cond, List, eqb, get_or}
use Rattle.model.specs.Kinds.{Room, the_newest, up_to, room_of, tightenings}
use Rattle.frame.specs.Places.{place_size}
use Rattle.session.specs.Meaning.{most_held}
use Rattle.places.specs.Places.{is_place}
use Rattle.lane.specs.declared.Row.{Row}

-- whether beside the open one the newest alone waits
abbrev pub is_newest : Room → Bool
is_newest the_newest = true
is_newest (up_to most) = false

-- how many notices of a kind are held at most, the open one included
abbrev pub most : ℕ → ℕ
most kind = most_held (room_of kind)

-- ==== 02, P7: what a lane has for each notice that it holds, a slot

-- whether that is the place alone where the notice stands, in one byte: else it is the notice itself
abbrev pub is_placed : ℕ → Bool
is_placed kind = eqb kind tightenings

abbrev pub slot_size : ℕ → ℕ
slot_size kind = cond (is_placed kind) 1 (place_size kind)

-- a place is one of those that there are; a notice is whatever its bytes are
abbrev pub slot_formed : ℕ → List ℕ → Bool
slot_formed kind slot = cond (is_placed kind) (is_place (get_or slot 0 0)) true

abbrev pub row_of : ℕ → Row
row_of kind = record { most = most kind; size = slot_size kind; newest = is_newest (room_of kind); placed = is_placed kind }

-- ==== how many bytes a lane has: its control, and behind it a slot for each notice that can be held

abbrev pub control_size : ℕ
control_size = 16

abbrev pub lane_size : ℕ → ℕ
lane_size kind = control_size + most kind * slot_size kind
