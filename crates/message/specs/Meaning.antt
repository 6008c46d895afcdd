-- 01, "What a message does": what each case of this crate's enums, and its record, is among the model's definitions. The contracts of
-- the public functions speak through these.
use Rattle.std.specs.Prelude.{ℕ, ◌-◌, ◌≡◌, Bool, true, false, cond, ◌&&◌, List, leb, ltb, eqb, get_or, ⊤}
use Rattle.std.specs.Prelude.{Option, Some, None, Result as Found, Ok, Err}
use Rattle.std.proofs.Math.Option.{Option as Maybe, none, some}
use Rattle.model.specs.Events.{Result}
use Rattle.model.specs.Memory.{numbered, asked_for, is_there}
use Rattle.model.specs.Messages as model
use Rattle.model.specs.declared.Kind.{Kind}
use Rattle.model.specs.Named.{place_of}
use Rattle.model.specs.Messages.{Entry, starts, stops, identifies, subscribes, unsubscribes, acknowledges, fetches, mirrors}
use Rattle.model.specs.Messages.{gets_reply, Error, unknown_message, already_started, wrong_length, wrong_revision, wrong_data, own, code}
use Rattle.message.specs.declared.Effect.{Effect}
use Rattle.message.specs.declared.Effect.TheVariants as effect
use Rattle.message.specs.declared.Common.{Common}
use Rattle.message.specs.declared.Standing.{Standing}
use Rattle.message.specs.declared.Error as by_value
use Rattle.message.specs.declared.Error.TheVariants as error

-- ==== the table's column of own errors and effects

-- the model's effect, its own error's number with it, where a kind's place among the kinds is told
abbrev pub effect_by : {K : Type 0} → (K → ℕ) → Effect K → model.Effect
effect_by place effect.Starts = starts
effect_by place effect.Stops = stops
effect_by place (effect.Identifies error) = identifies error
effect_by place (effect.Subscribes kind error) = subscribes (place kind) error
effect_by place (effect.Unsubscribes kind error) = unsubscribes (place kind) error
effect_by place (effect.Acknowledges kind) = acknowledges (place kind)
effect_by place (effect.Fetches error) = fetches error
effect_by place effect.Mirrors = mirrors

-- that of one of the kinds by their names
abbrev pub effect_in : Effect Kind → model.Effect
effect_in = effect_by place_of

-- none for a message that is not listed
abbrev pub effect_found_by : {K : Type 0} → (K → ℕ) → Option (Effect K) → Maybe model.Effect
effect_found_by place None = none
effect_found_by place (Some e) = some (effect_by place e)

abbrev pub effect_found : Option (Effect Kind) → Maybe model.Effect
effect_found = effect_found_by place_of

-- the effect that an entry has, where there is one
abbrev pub effect_listed : Maybe Entry → Maybe model.Effect
effect_listed none = none
effect_listed (some e) = some e.effect

-- whether a message of that effect is ever answered; one that is not listed is, with 99
abbrev pub answered : Maybe model.Effect → Bool
answered none = true
answered (some e) = gets_reply e

-- ==== the tests

-- 02, P2: the number of the tightening that is meant by the one that is asked for; and whether it is among those that are kept, of which
-- the newest has the greatest and the others those before it
abbrev pub meant : Common → ℕ → ℕ
meant x asked = cond (eqb asked 0) x.newest asked

abbrev pub is_among : Common → ℕ → Bool
is_among x n = leb n x.newest && ltb (x.newest - n) x.kept

abbrev pub holds : Common → ℕ → Bool
holds x asked = is_among x (meant x asked)

-- what is kept, by value: whether there is one that has a number, and which is asked for
pub record Remembers (x : Common) (rs : List Result) : Type 0 where
  pub kept : (n : ℕ) → is_there (numbered n rs) ≡ is_among x n
  pub asked_for : (asked : ℕ) → asked_for asked rs ≡ numbered (meant x asked) rs

-- the kinds of notice stand in the model's order; there is none past the last to be subscribed to
abbrev pub standing_of : Standing → model.Standing
standing_of x = record {
  started = x.started;
  granted = x.common.granted;
  subscribed = λ kind. get_or x.subscribed kind false;
  kept = holds x.common;
}

-- the same, where the tightening that a message means has that number
abbrev pub standing_with : Standing → ℕ → model.Standing
standing_with x number = record {
  started = x.started;
  granted = x.common.granted;
  subscribed = λ kind. get_or x.subscribed kind false;
  kept = λ asked. is_among x.common number;
}

-- the model's error; none where every test is met
abbrev pub error_in : Found ⊤ by_value.Error → Maybe Error
error_in (Ok _) = none
error_in (Err error.Unknown) = some unknown_message
error_in (Err error.AlreadyStarted) = some already_started
error_in (Err error.Length) = some wrong_length
error_in (Err error.Revision) = some wrong_revision
error_in (Err error.Data) = some wrong_data
error_in (Err (error.Own n)) = some (own n)

-- the number that 0004 carries for an error, and 0 where there is none
abbrev pub error_number : Maybe Error → ℕ
error_number none = 0
error_number (some error) = code error
