-- Which attempts the log of the evening names: those that hang on one device.
use Rattle.std.specs.Prelude.{ℕ, Bool, ◌&&◌, ◌==◌, if◌then◌else◌, List, Option, None, count_by, find, nat_lt}
use Rattle.std.specs.List.{list_any}
use Rattle.std.specs.Option.{option_map}
use Rattle.cue_exchange.specs.declared.attempt.Attempt.{Attempt}
use Rattle.cue_exchange.specs.declared.attempt.DeviceAnswer.{DeviceAnswer}
use Rattle.cue_exchange.specs.Answers.{is_required, is_preparing}

-- how many devices are required
abbrev pub required_count : List DeviceAnswer → ℕ
required_count answers = count_by is_required answers

-- some device is optional
abbrev pub has_optional : List DeviceAnswer → Bool
has_optional answers = list_any (λ x. x.optional) answers

-- one device alone is required, and another one is optional
abbrev pub hangs_on_one : List DeviceAnswer → Bool
hangs_on_one answers = required_count answers == 1 && has_optional answers

-- the device that is required
abbrev pub first_required : List DeviceAnswer → Option ℕ
first_required answers = option_map (λ x. x.device) (find is_required answers)

-- the device that alone is required, if others are optional
abbrev pub alone_required : List DeviceAnswer → Option ℕ
alone_required answers = if hangs_on_one answers then first_required answers else None

-- the attempt is Preparing, and began after the one with this number
abbrev pub is_new : ℕ → Attempt → Bool
is_new last attempt = nat_lt last attempt.seq && is_preparing attempt.stage

-- the device that the log names for an attempt
abbrev pub named_device : ℕ → Attempt → Option ℕ
named_device last attempt = if is_new last attempt then alone_required attempt.answers else None
