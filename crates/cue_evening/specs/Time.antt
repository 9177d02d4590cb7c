-- The time of a look.
use Rattle.std.specs.Prelude.{ℕ, Option}
use Rattle.std.specs.Option.{option_map}
use Rattle.cue_evening.specs.declared.time.Time.{Time}

-- a time in milliseconds since 1970, if the clock has one
abbrev pub millis_of : Option Time → Option ℕ
millis_of time = option_map (λ t. t.millis) time
