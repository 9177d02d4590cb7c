-- Who keeps a command from being made: the devices that an attempt waits for, and the device that makes a cue busy.
use Rattle.std.specs.Prelude.{ℕ, Bool, List, Option, find, is_some, map, filter}
use Rattle.std.specs.Option.{option_map}
use Rattle.cue_show.specs.declared.part.Part.{Part}
use Rattle.cue_exchange.specs.declared.attempt.Attempt.{Attempt}
use Rattle.cue_exchange.specs.Answers.{is_waiting}
use Rattle.cue_exchange.specs.Live.{attempt_of_device}

-- the devices of the attempt that are still to answer, in part order
abbrev pub waiting_devices : Attempt → List ℕ
waiting_devices attempt = map (λ x. x.device) (filter (λ x. is_waiting x.answer) attempt.answers)

-- the device of the part is in an attempt
abbrev pub is_held : List Attempt → Part → Bool
is_held live part = is_some (attempt_of_device live part.device)

-- the first device of the parts that is in an attempt
abbrev pub held_device : List Attempt → List Part → Option ℕ
held_device live parts = option_map (λ p. p.device) (find (is_held live) parts)
