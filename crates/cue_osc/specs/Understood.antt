-- Helper: what a message says, as the functions that read its arguments find it.
use Rattle.std.specs.Prelude.{ℕ, List, Option, Some, None}
use Rattle.cue_osc.specs.Argument.{Argument}
use Rattle.cue_osc.specs.Content.{Content, message, discarded}

-- the message with these arguments, or a discarded one if they are not understood
abbrev pub message_with : List ℕ → Option (List Argument) → Content
message_with a (Some xs) = message a xs
message_with a None = discarded a
