-- The one spelling of a packet: each message with its type tag string.
use Rattle.std.specs.Prelude.{ℕ, ◌-◌, ◌<◌, ◌^◌, List, [], ◌++◌, length, Option, Some, None, nat_le, if◌then◌else◌}
use Rattle.std.specs.Prelude.{FitsSigned}
use Rattle.std.specs.List.{AllByRecursion}
use Rattle.std.specs.Int.{w32, w64, to_be_bytes}
use Rattle.cue_osc.specs.Argument.{Argument, int, text, blob}
use Rattle.cue_osc.specs.Content.{Content, message, discarded, bundle, Contents, nothing, element}
use Rattle.cue_osc.specs.Spelling.{message_text, bundle_head}

-- the bytes of a packet; a discarded message has none
abbrev mutual
  pub text_of : Content → List ℕ
  text_of (message a xs) = message_text a xs
  text_of (discarded a) = []
  text_of (bundle t cs) = bundle_head ++ (to_be_bytes w64 t ++ elements_text cs)

  pub elements_text : Contents → List ℕ
  elements_text nothing = []
  elements_text (element c cs) = to_be_bytes w32 (length (text_of c)) ++ (text_of c ++ elements_text cs)

-- what is left of so many bytes after n of them, if they fit
abbrev pub room_left : ℕ → ℕ → Option ℕ
room_left room n = if nat_le n room then Some (room - n) else None

-- a number is an int32
abbrev pub IsArgInRange : Argument → Type 0
IsArgInRange (int z) = FitsSigned w32 z
IsArgInRange (text t) = Unit {0}
IsArgInRange (blob b) = Unit {0}

-- numbers are int32s, and time tags have 64 bits
abbrev mutual
  pub IsInRange : Content → Type 0
  IsInRange (message a xs) = AllByRecursion IsArgInRange xs
  IsInRange (discarded a) = Unit {0}
  IsInRange (bundle t cs) = (t < 2 ^ 64) × AllInRange cs

  pub AllInRange : Contents → Type 0
  AllInRange nothing = Unit {0}
  AllInRange (element c cs) = IsInRange c × AllInRange cs
