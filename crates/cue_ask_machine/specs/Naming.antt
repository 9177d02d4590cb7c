-- The message by which it is said who asks.
use Rattle.std.specs.Prelude.{◌≡◌, ℕ, List, [], ◌++◌, codes, Ok, Option, Some, None}
use Rattle.cue_osc.specs.Content.{Content, message}
use Rattle.cue_osc.specs.Reading.{datagram_at}
use Rattle.cue_desk.specs.Asks.{IsUnwritable}

-- the message /as/NAME, without an argument
abbrev pub name_message : List ℕ → Content
name_message name = message (codes "/as/" ++ name) []

-- the bytes are that message
abbrev pub SaysWho : List ℕ → List ℕ → Type 0
SaysWho name bytes = datagram_at bytes ≡ Ok (name_message name)

-- OSC has no datagram by which it could be said who asks
abbrev pub IsUnnamable : Option (List ℕ) → Type 0
IsUnnamable None = ⊥
IsUnnamable (Some name) = IsUnwritable (name_message name)
