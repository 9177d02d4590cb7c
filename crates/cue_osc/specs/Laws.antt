-- What holds of every datagram and every packet.
use Rattle.std.specs.Prelude.{◌≡◌, ◌≢◌, ◌↔◌, ◌⊎◌, ℕ, ◌<◌, ◌≤◌, List, [], length, slice_index, Ok, Err}
use Rattle.std.specs.List.{AllByRecursion}
use Rattle.cue_osc.specs.declared.fault.Fault.TheVariants.{Memory}
use Rattle.cue_osc.specs.Content.{Content, message, discarded, bundle}
use Rattle.cue_osc.specs.Spelling.{Spells, IsAddress, message_text, osc_string}
use Rattle.cue_osc.specs.Reading.{datagram_at}
use Rattle.cue_osc.specs.Plain.{IsPlain}
use Rattle.cue_osc.specs.Walking.{leaves, HasAddress}
use Rattle.cue_osc.specs.Writing.{text_of, IsInRange}
use Rattle.cue_osc.specs.declared.limits.TheConstants.{MAX_LEN, MAX_DEPTH}

-- each is a byte
abbrev pub AreBytes : List ℕ → Type 0
AreBytes bytes = (i : ℕ) → slice_index bytes i < 256

-- reading from front to back finds exactly what the grammar says
abbrev pub ReadingIsTheGrammar : Type 0
ReadingIsTheGrammar = (bytes : List ℕ) (c : Content) → AreBytes bytes → (datagram_at bytes ≡ Ok c) ↔ Spells bytes c

-- a datagram is one packet and no other
abbrev pub OnePacket : Type 0
OnePacket = (bytes : List ℕ) (c d : Content) → Spells bytes c → Spells bytes d → c ≡ d

-- a message is understood, and has arguments
abbrev pub HasArguments : Content → Type 0
HasArguments (message a xs) = xs ≢ []
HasArguments (discarded a) = ⊥
HasArguments (bundle t cs) = ⊥

-- a packet whose messages are all understood and have arguments has one spelling at most
abbrev pub OneSpelling : Type 0
OneSpelling =
    (bytes other : List ℕ) (c : Content) → AllByRecursion HasArguments (leaves c)
    → Spells bytes c → Spells other c → bytes ≡ other

-- and that is its text, as it is written
abbrev pub SpelledAsWritten : Type 0
SpelledAsWritten =
    (bytes : List ℕ) (c : Content) → AllByRecursion HasArguments (leaves c) → Spells bytes c → bytes ≡ text_of c

-- a message without arguments is spelled in two ways, if they are short enough: with its type tag string, which is
-- empty, and without it
abbrev pub TwoSpellings : Type 0
TwoSpellings =
    (bytes a : List ℕ) → Spells bytes (message a [])
    ↔ (IsAddress a × (length bytes ≤ MAX_LEN) × ((bytes ≡ message_text a []) ⊎ (bytes ≡ osc_string a)))

-- the spelling of a plain packet is a datagram of it
abbrev pub WrittenIsSpelled : Type 0
WrittenIsSpelled =
    (c : Content) → IsPlain MAX_DEPTH c → IsInRange c → length (text_of c) ≤ MAX_LEN → Spells (text_of c) c

-- and is read again as the same
abbrev pub WrittenIsRead : Type 0
WrittenIsRead =
    (c : Content) → IsPlain MAX_DEPTH c → IsInRange c → length (text_of c) ≤ MAX_LEN → datagram_at (text_of c) ≡ Ok c

-- each message of a datagram has an address
abbrev pub MessagesHaveAddresses : Type 0
MessagesHaveAddresses = (bytes : List ℕ) (c : Content) → Spells bytes c → AllByRecursion HasAddress (leaves c)

-- no bytes are to blame if memory ran out
abbrev pub MemoryIsNoFault : Type 0
MemoryIsNoFault = (bytes : List ℕ) → datagram_at bytes ≡ Err Memory → ⊥
