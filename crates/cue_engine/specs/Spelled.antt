-- The messages of a datagram, by the grammar alone.
use Rattle.std.specs.Prelude.{◌≡◌, ◌↔◌, ℕ, ◌<◌, ◌≤◌, true, false, List, length, Result, Ok, Err}
use Rattle.cue_osc.specs.Content.{Content}
use Rattle.cue_osc.specs.Laws.{AreBytes}
use Rattle.cue_osc.specs.Spelling.{Spells}
use Rattle.cue_osc.specs.Walking.{leaves, is_later}
use Rattle.cue_osc.specs.declared.limits.TheConstants.{MAX_LEN}
use Rattle.cue_core.specs.declared.refusal.Refusal.{Refusal}
use Rattle.cue_core.specs.declared.refusal.Refusal.TheVariants as refusal
use Rattle.cue_engine.specs.Given.{messages_in}

-- what bytes say at a time: the messages of the packet that they spell, if no bundle of it is later; or why they are
-- refused whole. That commands are too many is not said of bytes
abbrev pub Says : ℕ → List ℕ → Result (List Content) Refusal → Type 0
Says now bytes (Ok ms) = (c : Content) × Spells bytes c × (is_later now c ≡ false) × (ms ≡ leaves c)
Says now bytes (Err refusal.Later) = (c : Content) × Spells bytes c × (is_later now c ≡ true)
Says now bytes (Err refusal.TooLong) = MAX_LEN < length bytes
Says now bytes (Err refusal.BadPacket) = (length bytes ≤ MAX_LEN) × ((c : Content) → Spells bytes c → ⊥)
Says now bytes (Err refusal.TooMany) = ⊥

-- What is taken from a datagram, or why it is refused whole, is exactly what its bytes say.
abbrev pub MessagesAreSpelled : Type 0
MessagesAreSpelled =
    (now : ℕ) (bytes : List ℕ) (said : Result (List Content) Refusal) → AreBytes bytes
    → (messages_in now bytes ≡ said) ↔ Says now bytes said
