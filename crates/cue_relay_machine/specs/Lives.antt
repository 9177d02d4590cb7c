-- What a whole life of a relay comes to.
use Rattle.std.specs.Prelude.{◌≡◌, ℕ, List, [], map, Option}
use Rattle.cue_machine.specs.declared.living.Ended.{Ended}
use Rattle.cue_machine.specs.declared.machine.Machine.{Ghosts}
use Rattle.cue_machine.specs.Hearing.{Told}
use Rattle.cue_machine.specs.Living.{Lived}
use Rattle.cue_machine.specs.Posting.{Posted}
use Rattle.cue_relay.specs.Relayed.{all_handed_on}
use Rattle.cue_relay_machine.specs.declared.machine.RelayMachine.{RelayMachine}
use Rattle.cue_relay_machine.specs.Copied.{OnlyCopies}
use Rattle.cue_relay_machine.specs.Steps.{State, after_loss, begun, is_over, steps, wakes}
use Rattle.cue_relay_machine.specs.Turns.{answer_of, handed_in}

-- the relay as a machine
abbrev pub relay_machine : Ghosts RelayMachine
relay_machine = record { steps = steps; after_loss = after_loss; wakes = wakes; is_over = is_over }

-- nothing came to it yet
abbrev pub IsNew : State → Type 0
IsNew s = s ≡ begun s.relay s.file s.books.ticked

-- A whole life: of all that came, what was handed on as it came is what the definition of the relay makes of it, each
-- datagram once, in order, with its own bytes; and nothing else was sent but copies of a GO.
pub record Relayed (wanted : ℕ) (ended : Ended) (m m_then : RelayMachine) (told told_then : Option (List Told))
    (left left_then : Option (List Posted)) : Type 0 where
  pub life : Lived relay_machine wanted ended m m_then told told_then left left_then
  pub handed : handed_in life.lived.taken ≡ all_handed_on m.relay (map answer_of life.lived.taken)
  pub copied : OnlyCopies m.relay [] life.lived.taken
