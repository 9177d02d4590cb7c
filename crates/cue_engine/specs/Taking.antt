-- What an engine shows of inputs that it has taken: one is a list of one.
use Rattle.std.specs.Prelude.{◌≡◌, ◌≤◌, ℕ, List, [], ◌∷◌, ◌++◌, length}
use Rattle.cue_disk.specs.declared.disk.Disk.{Ghosts}
use Rattle.cue_core.specs.declared.event.Event.{Event}
use Rattle.cue_keeper.specs.Stands.{folded_all}
use Rattle.cue_outbox.specs.Sending.{datagrams}
use Rattle.cue_engine.specs.declared.engine.Engine.{Engine}
use Rattle.cue_engine.specs.declared.taken.Taken.{Taken}
use Rattle.cue_engine.specs.Given.{Input, Given}
use Rattle.cue_engine.specs.Groups.{batches_given, sends_given}
use Rattle.cue_engine.specs.Observed.{state_of, queue_of, last_batches_of, offered_of, offered_sends_of}

-- These batches have happened to the state, and what is sent for them is owed after all that was owed.
pub record TakesUp {D : Type 0} {disk : Ghosts D} (batches : List (List Event)) (sends : List (ℕ × List ℕ))
    (old new : Engine D disk) : Type 0 where
  pub state : state_of new ≡ folded_all (state_of old) batches
  pub queue : queue_of new ≡ queue_of old ++ sends
  pub last_batches : 1 ≤ length batches → last_batches_of new ≡ batches

-- These inputs were taken, each at its time.
abbrev pub Takes : {D : Type 0} {disk : Ghosts D} → List (ℕ × Input) → (old new : Engine D disk) → Type 0
Takes inputs old new =
    TakesUp (batches_given (state_of old) inputs) (datagrams (sends_given (state_of old) inputs)) old new

-- What the input gives stands after all that was offered before, and these are its counts.
pub record Offers {D : Type 0} {disk : Ghosts D} (what : Given) (answer : Taken) (old new : Engine D disk)
    : Type 0 where
  pub batches : offered_of new ≡ offered_of old ++ what.batch ∷ []
  pub sends : offered_sends_of new ≡ offered_sends_of old ++ datagrams what.sends
  pub counts : answer ≡ what.counts

-- So far these inputs were offered, each at its time, and no other.
pub record IsOffered {D : Type 0} {disk : Ghosts D} (inputs : List (ℕ × Input)) (engine : Engine D disk)
    : Type 0 where
  pub batches : offered_of engine ≡ batches_given (state_of engine) inputs
  pub sends : offered_sends_of engine ≡ datagrams (sends_given (state_of engine) inputs)

-- Whatever inputs were offered so far, P holds of them.
abbrev pub WhateverWasOffered :
    {D : Type 0} {disk : Ghosts D} → Engine D disk → (List (ℕ × Input) → Type 0) → Type 0
WhateverWasOffered engine P = (inputs : List (ℕ × Input)) → IsOffered inputs engine → P inputs
