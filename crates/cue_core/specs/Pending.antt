-- The orders that the devices are still to answer.
use Rattle.std.specs.Prelude.{ℕ, if◌then◌else◌, List, [], ◌∷◌, Option, None, Some, unwrap_or, nat_eq}
use Rattle.std.specs.List.{filter_map, flat_map}
use Rattle.cue_show.specs.declared.part.Part.{Part}
use Rattle.cue_show.specs.Show.{port_of}
use Rattle.cue_exchange.specs.declared.attempt.Stage.{Stage}
use Rattle.cue_exchange.specs.declared.attempt.Stage.TheVariants.{Preparing, Decided, Cancelling}
use Rattle.cue_exchange.specs.declared.attempt.DeviceAnswer.{DeviceAnswer}
use Rattle.cue_exchange.specs.declared.attempt.Attempt.{Attempt}
use Rattle.cue_exchange.specs.Answers.{waits}
use Rattle.cue_core.specs.State.{ShowState, cue_parts}

-- an order to a device
pub data Order : Type 0 where
  standby : (q d : ℕ) (cue bytes : List ℕ) → Order
  go_2pc : (q d : ℕ) → Order
  cancel : (q d : ℕ) → Order

-- the bytes of the device's part
abbrev pub bytes_for : ℕ → List Part → List ℕ
bytes_for d [] = []
bytes_for d (p ∷ ps) = if nat_eq p.device d then p.bytes else bytes_for d ps

-- what a device is ordered in a stage
abbrev pub order_at : Stage → ℕ → ℕ → List ℕ → List ℕ → Order
order_at Preparing q d cue bytes = standby q d cue bytes
order_at Decided q d cue bytes = go_2pc q d
order_at (Cancelling r) q d cue bytes = cancel q d

-- the port of the device, and its order, if it is still to answer
abbrev pub order_for : ShowState → Attempt → DeviceAnswer → Option (ℕ × Order)
order_for s a x =
    if waits x
    then Some (
      unwrap_or (port_of s.show x.device) 0,
      order_at a.stage a.seq x.device a.cue (bytes_for x.device (cue_parts s.show a.cue)),
    )
    else None

-- for each live attempt by rising number, for each device that is still to answer, in part order
abbrev pub pending : ShowState → List (ℕ × Order)
pending s = flat_map (λ a. filter_map (order_for s a) a.answers) s.live
