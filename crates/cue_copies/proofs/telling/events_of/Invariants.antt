use Rattle.std.proofs.Common.{◌++◌, List, length}
use Rattle.cue_core.specs.declared.event.Event.{Event}
use Rattle.cue_copies.specs.Telling.{AreTold}
use Rattle.cue_copies.proofs.telling.events_of.Given as goal

abbrev pub invariant-loop-payload : goal.invariant-loop-payload
invariant-loop-payload l = record {
  so_far : (more : List Event) → AreTold l.rest more → AreTold l.tail (l.events.items ++ more);
}

abbrev pub decreases-loop-payload : goal.decreases-loop-payload
decreases-loop-payload l = length l.rest
