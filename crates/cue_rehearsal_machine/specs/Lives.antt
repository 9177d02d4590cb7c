-- The rehearsal as a machine.
use Rattle.cue_machine.specs.declared.machine.Machine.{Ghosts}
use Rattle.cue_rehearsal_machine.specs.declared.machine.RehearsalMachine.{RehearsalMachine}
use Rattle.cue_rehearsal_machine.specs.Steps.{after_loss, is_over, steps, wakes}

abbrev pub rehearsal_machine : Ghosts RehearsalMachine
rehearsal_machine = record { steps = steps; after_loss = after_loss; wakes = wakes; is_over = is_over }
