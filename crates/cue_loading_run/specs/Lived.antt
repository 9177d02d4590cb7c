-- What a machine did that was carried out.
use Rattle.std.specs.Prelude.{◌≡◌, List, true}
use Rattle.cue_machine.specs.Living.{AreTurns, Turn}
use Rattle.cue_load_machine.specs.declared.machine.LoadMachine.{LoadMachine}
use Rattle.cue_load_machine.specs.Lives.{load_machine}
use Rattle.cue_load_machine.specs.Steps.{is_over}

-- It had some turns, one after the other, and is over. So the laws of `cue_load_machine` hold of what it sent.
pub record WasCarriedOut (m m_then : LoadMachine) : Type 0 where
  pub turns : List Turn
  pub are : AreTurns load_machine m turns m_then
  pub over : is_over m_then ≡ true
