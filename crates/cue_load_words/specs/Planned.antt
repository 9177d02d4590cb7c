-- What a load carries out that replaces something.
use Rattle.std.specs.Prelude.{ℕ}
use Rattle.cue_loading.specs.declared.manner.Manner.{Manner}
use Rattle.cue_load_machine.specs.declared.planned.Copied.{Copied}
use Rattle.cue_load_machine.specs.declared.planned.Planned.{Planned}
use Rattle.cue_load_machine.specs.Plans.{IsPlanned}
use Rattle.cue_load_words.specs.Copied.{IsCopied}
use Rattle.cue_show.specs.Show.{ShowLists}

-- It is a plan for this file and this store, and the copy that goes out before it has all that the store has.
pub record IsPlannedFrom (port : ℕ) (manner : Manner) (file stored : ShowLists) (p : Planned) : Type 0 where
  pub copied : Copied
  pub copy : IsCopied manner file stored port copied
  pub planned : IsPlanned port manner file stored copied p
