-- What was planned goes with its copy.
use Rattle.std.proofs.Common.{ℕ, Option, Some, None}
use Rattle.std.specs.Prelude.{IfSome}
use Rattle.cue_load_machine.specs.Plans.{IsPlanned}
use Rattle.cue_load_machine.specs.declared.planned.Copied.{Copied}
use Rattle.cue_load_machine.specs.declared.planned.Planned.{Planned}
use Rattle.cue_load_words.specs.Copied.{IsCopied}
use Rattle.cue_load_words.specs.Planned.{IsPlannedFrom}
use Rattle.cue_loading.specs.declared.manner.Manner.{Manner}
use Rattle.cue_show.specs.Show.{ShowLists}

pub planned_with : (port : ℕ) (manner : Manner) (file stored : ShowLists) (copied : Copied) (some : Option Planned)
    → IsCopied manner file stored port copied → IfSome some (λ p. IsPlanned port manner file stored copied p)
    → IfSome some (IsPlannedFrom port manner file stored)
planned_with port manner file stored copied None copy planned = tt
planned_with port manner file stored copied (Some p) copy planned =
    record { copied = copied; copy = copy; planned = planned }
