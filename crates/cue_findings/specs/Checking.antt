-- What the command `check` finds in the text of a show file, and how it ends.
use Rattle.std.specs.Prelude.{◌≡◌, ⊤, ℕ, ◌==◌, Bool, true, not, ◌&&◌, ◌||◌, if◌then◌else◌, List, ◌++◌, length}
use Rattle.std.specs.Prelude.{Option, None, Some, Result, Ok, Err}
use Rattle.std.specs.List.Sorted.{IsNonDecreasingBy, IsPermutation}
use Rattle.std.specs.declared.alloc.Global.{Global}
use Rattle.std.specs.Prelude.{Vec}
use Rattle.cue_desk.specs.declared.ending.Ending.{Ending}
use Rattle.cue_desk.specs.declared.ending.Ending.TheVariants as ending
use Rattle.cue_findings.specs.Judging.{IsTold}
use Rattle.cue_findings.specs.declared.checking.Found.{Found}
use Rattle.cue_rehearsal.specs.declared.plan.Plan.{Plan}
use Rattle.cue_rehearsal.specs.declared.plan.PlanFault.{PlanFault}
use Rattle.cue_rehearsal_plan.specs.Unknown.{unknown_devices}
use Rattle.cue_show_file.specs.Reviewed.{is_reviewed, line_of}
use Rattle.cue_show_file.specs.declared.file.ShowFile.{ShowFile}
use Rattle.cue_show_file.specs.declared.mistake.Finding.{Finding}

-- the mistakes of a file, and those that a review adds: not if nothing could be read
abbrev pub all_of : (told reviewed : List Finding) → Bool → List Finding
all_of told reviewed has_device = if (length told == 0) || has_device then told ++ reviewed else told

-- the devices of a plan that the file does not have, if the table is one
abbrev pub IsPlanFound : ShowFile → Result (Vec ℕ Global) PlanFault → Type 0
IsPlanFound file (Ok unknown) = (plan : Plan) × (unknown.items ≡ unknown_devices file plan)
IsPlanFound file (Err fault) = ⊤

-- All mistakes of the text are found, each once and by lines.
pub record IsFoundIn (text : List ℕ) (f : Found) : Type 0 where
  pub file : ShowFile
  pub told : List Finding
  pub reviewed : List Finding
  pub is_told : IsTold text file told
  pub review : (length reviewed == 0) ≡ is_reviewed file
  pub all : IsPermutation (all_of told reviewed (not (length file.devices.items == 0))) f.mistakes.items
  pub in_order : IsNonDecreasingBy (λ x. line_of x) f.mistakes.items
  pub plan : IsPlanFound file f.plan
  pub devices : f.devices ≡ length file.devices.items
  pub cues : f.cues ≡ length file.cues.items

-- the table is no plan, or names a device that the file does not have
abbrev pub is_unfit : Result (Vec ℕ Global) PlanFault → Bool
is_unfit (Ok unknown) = not (length unknown.items == 0)
is_unfit (Err fault) = true

-- a mistake refuses the file, and so does a plan that does not fit; hints do not
abbrev pub ending_of : Found → Option Ending
ending_of f =
    if (length f.mistakes.items == 0) && not (is_unfit f.plan) then None else Some ending.Refused
