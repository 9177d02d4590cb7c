-- What a controller with a show makes of the steps of a plan.
use Rattle.std.specs.Prelude.{Bool, true, if◌then◌else◌, List, [], ◌∷◌, ◌++◌, Option, None, Some, option_and_then}
use Rattle.std.specs.Prelude.{IsTrue, is_some}
use Rattle.cue_show.specs.Show.{ShowLists, can_add_cue, can_add_device, can_remove_device, has_cue}
use Rattle.cue_show.specs.Show.{with_cue, with_device, with_place, without_cue, without_device}
use Rattle.cue_loading.specs.declared.manner.Manner.{Manner}
use Rattle.cue_loading.specs.declared.manner.Manner.TheVariants as manner
use Rattle.cue_loading.specs.declared.step.Step.{Step}
use Rattle.cue_loading.specs.declared.step.Step.TheVariants as step

-- the show, if it takes the step
abbrev pub if_taken : Bool → ShowLists → Option ShowLists
if_taken taken s = if taken then Some s else None

-- the show after a step; none if a controller would refuse it
abbrev pub after_step : ShowLists → Step → Option ShowLists
after_step s (step.AddDevice d port) = if_taken (can_add_device s d port) (with_device s d port)
after_step s (step.RemoveDevice d) = if_taken (can_remove_device s d) (without_device s d)
after_step s (step.AddCue c parts) = if_taken (can_add_cue s c parts) (with_cue s c parts)
after_step s (step.RemoveCue c) = if_taken (has_cue s c) (without_cue s c)
after_step s (step.MovePlace c) = if_taken (has_cue s c) (with_place s (Some c))

-- each in turn, if each is taken
abbrev pub after_steps : ShowLists → List Step → Option ShowLists
after_steps s [] = Some s
after_steps s (x ∷ xs) = option_and_then (λ t. after_steps t xs) (after_step s x)

-- Where a whole plan is taken, each beginning of it is.
abbrev pub EachIsTaken : Type 0
EachIsTaken =
    (s : ShowLists) (before after : List Step) → IsTrue (is_some (after_steps s (before ++ after)))
    → IsTrue (is_some (after_steps s before))

-- a load that only adds goes on in any case; one that takes something out only if what was there is kept
abbrev pub goes_on : Manner → Bool → Bool
goes_on manner.Adds kept = true
goes_on manner.Replaces kept = kept
goes_on manner.IsExact kept = kept
