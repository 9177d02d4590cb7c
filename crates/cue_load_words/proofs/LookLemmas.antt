-- A show that was found is that of the state.
use Rattle.std.proofs.Common.{◌≡◌, Bool, true, false, Some, None, if◌then◌else◌, refl}
use Rattle.std.proofs.lemmas.Option.{same_Some}
use Rattle.cue_core.specs.State.{ShowState}
use Rattle.cue_desk.specs.declared.replying.Status.{Status}
use Rattle.cue_load_machine.specs.Agreeing.{agrees, show_in}
use Rattle.cue_show.specs.Show.{ShowLists}

found_by : (b : Bool) (show other : ShowLists) → Some show ≡ (if b then Some other else None)
    → (b ≡ true) × (show ≡ other)
found_by true show other e = (refl, same_Some show other e)
found_by false show other e = cc

pub found_in : (status : Status) (s : ShowState) (show : ShowLists) → Some show ≡ show_in status s
    → (agrees status s ≡ true) × (show ≡ s.show)
found_in status s show e = found_by (agrees status s) show s.show e
