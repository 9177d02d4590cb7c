use Rattle.std.specs.Prelude.{◌≡◌, IfOk}
use Rattle.std.proofs.Common.{subst}
use Rattle.cue_core.specs.State.{ShowState}
use Rattle.cue_engine.specs.Observed.{keeper_of, state_of}
use Rattle.cue_keeper.specs.Observed.{generation_of}
use Rattle.cue_script.proofs.ScriptLemmas.{still_once}
use Rattle.cue_script.proofs.play.run_line.Goals as goal

pub returns-in-Ok-clause-state : goal.returns-in-Ok-clause-state
returns-in-Ok-clause-state g c =
    let P : ShowState → Type 0 = λ s. IfOk c.print_owed.result (λ next. state_of next ≡ s) in
    subst P c.in-Ok.ensures.after.is c.print_owed.ensures.state

pub returns-in-Ok-clause-turned : goal.returns-in-Ok-clause-turned
returns-in-Ok-clause-turned g c =
    still_once c.print_owed.result (λ next. generation_of (keeper_of next)) (generation_of (keeper_of c.args.engine))
    (generation_of (keeper_of c.in-Ok.next)) c.print_owed.ensures.generation c.in-Ok.ensures.turned
