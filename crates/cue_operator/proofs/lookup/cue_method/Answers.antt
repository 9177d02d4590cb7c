use Rattle.std.proofs.Common.{ap, ◌∙◌}
use Rattle.std.specs.Option.{option_to_list}
use Rattle.cue_operator.proofs.FindingLemmas.{cue_not_named}
use Rattle.cue_operator.proofs.lookup.cue_method.Goals as goal

pub returns-in_err-cue : goal.returns-in_err-cue
returns-in_err-cue c = ap option_to_list c.from_residual.ensures
    ∙ cue_not_named c.args.show.now c.args.name.now c.args.verb.now c.requires c.in_err-cue.ensures.none
