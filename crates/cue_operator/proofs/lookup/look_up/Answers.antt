use Rattle.std.proofs.Common.{sym, ◌∙◌}
use Rattle.cue_operator.proofs.FindingLemmas.{looked-fixed}
use Rattle.cue_operator.proofs.lookup.look_up.Goals as goal

pub returns-in-Some : goal.returns-in-Some
returns-in-Some c = looked-fixed c.args.show.now c.args.address.now c.in-Some.method (sym c.fixed_method.ensures
    ∙ c.in-Some.is)
