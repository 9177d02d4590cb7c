use Rattle.std.proofs.Common.{◌≡◌, drop}
use Rattle.cue_report.specs.Asking.{asker_in}
use Rattle.cue_report.specs.declared.attempt.Who.TheVariants.{Unseen}
use Rattle.cue_report.proofs.evening.asking.asker_in.Given as goal

abbrev pub invariant-loop-made : goal.invariant-loop-made
invariant-loop-made l =
    asker_in l.verb l.cue l.at l.by (drop l.made-index l.all) ≡ asker_in l.verb l.cue l.at Unseen l.all
