use Rattle.std.proofs.Common.{sym, ◌∙◌}
use Rattle.cue_pattern.proofs.LaneLemmas.{nowhere-reaches, all-zero}
use Rattle.cue_pattern.proofs.lane_steps.step.Goals as goal

pub returns-else-not-is_nowhere : goal.returns-else-not-is_nowhere
returns-else-not-is_nowhere c = λ j name rest st h.
    nowhere-reaches c.args.piece.now rest name j c.args.reached.now
    (all-zero c.args.reached.now (sym c.is_nowhere.ensures ∙ c.if-not-is_nowhere.false)) h
