use Rattle.std.proofs.Common.{sym, ◌∙◌}
use Rattle.cue_osc.specs.Content.{view}
use Rattle.cue_osc.proofs.PlainLemmas.{plain_from_test, test_from_plain}
use Rattle.cue_osc.proofs.packet.Packet.plain.Goals as goal

pub returns : goal.returns
returns c = (
  λ h. plain_from_test 8 (view c.args.self.now) (sym c.plain_within.ensures ∙ h),
  λ h. c.plain_within.ensures
      ∙ test_from_plain 8 (view c.args.self.now) h,
)
