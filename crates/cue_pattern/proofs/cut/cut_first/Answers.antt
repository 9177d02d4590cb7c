use Rattle.std.proofs.Common.{sym, ◌∙◌}
use Rattle.cue_pattern.proofs.CutLemmas.{CutsFirst-range, CutsFirst-none}
use Rattle.cue_pattern.proofs.cut.cut_first.Goals as goal

pub returns-in-Some : goal.returns-in-Some
returns-in-Some c = CutsFirst-range _ _ _ (sym c.find.ensures ∙ c.in-Some.is)

pub returns-in-None : goal.returns-in-None
returns-in-None c = CutsFirst-none _ _ (sym c.find.ensures ∙ c.in-None.is)
