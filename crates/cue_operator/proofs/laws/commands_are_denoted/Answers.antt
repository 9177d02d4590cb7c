use Rattle.cue_operator.proofs.DenotedLemmas.{commands-are-denoted, bad_pattern-is-none, no_method-is-denoted}
use Rattle.cue_operator.proofs.laws.commands_are_denoted.Goals as goal

pub returns-clause-asked : goal.returns-clause-asked
returns-clause-asked c = commands-are-denoted

pub returns-clause-bad_pattern : goal.returns-clause-bad_pattern
returns-clause-bad_pattern c = bad_pattern-is-none

pub returns-clause-no_method : goal.returns-clause-no_method
returns-clause-no_method c = no_method-is-denoted
