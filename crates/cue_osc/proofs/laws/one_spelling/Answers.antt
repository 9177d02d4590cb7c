use Rattle.cue_osc.proofs.OneSpellingLemmas.{spelled_once, spelled_text}
use Rattle.cue_osc.proofs.laws.one_spelling.Goals as goal

pub returns-clause-alone : goal.returns-clause-alone
returns-clause-alone c = spelled_once

pub returns-clause-written : goal.returns-clause-written
returns-clause-written c = spelled_text
