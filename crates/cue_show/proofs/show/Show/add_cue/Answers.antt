-- A cue that is not in the stack goes last.
use Rattle.cue_show.proofs.ShowLemmas.{cue_inserted}
use Rattle.cue_show.proofs.show.Show.add_cue.Goals as goal

pub invariant_of-self-2 : goal.invariant_of-self-2
invariant_of-self-2 c = (cue_inserted _ _ _ _ _ c.self.view_is c.self.invariant c.requires
    c.in_ok-insert.ensures.entries).rules

pub returns-clause-ok : goal.returns-clause-ok
returns-clause-ok c = (cue_inserted _ _ _ _ _ c.self.view_is c.self.invariant c.requires
    c.in_ok-insert.ensures.entries).same
