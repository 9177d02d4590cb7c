-- A device that is not in the table goes last.
use Rattle.cue_show.proofs.ShowLemmas.{device_inserted}
use Rattle.cue_show.proofs.show.Show.add_device.Goals as goal

pub invariant_of-self-2 : goal.invariant_of-self-2
invariant_of-self-2 c = (device_inserted _ _ _ _ _ c.self.view_is c.self.invariant c.requires
    c.in_ok-insert.ensures.entries).rules

pub returns-clause-ok : goal.returns-clause-ok
returns-clause-ok c = (device_inserted _ _ _ _ _ c.self.view_is c.self.invariant c.requires
    c.in_ok-insert.ensures.entries).same
