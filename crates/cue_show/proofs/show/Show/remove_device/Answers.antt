-- A device that no cue has can be taken out.
use Rattle.cue_show.proofs.ShowLemmas.{device_removed}
use Rattle.cue_show.proofs.show.Show.remove_device.Goals as goal

pub invariant_of-self : goal.invariant_of-self
invariant_of-self c = (device_removed _ _ _ _ c.self.view_is c.self.invariant c.requires
    c.shift_remove-port.ensures.entries).rules
