-- The cue is taken out, and the place moves on where it stood there.
use Rattle.cue_show.proofs.ShowLemmas.{cue_removed}
use Rattle.cue_show.proofs.show.Show.remove_cue.Goals as goal

pub invariant_of-self : goal.invariant_of-self
invariant_of-self c = (cue_removed _ _ _ _ _ c.self.view_is c.self.invariant c.shift_remove-parts.ensures.entries
    c.place_without-next.ensures).rules
