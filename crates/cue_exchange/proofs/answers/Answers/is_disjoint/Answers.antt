use Rattle.std.proofs.Common.{sym}
use Rattle.cue_exchange.proofs.DeviceLemmas.{disjoint-devices_of}
use Rattle.cue_exchange.proofs.answers.Answers.is_disjoint.Goals as goal

pub returns : goal.returns
returns c = rw (c.are_outside.ensures, c.deref.ensures.value, c.self.view_is)
    (sym (disjoint-devices_of c.args.self.now c.args.other.now))
