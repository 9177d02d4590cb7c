use Rattle.cue_device.proofs.ReplyLemmas.{no_true, begins_otherwise, says_otherwise}
use Rattle.cue_device.proofs.over_bytes.is_reply.Goals as goal

pub returns-in_default : goal.returns-in_default
returns-in_default c = (
  no_true,
  λ r. absurd (begins_otherwise c.args.number c.args.datagram.now c.in_default.ensures
      r),
)

pub returns-in-None : goal.returns-in-None
returns-in-None c = (
  no_true,
  λ r. absurd (says_otherwise c.args.number c.args.datagram.now c.in-Some.rest.now _
      c.in-Some.ensures c.write_address-len.ensures.text c.in-None.ensures r),
)
