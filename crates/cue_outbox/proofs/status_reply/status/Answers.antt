use Rattle.std.proofs.Common.{rules}
use Rattle.cue_outbox.specs.Sending.{datagram, send_content, status_of}
use Rattle.cue_outbox.proofs.status_reply.status.Goals as goal

pub returns : goal.returns
unfolding datagram send_content status_of
returns c = search rules
