use Rattle.std.proofs.Common.{sym, ◌∙◌}
use Rattle.cue_osc.proofs.FieldLemmas.{ok_is}
use Rattle.cue_osc.proofs.PacketLemmas.{datagram_again}
use Rattle.cue_osc.proofs.laws.one_packet.Goals as goal

pub returns : goal.returns
returns c = λ bytes p q h k. ok_is p q (sym (datagram_again bytes p h) ∙ datagram_again bytes q k)
