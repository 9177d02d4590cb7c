use Rattle.cue_osc.specs.Writing.{text_of}
use Rattle.cue_osc.proofs.WrittenLemmas.{text_spells}
use Rattle.cue_osc.proofs.PacketLemmas.{datagram_again}
use Rattle.cue_osc.proofs.laws.written_is_read.Goals as goal

pub returns : goal.returns
returns c = λ content plain range short. datagram_again (text_of content) content
    (text_spells content plain range short)
