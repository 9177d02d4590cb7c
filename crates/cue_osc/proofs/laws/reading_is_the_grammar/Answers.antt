use Rattle.std.proofs.Common.{arith}
use Rattle.cue_osc.proofs.PacketLemmas.{datagram_takes, datagram_again}
use Rattle.cue_osc.proofs.laws.reading_is_the_grammar.Goals as goal

pub returns : goal.returns
returns c = λ bytes content fits. (
  datagram_takes bytes content (λ i. omega (arith, fits i)),
  datagram_again bytes
      content,
)
