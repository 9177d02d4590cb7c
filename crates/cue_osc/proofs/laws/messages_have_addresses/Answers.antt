use Rattle.cue_osc.proofs.AddressLemmas.{packet_addresses}
use Rattle.cue_osc.proofs.laws.messages_have_addresses.Goals as goal

pub returns : goal.returns
returns c = λ bytes content h. packet_addresses 8 bytes content h.2
