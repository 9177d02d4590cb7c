use Rattle.std.proofs.Common.{lit<}
use Rattle.cue_relay.proofs.WayLemmas.{cut-same}
use Rattle.cue_relay_machine.specs.declared.living.TheConstants.{MAX_RECEIVED}
use Rattle.cue_relay_machine.specs.Places.{opening_at, relay_address}
use Rattle.cue_relay_machine.proofs.laws.cut_is_the_same.Goals as goal

pub returns : goal.returns
returns c = λ r meters now at from bytes.
    cut-same MAX_RECEIVED (lit< tt) r meters now (opening_at at) (relay_address from) bytes
