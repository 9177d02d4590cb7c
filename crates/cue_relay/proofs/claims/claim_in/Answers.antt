use Rattle.std.proofs.Common.{arith}
use Rattle.cue_relay.proofs.ClaimLemmas.{claim-found, claim-none}
use Rattle.cue_relay.proofs.claims.claim_in.Goals as goal

pub returns-clause-found : goal.returns-clause-found
returns-clause-found c =
    claim-found c.args.device c.args.datagram.now c.claimed_in.result (λ i. omega (arith, c.type_inv.datagram i))
    c.claimed_in.ensures

pub returns-clause-none : goal.returns-clause-none
returns-clause-none c = claim-none c.args.device c.args.datagram.now c.claimed_in.result c.claimed_in.ensures
