use Rattle.std.proofs.Common.{arith}
use Rattle.cue_osc.proofs.DatagramLemmas.{is_found, has_addresses, is_only, long_if, no_multiple_if}
use Rattle.cue_osc.proofs.reading.read.Goals as goal

pub returns-clause-found : goal.returns-clause-found
returns-clause-found c = is_found c.args.bytes.now c.datagram.result (λ i. omega (arith, c.type_inv.bytes i))
    c.datagram.ensures.exact

pub returns-clause-only : goal.returns-clause-only
returns-clause-only c = λ content spelled. is_only c.args.bytes.now c.datagram.result content spelled
    c.datagram.ensures.exact

pub returns-clause-too_long : goal.returns-clause-too_long
returns-clause-too_long c =
    (long_if c.args.bytes.now c.datagram.result c.datagram.ensures.exact, c.datagram.ensures.too_long)

pub returns-clause-not_multiple : goal.returns-clause-not_multiple
returns-clause-not_multiple c = (
  no_multiple_if c.args.bytes.now c.datagram.result c.datagram.ensures.exact,
  λ h. c.datagram.ensures.not_multiple
      h.0 h.1,
)

pub returns-clause-addresses : goal.returns-clause-addresses
returns-clause-addresses c = has_addresses c.args.bytes.now c.datagram.result (λ i. omega (arith, c.type_inv.bytes i))
    c.datagram.ensures.exact
