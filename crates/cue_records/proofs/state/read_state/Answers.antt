use Rattle.std.proofs.Common.{arith}
use Rattle.cue_records.proofs.TakingLemmas.{bytes_from}
use Rattle.cue_records.proofs.StateLemmas.{is_found, is_only}
use Rattle.cue_records.proofs.state.read_state.Goals as goal

pub returns-clause-found : goal.returns-clause-found
returns-clause-found c =
    is_found c.args.bytes.now c.state_in.result (bytes_from c.args.bytes.now (λ i. omega (arith, c.type_inv.bytes i)))
    c.state_in.ensures.exact

pub returns-clause-only : goal.returns-clause-only
returns-clause-only c = is_only c.args.bytes.now c.state_in.result c.state_in.ensures.exact
