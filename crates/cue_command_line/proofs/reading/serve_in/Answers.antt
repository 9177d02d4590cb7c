use Rattle.std.proofs.Common.{inl, inr, rules}
use Rattle.clap.specs.Words.{rows_of, found_of}
use Rattle.cue_command_line.proofs.LineLemmas.{no_serve}
use Rattle.cue_command_line.proofs.reading.serve_in.Goals as goal

pub returns-in_err-port-clause-usage : goal.returns-in_err-port-clause-usage
returns-in_err-port-clause-usage c = λ h.
    no_serve (rows_of (found_of c.args.found.now)) (inr (inl (c.port_in.ensures.usage (search rules))))

pub returns-in_err-turns-clause-usage : goal.returns-in_err-turns-clause-usage
returns-in_err-turns-clause-usage c = λ h.
    no_serve (rows_of (found_of c.args.found.now)) (inr (inr (c.turns_in.ensures.usage (search rules))))
