use Rattle.cue_loading_run.proofs.LivedLemmas.{Had}
use Rattle.cue_loading_run.proofs.loading.Loading.carry_out_at.Given as goal

-- the machine had some turns
abbrev pub invariant-loop : goal.invariant-loop
invariant-loop g l = Had l.fn.machine l.machine
