use Rattle.cue_engine.specs.Observed.{offered_of}
use Rattle.cue_engine.proofs.StoppedLemmas.{stops_in_commit}
use Rattle.cue_engine.proofs.laws.lives.close_after_commit.Goals as goal

pub returns : goal.returns
returns g c = record {
  stopped = λ sound inputs offered life runs.
      let last = c.hand_out-refused in
      stops_in_commit g.met.D.Disk.held_now c.args.engine c.commit-kept.new.self last.new.self c.close-first.result.0
      c.close-first.result.1 inputs (offered_of c.args.engine) c.commit-kept.result offered.batches
      c.commit-kept.ensures.accepts c.commit-kept.ensures.same last.ensures.keeper last.ensures.handed
      c.close-first.ensures.first c.close-first.ensures.second sound runs;
}
