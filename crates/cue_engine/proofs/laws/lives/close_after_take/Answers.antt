use Rattle.std.proofs.Common.{◌∷◌, [], refl}
use Rattle.cue_engine.specs.Inputs.{input_view}
use Rattle.cue_engine.proofs.StoppedLemmas.{stops_in_commit}
use Rattle.cue_engine.proofs.laws.lives.close_after_take.Goals as goal

pub returns : goal.returns
returns g c = record {
  stopped = λ sound life runs.
      let last = c.hand_out-refused in
      stops_in_commit g.met.D.Disk.held_now c.args.engine c.take-taken.new.self last.new.self c.close-first.result.0
      c.close-first.result.1 ((c.args.now, input_view c.args.input) ∷ []) _ c.take-taken.result refl
      c.take-taken.ensures.accepts c.take-taken.ensures.same last.ensures.keeper last.ensures.handed
      c.close-first.ensures.first c.close-first.ensures.second sound runs;
}
