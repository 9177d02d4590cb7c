use Rattle.std.proofs.Common.{◌≡◌, drop, map}
use Rattle.cue_osc.specs.Argument.{arg_view}
use Rattle.cue_osc.specs.Reading.{all_args_at}
use Rattle.cue_osc.proofs.LoopLemmas.{with_args}
use Rattle.cue_osc.proofs.reading.message.all_args.Given as goal

abbrev pub invariant-loop-kind : goal.invariant-loop-kind
invariant-loop-kind l = with_args (map arg_view l.args.items) (all_args_at (drop l.kind-index l.kinds) l.rest)
    ≡ all_args_at l.kinds l.bytes
