use Rattle.std.proofs.Common.{◌≡◌, map, drop}
use Rattle.std.specs.List.{list_all}
use Rattle.cue_osc.specs.Argument.{arg_view}
use Rattle.cue_osc.specs.Plain.{is_plain_arg}
use Rattle.cue_osc.proofs.plain.plain_args.Given as goal

abbrev pub invariant-loop-arg : goal.invariant-loop-arg
invariant-loop-arg l = list_all is_plain_arg (map arg_view (drop l.arg-index l.args)) ≡ list_all is_plain_arg
    (map arg_view l.args)
