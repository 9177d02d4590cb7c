use Rattle.std.proofs.Common.{◌≡◌, ◌≤◌, ◌++◌, drop, map}
use Rattle.std.specs.List.{flat_map, AllByRecursion}
use Rattle.cue_osc.specs.Argument.{arg_view}
use Rattle.cue_osc.specs.Spelling.{argument}
use Rattle.cue_osc.specs.Writing.{IsArgInRange}
use Rattle.cue_osc.proofs.RoomLemmas.{args_len}
use Rattle.cue_osc.proofs.writing.fields.put_args.Given as goal
use Rattle.cue_osc.specs.declared.limits.TheConstants.{MAX_LEN}

abbrev pub invariant-loop-arg : goal.invariant-loop-arg
invariant-loop-arg l = record {
  written : l.out.items ++ flat_map argument (map arg_view (drop l.arg-index l.args)) ≡ l.fn.out.items ++ flat_map
      argument (map arg_view l.args);
  in_range : AllByRecursion IsArgInRange (map arg_view (drop l.arg-index l.args))
      → AllByRecursion IsArgInRange (map arg_view l.args);
  short : args_len (drop l.arg-index l.args) ≤ MAX_LEN;
}
