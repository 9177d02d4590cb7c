use Rattle.std.proofs.Common.{◌≡◌, ◌++◌, drop, map}
use Rattle.cue_osc.specs.Argument.{arg_view}
use Rattle.cue_osc.specs.Spelling.{tag, tags}
use Rattle.cue_osc.proofs.writing.fields.put_tags.Given as goal

abbrev pub invariant-loop-arg : goal.invariant-loop-arg
invariant-loop-arg l = l.out.items ++ map tag (map arg_view (drop l.arg-index l.args)) ≡ l.fn.out.items ++ tags
    (map arg_view l.args)
