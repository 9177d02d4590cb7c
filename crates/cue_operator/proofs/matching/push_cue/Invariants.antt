use Rattle.std.proofs.Common.{◌≡◌, ◌++◌, drop, map}
use Rattle.cue_osc.specs.Argument.{arg_view}
use Rattle.cue_operator.specs.declared.method.Method.TheVariants as method
use Rattle.cue_operator.specs.ByParts.{reads}
use Rattle.cue_operator.proofs.matching.push_cue.Given as goal

-- what was found, and what the other verbs give, is all
abbrev pub invariant-loop-verb : goal.invariant-loop-verb
invariant-loop-verb l =
    l.found.items ++ reads (map arg_view l.args) (map (method.OfCue l.cue) (drop l.verb-index l.verbs))
    ≡ l.fn.found.items ++ reads (map arg_view l.args) (map (method.OfCue l.cue) l.verbs)
