use Rattle.std.proofs.Common.{◌≡◌, ◌++◌, map}
use Rattle.std.specs.List.{flat_map}
use Rattle.std.specs.Map.{keys_of}
use Rattle.cue_osc.specs.Argument.{arg_view}
use Rattle.cue_pattern.specs.Matching.{part_matches}
use Rattle.cue_operator.specs.ByParts.{cue_commands}
use Rattle.cue_operator.proofs.matching.push_matched_cues.Given as goal

-- what was found, and what the others give, is all; what is left of the list speaks of the others
abbrev pub invariant-loop-cue : goal.invariant-loop-cue
invariant-loop-cue l = record {
  left : l.left ≡ map (part_matches l.name) (keys_of l.cue-iterator);
  found : l.found.items ++ flat_map (cue_commands (map arg_view l.args) l.name l.verbs) l.cue-iterator
      ≡ l.fn.found.items ++ flat_map (cue_commands (map arg_view l.args) l.name l.verbs) l.show.cues;
}
