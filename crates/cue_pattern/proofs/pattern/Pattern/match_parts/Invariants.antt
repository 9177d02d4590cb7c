use Rattle.std.proofs.Common.{◌≡◌, drop, IsTrue}
use Rattle.std.specs.List.{list_all}
use Rattle.std.specs.Option.{option_copied}
use Rattle.cue_pattern.specs.Reading.{cut}
use Rattle.cue_pattern.specs.Matching.{parts_match}
use Rattle.cue_pattern.specs.Short.{is_short}
use Rattle.cue_pattern.specs.Steps.{cut_left}
use Rattle.cue_pattern.proofs.pattern.Pattern.match_parts.Given as goal

abbrev pub invariant-loop-part : goal.invariant-loop-part
invariant-loop-part l = record {
  same : parts_match (drop l.part-index l.self) (cut_left 47 (option_copied l.left)) ≡ parts_match l.self
      (cut 47 l.fn.rest);
  short : IsTrue (list_all is_short (cut 47 l.fn.rest))
      → IsTrue (list_all is_short (cut_left 47 (option_copied l.left)));
}
