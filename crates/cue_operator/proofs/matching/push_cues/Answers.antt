use Rattle.std.specs.Map.{keys_of}
use Rattle.cue_pattern.specs.Matching.{part_matches}
use Rattle.cue_operator.proofs.MatchingLemmas.{each_matched}
use Rattle.cue_operator.proofs.matching.push_cues.Goals as goal

pub push_matched_cues-requires : goal.push_matched_cues-requires
push_matched_cues-requires c =
    each_matched (λ name. name.now) (part_matches c.args.name.now) c.in_ok-names.names.items c.deref.result.now
    (keys_of c.args.show.now.cues) c.in_ok-matched.matched.items c.deref-2.result.now c.deref.ensures.value
    c.in_ok-names.ensures c.in_ok-matched.ensures.exact c.deref-2.ensures.value
