use Rattle.std.proofs.Common.{rules}
use Rattle.std.proofs.lemmas.List.Sorted.{IsNonDecreasingBy-from_sort_by_key}
use Rattle.cue_show_file.specs.Reviewed.{line_of}
use Rattle.cue_show_file.proofs.condensing.by_line.Goals as goal

pub returns-clause-sorted : goal.returns-clause-sorted
returns-clause-sorted c =
    IsNonDecreasingBy-from_sort_by_key (λ f. line_of f) _ c.in_ok-sort_by_key.ensures.sorted (λ a r q k. search rules)
