use Rattle.std.proofs.Common.{◌∙◌, ap}
use Rattle.std.proofs.lemmas.List.Filters.{dedup_is}
use Rattle.std.proofs.lemmas.Map.Keys.{IsStrictlyIncreasing-dedup}
use Rattle.cue_show.specs.Devices.{is_among}
use Rattle.cue_outbox.proofs.NumberLemmas.{among-sorted}
use Rattle.cue_outbox.proofs.asked.numbers_asked.Goals as goal

pub returns-clause-rising : goal.returns-clause-rising
returns-clause-rising c = let is = dedup_is _ _ _ c.dedup.ensures.filtered in
    rw is (IsStrictlyIncreasing-dedup _ c.sort_unstable.ensures.sorted)

pub returns-clause-exact : goal.returns-clause-exact
returns-clause-exact c =
    let is = dedup_is _ _ _ c.dedup.ensures.filtered in
    λ q. among-sorted q _ _ _ c.sort_unstable.ensures.permutation is ∙ ap (is_among q) c.in_ok-numbers.ensures
