use Rattle.std.proofs.Common.{◌≡◌, length, sym, ◌∙◌, arith, rules}
use Rattle.cue_keeper.specs.Groups.{with_events}
use Rattle.cue_keeper.proofs.GroupLemmas.{nothing_changed}
use Rattle.cue_keeper.proofs.keeper.take_over.Goals as goal

pub returns-else-count-ne0-clause-kept : goal.returns-else-count-ne0-clause-kept
returns-else-count-ne0-clause-kept c =
    let none : length (with_events c.args.group.now) ≡ 0 = grind (arith, rules) in
    sym (nothing_changed c.args.kept.now c.args.group.now none)

pub returns-else-count-ne0-clause-draft : goal.returns-else-count-ne0-clause-draft
returns-else-count-ne0-clause-draft c =
    let none : length (with_events c.args.group.now) ≡ 0 = grind (arith, rules) in
    c.requires ∙ nothing_changed c.args.kept.now c.args.group.now none
