use Rattle.std.proofs.Common.{◌≡◌, ap, ◌∙◌}
use Rattle.cue_copies.specs.Copies.{copy_of}
use Rattle.cue_copies.specs.declared.copying.Copies.{Copies}
use Rattle.cue_copies.proofs.CopyLemmas.{some_copies}
use Rattle.cue_copies.proofs.copying.copy_at_once.Goals as goal

pub returns-clause-first : goal.returns-clause-first
returns-clause-first g c = λ honest.
    let P : Copies → Type 0 = λ copies. copies.first.items ≡ copy_of (g.D.Disk.held c.args.first.now) in
    some_copies c.at_once.result c.in_ok-copies.copies P c.at_once.ensures.copies
    (c.in_ok-copies.ensures.first (c.in_ok-before.ensures.reads.first_honest.1 honest)
    ∙ ap copy_of (c.in_ok-before.ensures.reads.first_kept honest))

pub returns-clause-second : goal.returns-clause-second
returns-clause-second g c = λ honest.
    let P : Copies → Type 0 = λ copies. copies.second.items ≡ copy_of (g.D.Disk.held c.args.second.now) in
    some_copies c.at_once.result c.in_ok-copies.copies P c.at_once.ensures.copies
    (c.in_ok-copies.ensures.second (c.in_ok-before.ensures.reads.second_honest.1 honest)
    ∙ ap copy_of (c.in_ok-before.ensures.reads.second_kept honest))
