use Rattle.std.proofs.Common.{ℕ, List, subst}
use Rattle.cue_copies.specs.Copies.{IsRefusalOf, copy_of}
use Rattle.cue_copies.proofs.CopyLemmas.{of_machine}
use Rattle.cue_copies.proofs.copying.refusal_of.Goals as goal

pub returns-in-Ok-clause-answered : goal.returns-in-Ok-clause-answered
returns-in-Ok-clause-answered g c = λ first second.
    let one = c.in-Ok.ensures.first first in
    let other = c.in-Ok.ensures.second second in
    subst (λ (x : List ℕ). IsRefusalOf c.refusal.result x (copy_of (g.D.Disk.held c.args.second.now))) one
    (subst (λ (y : List ℕ). IsRefusalOf c.refusal.result c.in-Ok.copies.first.items y) other c.refusal.ensures.refusal)

pub returns-in-Err-clause-answered : goal.returns-in-Err-clause-answered
returns-in-Err-clause-answered g c = λ first second.
    of_machine c.in-Err.fault (copy_of (g.D.Disk.held c.args.first.now)) (copy_of (g.D.Disk.held c.args.second.now))
    c.in-Err.ensures.fault
