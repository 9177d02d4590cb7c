use Rattle.std.proofs.Common.{◌+◌, ◌-◌, ℕ, List, take, drop, ◌∙◌, ap, arith}
use Rattle.cue_disk.specs.Medium.{state_of}
use Rattle.cue_disk.proofs.HistoryLemmas.{kept_undoes}
use Rattle.cue_disk.proofs.medium.Medium.kept.Goals as goal

pub returns-clause-undoes : goal.returns-clause-undoes
returns-clause-undoes c =
    let count = c.args.at + c.min.result - c.args.at in
    kept_undoes (state_of c.args.self.now) c.args.at c.args.asked count c.len-2.result c.in_ok-from_slice.field-0
    c.requires (omega (arith, c.len-2.ensures)) (omega arith)
    (c.in_ok-from_slice.ensures.items ∙ ap (λ (l : List ℕ). take count (drop c.args.at l)) c.deref.ensures.value)
