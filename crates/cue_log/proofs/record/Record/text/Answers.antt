use Rattle.std.proofs.Common.{List, ℕ, ◌∷◌, [], ◌∙◌, ap}
use Rattle.cue_log.proofs.GroupLemmas.{one_read}
use Rattle.cue_log.proofs.record.Record.text.Goals as goal

pub returns-clause-framed : goal.returns-clause-framed
returns-clause-framed c =
    (one_read c.self.inside.bytes.items c.deref.result.now c.deref.ensures.value c.self.invariant).0

pub returns-clause-payload : goal.returns-clause-payload
returns-clause-payload c =
    (one_read c.self.inside.bytes.items c.deref.result.now c.deref.ensures.value c.self.invariant).1
    ∙ ap (λ (l : List ℕ). l ∷ []) c.self.view_is
