use Rattle.std.proofs.Common.{List, ℕ, ◌+◌, ◌∙◌, ap, length}
use Rattle.cue_log.specs.Area.{room_of}
use Rattle.cue_log.proofs.GroupLemmas.{length-framed_group}
use Rattle.cue_log.proofs.group.RecordGroup.text.Goals as goal

pub returns-clause-len : goal.returns-clause-len
returns-clause-len c =
    ap length c.deref.ensures.value
    ∙ length-framed_group c.self.inside.bytes.items c.self.inside.count c.self.invariant
    ∙ ap (λ (payloads : List (List ℕ)). room_of payloads + 1) c.self.view_is
