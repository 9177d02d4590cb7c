use Rattle.std.proofs.Common.{List, ℕ, Some, length, sym, ap, ◌∙◌}
use Rattle.cue_operator.proofs.FindingLemmas.{ranged, rest_after-yes, rest_after-no}
use Rattle.cue_operator.proofs.lookup.rest_after.Goals as goal

pub returns-then-starts_with : goal.returns-then-starts_with
returns-then-starts_with c = ap (λ (t : List ℕ). Some t) (ranged c.args.address.now (length c.args.front.now))
    ∙ rest_after-yes c.args.front.now c.args.address.now (sym c.starts_with.ensures.value ∙ c.if-starts_with.true)

pub returns-else-starts_with : goal.returns-else-starts_with
returns-else-starts_with c = rest_after-no c.args.front.now c.args.address.now (sym c.starts_with.ensures.value
    ∙ c.if-starts_with.false)
