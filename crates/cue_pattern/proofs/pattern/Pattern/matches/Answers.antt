use Rattle.std.proofs.Common.{◌≡◌, length, sym, ◌∙◌, ap, false}
use Rattle.cue_pattern.specs.Matching.{matches}
use Rattle.cue_pattern.proofs.PartsLemmas.{matches-no_slash, matches-uneven, denotes-from, exact-behind, denotes-behind}
use Rattle.cue_pattern.proofs.pattern.Pattern.matches.Goals as goal

pub returns-in_default-clause-exact : goal.returns-in_default-clause-exact
returns-in_default-clause-exact c = sym (matches-no_slash _ _ c.in_default.ensures.parts)

uneven : (c : goal.Then-count_texts-parts) → false ≡ matches c.args.self.now c.args.address.now
uneven c =
    sym (matches-uneven c.args.self.now c.args.address.now c.in-Some.first.now c.in-Some.ensures.parts
    (λ e. c.if-count_texts-parts.true (c.count_texts.ensures ∙ (e ∙ sym (ap length c.parts.ensures)))))

pub returns-then-count_texts-parts-clause-denotes : goal.returns-then-count_texts-parts-clause-denotes
returns-then-count_texts-parts-clause-denotes c = denotes-from _ _ _ (uneven c)

pub returns-then-count_texts-parts-clause-exact : goal.returns-then-count_texts-parts-clause-exact
returns-then-count_texts-parts-clause-exact c = uneven c

pub returns-clause-denotes : goal.returns-clause-denotes
returns-clause-denotes c = denotes-behind _ _ c.in-Some.first.now _ c.in-Some.ensures.parts c.match_parts.ensures.exact

pub returns-clause-exact : goal.returns-clause-exact
returns-clause-exact c = exact-behind _ _ c.in-Some.first.now _ c.in-Some.ensures.parts c.match_parts.ensures.exact
