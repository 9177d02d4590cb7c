use Rattle.std.proofs.Common.{List, ℕ, Bor, Option, None, subst}
use Rattle.std.specs.Option.{option_copied}
use Rattle.cue_pattern.specs.Steps.{CutsFirst}
use Rattle.cue_operator.proofs.FindingLemmas.{named-at, cut-none, cut-some}
use Rattle.cue_operator.proofs.lookup.name_and_verb.Goals as goal

pub returns-in_err-verb : goal.returns-in_err-verb
returns-in_err-verb c =
    let P : Option (Bor (List ℕ)) → Type 0 = λ o. CutsFirst 47 c.in_ok-rest.rest.now c.cut_first.result.0.now
    (option_copied o) in
    rw c.from_residual-in_err-verb.ensures (named-at c.args.front.now c.args.address.now c.in_ok-rest.rest.now None
    c.in_ok-rest.ensures (cut-none c.in_ok-rest.rest.now c.cut_first.result.0.now
    (subst P c.in_err-verb.was c.cut_first.ensures)))

pub returns : goal.returns
returns c =
    let P : Option (Bor (List ℕ)) → Type 0 = λ o. CutsFirst 47 c.in_ok-rest.rest.now c.cut_first.result.0.now
    (option_copied o) in
    named-at c.args.front.now c.args.address.now c.in_ok-rest.rest.now _ c.in_ok-rest.ensures
    (cut-some c.in_ok-rest.rest.now c.cut_first.result.0.now c.in_ok-verb.field-0.now
    (subst P c.in_ok-verb.was c.cut_first.ensures))
