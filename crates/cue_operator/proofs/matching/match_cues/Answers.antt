use Rattle.std.proofs.Common.{◌≡◌, ◌++◌, List, [], map, subst, sym, ◌∙◌, arith}
use Rattle.std.specs.Prelude.{OnOk}
use Rattle.std.specs.Map.{keys_of}
use Rattle.std.proofs.lemmas.Grind.{common_steps}
use Rattle.cue_core.specs.declared.command.Command.{Command}
use Rattle.cue_osc.specs.Argument.{arg_view}
use Rattle.cue_operator.proofs.MatchingLemmas.{cues_found, cues_no_verb}
use Rattle.cue_operator.proofs.matching.match_cues.Goals as goal

pub returns-then-is_empty : goal.returns-then-is_empty
returns-then-is_empty c =
    let none : c.in_ok-verbs.verbs.items ≡ [] = grind (arith, common_steps) in
    cues_no_verb (map arg_view c.args.args.now) c.args.front.now c.args.name.now c.args.verb.now c.args.found.now.items
    (keys_of c.args.show.now.cues) (sym c.in_ok-verbs.ensures ∙ none)

pub returns : goal.returns
returns c =
    let P : List Command → Type 0 =
    λ cs. OnOk c.push_cues.result (c.push_cues.new.found.items ≡ c.args.found.now.items ++ cs) in
    subst P
    (cues_found (map arg_view c.args.args.now) c.args.front.now c.args.name.now c.args.verb.now c.deref.result.now
    c.args.show.now.cues (c.deref.ensures.value ∙ c.in_ok-verbs.ensures) (sym c.matches_short.ensures
    ∙ c.if-not-matches_short.false))
    c.push_cues.ensures
