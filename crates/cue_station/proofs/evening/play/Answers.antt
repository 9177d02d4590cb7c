use Rattle.std.proofs.Common.{◌≡◌, refl, sym, ap, subst, ◌∙◌, List, [], ◌∷◌, ◌++◌, append_assoc, arith}
use Rattle.cue_station.specs.declared.heard.Input.{Input}
use Rattle.cue_station.specs.declared.station.Step.{Step}
use Rattle.cue_station.specs.Evening.{Plays}
use Rattle.cue_station.proofs.EveningLemmas.{all_heard, on_err, plays-more, plays-none, plays-same, stops}
use Rattle.cue_station.proofs.evening.play.Goals as goal

-- src/evening.rt
pub returns-in_err-steps-clause-err : goal.returns-in_err-steps-clause-err
returns-in_err-steps-clause-err c =
    let old = c.args.station.now in
    on_err c.from_residual.result (stops old old c.args.inputs.items [] c.args.inputs.items [] refl (plays-none old))

pub loop-input-init : goal.loop-input-init
loop-input-init c =
    let old = c.args.station.now in
    record {
      split = c.into_iter-input-iterator.ensures.into_iter_gives.0;
      plays = subst (λ s. Plays old [] s old) (sym c.in_ok-steps.ensures.items) (plays-none old);
    }

pub returns-in_err-step-clause-err : goal.returns-in_err-step-clause-err
returns-in_err-step-clause-err c =
    let old = c.args.station.now in
    let l = c.loop-input in
    on_err c.from_residual-in_err-step.result
    (stops old c.step.new.self c.args.inputs.items l.yielded l.input-iterator.rest.items l.steps.items l.invariant.split
    (plays-same old l.station c.step.new.self l.yielded l.steps.items l.invariant.plays c.in_err-step.ensures.err))

pub loop-input-preserved : goal.loop-input-preserved
loop-input-preserved c =
    let old = c.args.station.now in
    let l = c.loop-input in
    let new = c.step.new.self in
    let rest = c.next.new.self.rest.items in
    let first : l.input-iterator.rest.items ≡ c.in-Some.input ∷ rest = c.in-Some.ensures.steps.0 in
    record {
      split = append_assoc l.yielded (c.in-Some.input ∷ []) c.next.new.self.rest.items
          ∙ ap (λ v. l.yielded ++ v) (sym {A = List Input} first) ∙ l.invariant.split;
      plays = subst (λ s. Plays old (l.yielded ++ (c.in-Some.input ∷ [])) s new)
          (sym {A = List Step} c.in_ok-push.ensures.items)
          (plays-more old l.station new l.yielded l.steps.items c.in-Some.input c.in_ok-step.field-0 l.invariant.plays
          c.in_ok-step.ensures.keeps);
    }

pub returns-in_err-push-clause-err : goal.returns-in_err-push-clause-err
returns-in_err-push-clause-err c =
    let old = c.args.station.now in
    let l = c.loop-input in
    let new = c.step.new.self in
    let rest = c.next.new.self.rest.items in
    let first : l.input-iterator.rest.items ≡ c.in-Some.input ∷ rest = c.in-Some.ensures.steps.0 in
    on_err c.from_residual-in_err-push.result
    (stops old new c.args.inputs.items (l.yielded ++ (c.in-Some.input ∷ [])) c.next.new.self.rest.items
    (l.steps.items ++ (c.in_ok-step.field-0 ∷ []))
    (append_assoc l.yielded (c.in-Some.input ∷ []) c.next.new.self.rest.items
    ∙ ap (λ v. l.yielded ++ v) (sym {A = List Input} first) ∙ l.invariant.split)
    (plays-more old l.station new l.yielded l.steps.items c.in-Some.input c.in_ok-step.field-0 l.invariant.plays
    c.in_ok-step.ensures.keeps))

pub returns-clause-ok : goal.returns-clause-ok
returns-clause-ok c =
    let l = c.loop-input in
    subst (λ heard. Plays c.args.station.now heard l.steps.items l.station)
    (all_heard l.yielded l.input-iterator.rest.items c.args.inputs.items l.invariant.split
    (omega (arith, l.input-iterator.rest.ok.0, c.in-None.ensures.steps.0)))
    l.invariant.plays
