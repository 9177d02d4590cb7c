use Rattle.std.proofs.Common.{◌≡◌, ◌≢◌, ◌↔◌, ◌≤◌, IsTrue, List, [], length}
use Rattle.cue_core.specs.declared.event.Event.{Event}
use Rattle.cue_core.specs.declared.command.Verdict.{Verdict}
use Rattle.cue_core.specs.declared.command.Verdict.TheVariants.{Made}
use Rattle.cue_core.specs.Judge.{judgement_of}
use Rattle.cue_core.specs.Steps.{are_acceptable}
use Rattle.cue_core.proofs.verdicts.CountLemmas.{judgement_of-has}
use Rattle.cue_core.proofs.verdicts.JudgementLemmas.{judgement_of-acceptable, if_ok_from}
use Rattle.cue_core.proofs.judging.judge.Goals as goal

pub returns-clause-acceptable : goal.returns-clause-acceptable
returns-clause-acceptable c =
    if_ok_from (λ (r : Verdict × List Event). r ≡ judgement_of c.args.state.now c.args.now c.args.from
    c.args.command.now) (λ r. IsTrue (are_acceptable c.args.state.now r.1)) c.judgement_of.result
    (λ r same. rw same (judgement_of-acceptable c.args.state.now c.args.now c.args.from c.args.command.now
    c.last_seq-last.ensures.rules c.requires)) c.judgement_of.ensures

pub returns-clause-few : goal.returns-clause-few
returns-clause-few c =
    if_ok_from (λ (r : Verdict × List Event). r ≡ judgement_of c.args.state.now c.args.now c.args.from
    c.args.command.now) (λ r. length r.1 ≤ 2) c.judgement_of.result
    (λ r same. rw same (judgement_of-has c.args.state.now c.args.now c.args.from c.args.command.now).few)
    c.judgement_of.ensures

pub returns-clause-made : goal.returns-clause-made
returns-clause-made c =
    if_ok_from (λ (r : Verdict × List Event). r ≡ judgement_of c.args.state.now c.args.now c.args.from
    c.args.command.now) (λ r. (r.0 ≡ Made) ↔ (r.1 ≢ [])) c.judgement_of.result
    (λ r same. rw same (judgement_of-has c.args.state.now c.args.now c.args.from c.args.command.now).made)
    c.judgement_of.ensures
