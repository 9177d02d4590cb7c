-- A report in time: what the call leaves and sends.
use Rattle.std.proofs.Common.{◌≡◌, ◌∙◌, ℕ, Bool, Option, Some, Result, Ok, refl, sym, ap, subst}
use Rattle.std.proofs.lemmas.Bool.{eq-eqb}
use Rattle.cue_device.specs.declared.hearing.Device.{Device}
use Rattle.cue_device.specs.declared.hearing.ReportFault.{ReportFault}
use Rattle.cue_device.specs.declared.hearing.Told.{Told}
use Rattle.cue_device.specs.declared.words.Answer.{Answer}
use Rattle.cue_device.specs.Datagrams.{answered_text}
use Rattle.cue_device.specs.Hearing.{after_call, answer_call, reported_for}
use Rattle.cue_device_c.specs.Calls.{Ends, EndsIf, Reports, Tells, TellsOf, sent_bytes}
use Rattle.cue_device_c.specs.State.{device_of, numbers_of}
use Rattle.cue_device_c.specs.declared.state.CueDevice.{CueDevice}
use Rattle.cue_device_c.specs.declared.answer.CueAnswer.{CueAnswer}

-- the numbers stand for a device whose report is in time: they stand for the device after it
pub reports : (what : ℕ → Told) (old new : CueDevice) (answer : CueAnswer) (d after : Device) (said : Option Answer)
    → device_of old ≡ Some d → answer_call (what (reported_for d)) d ≡ Ok said
    → after ≡ after_call (what (reported_for d)) d → new ≡ numbers_of after old.controller old.only
    → sent_bytes answer ≡ answered_text after.number said → answer.to ≡ old.controller → Tells what old new answer 0
reports what old new answer d after said is called state made sent to =
    subst (λ (o : Option Device). TellsOf o what old new answer 0) (sym is)
    (subst (λ (r : Result (Option Answer) ReportFault). Reports r (what (reported_for d)) d old new answer 0)
    (sym called)
    (record {
      state = made ∙ ap (λ (x : Device). numbers_of x old.controller old.only) state;
      answered = sent ∙ ap (λ (n : ℕ). answered_text n said) (sym (ap (λ (s : CueDevice). s.number) made));
      to = to;
      result = refl;
    }))

-- the machine does the order that is reported: it ends that
pub ends : (order : ℕ) (what : ℕ → Told) (old new : CueDevice) (answer : CueAnswer) (given : ℕ)
    → old.doing ≡ order → Tells what old new answer given → Ends order what old new answer given
ends order what old new answer given is told =
    subst (λ (b : Bool). EndsIf b what old new answer given) (sym (eq-eqb old.doing order is)) told
