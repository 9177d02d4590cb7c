use Rattle.std.proofs.Common.{◌≡◌, refl, sym, ap, ◌∙◌}
use Rattle.cue_rehearsal.specs.declared.chance.Chance.{Chance}
use Rattle.cue_rehearsal_machine.specs.declared.seat.Seat.{Seat}
use Rattle.cue_rehearsal_machine.specs.Deeds.{state_of}
use Rattle.cue_rehearsal_machine.specs.Seats.{seat_passed}
use Rattle.cue_rehearsal_machine.specs.Steps.{settled}
use Rattle.cue_rehearsal_machine.proofs.StepLemmas.{due_step, sits_same}
use Rattle.cue_rehearsal_machine.proofs.machine.RehearsalMachine.pass_at.Goals as goal

pub returns-clause-passed : goal.returns-clause-passed
returns-clause-passed c =
    let m = c.args.self.now in
    let is = c.requires.is_due in
    let seat : Seat = c.index-seat.result.now in
    let here : seat ≡ is.seat = sits_same m.seats.items c.args.at seat is.seat is.sits c.index-seat.ensures in
    let same : c.index_mut.result.now ≡ is.seat =
    sits_same m.seats.items c.args.at c.index_mut.result.now is.seat is.sits c.index_mut.ensures.value in
    due_step (state_of m) c.args.now c.args.at _ c.args.due seat c.pass.new.self c.foresee-answer.result _
    c.give.new.out _ is here
    (c.pass.ensures ∙ ap (λ (x : Seat). seat_passed c.args.now c.args.due x) (same ∙ sym here))
    c.foresee-answer.ensures refl c.passed_line-line.ensures c.in_ok-give.ensures.given
    (ap (λ (x : Chance). settled (state_of m) c.args.at c.pass.new.self x) c.give.ensures.drawn)
