use Rattle.std.proofs.Common.{◌≡◌, sym, ap, ◌∙◌}
use Rattle.cue_device.specs.declared.hearing.Heard.{Heard}
use Rattle.cue_device.specs.declared.over_bytes.Meaning.{Meaning}
use Rattle.cue_rehearsal.specs.declared.chance.Chance.{Chance}
use Rattle.cue_rehearsal.specs.Drawing.{next, up_to}
use Rattle.cue_rehearsal_machine.specs.declared.seat.Seat.{Seat}
use Rattle.cue_rehearsal_machine.specs.Deeds.{state_of}
use Rattle.cue_rehearsal_machine.specs.Seats.{seat_heard, what_of}
use Rattle.cue_rehearsal_machine.specs.Steps.{settled}
use Rattle.cue_rehearsal_machine.proofs.StepLemmas.{answered_what, heard_step, is_heard, ordered_what, sits_same}
use Rattle.cue_rehearsal_machine.proofs.StepLemmas.{sits_there}
use Rattle.cue_rehearsal_machine.proofs.machine.RehearsalMachine.take.Goals as goal

pub returns-clause-taken : goal.returns-clause-taken
returns-clause-taken c =
    let m = c.args.self.now in
    let seat : Seat = c.index-seat.result.now in
    let what : Meaning = c.meaning-meaning.result in
    let there = sits_there m.seats.items c.args.at seat c.requires.within c.index-seat.ensures in
    let same : c.index_mut.result.now ≡ seat =
    sits_same m.seats.items c.args.at c.index_mut.result.now seat there c.index_mut.ensures.value in
    heard_step (state_of m) c.args.now c.up_to-longer.result c.args.at c.args.from c.args.bytes.now seat
    c.hear.new.self (what_of what) c.foresee-heard.result.order c.foresee-heard.result.answer _
    c.up_to-longer.new.self c.give.new.out _ there (sym c.is_lost.ensures.drawn ∙ c.if-is_lost.false)
    (c.up_to-longer.ensures.drawn ∙ ap (up_to m.spread) c.is_lost.ensures.next)
    (c.up_to-longer.ensures.next ∙ ap (λ (x : Chance). next x) c.is_lost.ensures.next)
    (is_heard seat.player c.args.bytes.now what c.meaning-meaning.ensures)
    (ap (λ (x : Heard). x.order) c.foresee-heard.ensures ∙ ordered_what what seat.player.device)
    (ap (λ (x : Heard). x.answer) c.foresee-heard.ensures ∙ answered_what what seat.player.device)
    (c.hear.ensures
    ∙ ap (λ (x : Seat). seat_heard c.args.now c.up_to-longer.result c.args.from (what_of what) x) same)
    c.order_line-line.ensures c.in_ok-give.ensures.given
    (ap (λ (x : Chance). settled (state_of m) c.args.at c.hear.new.self x) c.give.ensures.drawn)
