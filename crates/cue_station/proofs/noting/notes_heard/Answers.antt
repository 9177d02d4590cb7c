use Rattle.std.proofs.Common.{ap, ◌∙◌}
use Rattle.cue_station.specs.Noting.{with_answer, with_choice, with_presses}
use Rattle.cue_station.proofs.noting.notes_heard.Goals as goal

-- src/noting.rt
pub returns : goal.returns
returns c =
    let n = c.args.notes.now in
    let h = c.args.heard.now in
    let at = c.args.at in
    let r = c.args.reading.now in
    c.with_choice.ensures
    ∙ ap (with_choice h at r c.args.views.now)
    (c.with_presses-second.ensures
    ∙ ap (with_presses h at r)
    (c.with_answer-first.ensures ∙ ap (λ a. with_answer h at r a n) c.answered_with-answered.ensures))
