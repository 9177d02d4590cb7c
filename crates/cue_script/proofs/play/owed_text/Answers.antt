use Rattle.std.specs.Prelude.{◌≡◌, ℕ, List, IfOk}
use Rattle.std.proofs.Common.{subst}
use Rattle.cue_engine.specs.Told.{told_by}
use Rattle.cue_engine.specs.Observed.{queue_of}
use Rattle.cue_script.specs.Script.{printed_lines}
use Rattle.cue_script.proofs.ScriptLemmas.{told_whole}
use Rattle.cue_script.proofs.play.owed_text.Goals as goal

pub returns-in-Some-clause-text : goal.returns-in-Some-clause-text
returns-in-Some-clause-text c =
    let P : List (ℕ × List ℕ) → Type 0 = λ queue. IfOk c.print_all.result (λ text. text.items ≡ printed_lines queue) in
    subst P (told_whole (queue_of c.args.engine.now) c.hand_out.result (told_by c.new-wire.result)
    (told_by c.hand_out.new.wire) c.in-Some.all.now c.new-wire.ensures.told c.hand_out.ensures.handed
    c.in-Some.ensures)
    c.print_all.ensures
