use Rattle.std.proofs.Common.{◌∙◌, rules, sym}
use Rattle.cue_load_words.proofs.LookLemmas.{found_in}
use Rattle.cue_load_words.proofs.looking.look_at.Goals as goal

pub returns-in-Some : goal.returns-in-Some
returns-in-Some c =
    let found = found_in c.args.status c.args.state.now c.in-Some.show (sym c.in-Some.is ∙ c.in_ok-show.ensures) in
    record { agrees = found.0; show = found.1; live = search rules }
