use Rattle.cue_panel.proofs.PanelLemmas.{says_each_if}
use Rattle.cue_panel.proofs.lines.Lines.say_each.Goals as goal

pub returns : goal.returns
returns c =
    says_each_if c.say-4.result c.args.view.now c.args.looked.now c.args.self.now c.say.new.self c.say-2.new.self
    c.say-3.new.self c.say-4.new.self c.in_ok-say.ensures c.in_ok-say-2.ensures c.in_ok-say-3.ensures c.say-4.ensures
