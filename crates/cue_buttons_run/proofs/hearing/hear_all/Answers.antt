use Rattle.std.proofs.Common.{ap, false, None}
use Rattle.std.specs.Prelude.{is_ok}
use Rattle.cue_buttons_run.proofs.StruckLemmas.{goes_struck}
use Rattle.cue_buttons_run.proofs.PlayingLemmas.{goes_from, goes_same}
use Rattle.cue_buttons_run.proofs.hearing.hear_all.Goals as goal

pub returns-in_err-say_keys-clause-struck : goal.returns-in_err-say_keys-clause-struck
returns-in_err-say_keys-clause-struck g c =
    goes_struck false None None c.args.console.now.panel.player c.say_keys.new.self.panel.player
    c.args.console.now.desk.station
    c.say_keys.new.self.desk.station c.args.console.now.desk.view c.say_keys.new.self.desk.view (goes_same false None
    c.args.console.now.panel.player c.say_keys.new.self.panel.player c.args.console.now.desk.station
    c.say_keys.new.self.desk.station
    c.args.console.now.desk.view c.say_keys.new.self.desk.view c.say_keys.ensures.player (ap (λ d. d.station)
    c.say_keys.ensures.desk) (ap (λ d. d.view) c.say_keys.ensures.desk))

pub returns-clause-struck : goal.returns-clause-struck
returns-clause-struck g c =
    goes_struck (is_ok c.hear_on.result) None None c.args.console.now.panel.player c.hear_on.new.console.panel.player
    c.args.console.now.desk.station c.hear_on.new.console.desk.station c.args.console.now.desk.view
    c.hear_on.new.console.desk.view (goes_from (is_ok c.hear_on.result) None None c.args.console.now.panel.player
    c.say_keys.new.self.panel.player c.hear_on.new.console.panel.player c.args.console.now.desk.station
    c.say_keys.new.self.desk.station c.hear_on.new.console.desk.station c.args.console.now.desk.view
    c.say_keys.new.self.desk.view c.hear_on.new.console.desk.view c.say_keys.ensures.player (ap (λ d. d.station)
    c.say_keys.ensures.desk) (ap (λ d. d.view) c.say_keys.ensures.desk) c.hear_on.ensures.goes)
