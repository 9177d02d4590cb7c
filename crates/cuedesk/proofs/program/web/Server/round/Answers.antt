use Rattle.cue_web.proofs.ServeLemmas.{asked_then}
use Rattle.cuedesk.proofs.program.web.Server.round.Goals as goal

pub returns-in_err-is_waited_for : goal.returns-in_err-is_waited_for
returns-in_err-is_waited_for g c =
    asked_then c.args.self.now.pages.identity c.wake.new.self.pages.identity c.hear.new.self.pages.identity
    c.args.self.now.pages.guard c.wake.new.self.pages.guard c.hear.new.self.pages.guard
    c.args.self.now.desk.station c.wake.new.self.desk.station c.hear.new.self.desk.station c.wake.ensures c.hear.ensures

pub returns-in_err-look : goal.returns-in_err-look
returns-in_err-look g c =
    asked_then c.args.self.now.pages.identity c.wake.new.self.pages.identity c.look.new.self.pages.identity
    c.args.self.now.pages.guard c.wake.new.self.pages.guard c.look.new.self.pages.guard
    c.args.self.now.desk.station c.wake.new.self.desk.station c.look.new.self.desk.station c.wake.ensures
    (asked_then c.wake.new.self.pages.identity c.hear.new.self.pages.identity c.look.new.self.pages.identity
    c.wake.new.self.pages.guard c.hear.new.self.pages.guard c.look.new.self.pages.guard
    c.wake.new.self.desk.station c.hear.new.self.desk.station c.look.new.self.desk.station c.hear.ensures c.look.ensures)

pub returns : goal.returns
returns g c =
    asked_then c.args.self.now.pages.identity c.wake.new.self.pages.identity c.look.new.self.pages.identity
    c.args.self.now.pages.guard c.wake.new.self.pages.guard c.look.new.self.pages.guard
    c.args.self.now.desk.station c.wake.new.self.desk.station c.look.new.self.desk.station c.wake.ensures
    (asked_then c.wake.new.self.pages.identity c.hear.new.self.pages.identity c.look.new.self.pages.identity
    c.wake.new.self.pages.guard c.hear.new.self.pages.guard c.look.new.self.pages.guard
    c.wake.new.self.desk.station c.hear.new.self.desk.station c.look.new.self.desk.station c.hear.ensures c.look.ensures)
