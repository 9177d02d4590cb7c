use Rattle.std.proofs.Common.{◌∙◌, ℕ, sym}
use Rattle.cue_device.specs.declared.hearing.Told.TheVariants.{GaveUp}
use Rattle.cue_device_c.specs.declared.codes.TheConstants.{GIVE_UP}
use Rattle.cue_device_c.proofs.ReportLemmas.{ends, reports}
use Rattle.cue_device_c.proofs.exports.cue_device_gave_up.Goals as goal

pub returns-in-Ok : goal.returns-in-Ok
returns-in-Ok c =
    ends GIVE_UP (λ (x : ℕ). GaveUp x) c.args.device.now c.of-in-Ok.result c.of.result 0 c.if-device-ne-GIVE_UP.false
    (reports (λ (x : ℕ). GaveUp x) c.args.device.now c.of-in-Ok.result c.of.result c.in-Some.state c.gave_up.new.self
    c.in-Ok.said (sym c.read.ensures ∙ c.in-Some.is) (sym c.gave_up.ensures.said ∙ c.in-Ok.is) c.gave_up.ensures.state
    c.of-in-Ok.ensures c.of.ensures.bytes c.of.ensures.to)
