use Rattle.std.proofs.Common.{◌∙◌, ℕ, sym}
use Rattle.cue_device.specs.declared.hearing.Told.TheVariants.{Prepared}
use Rattle.cue_device_c.specs.declared.codes.TheConstants.{PREPARE}
use Rattle.cue_device_c.proofs.ReportLemmas.{ends, reports}
use Rattle.cue_device_c.proofs.exports.cue_device_prepared.Goals as goal

pub returns-in-Ok : goal.returns-in-Ok
returns-in-Ok c =
    ends PREPARE (λ (x : ℕ). Prepared x) c.args.device.now c.of-in-Ok.result c.of.result 0 c.if-device-ne-PREPARE.false
    (reports (λ (x : ℕ). Prepared x) c.args.device.now c.of-in-Ok.result c.of.result c.in-Some.state c.prepared.new.self
    c.in-Ok.said (sym c.read.ensures ∙ c.in-Some.is) (sym c.prepared.ensures.said ∙ c.in-Ok.is) c.prepared.ensures.state
    c.of-in-Ok.ensures c.of.ensures.bytes c.of.ensures.to)
