use Rattle.std.proofs.Common.{None, Some, ap, sym, ◌∙◌}
use Rattle.std.specs.Option.{option_to_list}
use Rattle.cue_operator.proofs.FindingLemmas.{device_not_named, device_not_there, device_found}
use Rattle.cue_operator.proofs.lookup.device_method.Goals as goal

pub returns-in_err-device : goal.returns-in_err-device
returns-in_err-device c = ap option_to_list c.from_residual.ensures
    ∙ device_not_named c.args.show.now c.args.name.now c.args.verb.now c.requires (sym c.device_named.ensures
    ∙ c.in_err-device.was)

pub returns-then-not-has_device : goal.returns-then-not-has_device
returns-then-not-has_device c = device_not_there c.args.show.now c.args.name.now c.args.verb.now c.in_ok-device.device
    c.requires (sym c.device_named.ensures ∙ c.in_ok-device.was) (sym c.has_device.ensures ∙ c.if-not-has_device.true)

pub returns-in_err-verb : goal.returns-in_err-verb
returns-in_err-verb c =
    ap option_to_list c.from_residual-in_err-verb.ensures
    ∙ device_found c.args.show.now c.args.name.now c.args.verb.now c.in_ok-device.device None c.requires
    (sym c.device_named.ensures ∙ c.in_ok-device.was) (sym c.has_device.ensures ∙ c.if-not-has_device.false)
    (sym c.in_err-verb.was ∙ c.of.ensures)

pub returns : goal.returns
returns c = device_found c.args.show.now c.args.name.now c.args.verb.now c.in_ok-device.device (Some c.in_ok-verb.verb)
    c.requires (sym c.device_named.ensures ∙ c.in_ok-device.was) (sym c.has_device.ensures ∙ c.if-not-has_device.false)
    (sym c.in_ok-verb.was ∙ c.of.ensures)
