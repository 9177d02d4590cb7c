use Rattle.std.proofs.Common.{◌≡◌, ◌∙◌, ◌+◌, ◌-◌, [], ◌∷◌, ◌++◌, Some, None, ap, sym, arith, rules}
use Rattle.std.specs.Option.{option_map}
use Rattle.cue_kept.proofs.LoopLemmas.{onto, onto_step, onto_stop}
use Rattle.cue_kept.specs.Reading.{device_at, items_at}
use Rattle.cue_kept.proofs.reading.each_device_in.Goals as goal

pub returns-in_default : goal.returns-in_default
returns-in_default c =
    let found : device_at c.loop.rest.now ≡ None =
    sym c.device_in.ensures ∙ ap (option_map (λ x. (x.0, x.1.now))) c.in_default.is in
    sym (c.loop.invariant ∙ onto_stop device_at c.args.count c.loop.counter c.loop.devices.items c.loop.rest.now
    (omega (arith, c.loop-test.true)) found)

pub loop-preserved : goal.loop-preserved
loop-preserved c =
    let found : device_at c.loop.rest.now ≡ Some (c.in-Some.device, c.in-Some.more.now) =
    sym c.device_in.ensures ∙ ap (option_map (λ x. (x.0, x.1.now))) c.in-Some.is in
    let grown : c.loop.devices.items ++ c.in-Some.device ∷ [] ≡ c.push.new.self.items = search rules in
    let all : items_at device_at c.args.count c.args.text.now
    ≡ onto c.push.new.self.items (items_at device_at (c.args.count - (c.loop.counter + 1)) c.in-Some.more.now) =
    c.loop.invariant
    ∙ onto_step device_at c.args.count c.loop.counter c.loop.devices.items c.loop.rest.now
    c.in-Some.more.now c.in-Some.device
    (omega (arith, c.loop-test.true)) found
    ∙ ap (λ xs. onto xs (items_at device_at (c.args.count - (c.loop.counter + 1)) c.in-Some.more.now)) grown in
    search (rules, all)
