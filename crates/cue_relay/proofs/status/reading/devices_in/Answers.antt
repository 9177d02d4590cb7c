use Rattle.std.proofs.Common.{◌≡◌, ◌∙◌, ◌+◌, ◌-◌, List, [], ◌∷◌, ◌++◌, length, Some, None, ap, sym, arith, rules, append_assoc, append-nil}
use Rattle.std.specs.Option.{option_map}
use Rattle.cue_relay.proofs.LoopLemmas.{devices-step, devices-stop}
use Rattle.cue_relay.specs.Reading.{devices_at, seen_at}
use Rattle.cue_relay.specs.declared.status.Seen.{Seen}
use Rattle.cue_relay.proofs.status.reading.devices_in.Goals as goal

pub returns-in_default : goal.returns-in_default
returns-in_default c =
    let found : seen_at c.loop.rest.now ≡ None =
    sym c.seen_in.ensures ∙ ap (option_map (λ x. (x.0, x.1.now))) c.in_default.is in
    sym (c.loop.invariant
    ∙ ap (λ (xs : List Seen). c.loop.devices.items ++ xs)
    (devices-stop (length c.args.text.now) c.loop.counter c.loop.rest.now (omega (arith, c.loop-test.true)) found)
    ∙ append-nil c.loop.devices.items)

pub loop-preserved : goal.loop-preserved
loop-preserved c =
    let found : seen_at c.loop.rest.now ≡ Some (c.in-Some.seen, c.in-Some.more.now) =
    sym c.seen_in.ensures ∙ ap (option_map (λ x. (x.0, x.1.now))) c.in-Some.is in
    let left : List Seen = devices_at (length c.args.text.now - (c.loop.counter + 1)) c.in-Some.more.now in
    let all : devices_at (length c.args.text.now) c.args.text.now
    ≡ (c.loop.devices.items ++ c.in-Some.seen ∷ []) ++ left =
    c.loop.invariant
    ∙ ap (λ (xs : List Seen). c.loop.devices.items ++ xs)
    (devices-step (length c.args.text.now) c.loop.counter c.loop.rest.now c.in-Some.more.now c.in-Some.seen
    (omega (arith, c.loop-test.true)) found)
    ∙ sym (append_assoc c.loop.devices.items (c.in-Some.seen ∷ []) left) in
    search (rules, all)
