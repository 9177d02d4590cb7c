use Rattle.std.proofs.Common.{◌≡◌, ◌∙◌, None, Some, sym, refl, rules}
use Rattle.cue_relay.specs.Rates.{admits}
use Rattle.cue_relay.specs.Relayed.{way_and_message}
use Rattle.cue_relay_machine.specs.Places.{opening_at, relay_address}
use Rattle.cue_relay_machine.specs.Steps.{state_of}
use Rattle.cue_relay_machine.proofs.StepLemmas.{heard, settled, settled_parts}
use Rattle.cue_relay_machine.proofs.machine.RelayMachine.take.Goals as goal

pub returns-in_default-clause-taken : goal.returns-in_default-clause-taken
returns-in_default-clause-taken c =
    let s = state_of c.args.self.now in
    let raw : way_and_message s.relay c.opening_at-opening.result c.relay_address-from.result c.args.bytes.now ≡ None =
    sym c.way_and_message.ensures ∙ c.in_default.is in
    heard s c.args.now c.args.at c.args.from c.args.bytes.now _ _
    (rw (c.opening_at-opening.ensures, c.relay_address-from.ensures) at raw) c.requires
    (rw (c.opening_at-opening.ensures, c.relay_address-from.ensures) at c.hear.ensures)

pub returns-clause-taken : goal.returns-clause-taken
returns-clause-taken c =
    let s = state_of c.args.self.now in
    let raw : way_and_message s.relay c.opening_at-opening.result c.relay_address-from.result c.args.bytes.now
    ≡ Some c.in-Some.going = sym c.way_and_message.ensures ∙ c.in-Some.is in
    let admitted : admits s.meters (opening_at c.args.at) c.args.now ≡ c.admit-goes.result = search rules in
    settled s c.args.now c.args.at c.args.from c.args.bytes.now c.in-Some.going c.admit-goes.result
    c.as_str.result.now c.push_going.new.out _ _
    (rw (c.opening_at-opening.ensures, c.relay_address-from.ensures) at raw) admitted (search rules) (search rules)
    (settled_parts s _ c.args.now c.args.at c.args.bytes.now c.in-Some.going c.admit-goes.result refl refl
    (rw c.opening_at-opening.ensures at c.admit-goes.ensures.after)
    (rw c.opening_at-opening.ensures at c.settle_known.ensures)
    (rw c.opening_at-opening.ensures at c.settle_waiting.ensures) refl c.settled_books-self.ensures)
