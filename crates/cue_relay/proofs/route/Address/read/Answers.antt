use Rattle.std.proofs.Common.{sym, ◌∙◌}
use Rattle.cue_relay.proofs.AddressLemmas.{names-none, names-text, socket_of, text-names}
use Rattle.cue_relay.proofs.route.Address.read.Goals as goal

pub returns-in_default-clause-none : goal.returns-in_default-clause-none
returns-in_default-clause-none c = λ a fits fit n.
    c.in_default.ensures.none (socket_of a) (names-text c.args.text.now a n)

pub returns-then-is_fit-clause-found : goal.returns-then-is_fit-clause-found
returns-then-is_fit-clause-found c =
    text-names c.args.text.now c.in-Some.socket c.of_socket-address.result c.of_socket-address.ensures.host
    c.of_socket-address.ensures.port c.in-Some.ensures.found

pub returns-else-is_fit-clause-none : goal.returns-else-is_fit-clause-none
returns-else-is_fit-clause-none c = λ a fits fit n.
    names-none c.args.text.now c.in-Some.socket c.of_socket-address.result a c.of_socket-address.ensures.host
    c.of_socket-address.ensures.port c.in-Some.ensures.found (sym c.is_fit.ensures ∙ c.if-is_fit.false) fits.host fit n
