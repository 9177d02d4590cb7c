use Rattle.std.proofs.Common.{◌≡◌, ◌∙◌, map, Ok}
use Rattle.cue_osc.specs.Argument.{arg_view}
use Rattle.cue_osc.specs.Content.{message}
use Rattle.cue_osc.specs.Reading.{datagram_at}
use Rattle.cue_desk.specs.Asks.{AsksFor, command_of}
use Rattle.cue_desk.specs.Loading.{message_of}
use Rattle.cue_desk.proofs.AskLemmas.{asks-for, ok-weaker, says}
use Rattle.cue_desk.proofs.asking.datagram.Goals as goal

pub returns-clause-asks : goal.returns-clause-asks
returns-clause-asks c =
    ok-weaker c.message.result
    (λ bytes. datagram_at bytes.items ≡ Ok (message c.deref.result.now (map arg_view c.in_ok-args.args.items)))
    (λ bytes. AsksFor bytes.items (command_of c.args.asked.now))
    (λ bytes read. asks-for c.args.asked.now c.requires bytes.items c.deref.result.now
    (map arg_view c.in_ok-args.args.items) (c.deref.ensures.value ∙ c.in_ok-address.ensures) c.in_ok-args.ensures
    read)
    c.message.ensures.message

pub returns-clause-message : goal.returns-clause-message
returns-clause-message c =
    ok-weaker c.message.result
    (λ bytes. datagram_at bytes.items ≡ Ok (message c.deref.result.now (map arg_view c.in_ok-args.args.items)))
    (λ bytes. datagram_at bytes.items ≡ Ok (message_of c.args.asked.now))
    (λ bytes read. says c.args.asked.now bytes.items c.deref.result.now (map arg_view c.in_ok-args.args.items)
    (c.deref.ensures.value ∙ c.in_ok-address.ensures) c.in_ok-args.ensures read)
    c.message.ensures.message
