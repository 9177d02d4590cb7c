use Rattle.std.proofs.Common.{List, [], ◌∷◌, ◌++◌, Result, Ok, map, ap, sym, ◌∙◌}
use Rattle.cue_core.specs.declared.command.Code.{Code}
use Rattle.cue_core.specs.declared.command.Command.{Command}
use Rattle.cue_osc.specs.Argument.{Argument}
use Rattle.std.specs.Option.{option_to_list}
use Rattle.cue_operator.specs.declared.method.Method.{Method}
use Rattle.cue_operator.specs.Arguments.{command_by}
use Rattle.cue_operator.specs.Commands.{unless_none}
use Rattle.cue_operator.proofs.FindingLemmas.{no-address, literal-asks}
use Rattle.cue_operator.proofs.message.commands_at_literal.Goals as goal

pub returns-then-not-is_address : goal.returns-then-not-is_address
returns-then-not-is_address c = no-address c.args.show.now c.args.asked.now.address.now c.args.asked.now.args
    (sym c.is_address.ensures ∙ c.if-not-is_address.true)

pub returns-in_default : goal.returns-in_default
returns-in_default c =
    literal-asks c.args.show.now c.args.asked.now.address.now c.args.asked.now.args c.requires.show c.requires.literal
    (sym c.is_address.ensures ∙ c.if-not-is_address.false)
    ∙ ap (λ (ms : List Method). unless_none (map (command_by c.args.asked.now.args) ms)) (sym c.look_up.ensures
    ∙ ap option_to_list c.in_default.is)

pub returns : goal.returns
returns c =
    let ok : List Command → Result (List Command) Code = λ cs. Ok cs in
    literal-asks c.args.show.now c.args.asked.now.address.now c.args.asked.now.args c.requires.show c.requires.literal
    (sym c.is_address.ensures ∙ c.if-not-is_address.false)
    ∙ (ap (λ (ms : List Method). unless_none (map (command_by c.args.asked.now.args) ms)) (sym c.look_up.ensures
    ∙ ap option_to_list c.in-Some.is)
    ∙ ap ok (sym (c.in_ok-push.ensures.items
    ∙ (ap (λ (cs : List Command). cs ++ (c.in_ok-asks.asks ∷ [])) c.in_ok-found.ensures.items
    ∙ ap (λ (a : Command). a ∷ []) (c.in_ok-asks.ensures
    ∙ ap (λ (xs : List Argument). command_by xs c.in-Some.method) c.as_slice.ensures)))))
