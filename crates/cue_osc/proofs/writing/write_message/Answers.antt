use Rattle.std.proofs.Common.{◌≡◌, length, map, sym, subst}
use Rattle.cue_osc.specs.Argument.{arg_view}
use Rattle.cue_osc.specs.Content.{message}
use Rattle.cue_osc.specs.Spelling.{Spells, message_text}
use Rattle.cue_osc.proofs.PacketLemmas.{datagram_again}
use Rattle.cue_osc.proofs.RoomLemmas.{room-some}
use Rattle.cue_osc.proofs.WrittenLemmas.{text_spells}
use Rattle.cue_osc.proofs.writing.write_message.Goals as goal
use Rattle.cue_osc.specs.declared.limits.TheConstants.{MAX_LEN}

pub returns-clause-spells : goal.returns-clause-spells
returns-clause-spells c =
    let asked = map arg_view c.args.args.now in
    let content = message c.args.address.now asked in
    let text = message_text c.args.address.now asked in
    let short = room-some MAX_LEN (length text) c.in-Some.left c.in-Some.ensures in
    let written : c.put_message.new.out.items ≡ text = rw c.in_ok-out.ensures.items at c.in_ok-put_message.ensures.ok in
    subst (λ bs. Spells bs content) (sym written)
    (text_spells content c.requires c.in_ok-put_message.ensures.in_range short)

pub returns-clause-again : goal.returns-clause-again
returns-clause-again c = datagram_again c.put_message.new.out.items
    (message c.args.address.now (map arg_view c.args.args.now)) (returns-clause-spells c)
