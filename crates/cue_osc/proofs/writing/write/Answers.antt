use Rattle.std.proofs.Common.{◌≡◌, length, sym, subst}
use Rattle.cue_osc.specs.Content.{view}
use Rattle.cue_osc.specs.Spelling.{Spells}
use Rattle.cue_osc.specs.Writing.{text_of}
use Rattle.cue_osc.proofs.PacketLemmas.{datagram_again}
use Rattle.cue_osc.proofs.RoomLemmas.{room-some}
use Rattle.cue_osc.proofs.WrittenLemmas.{text_spells}
use Rattle.cue_osc.proofs.writing.write.Goals as goal
use Rattle.cue_osc.specs.declared.limits.TheConstants.{MAX_LEN}

pub returns-clause-spells : goal.returns-clause-spells
returns-clause-spells c =
    let content = view c.args.packet.now in
    let short = room-some MAX_LEN (length (text_of content)) c.in-Some.left c.in-Some.ensures in
    let written : c.put.new.out.items ≡ text_of content = rw c.in_ok-out.ensures.items at c.in_ok-put.ensures.ok in
    subst (λ bs. Spells bs content) (sym written) (text_spells content c.requires c.in_ok-put.ensures.in_range short)

pub returns-clause-again : goal.returns-clause-again
returns-clause-again c = datagram_again c.put.new.out.items (view c.args.packet.now) (returns-clause-spells c)
