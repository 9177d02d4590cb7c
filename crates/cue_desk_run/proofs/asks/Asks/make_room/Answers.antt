use Rattle.cue_ask_machine.specs.Letters as letter
use Rattle.cue_desk_run.proofs.AskLemmas.{room_closed, room_unfound}
use Rattle.cue_desk_run.proofs.asks.Asks.make_room.Goals as goal

-- src/asks.rt
pub returns-in-Some-clause-room : goal.returns-in-Some-clause-room
returns-in-Some-clause-room c =
    room_closed (letter.is_status c.args.order) c.is_status-is_status.result c.args.self.now.awaited.items
    c.deref.result.now c.deref-2.result.now c.close.new.self.awaited.items c.count_of.result c.most_of.result
    c.in-Some.place c.oldest_of.result c.is_status-is_status.ensures c.deref.ensures.value c.deref-2.ensures.value
    c.count_of.ensures c.most_of.ensures c.if-count_of-most_of.false c.oldest_of.ensures c.in-Some.is
    c.close.ensures.closed

pub returns-in_default-clause-room : goal.returns-in_default-clause-room
returns-in_default-clause-room c =
    room_unfound (letter.is_status c.args.order) c.is_status-is_status.result c.args.self.now.awaited.items
    c.deref.result.now c.deref-2.result.now c.count_of.result c.most_of.result c.oldest_of.result
    c.is_status-is_status.ensures c.deref.ensures.value c.deref-2.ensures.value c.count_of.ensures c.most_of.ensures
    c.if-count_of-most_of.false c.oldest_of.ensures c.in_default.is
