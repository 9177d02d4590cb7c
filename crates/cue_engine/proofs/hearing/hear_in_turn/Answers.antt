use Rattle.std.proofs.Common.{List, length, ap, arith}
use Rattle.cue_core.specs.declared.event.Event.{Event}
use Rattle.cue_osc.specs.Content.{view}
use Rattle.cue_osc.specs.Walking.{leaves}
use Rattle.cue_records.specs.Batch.{batch_text}
use Rattle.cue_engine.specs.Heard.{hear_all}
use Rattle.cue_engine.proofs.GivenLemmas.{over_commands, over_batch, heard_all}
use Rattle.cue_engine.proofs.hearing.hear_in_turn.Goals as goal

pub returns-in-TooMany : goal.returns-in-TooMany
returns-in-TooMany c =
    over_commands (hear_all c.args.draft.now c.args.now c.args.from (leaves (view c.args.packet.now)))
    c.new-heard.result.commands c.new-heard.ensures.commands (rw c.in-TooMany.is at c.in_ok-hear_packet.ensures)

pub returns-then-batch_len-gt-MAX_BATCH : goal.returns-then-batch_len-gt-MAX_BATCH
returns-then-batch_len-gt-MAX_BATCH c =
    over_batch c.new-heard.ensures (rw c.in-On.is at c.in_ok-hear_packet.ensures)
    (omega (arith, ap (λ (es : List Event). length (batch_text es)) c.deref.ensures.value))

pub returns-else-batch_len-gt-MAX_BATCH : goal.returns-else-batch_len-gt-MAX_BATCH
returns-else-batch_len-gt-MAX_BATCH c =
    heard_all c.new-heard.ensures (rw c.in-On.is at c.in_ok-hear_packet.ensures)
    (omega (arith, ap (λ (es : List Event). length (batch_text es)) c.deref.ensures.value))
