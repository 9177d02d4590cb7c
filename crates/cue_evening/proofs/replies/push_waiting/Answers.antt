use Rattle.std.proofs.Common.{◌==◌, codes, length, sym, ◌∙◌}
use Rattle.cue_evening.specs.Names.{devices_text}
use Rattle.cue_evening.proofs.LogLemmas.{text_unless}
use Rattle.cue_evening.proofs.replies.push_waiting.Goals as goal

pub returns : goal.returns
returns c =
    text_unless (length c.args.devices.now == 0) c.args.more.now.items (codes "waiting for ") (devices_text c.args.devices.now) _
    c.push_devices.new.text.items (sym c.is_empty.ensures ∙ c.if-is_empty.false) c.in_ok-extend_from_slice.ensures.items
    c.in_ok-push_devices.ensures
