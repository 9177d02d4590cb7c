-- What ears and post in memory show.
use Rattle.std.specs.Prelude.{ℕ, List, map, Option, Some, None, if◌then◌else◌}
use Rattle.cue_machine.specs.declared.mem.MemAnswer.{MemAnswer}
use Rattle.cue_machine.specs.declared.mem.MemAnswer.TheVariants as mem
use Rattle.cue_machine.specs.declared.mem.MemEars.{MemEars}
use Rattle.cue_machine.specs.declared.mem.MemPost.{MemPost}
use Rattle.cue_machine.specs.declared.mem.MemTold.{MemTold}
use Rattle.cue_machine.specs.declared.mem.Sent.{Sent}
use Rattle.cue_machine.specs.Hearing.{Answer, Told, comes, ends, fails, heard_as}
use Rattle.cue_machine.specs.Posting.{Posted, posted_as}

-- an answer as contracts of ears see it
abbrev pub answer_view : MemAnswer → Answer
answer_view (mem.Comes now input bytes) = comes (heard_as now input bytes.items)
answer_view mem.End = ends
answer_view mem.Fault = fails

abbrev pub told_view : MemTold → Told
told_view t = record { until = t.until; answer = answer_view t.answer }

-- all that was told, if it is shown
abbrev pub told_by : MemEars → Option (List Told)
told_by ears = if ears.shows then Some (map told_view ears.told.items) else None

abbrev pub posted_view : Sent → Posted
posted_view s = posted_as s.output s.bytes.items s.lost

-- all that went out, if it is shown
abbrev pub posted_by : MemPost → Option (List Posted)
posted_by post = if post.shows then Some (map posted_view post.sent.items) else None

-- the output that is lost, counted from the next one; 0 for none
abbrev pub loses_in : MemPost → ℕ
loses_in post = post.lose_in
