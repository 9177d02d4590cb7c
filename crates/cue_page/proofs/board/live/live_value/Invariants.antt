use Rattle.std.proofs.Common.{◌≡◌, map, take}
use Rattle.serde_json.specs.View.{view}
use Rattle.cue_page.specs.Live.{attempt_data}
use Rattle.cue_page.proofs.board.live.live_value.Given as goal

-- those so far were put there
abbrev pub invariant-loop-attempt : goal.invariant-loop-attempt
invariant-loop-attempt l = map view l.attempts.items ≡ map (attempt_data l.shown) (take l.attempt-index l.live)
