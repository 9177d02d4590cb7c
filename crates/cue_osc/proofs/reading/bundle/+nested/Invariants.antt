use Rattle.std.proofs.Common.{◌≡◌, map, length, ◌+◌, ◌*◌}
use Rattle.cue_osc.specs.Content.{view}
use Rattle.cue_osc.specs.Reading.{elements_by, packet_at}
use Rattle.cue_osc.proofs.LoopLemmas.{with_elements}
use Rattle.cue_osc.proofs.reading.bundle.+nested.Given as goal

abbrev pub decreases-bundle : goal.decreases-bundle
decreases-bundle l = 3 * l.depth + 2

abbrev pub decreases-elements : goal.decreases-elements
decreases-elements l = 3 * l.depth + 1

abbrev pub decreases-packet : goal.decreases-packet
decreases-packet l = 3 * l.depth

abbrev pub invariant-elements-loop-rest : goal.invariant-elements-loop-rest
invariant-elements-loop-rest l =
    with_elements (map view l.items.items) (elements_by (packet_at l.depth) (length l.rest) l.rest) ≡ elements_by
    (packet_at l.depth) (length l.bytes) l.bytes

abbrev pub decreases-elements-loop-rest : goal.decreases-elements-loop-rest
decreases-elements-loop-rest l = length l.rest
