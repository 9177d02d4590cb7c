-- Each part of a cue is one.
use Rattle.std.proofs.Common.{◌&&◌, List, length, nat_le, IsTrue}
use Rattle.std.specs.List.{list_all}
use Rattle.std.proofs.lemmas.Bool.{and_parts}
use Rattle.cue_show.specs.declared.part.Part.{Part}
use Rattle.cue_show.specs.declared.limits.TheConstants.{MAX_PARTS}
use Rattle.cue_show.specs.Devices.{distinct, devices_in}
use Rattle.cue_show.specs.Parts.{is_part, are_parts, has_required_part}

pub are_parts-each : (ps : List Part) → IsTrue (are_parts ps) → IsTrue (list_all is_part ps)
are_parts-each ps h =
    let some = and_parts (has_required_part ps)
    (nat_le (length ps) MAX_PARTS && (distinct (devices_in ps) && list_all is_part ps)) h in
    let few = and_parts (nat_le (length ps) MAX_PARTS) (distinct (devices_in ps) && list_all is_part ps) some.1 in
    (and_parts (distinct (devices_in ps)) (list_all is_part ps) few.1).1
