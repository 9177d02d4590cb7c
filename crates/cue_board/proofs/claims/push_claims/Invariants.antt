use Rattle.std.proofs.Common.{◌≡◌, ◌++◌, map, take, string_bytes}
use Rattle.std.specs.List.{flat_map}
use Rattle.cue_board.specs.Claims.{claim_texts}
use Rattle.cue_board.proofs.claims.push_claims.Given as goal

-- what the devices so far told was put there
abbrev pub invariant-loop-contact : goal.invariant-loop-contact
invariant-loop-contact l =
    map string_bytes l.texts.items
    ≡ map string_bytes l.fn.texts.items ++ flat_map (claim_texts l.kind) (take l.contact-index l.network)
