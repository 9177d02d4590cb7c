-- Bytes that are written over zeros have the zeros that are left after them.
use Rattle.std.proofs.Common.{◌≡◌, ℕ, ◌-◌, List, ◌++◌, length, drop, replicate, ap}
use Rattle.std.proofs.lemmas.List.{drop-replicate}
use Rattle.cue_show.specs.declared.limits.TheConstants.{MAX_PART_BYTES}

-- the bytes of a part, written over zeros
pub over_zeros : (bytes : List ℕ) → bytes ++ drop (length bytes) (replicate MAX_PART_BYTES 0) ≡ bytes ++ replicate
    (MAX_PART_BYTES - length bytes) 0
over_zeros bytes = ap (λ zeros. bytes ++ zeros) (drop-replicate (length bytes) MAX_PART_BYTES 0)
