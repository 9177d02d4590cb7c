-- A few bytes in their places.
use Rattle.std.proofs.Common.{◌≡◌, ◌≤◌, ℕ, List, ◌++◌, length, drop, replicate, sym, ap, ◌∙◌}
use Rattle.std.proofs.Math.Seq.{take-append_seam}
use Rattle.std.proofs.lemmas.List.{drop-replicate}
use Rattle.cue_show.specs.Padded.{kept_in, padded, IsPadded}

-- bytes written over zeros lie in the places with zeros after them
pub IsPadded-copied : (n : ℕ) (bytes : List ℕ) → length bytes ≤ n
    → IsPadded n (bytes ++ drop (length bytes) (replicate n 0)) (length bytes)
IsPadded-copied n bytes short =
    let back : kept_in (bytes ++ drop (length bytes) (replicate n 0)) (length bytes) ≡ bytes =
    take-append_seam bytes (drop (length bytes) (replicate n 0)) in
    record {
      short = short;
      whole = ap length back;
      zeros = ap (padded n) back ∙ ap (λ zeros. bytes ++ zeros) (sym (drop-replicate (length bytes) n 0));
    }
