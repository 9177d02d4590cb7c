-- How many messages a datagram can hold.
use Rattle.std.proofs.Common.{ℕ, zero, suc, ◌<◌, ◌≤◌, List, ◌++◌, length, ap, arith, length-append}
use Rattle.std.specs.Int.{w32, w64, to_be_bytes}
use Rattle.cue_osc.specs.Content.{Content, message, discarded, bundle, Contents, nothing, element}
use Rattle.cue_osc.specs.Spelling.{IsPacket, AreElements, Spells, bundle_head}
use Rattle.cue_osc.specs.Walking.{leaves, all_leaves}

mutual
  leaves-fit : (d : ℕ) (c : Content) (bytes : List ℕ) → 0 < length bytes → IsPacket d bytes c
      → length (leaves c) ≤ length bytes
  leaves-fit d (message a xs) bytes h p = omega arith
  leaves-fit d (discarded a) bytes h p = omega arith
  leaves-fit zero (bundle t cs) bytes h p = absurd p
  leaves-fit (suc d) (bundle t cs) bytes h p =
      omega (
        arith,
        all-fit d cs p.1 p.3,
        ap length p.2,
        length-append bundle_head (to_be_bytes w64 t ++ p.1),
        length-append (to_be_bytes w64 t) p.1,
      )

  -- each element has bytes of its own
  all-fit : (d : ℕ) (cs : Contents) (bytes : List ℕ) → AreElements d bytes cs → length (all_leaves cs) ≤ length bytes
  all-fit d nothing bytes p = omega arith
  all-fit d (element c cs) bytes p =
      omega (
        arith,
        leaves-fit d c p.0 p.2.0 p.4,
        all-fit d cs p.1 p.5,
        ap length p.3,
        length-append
            (to_be_bytes w32 (length p.0)) (p.0 ++ p.1),
        length-append p.0 p.1,
        length-append (leaves c) (all_leaves cs),
      )

-- at most one for each byte
pub few_messages : (bytes : List ℕ) (c : Content) → Spells bytes c → length (leaves c) ≤ 4096
few_messages bytes (message a xs) s = omega arith
few_messages bytes (discarded a) s = omega arith
few_messages bytes (bundle t cs) s = let p = s.2 in
    omega (
      arith,
      all-fit 7 cs p.1 p.3,
      ap length p.2,
      length-append bundle_head (to_be_bytes w64 t ++ p.1),
      length-append (to_be_bytes w64 t) p.1,
      s.0,
    )
