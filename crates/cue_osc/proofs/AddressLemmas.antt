-- Each message of a packet that is spelled has an address.
use Rattle.std.proofs.Common.{ℕ, zero, suc, List, [], ◌∷◌, ◌++◌}
use Rattle.std.specs.List.{AllByRecursion}
use Rattle.cue_osc.specs.Content.{Content, message, discarded, bundle, Contents, nothing, element}
use Rattle.cue_osc.specs.Spelling.{IsPacket, AreElements}
use Rattle.cue_osc.specs.Walking.{leaves, all_leaves, HasAddress}

all-append : (cs ds : List Content) → AllByRecursion HasAddress cs → AllByRecursion HasAddress ds
    → AllByRecursion HasAddress (cs ++ ds)
all-append [] ds h k = k
all-append (c ∷ cs) ds h k = (h.0, all-append cs ds h.1 k)

mutual
  pub packet_addresses : (d : ℕ) (bytes : List ℕ) (c : Content) → IsPacket d bytes c
      → AllByRecursion HasAddress (leaves c)
  packet_addresses d bytes (message a xs) h = (h.0, tt)
  packet_addresses d bytes (discarded a) h = (h.0, tt)
  packet_addresses zero bytes (bundle t cs) h = absurd h
  packet_addresses (suc d) bytes (bundle t cs) h = elements_addresses d h.1 cs h.3

  elements_addresses : (d : ℕ) (bytes : List ℕ) (cs : Contents) → AreElements d bytes cs
      → AllByRecursion HasAddress (all_leaves cs)
  elements_addresses d bytes nothing h = tt
  elements_addresses d bytes (element c cs) h = all-append (leaves c) (all_leaves cs) (packet_addresses d h.0 c h.4)
      (elements_addresses d h.1 cs h.5)
