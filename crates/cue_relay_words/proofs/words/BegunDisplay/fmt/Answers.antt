use Rattle.std.proofs.Common.{◌≡◌, ℕ}
use Rattle.std.specs.Int.{w32, to_be_bytes}
use Rattle.std.specs.Net.Addr.{IsIpv4OfBits, ipv4_octets}
use Rattle.std.specs.declared.net.ipv4_addr.Ipv4Addr.{Ipv4Addr}
use Rattle.cue_relay_words.proofs.words.BegunDisplay.fmt.Goals as goal

octets : (a : Ipv4Addr) (bits : ℕ) → IsIpv4OfBits a bits → ipv4_octets a ≡ to_be_bytes w32 bits
unfolding IsIpv4OfBits
octets a bits h = h

pub returns-clause-writes : goal.returns-clause-writes
returns-clause-writes g c p ok =
    rw (
      octets c.from_bits-stage.result c.args.self.now.stage c.from_bits-stage.ensures,
      c.plural-end.ensures,
    ) at (c.write.ensures.writes p ok)
