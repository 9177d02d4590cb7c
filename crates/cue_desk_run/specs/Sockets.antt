-- Where the sockets of the desk are.
use Rattle.std.specs.Prelude.{◌≡◌, [], ◌∷◌}
use Rattle.std.specs.Net.Addr.{ipv4_octets}
use Rattle.std.specs.declared.net.ip_addr.IpAddr.{IpAddr}
use Rattle.std.specs.declared.net.ip_addr.IpAddr.TheVariants as ip

-- the address is 127.0.0.1
abbrev pub IsHome : IpAddr → Type 0
IsHome (ip.V4 a) = ipv4_octets a ≡ 127 ∷ 0 ∷ 0 ∷ 1 ∷ []
IsHome (ip.V6 a) = ⊥
