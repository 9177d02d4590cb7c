-- An address as text.
use Rattle.std.specs.Prelude.{ℕ, List, ◌++◌, codes, decimal}
use Rattle.std.specs.Int.{w32, to_be_bytes}
use Rattle.std.specs.Net.Text.{ipv4_text}
use Rattle.cue_machine.specs.declared.address.Address.{Address}

-- four octets and the port, as 10.0.7.31:9001
abbrev pub address_text : Address → List ℕ
address_text a = ipv4_text (to_be_bytes w32 a.host) ++ (codes ":" ++ decimal a.port)
