-- Which text names which address.
use Rattle.std.specs.Prelude.{◌≡◌, ℕ, List, ◌++◌}
use Rattle.std.specs.Int.{w32, to_be_bytes}
use Rattle.std.specs.Net.Grammar.{IsDotted, IsPortText}
use Rattle.cue_relay.specs.declared.route.Address.{Address}

-- four numbers with dots between them, a colon, and the port, which may have leading zeros
pub record Names (text : List ℕ) (a : Address) : Type 0 where
  pub host : List ℕ
  pub port : List ℕ
  pub spelled : text ≡ host ++ port
  pub is_host : IsDotted host (to_be_bytes w32 a.host)
  pub is_port : IsPortText port a.port
