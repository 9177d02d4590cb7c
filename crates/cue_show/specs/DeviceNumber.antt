-- Which device numbers and ports there are.
use Rattle.std.specs.Prelude.{ℕ, ℤ, pos, negsuc, Bool, ◌&&◌, if◌then◌else◌, Option, None, Some, nat_le}
use Rattle.cue_show.specs.declared.limits.TheConstants.{MAX_DEVICE_NUMBER, MAX_PORT}

-- a device number is 0 to 111
abbrev pub is_device : ℕ → Bool
is_device d = nat_le d MAX_DEVICE_NUMBER

-- a port is 1 to 65,535
abbrev pub is_port : ℕ → Bool
is_port port = nat_le 1 port && nat_le port MAX_PORT

-- the device of a number, if it is one
abbrev pub device_of_byte : ℕ → Option ℕ
device_of_byte n = if is_device n then Some n else None

-- the device of a number that may be negative
abbrev pub device_of : ℤ → Option ℕ
device_of (pos n) = device_of_byte n
device_of (negsuc n) = None
