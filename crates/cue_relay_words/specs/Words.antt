-- What the relay says, byte for byte, apart from its machine.
use Rattle.std.specs.Prelude.{ℕ, ◌==◌, if◌then◌else◌, List, [], ◌++◌, codes, decimal}
use Rattle.std.specs.Int.{w32, to_be_bytes}
use Rattle.std.specs.Net.Text.{ipv4_text}
use Rattle.cue_machine.specs.declared.living.Why.{Why}
use Rattle.cue_machine.specs.declared.living.Why.TheVariants as why
use Rattle.cue_relay.specs.Status.{address_text}
use Rattle.cue_relay_words.specs.declared.planning.Lack.{Lack}
use Rattle.cue_relay_words.specs.declared.planning.Lack.TheVariants as lack
use Rattle.cue_relay_words.specs.declared.words.Begun.{Begun}

-- what a file lacks
abbrev pub lack_words : Lack → List ℕ
lack_words lack.Device = codes "no device has an address: there is nothing to relay"
lack_words (lack.SharedPort port) =
    codes "two devices with an address have the port " ++ (decimal port ++ codes ": give each its own")
lack_words lack.Listen =
    codes "a line as `listen = \"10.0.7.1\"` is missing: this machine's own address there"

-- the same of the file with this path
abbrev pub lack_line : (path : List ℕ) → Lack → List ℕ
lack_line path what = path ++ (codes ": " ++ lack_words what)

-- so many devices
abbrev pub plural : ℕ → List ℕ
plural count = if count == 1 then [] else codes "s"

-- what the relay stands between
abbrev pub begun_words : Begun → List ℕ
begun_words b =
    codes "relaying " ++ (decimal b.count ++ (codes " device" ++ (plural b.count
    ++ (codes " between " ++ (address_text b.controller ++ (codes " and " ++ ipv4_text (to_be_bytes w32 b.stage)))))))

-- why it ended
abbrev pub ended_words : Why → List ℕ
ended_words why.Ears = codes "a socket failed"
ended_words why.End = codes "a socket failed"
ended_words why.Memory = codes "out of memory"
ended_words why.Turns = codes "it has had its turns"
ended_words why.Over = codes "it has had its turns"

-- a status file that is on a disk
abbrev pub disk_words : (path : List ℕ) → List ℕ
disk_words path =
    path ++ codes ": the status file is on a disk: if that hangs, the relay hangs with it: use /run"
