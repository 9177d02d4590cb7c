-- What holds of all that is sent.
use Rattle.std.specs.Prelude.{◌≡◌, ◌≢◌, ℕ, ◌<◌, ◌^◌, List, take, Ok, IsTrue}
use Rattle.std.specs.List.{AllByRecursion, AllPairs}
use Rattle.cue_osc.specs.Spelling.{IsText}
use Rattle.cue_osc.specs.Reading.{datagram_at}
use Rattle.cue_osc.specs.Writing.{text_of}
use Rattle.cue_show.specs.DeviceNumber.{is_port}
use Rattle.cue_core.specs.State.{ShowState, is_state}
use Rattle.cue_outbox.specs.Sending.{Send, reply, send_content, datagrams, status_of, all_pending}

-- the bytes are read as what was meant
abbrev pub IsReadBack : Send → Type 0
IsReadBack x = datagram_at (text_of (send_content x)) ≡ Ok (send_content x)

-- each reply is read as what was meant, whatever the address that it shows, and whatever its numbers of 16 bits
abbrev pub RepliesAreRead : Type 0
RepliesAreRead =
    (address : List ℕ) (made known refused code : ℕ) → IsText address → made < 2 ^ 16 → known < 2 ^ 16
    → refused < 2 ^ 16 → code < 2 ^ 16
    → IsReadBack (reply (take 64 address) made known refused code)

-- the status of each state is read as what was meant
abbrev pub StatusIsRead : Type 0
StatusIsRead = (s : ShowState) → IsTrue (is_state s) → IsReadBack (status_of s)

-- each pending order is read as what was meant
abbrev pub OrdersAreRead : Type 0
OrdersAreRead =
    (s : ShowState) → IsTrue (is_state s) → AllByRecursion (λ (x : ℕ × Send). IsReadBack x.1) (all_pending s)

-- each pending order goes to a port of 1 to 65,535
abbrev pub OrdersHavePorts : Type 0
OrdersHavePorts =
    (s : ShowState) → IsTrue (is_state s) → AllByRecursion (λ (x : ℕ × Send). IsTrue (is_port x.0)) (all_pending s)

-- no two pending orders are the same datagram
abbrev pub OrdersDiffer : Type 0
OrdersDiffer = (s : ShowState) → IsTrue (is_state s) → AllPairs (λ x y. x ≢ y) (datagrams (all_pending s))
