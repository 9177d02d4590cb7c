-- The text of a script: its lines, and what a line stands for.
use Rattle.std.specs.Prelude.{ℕ, ◌&&◌, ◌==◌, not, nat_le, if◌then◌else◌, List, [], ◌∷◌, length}
use Rattle.std.specs.Prelude.{take, drop, Option}
use Rattle.std.specs.Prelude.{Some, None, codes}
use Rattle.std.specs.List.{onto_first}
use Rattle.std.specs.Option.{option_map, option_and_then, option_or}
use Rattle.std.specs.Result.{result_ok}
use Rattle.std.specs.Str.{all_ascii_digits, bytes_eq}
use Rattle.std.specs.Str.Parse.{digits_value}
use Rattle.hex.specs.Hex.{decode_of}
use Rattle.cue_engine.specs.Given.{datagram, tick}
use Rattle.cue_engine.specs.Runs.{Happening, took, recovered}

-- the lines of a text: each ends with a line feed, which the last may lack
abbrev pub lines_of : List ℕ → List (List ℕ)
lines_of [] = []
lines_of (byte ∷ bytes) = if byte == 10 then [] ∷ lines_of bytes else onto_first byte (lines_of bytes)

-- a byte put before what stands in front
abbrev pub before_front : ℕ → List ℕ × List ℕ → List ℕ × List ℕ
before_front byte cut = (byte ∷ cut.0, cut.1)

-- what stands before the first such byte, and what stands after it; none if there is no such byte
abbrev pub cut_at : ℕ → List ℕ → Option (List ℕ × List ℕ)
cut_at mark [] = None
cut_at mark (byte ∷ bytes) =
    if byte == mark then Some ([], bytes) else option_map (before_front byte) (cut_at mark bytes)

-- one decimal digit or more, leading zeros allowed, of a value of at most `most`
abbrev pub number_in : ℕ → List ℕ → Option ℕ
number_in most digits =
    if not (length digits == 0) && (all_ascii_digits digits && nat_le (digits_value 10 digits) most)
    then Some (digits_value 10 digits) else None

-- a datagram that arrived: the time, the port that it came from, and its bytes
pub record Arrived : Type 0 where
  pub now : ℕ
  pub from : ℕ
  pub bytes : List ℕ

infixl 10 ◌>>=◌
abbrev pub ◌>>=◌ : {A B : Type 0} → Option A → (A → Option B) → Option B
found >>= f = option_and_then f found

-- what stands after this text at the front
abbrev pub rest_after : List ℕ → List ℕ → Option (List ℕ)
rest_after front line = if bytes_eq (take (length front) line) front then Some (drop (length front) line) else None

-- the words in front of a line `d NOW FROM HEX`, with a single space after each: the time, the port, and what is
-- left
abbrev pub heading_in : List ℕ → Option (ℕ × ℕ × List ℕ)
heading_in line = do
  words ← rest_after (codes "d ") line
  now ← cut_at 32 words
  from ← cut_at 32 now.1
  time ← number_in 18446744073709551615 now.0
  port ← number_in 65535 from.0
  Some (time, port, from.1)

-- a line `d NOW FROM HEX`
unfoldable pub arrival_in : List ℕ → Option Arrived
arrival_in line = do
  heading ← heading_in line
  bytes ← result_ok (decode_of heading.2)
  Some (record { now = heading.0; from = heading.1; bytes = bytes })

-- a line `t NOW`: the time
unfoldable pub tick_in : List ℕ → Option ℕ
tick_in line = do
  digits ← rest_after (codes "t ") line
  number_in 18446744073709551615 digits

-- what happens if a datagram arrives
abbrev pub arrives : Arrived → Happening
arrives a = took a.now (datagram a.from a.bytes)

-- what happens if the clock ticks
abbrev pub ticks : ℕ → Happening
ticks now = took now tick

-- what a line stands for: `x` for power loss, `t NOW` for a tick of the clock, `d NOW FROM HEX` for a datagram; none
-- for a line of another form
unfoldable pub happening_in : List ℕ → Option Happening
happening_in line =
    if bytes_eq line (codes "x") then Some recovered else option_or (option_map ticks (tick_in line))
    (option_map arrives (arrival_in line))
