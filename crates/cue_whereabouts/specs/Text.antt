-- The text of what is known, so that it outlives the desk: a line for each device of which something is known, as
--
--   device 3 attempt 17 cue 7.5 bytes 0a0b carried out
--   device 4 attempt 12 cue none bytes none failed
--
-- Each line ends in words, so that one that was cut off is not read as another one.
use Rattle.std.specs.Prelude.{◌≡◌, ℕ, Bool, true, false, if◌then◌else◌, List, [], ◌∷◌, ◌++◌, map, codes, decimal}
use Rattle.std.specs.Prelude.{Option, None, Some, nat_eq}
use Rattle.std.specs.List.{flat_map}
use Rattle.hex.specs.Hex.{encode_lower}
use Rattle.cue_whereabouts.specs.Telling.{is_newer}
use Rattle.cue_whereabouts.specs.declared.last.End.{End}
use Rattle.cue_whereabouts.specs.declared.last.End.TheVariants.{CarriedOut, Failed}
use Rattle.cue_whereabouts.specs.Ending.{PartEnd}
use Rattle.cue_whereabouts.specs.declared.memory.Known.{Known}

-- ---- what is written

-- the number of a cue, if it is known
abbrev pub cue_said : Option (List ℕ) → List ℕ
cue_said None = codes "none"
cue_said (Some cue) = cue

-- the bytes of a part, if they are known
abbrev pub bytes_said : Option (List ℕ) → List ℕ
bytes_said None = codes "none"
bytes_said (Some bytes) = encode_lower bytes

-- how a part ended
abbrev pub end_said : End → List ℕ
end_said CarriedOut = codes "carried out"
end_said Failed = codes "failed"

-- the device and its attempt
unfoldable pub head_said : ℕ → ℕ → List ℕ
head_said d q = codes "device " ++ (decimal d ++ (codes " attempt " ++ decimal q))

-- the cue, the bytes of its part, and how that ended
unfoldable pub part_said : PartEnd → List ℕ
part_said last =
    codes " cue " ++ (cue_said last.cue ++ (codes " bytes " ++ (bytes_said last.bytes ++ (codes " " ++ end_said last.end))))

-- the line of a device, without its line feed
abbrev pub line_of : ℕ → PartEnd → List ℕ
line_of d last = head_said d last.attempt ++ part_said last

-- the line of a device; nothing if nothing was heard of it
abbrev pub line_if : ℕ → Option PartEnd → List ℕ
line_if d None = []
line_if d (Some last) = line_of d last ++ 10 ∷ []

-- the lines of all
abbrev pub text_of : List Known → List ℕ
text_of all = flat_map (λ k. line_if k.device k.last) all

-- ---- what is read

-- the last part is taken by the device of that number, if its attempt is newer than what is known
abbrev pub with_part : ℕ → PartEnd → Known → Known
with_part d last k =
    if nat_eq k.device d then (if is_newer last.attempt k.last then record { device = k.device; last = Some last } else k)
    else k

-- the line is the one that is written of a device and its part, and that part is taken
pub record TakesLine (line : List ℕ) (old new : List Known) : Type 0 where
  pub device : ℕ
  pub last : PartEnd
  pub is_line : line ≡ line_of device last
  pub takes : new ≡ map (with_part device last) old

-- the same; or the line is passed over, and nothing changes
abbrev pub HearsLine : Bool → List ℕ → (old new : List Known) → Type 0
HearsLine true line old new = TakesLine line old new
HearsLine false line old new = new ≡ old
