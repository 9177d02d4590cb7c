-- The devices that stand elsewhere, each on a line: what is so of it first, and then its name and the bytes of its part.
use Rattle.std.specs.Prelude.{ℕ, ◌-◌, ◌==◌, Bool, not, nat_le, if◌then◌else◌, List, [], ◌∷◌, ◌++◌, codes, length, take}
use Rattle.std.specs.Prelude.{Option, None, Some, count_by}
use Rattle.std.specs.Fmt.{decimal}
use Rattle.std.specs.List.{flat_map}
use Rattle.hex.specs.Hex.{encode_lower}
use Rattle.cue_board.specs.Names.{device_name}
use Rattle.cue_board.specs.declared.names.Names.{Names}
use Rattle.cue_columns.specs.Columns.{fit_of}
use Rattle.cue_columns.specs.declared.columns.TheConstants.{COLUMNS}
use Rattle.cue_show_file.specs.Plain.{plain_of}
use Rattle.cue_whereabouts.specs.Differing.{is_elsewhere}
use Rattle.cue_whereabouts.specs.Ending.{PartEnd}
use Rattle.cue_whereabouts.specs.declared.differing.Difference.{Difference}
use Rattle.cue_whereabouts.specs.declared.last.End.{End}
use Rattle.cue_whereabouts.specs.declared.last.End.TheVariants.{CarriedOut, Failed}

-- ---- the last part

-- bytes that are no plain text
abbrev pub digits_words : List ℕ → List ℕ
digits_words bytes = if length bytes == 0 then codes "no bytes" else codes "hex " ++ encode_lower bytes

-- bytes, if they are plain text, else their digits
abbrev pub text_or_digits : List ℕ → Option (List ℕ) → List ℕ
text_or_digits bytes None = digits_words bytes
text_or_digits bytes (Some text) = codes "\"" ++ (text ++ codes "\"")

-- the bytes of a part as a show file has them
abbrev pub bytes_words : List ℕ → List ℕ
bytes_words bytes = text_or_digits bytes (plain_of bytes)

-- the same; nothing if they are not known
abbrev pub part_or_none : Option (List ℕ) → List ℕ
part_or_none None = []
part_or_none (Some bytes) = bytes_words bytes

-- the cue of a part, or its attempt q if nobody knows the cue any more
abbrev pub which_words : ℕ → Option (List ℕ) → List ℕ
which_words q None = codes "attempt " ++ decimal q
which_words q (Some cue) = codes "cue " ++ cue

-- how it ended
abbrev pub end_words : End → List ℕ
end_words CarriedOut = codes "last "
end_words Failed = codes "failed in "

abbrev pub last_words : PartEnd → List ℕ
last_words last = end_words last.end ++ which_words last.attempt last.cue

-- ---- a device

-- its number
abbrev pub front : ℕ → List ℕ
front d = codes "STANDS elsewhere: device " ++ (decimal d ++ codes ", ")

-- its last part, and the cue that the stack supposes to be its last
unfoldable pub said : ℕ → PartEnd → List ℕ → List ℕ
said d last supposed =
    codes "STANDS elsewhere: device " ++ (decimal d ++ (codes ", " ++ (last_words last
    ++ (codes ", supposed cue " ++ supposed))))

-- a text apart from what stands before it; nothing if it is empty
abbrev pub apart : List ℕ → List ℕ
apart text = if length text == 0 then [] else codes "  " ++ text

-- what the file calls it, and the bytes of its last part
unfoldable pub beside : Names → ℕ → Option (List ℕ) → List ℕ
beside names d bytes = apart (device_name names d) ++ apart (part_or_none bytes)

-- its line
abbrev pub line_text : Names → Difference → PartEnd → List ℕ
line_text names x last = said x.device last x.supposed ++ beside names x.device last.bytes

abbrev pub line_if : Names → Difference → Option PartEnd → List (List ℕ)
line_if names x None = []
line_if names x (Some last) = line_text names x last ∷ []

-- the same; none if nothing was heard of it
abbrev pub line_of : Names → Difference → List (List ℕ)
line_of names x = line_if names x x.last

-- ---- all of them

-- the line of each device of which something was heard, in order
abbrev pub each_line : Names → List Difference → List (List ℕ)
each_line names xs = flat_map (line_of names) xs

-- how many of n lines have room: all of them, or all but one that says how many are left
abbrev pub named_in : Option ℕ → ℕ → ℕ
named_in None n = n
named_in (Some room) n = if nat_le n room then n else room - 1

-- that so many more stand elsewhere
abbrev pub left_line : ℕ → List (List ℕ)
left_line n = if n == 0 then [] else (codes "STANDS elsewhere: and " ++ (decimal n ++ codes " more")) ∷ []

-- as many of the lines as have room, and how many are left
abbrev pub cut : Option ℕ → List (List ℕ) → List (List ℕ)
cut room all = take (named_in room (length all)) all ++ left_line (length all - named_in room (length all))

-- nothing was heard of it
abbrev pub is_unheard : Difference → Bool
is_unheard x = not (is_elsewhere x)

-- of how many devices nothing was heard
abbrev pub unheard_line : ℕ → List (List ℕ)
unheard_line n =
    if n == 0 then [] else (codes "STANDS unknown: devices of which nothing was heard: " ++ decimal n) ∷ []

-- all that is said, in so much room
abbrev pub texts_in : Names → Option ℕ → List Difference → List (List ℕ)
texts_in names room xs = cut room (each_line names xs) ++ unheard_line (count_by is_unheard xs)

-- as much of a text as fits into a line
abbrev pub fit_text : List ℕ → List ℕ
fit_text text = fit_of COLUMNS text
