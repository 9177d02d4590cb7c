-- Where the head of a request ends: each byte is looked at once, and it is nothing how the bytes are cut.
use Rattle.std.specs.Prelude.{ℕ, ◌+◌, ◌-◌, ◌==◌, Bool, false, if◌then◌else◌, List, [], ◌∷◌, Option, None, Some}
use Rattle.std.specs.Char.{is_ascii_graphic}
use Rattle.cue_connection.specs.declared.scanning.Place.{Place}
use Rattle.cue_connection.specs.declared.scanning.Place.TheVariants as place
use Rattle.cue_connection.specs.declared.scanning.Scan.{Scan}
use Rattle.cue_connection.specs.declared.scanning.Scan.TheVariants as scan
use Rattle.cue_connection.specs.declared.scanning.TheConstants.{MAX_FIELDS}

-- ---- byte by byte

abbrev pub is_line_feed : ℕ → Bool
is_line_feed b = b == 10

abbrev pub is_return : ℕ → Bool
is_return b = b == 13

abbrev pub is_space : ℕ → Bool
is_space b = b == 32

-- a byte that may stand in the first word: a visible one of ASCII
abbrev pub is_of_word : ℕ → Bool
is_of_word b = is_ascii_graphic b

-- nothing has come
abbrev pub unread : Scan
unread = scan.Open place.Blank MAX_FIELDS

-- where no byte of a word stands: ends of lines before the head say nothing, and a space ends the first word
abbrev pub beside_word : Place → (left b : ℕ) → Scan
beside_word place.Blank left b =
    if is_return b then scan.Open place.Blank left
    else if is_line_feed b then scan.Open place.Blank left else scan.NoHead
beside_word place.Word left b = if is_space b then scan.Open place.Line left else scan.NoHead
beside_word _ left b = scan.NoHead

-- before the head, and in its first word
abbrev pub in_word : Place → (left b : ℕ) → Scan
in_word p left b = if is_of_word b then scan.Open place.Word left else beside_word p left b

-- At the beginning of a line: a line feed ends the head, alone or after a carriage return; any other byte begins a
-- field, if one more may come.
abbrev pub at_begin : (left long b : ℕ) → Scan
at_begin left long b =
    if is_line_feed b then scan.Ended long
    else if is_return b then scan.Open place.Return left
    else if left == 0 then scan.NoHead else scan.Open place.Line (left - 1)

-- after a byte of a head that has not ended, which makes it so long
abbrev pub open_after : Place → (left long b : ℕ) → Scan
open_after place.Blank left long b = in_word place.Blank left b
open_after place.Word left long b = in_word place.Word left b
open_after place.Line left long b =
    if is_line_feed b then scan.Open place.Begin left else scan.Open place.Line left
open_after place.Begin left long b = at_begin left long b
open_after place.Return left long b = if is_line_feed b then scan.Ended long else scan.NoHead

-- after a byte; what follows the end of a head is no part of it
abbrev pub after_byte : Scan → (long b : ℕ) → Scan
after_byte (scan.Open p left) long b = open_after p left long b
after_byte (scan.Ended n) long b = scan.Ended n
after_byte scan.NoHead long b = scan.NoHead

-- after these bytes, which come after so many
abbrev pub after_all : Scan → ℕ → List ℕ → Scan
after_all s before [] = s
after_all s before (b ∷ bs) = after_all (after_byte s (before + 1) b) (before + 1) bs

-- ---- where the first empty line ends

-- how long an empty line is that stands here, if one does: it may end with a line feed alone
abbrev pub ends_alone : List ℕ → Bool
ends_alone [] = false
ends_alone (b ∷ bs) = is_line_feed b

abbrev pub empty_line : List ℕ → Option ℕ
empty_line [] = None
empty_line (b ∷ bs) =
    if is_line_feed b then Some 1 else if is_return b then (if ends_alone bs then Some 2 else None) else None

-- where it ends, if it begins after so many bytes; else where a later one does
abbrev pub end_or : Option ℕ → ℕ → Option ℕ → Option ℕ
end_or (Some n) before later = Some (before + n)
end_or None before later = later

-- after how many bytes the first empty line ends that follows the end of a line, if these come after so many
abbrev pub first_end : ℕ → List ℕ → Option ℕ
first_end before [] = None
first_end before (b ∷ bs) =
    if is_line_feed b then end_or (empty_line bs) (before + 1) (first_end (before + 1) bs)
    else first_end (before + 1) bs

-- where a head has ended
abbrev pub end_of : Scan → Option ℕ
end_of (scan.Open p left) = None
end_of (scan.Ended n) = Some n
end_of scan.NoHead = None
