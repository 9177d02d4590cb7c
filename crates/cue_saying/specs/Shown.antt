-- A name as a terminal may get it.
use Rattle.std.specs.Prelude.{ℕ, List, map}
use Rattle.std.specs.Str.{chars, encode_utf8_all}
use Rattle.cue_words.specs.Signs.{shown}

-- the text, with a question mark in place of each character that a terminal might obey
abbrev pub shown_name : List ℕ → List ℕ
shown_name text = encode_utf8_all (map shown (chars text))
