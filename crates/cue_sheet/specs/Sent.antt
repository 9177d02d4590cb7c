-- What a part sends, as a cue sheet says it.
use Rattle.std.specs.Prelude.{ℕ, Bool, not, ◌==◌, ◌&&◌, if◌then◌else◌, List, ◌++◌, codes, length}
use Rattle.std.specs.List.{list_all}
use Rattle.std.specs.Str.{chars}
use Rattle.hex.specs.Hex.{encode_lower}
use Rattle.toml_writer.specs.Text.{string_text}
use Rattle.cue_words.specs.Signs.{is_shown}

-- the digits of bytes, if there is one
abbrev pub digits_of : List ℕ → List ℕ
digits_of bytes = if length bytes == 0 then codes "no bytes" else codes "hex " ++ encode_lower bytes

-- a printer shows each of its signs, and there is one
abbrev pub is_visible : List ℕ → Bool
is_visible t = not (length t == 0) && list_all is_shown (chars t)

-- a text between the quotes that TOML has for it, or its digits if it cannot be seen
abbrev pub text_of : List ℕ → List ℕ
text_of t = if is_visible t then string_text t else digits_of t
