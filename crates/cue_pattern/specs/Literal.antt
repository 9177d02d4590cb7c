-- Bytes without wildcards.
use Rattle.std.specs.Prelude.{ℕ, Bool, not, ◌&&◌, ◌==◌, List}
use Rattle.std.specs.List.{list_all}
use Rattle.cue_pattern.specs.Bytes.{asterisk, open_brace, open_bracket, question_mark}

-- it stands for itself: none of ? * [ {
abbrev pub is_literal_byte : ℕ → Bool
is_literal_byte b =
    not (b == question_mark) && (not (b == asterisk) && (not (b == open_bracket) && not (b == open_brace)))

-- each byte stands for itself
abbrev pub is_literal : List ℕ → Bool
is_literal bytes = list_all is_literal_byte bytes
