-- Texts as HTML has them.
use Rattle.std.specs.Prelude.{◌≡◌, ℕ, ◌==◌, Bool, not, ◌&&◌, if◌then◌else◌, List, [], ◌∷◌, ◌++◌, codes, IsTrue}
use Rattle.std.specs.Prelude.{String, length, string_bytes}
use Rattle.std.specs.declared.alloc.Global.{Global}
use Rattle.cue_html.specs.declared.TheConstants.{HEAD, PAPER}
use Rattle.std.specs.List.{flat_map, list_all}
use Rattle.std.specs.Str.{chars, encode_utf8_all}
use Rattle.cue_columns.specs.declared.parts.Part.{Part}
use Rattle.cue_columns.specs.declared.parts.Row.{Row}
use Rattle.cue_words.specs.Signs.{is_shown, shown}

-- a sign as HTML has it: by its entity if it means something there, as < > & " and ' do
abbrev pub html_sign : ℕ → List ℕ
html_sign s =
    if s == 60 then codes "&lt;"
    else if s == 62 then codes "&gt;"
    else if s == 38 then codes "&amp;"
    else if s == 34 then codes "&quot;"
    else if s == 39 then codes "&#39;"
    else s ∷ []

-- a character as HTML has it: of one that a screen does not show a question mark
abbrev pub sign_of : ℕ → List ℕ
sign_of c = html_sign (shown c)

-- a text as HTML has it
abbrev pub html_of : List ℕ → List ℕ
html_of text = encode_utf8_all (flat_map sign_of (chars text))

-- it neither begins nor ends a tag or a value, and is shown
abbrev pub is_plain_html : ℕ → Bool
is_plain_html c = is_shown c && (not (c == 60) && (not (c == 62) && (not (c == 34) && not (c == 39))))

-- The text has no tag, and ends no value of an attribute: it has no < > " or ', and only characters that a screen
-- shows.
pub record IsHtml (text : List ℕ) : Type 0 where
  pub signs : List ℕ
  pub spelled : text ≡ encode_utf8_all signs
  pub plain : IsTrue (list_all is_plain_html signs)

-- Whatever the text: what HTML has of it neither begins nor ends a tag or a value.
pub record NoTextIsMarkup : Type 0 where
  pub plain : (text : List ℕ) → IsHtml (html_of text)

-- how a page looks: as both papers do, and by its own style
abbrev pub style_of : List ℕ → List ℕ
style_of style = PAPER.now ++ (style ++ codes "</style>\n</head>\n<body>\n")

-- the front of a page with this title, which looks so
abbrev pub head_of : List ℕ → List ℕ → List ℕ
head_of title style =
    HEAD.now ++ (codes "<title>" ++ (html_of title ++ (codes "</title>\n<style>" ++ style_of style)))

-- a cell of a table with this text
unfoldable pub cell_of : List ℕ → List ℕ
cell_of text = codes "<td dir=\"auto\">" ++ (html_of text ++ codes "</td>")

-- a row of a table, which begins so and has a text in each of its cells
unfoldable pub row_of : List ℕ → List (String Global) → List ℕ
row_of begin cells = begin ++ (flat_map (λ cell. cell_of (string_bytes cell)) cells ++ codes "</tr>\n")

-- what stands before a row of a part
unfoldable pub front_of : List ℕ → List ℕ
front_of text = codes "<tr><td class=\"front\">" ++ (html_of text ++ codes "</td>")

-- a row of a part
unfoldable pub line_of : Row → List ℕ
line_of row = front_of (string_bytes row.front) ++ (cell_of (string_bytes row.said) ++ codes "</tr>\n")

-- the rows of a part, or that there is none
unfoldable pub rows_of : List Row → List ℕ
rows_of rows = if length rows == 0 then codes "<tr><td>none</td></tr>\n" else flat_map line_of rows

-- a heading, and the begin of the table under it
unfoldable pub heading_of : List ℕ → List ℕ
heading_of text = codes "<h2>" ++ (html_of text ++ codes "</h2>\n<table class=\"part\">\n")

-- a part: its heading, and a table of its rows
unfoldable pub part_of : Part → List ℕ
part_of part = heading_of part.heading.now ++ (rows_of part.rows.items ++ codes "</table>\n")
