-- The title of a cue sheet.
use Rattle.std.specs.Prelude.{ℕ, ◌==◌, if◌then◌else◌, List, length, unwrap_or}
use Rattle.std.specs.Path.{path_file_stem}

-- the one that was said, else the name of the file, without its folders and its ending
abbrev pub title_of : (title path : List ℕ) → List ℕ
title_of title path = if length title == 0 then unwrap_or (path_file_stem path) path else title
