-- The marks of an evening, as the page gets them.
use Rattle.std.specs.Prelude.{List, map, codes, Option, None, Some}
use Rattle.serde_json.specs.Data.{Data, array, boolean, member, no_members, null, number, object, unsigned}
use Rattle.serde_json.specs.View.{items_of}
use Rattle.cue_page.specs.declared.board.marks.CurtainMark.{CurtainMark}

-- a mark: the second since 1970 at which the curtain moved, and whether it went up
abbrev pub mark_data : CurtainMark → Data
mark_data m =
    object (member (codes "at") (number (unsigned m.at)) (member (codes "up") (boolean m.is_up) no_members))

-- the marks, in order; null if the page keeps none
abbrev pub marks_data : Option (List CurtainMark) → Data
marks_data None = null
marks_data (Some all) = array (items_of (map mark_data all))
