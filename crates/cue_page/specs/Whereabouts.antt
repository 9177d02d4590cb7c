-- The devices that do not stand as the stack supposes, as JSON (RFC 8259).
use Rattle.std.specs.Prelude.{ℕ, List, not, codes, map, Option, None, Some, option_map}
use Rattle.serde_json.specs.Data.{Data, null, boolean, number, unsigned, string, array, object, member, no_members}
use Rattle.serde_json.specs.View.{items_of}
use Rattle.cue_show.specs.Show.{ShowLists}
use Rattle.cue_show_file.specs.declared.together.Group.{Group}
use Rattle.cue_view.specs.declared.view.Next.{Next}
use Rattle.cue_whereabouts.specs.Differing.{is_carried_out}
use Rattle.cue_whereabouts.specs.Ending.{PartEnd}
use Rattle.cue_whereabouts.specs.declared.differing.Difference.{Difference}
use Rattle.cue_elsewhere.specs.Asking.{asks}
use Rattle.cue_elsewhere.specs.Lines.{bytes_words}
use Rattle.cue_page.specs.Ends.{cue_data}
use Rattle.cue_page.specs.Stack.{companions_of}
use Rattle.cue_page.specs.declared.board.whereabouts.Standing.{Standing}

-- the bytes of a part, in words; null if they are not known
abbrev pub part_data : Option (List ℕ) → Data
part_data None = null
part_data (Some bytes) = string (bytes_words bytes)

-- the last part of a device: its cue, whether the device failed in it, and its bytes
abbrev pub last_data : PartEnd → Data
last_data last =
    object (member (codes "cue") (cue_data last.cue)
    (member (codes "failed") (boolean (not (is_carried_out last.end)))
    (member (codes "part") (part_data last.bytes) no_members)))

-- the same; null if nothing was heard of the device
abbrev pub last_or_null : Option PartEnd → Data
last_or_null None = null
last_or_null (Some last) = last_data last

-- whether STANDBY asks because of the device, its number, its last part, and the cue that is supposed to be its last
abbrev pub difference_data : Option ShowLists → List (List ℕ) → Difference → Data
difference_data show companions x =
    object (member (codes "asks") (boolean (asks show companions x))
    (member (codes "device") (number (unsigned x.device))
    (member (codes "last") (last_or_null x.last)
    (member (codes "supposed") (string x.supposed) no_members))))

-- each of these devices, in order, if this cue is next
abbrev pub whereabouts_data : List Group → Next → Standing → Data
whereabouts_data groups next standing =
    array (items_of (map (difference_data (option_map (λ show. show.now) standing.show) (companions_of groups next))
    standing.differences.now))
