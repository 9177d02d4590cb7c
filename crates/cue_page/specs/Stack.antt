-- The cue that is next, and the numbers of the stack, as JSON (RFC 8259).
use Rattle.std.specs.Prelude.{ℕ, List, [], codes, map}
use Rattle.serde_json.specs.Data.{Data, null, string, array, object, member, no_members}
use Rattle.serde_json.specs.View.{items_of}
use Rattle.cue_show_file.specs.Together.{others_of}
use Rattle.cue_show_file.specs.declared.together.Group.{Group}
use Rattle.cue_view.specs.declared.view.Next.{Next}
use Rattle.cue_view.specs.declared.view.Next.TheVariants as next

-- the cue that is next; null if none is
abbrev pub cue_data : Next → Data
cue_data (next.Cue c) = string c
cue_data _ = null

-- why none is next; empty if one is
abbrev pub why : Next → List ℕ
why (next.Cue c) = []
why next.Empty = codes "The stack has no cue."
why next.End = codes "No cue is next: the stack is at its end. To give a cue again, move to it."
why next.Unknown = codes "Which cue is next is not known. Move to one."

abbrev pub number_data : List ℕ → Data
number_data c = string c

-- the cues that are stood by together with the one that is next
abbrev pub companions_of : List Group → Next → List (List ℕ)
companions_of groups (next.Cue c) = others_of groups c
companions_of groups n = []

abbrev pub next_data : List Group → Next → Data
next_data groups n =
    object (member (codes "cue") (cue_data n) (member (codes "why") (string (why n))
    (member (codes "with") (array (items_of (map number_data (companions_of groups n)))) no_members)))
