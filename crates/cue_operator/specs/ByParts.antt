-- Helper: the methods that a pattern matches, found part by part. By the law `matched_by_parts` they are those whose
-- address it matches.
use Rattle.std.specs.Prelude.{◌≡◌, ℕ, Bool, true, false, List, [], ◌∷◌, ◌++◌, map, filter, codes, IsTrue}
use Rattle.std.specs.Fmt.{decimal}
use Rattle.std.specs.List.{flat_map}
use Rattle.std.specs.Map.{keys_of}
use Rattle.cue_show.specs.declared.part.Part.{Part}
use Rattle.cue_show.specs.Show.{ShowLists, is_show}
use Rattle.cue_pattern.specs.declared.piece.Piece.{Piece}
use Rattle.cue_pattern.specs.Matching.{part_matches, matches}
use Rattle.cue_osc.specs.Argument.{Argument}
use Rattle.cue_core.specs.declared.command.Command.{Command}
use Rattle.cue_operator.specs.declared.method.CueVerb.{CueVerb}
use Rattle.cue_operator.specs.declared.method.DeviceVerb.{DeviceVerb}
use Rattle.cue_operator.specs.declared.method.Method.{Method}
use Rattle.cue_operator.specs.declared.method.Method.TheVariants as method
use Rattle.cue_operator.specs.Methods.{cue_verb_text, device_verb_text, cue_verbs, device_verbs, methods, methods_at}
use Rattle.cue_operator.specs.Arguments.{command_by}

-- the commands that these methods read of the arguments
abbrev pub reads : List Argument → List Method → List Command
reads xs ms = map (command_by xs) ms

-- the methods, if the test holds
abbrev pub methods_if : Bool → List Method → List Method
methods_if true ms = ms
methods_if false ms = []

-- what a cue is asked by these verbs, if the part matches its number
abbrev pub named_cue : List Piece → List CueVerb → List ℕ → List Method
named_cue name verbs cue = methods_if (part_matches name cue) (map (method.OfCue cue) verbs)

-- what a device is asked by these verbs, if the part matches its number
abbrev pub named_device : List Piece → List DeviceVerb → ℕ → List Method
named_device name verbs device = methods_if (part_matches name (decimal device)) (map (method.OfDevice device) verbs)

-- the commands of an entry of the stack
abbrev pub cue_commands : List Argument → List Piece → List CueVerb → List ℕ × List Part → List Command
cue_commands xs name verbs e = reads xs (named_cue name verbs e.0)

-- the commands of an entry of the table
abbrev pub device_commands : List Argument → List Piece → List DeviceVerb → ℕ × ℕ → List Command
device_commands xs name verbs e = reads xs (named_device name verbs e.0)

-- the method, if the part matches this text
abbrev pub named_method : List Piece → List ℕ → Method → List Method
named_method name text m = methods_if (part_matches name text) (m ∷ [])

-- the methods that a pattern of one part matches
abbrev pub status_by : List Piece → List Method
status_by only = named_method only (codes "status") method.Status

-- what is added under a front that is matched
abbrev pub added_by : List Piece → List Method
added_by name =
    named_method name (codes "device") method.AddDevice
    ++ (named_method name (codes "cue") method.AddCue ++ named_method name (codes "mixed") method.AddMixedCue)

-- those that one of two parts matches
abbrev pub show_by : List Piece → List Piece → List Method
show_by front name = methods_if (part_matches front (codes "show")) (added_by name)

-- those of cues that one of three parts matches
abbrev pub cues_by : List Piece → List Piece → List Piece → List (List ℕ) → List Method
cues_by front name verb cues =
    methods_if (part_matches front (codes "cue"))
    (flat_map (named_cue name (filter (λ v. part_matches verb (cue_verb_text v)) cue_verbs)) cues)

-- those of devices that one of three parts matches
abbrev pub devices_by : List Piece → List Piece → List Piece → List ℕ → List Method
devices_by front name verb devices =
    methods_if (part_matches front (codes "device"))
    (flat_map (named_device name (filter (λ v. part_matches verb (device_verb_text v)) device_verbs)) devices)

-- the methods that a pattern matches, by the number of its parts
abbrev pub methods_by : ShowLists → List (List Piece) → List Method
methods_by show (only ∷ []) = status_by only
methods_by show (front ∷ name ∷ []) = show_by front name
methods_by show (front ∷ name ∷ verb ∷ []) =
    cues_by front name verb (keys_of show.cues) ++ devices_by front name verb (keys_of show.devices)
methods_by show _ = []

-- The methods whose address a pattern matches are those that its parts match.
abbrev pub MatchedByParts : Type 0
MatchedByParts =
    (show : ShowLists) (pattern : List (List Piece)) → IsTrue (is_show show)
    → methods_at (matches pattern) (methods show) ≡ methods_by show pattern
